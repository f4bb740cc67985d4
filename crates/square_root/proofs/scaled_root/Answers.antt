-- `scaled_root` meets its contract: with the exponent even or odd, a half of it goes to the root's (`halved`).
use Prim.Native.Nat.{ℕ, ◌%◌}
use native.Mathlib.Omega.{arith}
use mathlib.Core.Path.{◌≡◌, sym, subst}
use Rattle.square_root.specs.Root.{Nearest}
use Rattle.square_root.specs.RootLaws.{halved_at}
use Rattle.square_root.proofs.scaled_root.Goals as goal

pub returns-then-e-eq0 : goal.returns-then-e-eq0
returns-then-e-eq0 c =
    let given = c.args in
    let even : given.e % 2 ≡ 0 = omega arith in
    subst (λ (q : ℕ). Nearest q c.rounded_root.result) (sym (halved_at given.m given.e 0 even)) c.rounded_root.ensures

pub returns : goal.returns
returns c =
    let given = c.args in
    let odd : given.e % 2 ≡ 1 = omega arith in
    subst (λ (q : ℕ). Nearest q c.rounded_root-2.result) (sym (halved_at given.m given.e 1 odd)) c.rounded_root-2.ensures
