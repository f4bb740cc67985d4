-- `root_pattern` meets its contract: a normal pattern's digits after its leading one, or a subnormal's moved up, are the significand.
use Prim.Native.Nat.{ℕ, ◌+◌, ◌-◌, ◌*◌, ◌%◌, ◌^◌}
use native.Mathlib.Omega.{arith}
use mathlib.Core.Path.{◌≡◌, sym, ap, ◌∙◌, subst}
use lib.Count.{count_leading_zeros}
use Rattle.square_root.specs.Root.{Nearest, magnitude}
use Rattle.square_root.specs.RootLaws.{subnormal_scaled, normal_scaled}
use Rattle.square_root.proofs.RootLift.{lift}
use Rattle.square_root.proofs.root_pattern.Goals as goal

pub overflow_sub-up : goal.overflow_sub-up
overflow_sub-up c = (lift c.args.b (omega arith) (omega arith)).enough

pub scaled_root-requires : goal.scaled_root-requires
scaled_root-requires c =
    let l = lift c.args.b (omega arith) (omega arith) in
    rw l.whole (l.lo, l.hi, omega arith)

pub returns-then-field-eq0 : goal.returns-then-field-eq0
returns-then-field-eq0 c =
    let b = c.args.b in
    let l = lift c.args.b (omega arith) (omega arith) in
    let d = count_leading_zeros 32 b - 8 in
    let is : magnitude b * 2 ^ 151 ≡ b * 2 ^ d % 2 ^ 32 * 2 ^ (126 - d + 25) = subnormal_scaled b d (omega arith) (omega arith) ∙ ap (λ (x : ℕ). x * 2 ^ (126 - d + 25)) (sym l.whole) in
    subst (λ (q : ℕ). Nearest q c.scaled_root.result) (sym is) c.scaled_root.ensures

pub returns : goal.returns
returns c =
    let b = c.args.b in
    subst (λ (q : ℕ). Nearest q c.scaled_root-2.result) (sym (normal_scaled b (omega arith))) c.scaled_root-2.ensures
