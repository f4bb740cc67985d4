use Prim.Native.Nat.{ℕ, ◌+◌, ◌-◌, ◌/◌}
use mathlib.Core.Path.{sym, ap, ◌∙◌}
use native.Mathlib.Omega.{arith}
use lib.ListN.{set}
use lib.Seq.{sets}
use Rattle.text.specs.Digits.{last_digits}
use Rattle.text.proofs.Steps.{digit_step, digits-end}
use Rattle.text.proofs.digits.write_digits.Goals as goal

pub loop-i-preserved : goal.loop-i-preserved
loop-i-preserved c =
    let a = c.args in
    let l = c.loop-i in
    ap (λ (d : ℕ). sets (set l.out (a.at + (l.i - 1)) d) a.at (last_digits a.base (l.i - 1) (l.rest / a.base))) c.digit_char.ensures
    ∙ sym (digit_step l.out a.at a.base l.i l.rest (omega arith))
    ∙ l.invariant

pub returns : goal.returns
returns c =
    let a = c.args in
    let l = c.loop-i in
    digits-end a.out.now l.out a.at a.base a.count a.n l.i l.rest (omega arith) (omega arith) l.invariant
