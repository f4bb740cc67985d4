-- As many digits in base 10 as the number has, by definition.
use Prim.Native.Nat.{ℕ}
use native.Mathlib.Omega.{arith}
use mathlib.Core.Path.{subst}
use Rattle.text.specs.Digits.{last_digits, decimal_of}
use Rattle.text.specs.DigitsLaws.{length-decimal_of}
use Rattle.text.specs.Lines.{Written}
use Rattle.text.proofs.digits.write_decimal.Goals as goal

pub write_digits-requires : goal.write_digits-requires
write_digits-requires c = omega (arith, length-decimal_of c.args.n)

pub returns : goal.returns
unfolding decimal_of
returns c =
    let w = c.write_digits in
    subst (λ (k : ℕ). Written c.args.out.now c.args.at (last_digits 10 k c.args.n) w.new.out w.result)
    c.decimal_places.ensures w.ensures
