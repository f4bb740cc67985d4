-- Each branch is one of the two rules for the character.
use native.Mathlib.Omega.{arith}
use Rattle.text.specs.DigitsLaws.{char_low, char_high}
use Rattle.text.proofs.digits.digit_char.Goals as goal

pub returns-then-d-lt10 : goal.returns-then-d-lt10
returns-then-d-lt10 c = omega (arith, char_low c.args.d (omega arith))

pub returns-else-d-lt10 : goal.returns-else-d-lt10
returns-else-d-lt10 c = omega (arith, char_high c.args.d (omega arith))
