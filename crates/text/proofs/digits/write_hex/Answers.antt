-- Eight digits in base 16, by definition.
use Rattle.text.specs.Digits.{hex_of}
use Rattle.text.proofs.digits.write_hex.Goals as goal

pub returns : goal.returns
unfolding hex_of
returns c = c.write_digits.ensures
