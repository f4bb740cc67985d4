-- The number has at most ten digits, so that the line fits. It is written after the word.
use native.Mathlib.Omega.{arith}
use Rattle.text.specs.DigitsLaws.{decimal_le_10}
use Rattle.text.specs.Lines.{codes, refused_word, refused_line}
use Rattle.text.specs.LinesLaws.{written_then}
use Rattle.text.proofs.write_refused.Goals as goal

pub write_number-requires : goal.write_number-requires
write_number-requires c = omega (arith, decimal_le_10 c.args.number (omega arith))

pub returns : goal.returns
unfolding refused_line refused_word codes
returns c = written_then c.write_bytes-digits.ensures c.write_number.ensures
