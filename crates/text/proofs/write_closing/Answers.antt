-- The word has at most six bytes and the count at most twenty digits, so that the line fits. The number is written after the word.
use native.Mathlib.Omega.{arith}
use Rattle.text.specs.DigitsLaws.{decimal_le_20}
use Rattle.text.specs.Lines.{closing_line}
use Rattle.text.specs.LinesLaws.{length-closing_word, written_then}
use Rattle.text.proofs.write_closing.Goals as goal

pub write_number-requires : goal.write_number-requires
write_number-requires c =
    omega (arith, length-closing_word c.args.whole, decimal_le_20 c.args.opened (omega arith))

pub returns : goal.returns
unfolding closing_line
returns c = written_then c.write_closing_word-number.ensures c.write_number.ensures
