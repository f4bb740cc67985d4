-- The digits, then the line feed.
use borrow.Author.Rules.{rules}
use Rattle.text.specs.Lines.{codes, number_end}
use borrow.Author.Rules.{rules}
use Rattle.text.specs.LinesLaws.{written_byte}
use Rattle.text.proofs.write_number.Goals as goal

pub returns : goal.returns
unfolding number_end codes
returns c = written_byte 10 (search rules) c.write_decimal-end.ensures
