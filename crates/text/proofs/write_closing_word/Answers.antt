-- Each branch writes the word of its case.
use mathlib.Core.Path.{sym, subst}
use mathlib.Core.Bool.{Bool}
use Rattle.text.specs.Lines.{codes, closing_word, Written}
use Rattle.text.proofs.write_closing_word.Goals as goal

pub returns-then-whole : goal.returns-then-whole
unfolding closing_word codes
returns-then-whole c =
    let w = c.write_bytes in
    subst (λ (b : Bool). Written c.args.out.now c.args.at (closing_word b) w.new.out w.result) (sym c.if-whole.true) w.ensures

pub returns-else-whole : goal.returns-else-whole
unfolding closing_word codes
returns-else-whole c =
    let w = c.write_bytes-else-whole in
    subst (λ (b : Bool). Written c.args.out.now c.args.at (closing_word b) w.new.out w.result) (sym c.if-whole.false) w.ensures
