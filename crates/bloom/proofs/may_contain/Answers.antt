-- Both bits are tested, and the two tests have the definition's answers.
-- Assumes nothing.
use mathlib.Core.Bool.{◌&&◌}
use mathlib.Core.Path.{ap, ap₂, ◌∙◌}
use Rattle.bloom.specs.Filter.{has_bit, may_contain}
use Rattle.bloom.proofs.may_contain.Goals as goal

pub returns : goal.returns
unfolding may_contain
returns c =
    let filter = c.args.filter.now in
    ap₂ ◌&&◌
    (c.has_bit.ensures ∙ ap (has_bit filter) c.first_bit-first.ensures)
    (c.has_bit-2.ensures ∙ ap (has_bit filter) c.second_bit-second.ensures)
