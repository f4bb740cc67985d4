-- Two bits are set, one after the other, as in the definition.
-- Assumes nothing.
use mathlib.Core.Path.{ap, ap₂, ◌∙◌}
use Rattle.bloom.specs.Filter.{set_bit, insert_hash}
use Rattle.bloom.proofs.insert.Goals as goal

pub returns : goal.returns
unfolding insert_hash
returns c =
    let filter = c.args.filter.now in
    c.set_bit-2.ensures
    ∙ ap₂ set_bit (c.set_bit.ensures ∙ ap (set_bit filter) c.first_bit-first.ensures) c.second_bit-second.ensures
