use mathlib.Core.Path.{refl}
use Rattle.node_filters.proofs.Filtering.{inserted-none, inserted-next}
use Rattle.node_filters.proofs.insert_hashes.Goals as goal

pub loop-entry-init : goal.loop-entry-init
loop-entry-init c = let args = c.args in inserted-none args.hashes.now args.at args.entries.now

pub loop-entry-preserved : goal.loop-entry-preserved
loop-entry-preserved c =
    let args = c.args in
    let at-loop = c.loop-entry in
    let k = at-loop.entry-index in
    inserted-next args.hashes.now at-loop.hashes c.insert.new.filter args.at args.entries.now k _ _ c.requires.at_bound c.loop-entry-test.true at-loop.invariant refl
    (c.requires.by_index k c.loop-entry-test.true) refl c.insert.ensures
