use mathlib.Core.Path.{refl, sym}
use lib.ListN.{get_or}
use Rattle.node_table.specs.TableLaws.{written_next, written_none}
use Rattle.entry_leaves.proofs.mark_leaf.Goals as goal

pub loop-id-init : goal.loop-id-init
loop-id-init c = sym (written_none (λ k. get_or c.args.ids.now k 0) (λ k. c.args.node) c.args.work.now)

pub loop-id-preserved : goal.loop-id-preserved
loop-id-preserved c =
    let at-loop = c.loop-id in
    written_next (λ k. get_or c.args.ids.now k 0) (λ k. c.args.node) c.args.work.now at-loop.id-index c.args.node at-loop.work at-loop.invariant refl
