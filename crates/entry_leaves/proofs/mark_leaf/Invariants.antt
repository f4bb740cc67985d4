-- The first ids are marked.
-- Assumes nothing.
use Rattle.std.proofs.Common.{◌≡◌, get_or}
use Rattle.node_table.specs.Table.{written}
use Rattle.entry_leaves.proofs.mark_leaf.Given as goal

abbrev pub invariant-loop-id : goal.invariant-loop-id
invariant-loop-id l = l.work ≡ written (λ k. get_or l.ids k 0) (λ k. l.node) l.id-index l.initial.work
