-- The vectors of the nodes below i are marked; `from` is where the block of node i starts.
-- Assumes nothing.
use Rattle.std.proofs.Common.{◌+◌, ◌≡◌, get_or}
use Rattle.node_table.specs.Table.{cell, sum_to}
use Rattle.entry_leaves.specs.Leaves.{marked}
use Rattle.entry_leaves.proofs.mark_leaves.Given as goal

abbrev pub invariant-loop-i : goal.invariant-loop-i
invariant-loop-i l =
    (l.from ≡ l.order + sum_to (cell l.at l.numbers) l.i)
    × (l.work ≡ marked (λ k. get_or l.numbers (l.order + k) 0) (cell l.at l.numbers) l.i l.initial.work)
