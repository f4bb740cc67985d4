-- The first i elements are copied.
-- Assumes nothing.
use lib.ListN.{length}
use Rattle.lists.specs.Writes.{Writing}
use Rattle.node_table.proofs.copy_to.Given as goal

abbrev pub invariant-loop-i : goal.invariant-loop-i
invariant-loop-i l = Writing l.initial.numbers l.at (length l.source) l.source l.numbers l.i
