-- The starts of the rows below i are written, and the sum is that of their counts; the counts stay as they were.
-- Assumes nothing.
use Prim.Native.Nat.{◌+◌}
use mathlib.Core.Path.{◌≡◌}
use Rattle.node_table.specs.Table.{cell, column, sum_to, block_start}
use Rattle.node_table.proofs.set_starts.Given as goal

abbrev pub invariant-loop-i : goal.invariant-loop-i
invariant-loop-i l =
    (l.numbers ≡ column l.at l.i (block_start l.at l.initial.numbers) l.initial.numbers)
    × (l.sum ≡ sum_to (cell (l.at + 1) l.initial.numbers) l.i)
