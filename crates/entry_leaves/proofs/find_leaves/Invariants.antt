-- The leaves of the first k entries are written; the places before `at` keep the leaves of the vectors.
-- Assumes nothing.
use Rattle.std.proofs.Common.{◌+◌, ◌≡◌, get_or}
use Rattle.node_table.specs.Table.{written}
use Rattle.entry_leaves.proofs.find_leaves.Given as goal

abbrev pub invariant-loop-k : goal.invariant-loop-k
invariant-loop-k l = l.work ≡ written (λ k. l.at + k) (λ k. get_or l.initial.work (get_or l.numbers (l.owners + k) 0) 0) l.k l.initial.work
