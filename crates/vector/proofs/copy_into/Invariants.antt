-- `copy_into` meets its contract. Invariant: `out` has the first i components of v, and is otherwise as it was.
use lib.ListN.{length}
use Rattle.lists.specs.Writes.{Writing}
use Rattle.vector.proofs.copy_into.Given as goal

abbrev pub invariant-loop-i : goal.invariant-loop-i
invariant-loop-i l = Writing l.initial.out 0 (length l.v) l.v l.out l.i
