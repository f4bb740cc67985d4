-- `divide_into` meets its contract. Invariant: `out` has the first i quotients, and is otherwise as it was.
use mathlib.Core.List.{map}
use lib.ListN.{length}
use lib.Ieee.{binary32, div}
use Rattle.lists.specs.Writes.{Writing}
use Rattle.vector.proofs.divide_into.Given as goal

abbrev pub invariant-loop-i : goal.invariant-loop-i
invariant-loop-i l = Writing l.initial.out 0 (length l.v) (map (λ x. div binary32 x l.n) l.v) l.out l.i
