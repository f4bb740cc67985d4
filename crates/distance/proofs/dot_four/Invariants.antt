-- `dot_four` meets its contract. Invariant: each sum of products is what is due from i on, begun at its own sum; a turn is four steps of it.
use Prim.Native.Nat.{◌-◌, ◌≤◌}
use lib.ListN.{length}
use Rattle.distance.proofs.Fours.{Dues}
use Rattle.distance.proofs.dot_four.Given as goal

abbrev pub invariant-loop-i : goal.invariant-loop-i
invariant-loop-i l = (l.i ≤ length l.q) × Dues l.q l.a l.b l.c l.d l.sums l.i

abbrev pub decreases-loop-i : goal.decreases-loop-i
decreases-loop-i l = length l.q - l.i
