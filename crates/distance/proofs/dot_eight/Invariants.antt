-- `dot_eight` meets its contract, as `dot_four` does, for the front four and the back four.
use Prim.Native.Nat.{◌-◌, ◌≤◌}
use lib.ListN.{length}
use Rattle.distance.proofs.Fours.{Dues}
use Rattle.distance.proofs.dot_eight.Given as goal

abbrev pub invariant-loop-i : goal.invariant-loop-i
invariant-loop-i l = (l.i ≤ length l.q) × Dues l.q l.a l.b l.c l.d l.front l.i × Dues l.q l.e l.f l.g l.h l.back l.i

abbrev pub decreases-loop-i : goal.decreases-loop-i
decreases-loop-i l = length l.q - l.i
