-- `scan` meets its contract: what is told of the components seen and what is left of them make the whole (`ScannedTo`), turn by turn.
use Prim.Native.Nat.{◌-◌}
use lib.ListN.{length}
use Rattle.vector.proofs.Steps.{ScannedTo}
use Rattle.vector.proofs.scan.Given as goal

abbrev pub invariant-loop-seen : goal.invariant-loop-seen
invariant-loop-seen l = ScannedTo l.v l.finite l.squares l.seen

abbrev pub decreases-loop-seen : goal.decreases-loop-seen
decreases-loop-seen l = length l.v - l.seen
