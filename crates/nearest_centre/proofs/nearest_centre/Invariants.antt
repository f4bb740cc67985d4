-- `nearest_centre` meets its contract. Invariant: what is to be chosen is what the centres from c on leave of the choice so far,
-- which begins with centre 0 and infinity.
use Prim.Native.Nat.{◌-◌, ◌≤◌}
use mathlib.Core.Path.{◌≡◌}
use lib.ListN.{drop}
use Rattle.cluster.specs.Clusters.{nearest, nearest_from}
use Rattle.cluster.specs.Vectors.{vectors_from}
use Rattle.nearest_centre.proofs.nearest_centre.Given as goal

abbrev pub invariant-loop-c : goal.invariant-loop-c
invariant-loop-c l =
    (l.c ≤ l.k)
    × (nearest l.vector (vectors_from l.dimension l.k l.centres_at l.floats)
    ≡ nearest_from l.vector l.c l.best.number l.best.least (drop l.c (vectors_from l.dimension l.k l.centres_at l.floats)))

abbrev pub decreases-loop-c : goal.decreases-loop-c
decreases-loop-c l = l.k - l.c
