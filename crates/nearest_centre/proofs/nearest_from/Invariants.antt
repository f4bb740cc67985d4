-- `nearest_from` meets its contract. Invariant: what is to be chosen is what the centres from c on leave of the choice so far.
use mathlib.Core.Path.{◌≡◌}
use lib.ListN.{drop}
use Rattle.cluster.specs.Clusters.{nearest_from}
use Rattle.cluster.specs.Vectors.{vectors_from}
use Rattle.nearest_centre.proofs.nearest_from.Given as goal

abbrev pub invariant-loop-c : goal.invariant-loop-c
invariant-loop-c l =
    nearest_from l.vector l.first l.initial.best.number l.initial.best.least (drop l.first (vectors_from l.dimension l.k l.centres_at l.floats))
    ≡ nearest_from l.vector l.c l.best.number l.best.least (drop l.c (vectors_from l.dimension l.k l.centres_at l.floats))
