-- `means::begin_sums` meets its contract. Invariant: `WritingCentres`, the first j centres are written.
use Rattle.cluster.specs.Vectors.{vectors_from}
use Rattle.kmeans.specs.Means.{each_centre, begun}
use Rattle.kmeans.proofs.Centring.{WritingCentres}
use Rattle.kmeans.proofs.means.begin_sums.Given as goal

abbrev pub invariant-loop-j : goal.invariant-loop-j
invariant-loop-j l =
    WritingCentres l.dimension l.k l.centres_at l.initial.floats (each_centre l.k (begun l.dimension l.counts) (vectors_from l.dimension l.k l.centres_at l.initial.floats)) l.floats l.j
