-- `first_centres` meets its contract. Invariant: `WritingCentres`, the first i centres are written.
use Rattle.cluster.specs.Clusters.{first_centres}
use Rattle.cluster.specs.Vectors.{vectors_in}
use Rattle.kmeans.proofs.Centring.{WritingCentres}
use Rattle.kmeans.proofs.first_centres.Given as goal

abbrev pub invariant-loop-i : goal.invariant-loop-i
invariant-loop-i l = WritingCentres l.dimension l.k l.centres_at l.initial.floats (first_centres (vectors_in l.dimension l.count l.initial.floats) l.ids l.k) l.floats l.i
