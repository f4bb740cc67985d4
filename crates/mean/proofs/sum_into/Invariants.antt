-- `sum_into` meets its contract. Invariant: the part is the sum of the first vectors, and the rest is as it was.
use mathlib.Core.Path.{◌≡◌}
use lib.ListN.{take}
use lib.Seq.{sets}
use Rattle.lists.specs.Lists.{part}
use Rattle.cluster.specs.Clusters.{sum_from}
use Rattle.cluster.specs.Vectors.{vectors_in}
use Rattle.mean.proofs.sum_into.Given as goal

abbrev pub invariant-loop-id : goal.invariant-loop-id
invariant-loop-id l =
    l.floats ≡ sets l.initial.floats l.at (sum_from (vectors_in l.dimension l.count l.initial.floats) (part l.at l.dimension l.initial.floats) (take l.id-index l.ids))
