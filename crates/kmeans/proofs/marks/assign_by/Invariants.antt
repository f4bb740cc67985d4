-- `marks::assign_by` meets its contract. Invariant: the first i marks are written, and the rest is as it was.
use mathlib.Core.Path.{◌≡◌}
use lib.ListN.{take}
use lib.Seq.{sets}
use Rattle.cluster.specs.Vectors.{vectors_in, vectors_from}
use Rattle.kmeans.specs.Marks.{assignment}
use Rattle.kmeans.proofs.marks.assign_by.Given as goal

abbrev pub invariant-loop-i : goal.invariant-loop-i
invariant-loop-i g l =
    l.work ≡ sets l.initial.work 0 (take l.i (assignment (vectors_in l.dimension l.count l.floats) (vectors_from l.dimension l.k l.centres_at l.floats) l.ids))
