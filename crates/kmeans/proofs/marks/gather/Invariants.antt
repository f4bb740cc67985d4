-- `marks::gather` meets its contract. Invariant: `Gathered`, what is due from place i on is still to be written behind what was found.
use Rattle.kmeans.proofs.Gathering.{Gathered}
use Rattle.kmeans.proofs.marks.gather.Given as goal

abbrev pub invariant-loop-i : goal.invariant-loop-i
invariant-loop-i l = Gathered l.j l.ids l.initial.work l.at l.work l.found l.i
