-- `means::add_to_centres` meets its contract. Invariant: `Summing`, the vectors of the first i ids are added.
use lib.ListN.{length}
use Rattle.kmeans.proofs.Averaging.{Summing}
use Rattle.kmeans.proofs.means.add_to_centres.Given as goal

abbrev pub invariant-loop-id : goal.invariant-loop-id
invariant-loop-id l = Summing l.dimension l.count l.k l.centres_at l.ids l.marks l.initial.floats l.floats (length l.yielded)
