-- `means::count_marks` meets its contract. Invariant: `Counting`, the first i marks are counted.
use Rattle.kmeans.proofs.Averaging.{Counting}
use Rattle.kmeans.proofs.means.count_marks.Given as goal

abbrev pub invariant-loop-mark : goal.invariant-loop-mark
invariant-loop-mark l = Counting l.marks l.counts l.mark-index
