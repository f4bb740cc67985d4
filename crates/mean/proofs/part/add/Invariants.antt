-- `part::add` meets its contract. Invariant: the first i components are sums, and the rest is as it was.
use Rattle.lists.specs.Writes.{Writing}
use Rattle.mean.proofs.Components.{sum_of}
use Rattle.mean.proofs.part.add.Given as goal

abbrev pub invariant-loop-i : goal.invariant-loop-i
invariant-loop-i l = Writing l.initial.floats l.to l.dimension (sum_of l.initial.floats l.from l.to l.dimension) l.floats l.i
