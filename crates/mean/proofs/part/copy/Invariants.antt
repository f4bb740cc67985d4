-- `part::copy` meets its contract. Invariant: the first i components are those of the part at `from`, and the rest is as it was.
use Rattle.lists.specs.Lists.{part}
use Rattle.lists.specs.Writes.{Writing}
use Rattle.mean.proofs.part.copy.Given as goal

abbrev pub invariant-loop-i : goal.invariant-loop-i
invariant-loop-i l = Writing l.initial.floats l.to l.dimension (part l.from l.dimension l.initial.floats) l.floats l.i
