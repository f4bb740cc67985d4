-- `dot` meets its contract. Invariant: the sum of products is what is still to be summed from i on, begun at `sum`.
use mathlib.Core.Path.{◌≡◌}
use lib.ListN.{drop}
use Rattle.vector.specs.Vector.{dot, dot_from}
use Rattle.vector.proofs.dot.Given as goal

abbrev pub invariant-loop-i : goal.invariant-loop-i
invariant-loop-i l = dot l.a l.b ≡ dot_from l.sum (drop l.i l.a) (drop l.i l.b)
