-- `norm` meets its contract: it is the root of what `dot` gives for v and v.
use Rattle.vector.specs.Vector.{Norm}
use Rattle.vector.proofs.norm.Goals as goal

pub returns : goal.returns
unfolding Norm
returns c = rw (← c.dot.ensures) c.sqrt.ensures
