use mathlib.Core.Path.{refl}
use Rattle.vector.specs.Vector.{dot, zero32}
use Rattle.vector.specs.VectorLaws.{dot_from_turn, dot_from-end}
use Rattle.vector.proofs.dot.Goals as goal

pub loop-i-init : goal.loop-i-init
unfolding dot zero32
loop-i-init c = refl

pub loop-i-preserved : goal.loop-i-preserved
loop-i-preserved c = dot_from_turn _ _ _ _ _ _ c.loop-i.invariant c.min-n.ensures c.loop-i-test.true

pub returns : goal.returns
returns c = dot_from-end _ _ _ _ _ _ c.loop-i.invariant c.min-n.ensures c.loop-i-test.false
