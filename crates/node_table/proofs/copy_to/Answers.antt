use mathlib.Core.Path.{refl}
use Rattle.lists.specs.Writes.{writing_none, writing_next, writing_all}
use Rattle.node_table.proofs.copy_to.Goals as goal

pub loop-i-init : goal.loop-i-init
loop-i-init c = writing_none _ _ _ _ refl

pub loop-i-preserved : goal.loop-i-preserved
loop-i-preserved c = writing_next 0 c.loop-i.invariant c.loop-i-test.true refl

pub returns : goal.returns
returns c = writing_all c.loop-i.invariant c.loop-i-test.false
