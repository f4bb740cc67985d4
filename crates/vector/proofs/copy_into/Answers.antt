use mathlib.Core.Path.{refl}
use lib.Ieee.{nan}
use Rattle.lists.specs.Writes.{writing_none, whole-next, whole-all}
use Rattle.vector.proofs.copy_into.Goals as goal

pub loop-i-init : goal.loop-i-init
loop-i-init c = writing_none _ _ _ _ refl

pub loop-i-preserved : goal.loop-i-preserved
loop-i-preserved c = whole-next nan c.loop-i.invariant c.loop-i-test.true refl

pub returns : goal.returns
returns c = whole-all c.loop-i.invariant c.requires c.loop-i-test.false
