use native.Mathlib.Omega.{arith}
use lib.Ieee.{nan}
use Rattle.lists.specs.Parts.{length_part}
use Rattle.lists.specs.Writes.{writing_none, writing_next, writing_all}
use Rattle.mean.proofs.Components.{earlier}
use Rattle.mean.proofs.part.copy.Goals as goal

pub loop-i-init : goal.loop-i-init
loop-i-init c = writing_none _ _ _ _ (length_part c.args.from _ _ (omega arith))

pub loop-i-preserved : goal.loop-i-preserved
loop-i-preserved c =
    writing_next nan c.loop-i.invariant c.loop-i-test.true
    (earlier c.loop-i.invariant c.loop-i-test.true _ c.requires.dimension_bound)

pub returns : goal.returns
returns c = writing_all c.loop-i.invariant c.loop-i-test.false
