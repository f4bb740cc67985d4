use lib.Ieee.{nan}
use Rattle.lists.specs.Writes.{writing_none, writing_next, writing_all}
use Rattle.mean.proofs.Components.{length-sum_of, added}
use Rattle.mean.proofs.part.add.Goals as goal

pub loop-i-init : goal.loop-i-init
loop-i-init c = writing_none _ _ _ _ (length-sum_of _ c.args.from _ _ c.requires.dimension_in_bounds)

pub loop-i-preserved : goal.loop-i-preserved
loop-i-preserved c =
    let fits = c.requires in
    writing_next nan c.loop-i.invariant c.loop-i-test.true
    (added _ _ _ _ _ _ c.loop-i.invariant fits.dimension_bound fits.dimension_in_bounds c.loop-i-test.true)

pub returns : goal.returns
returns c = writing_all c.loop-i.invariant c.loop-i-test.false
