use mathlib.Core.Path.{refl}
use native.Mathlib.Omega.{arith}
use lib.ListN.{get_or-replicate}
use lib.Ieee.{nan}
use Rattle.vector.specs.Vector.{dot, zero32}
use Rattle.centre_blocks.proofs.Stepping.{lane_turn, lane_end}
use Rattle.centre_blocks.proofs.lanes.sums_of.Goals as goal

pub loop-i-init : goal.loop-i-init
unfolding dot zero32
loop-i-init c = λ l h. rw (get_or-replicate 16 l zero32 nan h) refl

pub loop-i-preserved : goal.loop-i-preserved
loop-i-preserved c = λ l h.
    let p = c.args in
    let at = c.loop-i in
    lane_turn p.vector.now p.blocks.now p.at at.i l at.sums c.step_sixteen-sums.result _ h c.loop-i-test.true (omega arith) (at.invariant l h) c.step_sixteen-sums.ensures

pub returns : goal.returns
returns c = λ l h.
    let p = c.args in
    let at = c.loop-i in
    lane_end p.vector.now p.blocks.now p.at at.i l at.sums _ c.loop-i-test.false (at.invariant l h)
