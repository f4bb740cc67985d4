use native.Mathlib.Omega.{arith}
use Rattle.centre_blocks.proofs.Laying.{laying_none, laying_next, laying_all}
use Rattle.centre_blocks.proofs.layout.lay_vector.Goals as goal

pub loop-i-init : goal.loop-i-init
loop-i-init c = laying_none _ _ _ _

pub loop-i-preserved : goal.loop-i-preserved
loop-i-preserved c =
    let at = c.loop-i in
    let p = c.args in
    laying_next p.from p.at p.floats.now p.blocks.now at.blocks at.i at.invariant (omega arith)

pub returns : goal.returns
returns c =
    let at = c.loop-i in
    let p = c.args in
    laying_all p.from p.at p.dimension p.floats.now p.blocks.now at.blocks at.i at.invariant (omega arith) c.requires.dimension_in_bounds
