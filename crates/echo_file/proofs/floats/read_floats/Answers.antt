use native.Mathlib.Omega.{arith}
use Rattle.echo_file.proofs.Steps.{float_turn, float_end}
use Rattle.echo_file.proofs.floats.read_floats.Goals as goal

pub loop-i-preserved : goal.loop-i-preserved
loop-i-preserved c =
    let a = c.args in
    float_turn a.file.now a.at a.out.now c.loop-i.out c.loop-i.i _ c.loop-i.invariant (omega arith) c.float_at.ensures

pub returns : goal.returns
returns c = let a = c.args in float_end a.file.now a.at a.out.now c.loop-i.out c.loop-i.i c.loop-i.invariant (omega arith)
