-- `lanes::step_sixteen` meets its contract: the lanes of four steps, one behind the other.
use Rattle.centre_blocks.proofs.Stepping.{sixteen_stepped}
use Rattle.centre_blocks.proofs.lanes.step_sixteen.Goals as goal

pub returns : goal.returns
returns c =
    let p = c.args in
    sixteen_stepped p.sums (record { a = c.step_four.result; b = c.step_four-2.result; c = c.step_four-3.result; d = c.step_four-4.result })
    p.x _ p.at c.requires c.step_four.ensures c.step_four-2.ensures c.step_four-3.ensures c.step_four-4.ensures
