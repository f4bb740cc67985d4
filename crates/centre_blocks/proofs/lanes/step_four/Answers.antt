-- `lanes::step_four` meets its contract: the fields of what it returns are the steps of the four sums.
use Rattle.centre_blocks.proofs.Stepping.{four-stepped}
use Rattle.centre_blocks.proofs.lanes.step_four.Goals as goal

pub returns : goal.returns
returns c = four-stepped _ _ _ _ _ _ _ c.requires
