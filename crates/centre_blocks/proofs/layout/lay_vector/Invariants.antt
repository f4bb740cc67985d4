-- `layout::lay_vector` meets its contract. Invariant: the first i components stand in the column, and the other floats are as they were.
use Rattle.centre_blocks.proofs.Laying.{Laying}
use Rattle.centre_blocks.proofs.layout.lay_vector.Given as goal

abbrev pub invariant-loop-i : goal.invariant-loop-i
invariant-loop-i l = Laying l.from l.at l.floats l.initial.blocks l.blocks l.i
