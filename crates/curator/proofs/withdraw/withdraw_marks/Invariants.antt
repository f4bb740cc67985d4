-- Invariant: the marks of the vectors looked at are as they should be, and it is known whether one of them has the id. The document ids stand before the marks, so
-- they are read as they were.
use Rattle.curator.proofs.Marks.{Marking}
use Rattle.curator.proofs.withdraw.withdraw_marks.Given as goal

abbrev pub invariant-loop-i : goal.invariant-loop-i
invariant-loop-i l = Marking l.doc_id l.at l.count l.initial.numbers l.numbers l.held l.i
