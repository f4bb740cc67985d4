-- By the vectors looked at: none at the start, one more in each turn, whether it has the id or not, and all at the end.
use Rattle.curator.proofs.Marks.{marking_start, marking_hit, marking_other}
use Rattle.curator.proofs.withdraw.withdraw_marks.Goals as goal
use Rattle.curator.proofs.withdraw.withdraw_marks.Goals.{then-document-doc_id, else-document-doc_id}

pub loop-i-init : goal.loop-i-init
loop-i-init c = marking_start c.args.doc_id c.args.at c.args.count c.args.numbers.now c.requires.0 c.requires.1

pub loop-i-preserved : goal.loop-i-preserved
loop-i-preserved c =
    let a = c.args in
    let l = c.loop-i in
    elim c.if-document-doc_id.branch [
      | then-document-doc_id w ↦
          rw (w.numbers-is, w.held-is)
          (marking_hit a.doc_id a.at a.count a.numbers.now c.requires.0 c.requires.1 l.numbers l.held l.i l.invariant c.loop-i-test.true w.if-document-doc_id.true)
      | else-document-doc_id w ↦
          rw (w.numbers-is, w.held-is)
          (marking_other a.doc_id a.at a.count a.numbers.now c.requires.0 c.requires.1 l.numbers l.held l.i l.invariant c.loop-i-test.true w.if-document-doc_id.false)
    ]
