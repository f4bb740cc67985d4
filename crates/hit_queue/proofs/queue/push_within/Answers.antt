-- `push_within` meets its contract. Assumes nothing.
-- ---- the places that needs go back to (primed: the same place, from another one)
use Rattle.hit_queue.proofs.Measuring.{measured_past, measured_pushed}
use native.Mathlib.Omega.{arith}
use Rattle.hit_queue.proofs.queue.push_within.Goals as goal

pub returns-then-record-bound : goal.returns-then-record-bound
returns-then-record-bound c =
    measured_pushed c.args.bound c.args.count c.args.heap.now c.args.record (omega arith) (omega arith) _ c.if-record-bound.true c.push.ensures

pub returns-else-record-bound : goal.returns-else-record-bound
returns-else-record-bound c =
    measured_past c.args.bound c.args.count c.args.heap.now c.args.record (omega arith) (omega arith) c.if-record-bound.false c.requires.queue
