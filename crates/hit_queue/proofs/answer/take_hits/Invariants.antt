-- `take_hits` meets its contract: the loop keeps `Taking`; it ends with k hits, or with the queue empty. The measure is what is left of the queue.
-- Assumes nothing.
use Rattle.walk.specs.Answer.{is_live}
use Rattle.hit_queue.proofs.Taking.{Taking}
use Rattle.hit_queue.proofs.answer.take_hits.Given as goal

abbrev pub invariant-loop-hits : goal.invariant-loop-hits
invariant-loop-hits l =
    Taking (is_live l.marks) l.fn.heap l.count l.k l.fn.ids l.fn.distances l.heap l.ids l.distances l.hits l.left l.last

abbrev pub decreases-loop-hits : goal.decreases-loop-hits
decreases-loop-hits l = l.left
