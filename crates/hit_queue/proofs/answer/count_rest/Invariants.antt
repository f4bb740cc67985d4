-- `count_rest` meets its contract: what was counted and what is left make up the whole. The measure is what is left of the queue. Assumes nothing.
use Rattle.walk.specs.Answer.{is_live}
use Rattle.hit_queue.proofs.Taking.{Counting}
use Rattle.hit_queue.proofs.answer.count_rest.Given as goal

abbrev pub invariant-loop-left : goal.invariant-loop-left
invariant-loop-left l = Counting (is_live l.marks) l.fn.heap l.count l.after l.heap l.total l.left l.last

abbrev pub decreases-loop-left : goal.decreases-loop-left
decreases-loop-left l = l.left
