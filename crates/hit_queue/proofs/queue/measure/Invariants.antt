-- `measure` meets its contract: the loop keeps the hits of the first j numbers, eight or four more a turn, or the last one to three. The measure is the numbers left. Assumes nothing.
use Rattle.std.proofs.Common.{◌-◌, ◌≤◌}
use Rattle.lists.specs.Lists.{part}
use Rattle.hit_queue.specs.Promises.{Measured, hits_of}
use Rattle.hit_queue.proofs.queue.measure.Given as goal

abbrev pub invariant-loop-j : goal.invariant-loop-j
invariant-loop-j l = record {
  within : l.j ≤ l.found;
  measured : Measured l.bound (hits_of l.shape l.floats l.numbers l.query (part l.from l.j l.fn.heap)) l.count l.fn.heap l.queued l.heap;
}

abbrev pub decreases-loop-j : goal.decreases-loop-j
decreases-loop-j l = l.found - l.j
