-- `rank` meets its contract: the first k of the hits in the queue and of those still to be measured stay the first k of all. The measure is the numbers
-- left. Assumes nothing.
use Rattle.lists.specs.Lists.{part}
use Rattle.hit_queue.specs.Promises.{hits_of}
use Rattle.walk.specs.StoreView.{hit_at}
use Rattle.best_first_search.proofs.Ranking.{Ranking}
use Rattle.best_first_search.proofs.rank.rank.Given as goal

abbrev pub invariant-loop-chunk : goal.invariant-loop-chunk
invariant-loop-chunk l =
    Ranking l.counts (hit_at l.shape l.floats l.numbers l.query) l.k l.found (hits_of l.shape l.floats l.numbers l.query (part l.from l.found l.initial.heap)) l.initial.heap l.heap l.chunk
    l.queued l.bound l.at l.left

abbrev pub decreases-loop-chunk : goal.decreases-loop-chunk
decreases-loop-chunk l = l.left
