-- `pop_documents` meets its contract: what was popped has as many runs as were counted. The measure is what is left of the queue. Assumes nothing.
use Rattle.best_first_search.proofs.Ranking.{Popping}
use Rattle.best_first_search.proofs.rank.pop_documents.Given as goal

abbrev pub invariant-loop-hits : goal.invariant-loop-hits
invariant-loop-hits l = Popping l.initial.heap l.count l.k l.heap l.hits l.left l.last l.key

abbrev pub decreases-loop-hits : goal.decreases-loop-hits
decreases-loop-hits l = l.left
