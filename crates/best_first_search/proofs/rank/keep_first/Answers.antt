-- `keep_first` meets its contract: what was popped is the queue. Assumes nothing.
-- ---- the places that needs go back to
use Rattle.best_first_search.proofs.Ranking.{keeps-first}
use Rattle.best_first_search.proofs.rank.keep_first.Goals as goal

pub returns : goal.returns
returns c =
    let a = c.args in
    keeps-first a.heap.now c.pop_documents-kept.new.heap c.queue_again.new.heap a.count a.k c.pop_documents-kept.result c.pop_documents-kept.ensures c.queue_again.ensures
