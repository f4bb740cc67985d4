-- `walk_store` meets its contract: where the node count is at most `ef_search`, the pass over the nodes is the walk (`WalksAny`). Assumes nothing.
use Rattle.best_first_search.proofs.walk_store.Goals as goal

pub returns-then-counts-ef_search : goal.returns-then-counts-ef_search
returns-then-counts-ef_search c =
    let args = c.args in
    c.whole_walk.ensures args.lists.floats.now args.query.now args.ef_search c.if-counts-ef_search.true
