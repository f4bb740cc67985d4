-- `best_first_walk` meets its contract: the walk's loop keeps what `Walking` says, the children's what `Marking` says, and each way out is an end of
-- `Walking`. The measure is the budget. Assumes nothing.
use Rattle.std.specs.Prelude.{◌-◌}
use Rattle.best_first_walk.proofs.Walking.{Waits}
use Rattle.best_first_walk.proofs.Marking.{Marks}
use Rattle.store.specs.Lent.{stored}
use Rattle.walk.specs.Wanted.{about}
use Rattle.walk.specs.StoreView.{hit_at, store_view}
use Rattle.lists.specs.Lists.{part}
use Rattle.best_first_walk.proofs.best_first_walk.Given as goal

abbrev pub invariant-loop-number : goal.invariant-loop-number
invariant-loop-number l =
    Marks l.shape l.counts (hit_at l.shape l.lists.floats.now l.lists.numbers.now l.query)
    (store_view l.shape l.counts (stored l.lists) l.query (about l.wanted))
    l.ef_search l.initial.work l.node (part l.start l.count l.numbers) l.number-index l.work l.waiting l.hits l.opened

abbrev pub invariant-walk : goal.invariant-walk
invariant-walk l =
    Waits l.shape l.counts (hit_at l.shape l.lists.floats.now l.lists.numbers.now l.query)
    (store_view l.shape l.counts (stored l.lists) l.query (about l.wanted))
    l.ef_search l.initial.work l.work l.waiting l.hits l.opened

abbrev pub decreases-walk : goal.decreases-walk
decreases-walk l = l.ef_search - l.opened
