-- `whole_walk` meets its contract: the pass keeps what `Passing` says, from any query and with any vectors, and each way out is an end of it. Assumes
-- nothing.
use Rattle.std.specs.Prelude.{◌≤◌, List, Float}
use Rattle.walk.specs.Promises.{Works}
use Rattle.walk.specs.StoreView.{hit_at, store_view}
use Rattle.walk.specs.Wanted.{about}
use Rattle.store.specs.Lent.{store_of}
use Rattle.whole_walk.proofs.Passing.{Passes}
use Rattle.whole_walk.proofs.whole_walk.Given as goal

abbrev pub invariant-loop-i : goal.invariant-loop-i
invariant-loop-i l =
    (l.opened ≤ l.i)
    × Works l.shape l.initial.work l.work
    × ((floats query : List Float) → Passes l.shape l.counts (hit_at l.shape floats l.lists.numbers.now query)
    (store_view l.shape l.counts (store_of floats l.lists.numbers.now l.lists.hashes.now l.lists.text.now) query (about l.wanted))
    l.work l.i l.hits l.opened)
