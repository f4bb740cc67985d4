-- `take_marked` meets its contract: the loop keeps `Gathering` over the part behind the marks, and that the marks stand as at entry, since nothing is written
-- before that part. Assumes nothing.
use Rattle.std.proofs.Common.{◌+◌, ◌≡◌, ◌&&◌, not, eqb, get_or, take, drop}
use Rattle.store.specs.Store.{owners_at}
use Rattle.walk.specs.Wanted.{name_of, text_held, is_labels}
use Rattle.walk.specs.StoreView.{entries_in, end_in}
use Rattle.leaf_hits.specs.Gathering.{Gathering}
use Rattle.wanted_hits.proofs.both.take_marked.Given as goal

abbrev pub invariant-loop-number : goal.invariant-loop-number
invariant-loop-number l =
    let read = entries_in l.shape l.lists.numbers.now l.lists.hashes.now l.lists.text.now in
    record {
      gathering : Gathering (text_held l.counts read (end_in l.shape l.lists.numbers.now) l.label.hash)
          (λ x. is_labels read l.label.hash (name_of l.label) x && not (eqb (get_or l.fn.hits (get_or l.lists.numbers.now (owners_at l.shape + x) 0) 0) 0))
          (λ x. get_or l.lists.numbers.now (owners_at l.shape + x) 0) l.counts.entries l.number-items l.before (drop l.from l.fn.hits) l.number-index l.total (drop l.from l.hits);
      front : take l.from l.hits ≡ take l.from l.fn.hits;
    }
