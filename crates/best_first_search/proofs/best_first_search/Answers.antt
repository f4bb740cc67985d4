-- `best_first_search` meets its contract: the vectors that the walk found, and the first k of their hits. Assumes nothing.
use Rattle.std.proofs.Common.{◌≡◌, ℕ, ◌-◌, ◌*◌, ◌≤◌, List, ◌++◌, length, take, drop, max, map, Bool, arith, refl, sym, ap, subst, ◌∙◌}
use Rattle.std.proofs.lemmas.List.Edits.{sets}
use Rattle.store.specs.Lent.{stored}
use Rattle.store.specs.Store.{hits_at, work_size}
use Rattle.walk.specs.Wanted.{Sought, about, most}
use Rattle.walk.proofs.LentLaws.{works_trans, works-sets}
use Rattle.walk.specs.Promises.{Works}
use Rattle.walk.specs.StoreView.{hit_at, live_in, store_view}
use Rattle.walk.specs.Walk.{View, walk}
use Rattle.best_first_walk.specs.Walks.{hits_part, found_in}
use Rattle.best_first_walk.specs.WalksLaws.{length-hits}
use Rattle.best_first_walk.specs.MarkLaws.{hits-lent, hits_back}
use Rattle.walk.proofs.Damage.{is_damage}
use Rattle.best_first_search.specs.Ranks.{Firsts}
use Rattle.best_first_search.proofs.Searching.{damaged-search, ended-search, ended-numbers, ended-first}
use Rattle.best_first_search.proofs.best_first_search.Goals as goal
use Rattle.best_first_search.proofs.best_first_search.Goals.{After-walk_store}

-- ---- once the walk has ended: what the search is about, the view of the store, and whether a hit is live

abbrev hit : After-walk_store → ℕ → ℕ
hit w = hit_at w.args.shape w.args.lists.floats.now w.args.lists.numbers.now w.args.query.now

abbrev wants : After-walk_store → Sought
wants w = about w.args.wanted

abbrev view : After-walk_store → View
view w = store_view w.args.shape w.args.counts (stored w.args.lists) w.args.query.now (wants w)

abbrev test : After-walk_store → ℕ → Bool
test w = live_in w.args.shape w.args.counts (stored w.args.lists)

most-is : (w : After-walk_store) → (view w).most ≡ most (wants w) w.args.counts
unfolding store_view
most-is w = refl

size : (w : After-walk_store) → work_size w.args.shape ≤ length w.walk_store.new.work
size w = omega (arith, w.requires.lent.work_enough, w.walk_store.ensures.works.size)

-- the hits' part of the work list, as it is lent and as it comes back
abbrev lent-hits : After-walk_store → List ℕ
lent-hits w = take (w.work_size-hits_end.result - w.hits_at-hits_at.result) (drop w.hits_at-hits_at.result w.walk_store.new.work)

lent-is : (w : After-walk_store) → lent-hits w ≡ hits_part w.args.shape w.walk_store.new.work
lent-is w =
    hits-lent w.args.shape w.walk_store.new.work w.hits_at-hits_at.result w.work_size-hits_end.result w.requires.lent.within.limits w.hits_at-hits_at.ensures w.work_size-hits_end.ensures

-- where the numbers of the vectors found stand in it
abbrev from : After-walk_store → ℕ
from w = w.found_at.result - w.hits_at-hits_at.result

from-is : (w : After-walk_store) → from w ≡ found_in w.args.shape
from-is w = omega (arith, w.found_at.ensures, w.hits_at-hits_at.ensures)

back-length : (w : After-walk_store) (back : List ℕ) → length back ≡ length (lent-hits w) → length back ≡ 3 * max w.args.shape.vectors w.args.shape.entries
back-length w back kept = kept ∙ ap length (lent-is w) ∙ length-hits w.args.shape w.walk_store.new.work (size w)

abbrev after : After-walk_store → List ℕ → List ℕ
after w back =
    take w.hits_at-hits_at.result w.walk_store.new.work
    ++ (back ++ drop (w.work_size-hits_end.result - w.hits_at-hits_at.result) (drop w.hits_at-hits_at.result w.walk_store.new.work))

after-is : (w : After-walk_store) (back : List ℕ) → length back ≡ length (lent-hits w) → after w back ≡ sets w.walk_store.new.work (hits_at w.args.shape) back
after-is w back kept =
    hits_back w.args.shape w.walk_store.new.work w.hits_at-hits_at.result w.work_size-hits_end.result w.requires.lent.within.limits w.hits_at-hits_at.ensures w.work_size-hits_end.ensures back (size w)
    (back-length w back kept)

pub first_hits-written-requires : goal.first_hits-written-requires
first_hits-written-requires c =
    let w = (goal.at.first_hits-written-requires c).After-walk_store in
    let s = c.args.shape in
    let n = c.args.counts in
    let work = c.walk_store.new.work in
    let limits = c.requires.lent.within.limits in
    ended-first s n (hit w) (wants w) (view w) c.args.ef_search c.args.k c.in_ok-walked.walked.hits c.in_ok-walked.walked.opened c.in_ok-walked.walked.whole work (lent-hits w) (from w) limits (most-is w) c.requires.lent.within.vectors c.requires.lent.within.entries (size w) (lent-is w) (from-is w) c.in_ok-walked.ensures.ends
    c.args.lists.floats.now c.args.lists.numbers.now (record { within = c.requires.lent.within; floats_enough = c.requires.lent.long.floats; numbers_enough = c.requires.lent.long.numbers })
    c.args.ids.now c.args.distances.now c.requires.ids_room c.requires.distances_room

pub returns-in_err-walked : goal.returns-in_err-walked
returns-in_err-walked c =
    let w = (goal.at.returns-in_err-walked c).After-walk_store in
    let a = c.args in
    rw (is_damage c.from_residual.result c.from_residual.ensures.0)
    (record {
      ends = damaged-search a.shape a.counts (hit w) (walk (view w) a.ef_search) (test w) a.k c.walk_store.new.work a.ids.now a.distances.now c.in_err-walked.ensures.ends;
      works = c.in_err-walked.ensures.works;
    })

pub returns : goal.returns
returns c =
    let w = (goal.at.returns c).After-walk_store in
    let s = c.args.shape in
    let n = c.args.counts in
    let work = c.walk_store.new.work in
    let limits = c.requires.lent.within.limits in
    let back = c.first_hits-written.new.heap in
    let kept : length back ≡ length (lent-hits w) = c.first_hits-written.auto.heap in
    record {
      ends = ended-search s n (hit w) (walk (view w) c.args.ef_search) (test w) c.args.k c.in_ok-walked.walked.hits c.in_ok-walked.walked.opened c.in_ok-walked.walked.whole work c.args.ids.now c.first_hits-written.new.ids
          c.args.distances.now c.first_hits-written.new.distances c.first_hits-written.result c.in_ok-walked.ensures.ends
          (subst (λ (l : List ℕ). Firsts (test w) (map (hit w) l) c.args.k c.args.ids.now c.args.distances.now c.first_hits-written.result c.first_hits-written.new.ids c.first_hits-written.new.distances)
          (ended-numbers s n (hit w) (wants w) (view w) c.args.ef_search c.args.k c.in_ok-walked.walked.hits c.in_ok-walked.walked.opened c.in_ok-walked.walked.whole work (lent-hits w) (from w) limits (most-is w) c.requires.lent.within.vectors c.requires.lent.within.entries (size w) (lent-is w) (from-is w) c.in_ok-walked.ensures.ends)
          c.first_hits-written.ensures);
      works = works_trans s c.args.work.now work (after w back) c.in_ok-walked.ensures.works
          (subst (Works s work) (sym (after-is w back kept)) (works-sets s work back (hits_at s) (omega (arith, back-length w back kept))));
    }
