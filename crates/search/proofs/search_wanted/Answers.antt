-- By what the check gave: its first refusal, or the walk; that no row's case holds gives what the walk relies on.
use Rattle.std.proofs.Common.{rules, ◌≡◌, ℕ, List, Float, length, refl, sym, ap, ◌∙◌}
use Rattle.std.specs.Prelude.{Result, Ok, Err}
use Rattle.settings.specs.declared.refusal.Refusal.{Refusal}
use Rattle.store.specs.declared.Lengths.{Lengths}
use Rattle.store.specs.Store.{Store}
use Rattle.store.specs.Lent.{stored, lengths_of}
use Rattle.vector.specs.Vector.{dot}
use Rattle.curator.specs.declared.CuratorIndex.{CuratorIndex}
use Rattle.curator.proofs.RowLaws.{squares_fine, squares_refused}
use Rattle.curator.specs.Searches.{SearchesBy, search_check}
use Rattle.curator.specs.Arguments.{everything, SearchCall, asking_of}
use Rattle.search.specs.Lent.{search_checked, looking}
use Rattle.search.proofs.Laws.{ready, searches_by}
use Rattle.curator.specs.OutcomeLaws.{is-search_refused}
use Rattle.search.proofs.search_wanted.Goals as goal

module _ (index : CuratorIndex) (store : Store) (work : List ℕ) (call : SearchCall) (lent : Lengths) (r : Result Float Refusal) (long : lent ≡ lengths_of store)
    (checked : r ≡ search_checked index lent (length work) (asking_of call)) where
  -- what was checked, by the store
  by-store : search_checked index (lengths_of store) (length work) (asking_of call) ≡ r
  by-store = ap (λ (l : Lengths). search_checked index l (length work) (asking_of call)) (sym long) ∙ sym checked

  -- no row's case holds, and what was carried is the sum of squares
  fine : (squares : Float) → r ≡ Ok squares → (search_check index store work call ≡ Ok tt) × (squares ≡ dot call.question.query call.question.query)
  unfolding search_check
  fine squares e = squares_fine _ _ _ (by-store ∙ e)

  refused : (refusal : Refusal) → r ≡ Err refusal → search_check index store work call ≡ Err refusal
  unfolding search_check
  refused refusal e = squares_refused _ _ _ (by-store ∙ e)

pub walk_from-requires : goal.walk_from-requires
walk_from-requires c =
    let a = c.args in
    let call = looking a.query a.k a.ids.now a.distances.now everything in
    let f = fine a.index (stored a.lists) a.work.now call _ _ c.lengths.ensures c.search_check.ensures c.in_ok-squares.squares c.in_ok-squares.was in
    record { search_ready = ready a.index (stored a.lists) a.work.now call f.0; squares_value = f.1 }

pub returns-in_err-squares : goal.returns-in_err-squares
unfolding SearchesBy
returns-in_err-squares c =
    let a = c.args in
    let e : c.from_residual.result ≡ Err c.in_err-squares.field-0.0 = search rules in
    λ asked w. searches_by _ _ _ _ _ _
    (refused a.index (stored a.lists) a.work.now (looking a.query a.k a.ids.now a.distances.now asked) _ _ c.lengths.ensures c.search_check.ensures _ c.in_err-squares.was)
    (record { answer = is-search_refused _ _ e; work = refl; ids = refl; distances = refl })

pub returns : goal.returns
unfolding SearchesBy
returns c =
    let a = c.args in
    λ asked w. searches_by _ _ _ _ _ _
    (fine a.index (stored a.lists) a.work.now (looking a.query a.k a.ids.now a.distances.now asked) _ _ c.lengths.ensures c.search_check.ensures c.in_ok-squares.squares c.in_ok-squares.was).0
    (c.walk_from.ensures asked w)
