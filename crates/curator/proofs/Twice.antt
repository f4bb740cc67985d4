-- Request K1 of document 02: 'The same label given twice is the one-label search', on any state and store: what either call may answer and leave, the other may
-- too, since every walk is the same (crates/walk/specs/Twice.antt). So they answer the same, refusals among it, and leave the same answer lists; work is free.
use Rattle.std.specs.Prelude.{ℕ, Bool, List, ◌≡◌, refl, Float}
use Rattle.std.proofs.Common.{sym}
use Rattle.std.proofs.Math.Path.{subst}
use Rattle.label.specs.Fnv.{fnv}
use Rattle.store.specs.Store.{Store}
use Rattle.walk.specs.Walk.{State, damaged, going, walk}
use Rattle.walk.specs.StoreView.{live_in, store_view}
use Rattle.walk.proofs.Twice.{twice-walk}
use Rattle.walk.proofs.HeldLaws.{held_itself}
use Rattle.std.specs.Prelude.{Result, Ok, Err, ⊤}
use Rattle.settings.specs.declared.refusal.Refusal.{Refusal}
use Rattle.curator.specs.declared.CuratorIndex.{CuratorIndex}
use Rattle.curator.specs.Limits.{index_shape}
use Rattle.curator.specs.Arguments.{Asked, labelled, labelled_both, SearchCall}
use Rattle.curator.specs.Searches.{SearchEnd, SameEnd, wanted_of, search_check, WalkedTo, SearchesBy, Searches}
use Rattle.curator.proofs.SearchHeldLaws.{searches-same}

module _ (index : CuratorIndex) (store : Store) (work : List ℕ) (query : List Float) (k : ℕ) (ids : List ℕ) (distances : List Float) (name : List ℕ) where
  -- a call that asks for something
  abbrev pub call_for : Asked → SearchCall
  call_for asked = record { question = record { query = query; asked = asked }; k = k; ids = ids; distances = distances }

  abbrev pub twice : SearchCall
  twice = call_for (labelled_both name name)

  abbrev pub once : SearchCall
  once = call_for (labelled name)

  walks_alike : (q : List Float) (ef : ℕ) → walk (store_view (index_shape index) index.counts store q (wanted_of (labelled_both name name))) ef
      ≡ walk (store_view (index_shape index) index.counts store q (wanted_of (labelled name))) ef
  unfolding wanted_of
  walks_alike q ef = twice-walk (fnv name) name (index_shape index) index.counts store q ef

  -- the end of a walk does not look at what was asked for
  same_to : (state : State) (test : ℕ → Bool) (end : SearchEnd)
      → (WalkedTo state test index work twice end → WalkedTo state test index work once end) × (WalkedTo state test index work once end → WalkedTo state test index work twice end)
  unfolding WalkedTo
  same_to damaged test end = (
    λ w. record { answer = w.answer; work = w.work; ids = w.ids; distances = w.distances },
    λ w. record { answer = w.answer; work = w.work; ids = w.ids; distances = w.distances },
  )
  same_to (going p) test end = (
    λ w. record { answer = w.answer; work = w.work; ids = w.ids; distances = w.distances },
    λ w. record { answer = w.answer; work = w.work; ids = w.ids; distances = w.distances },
  )

  pub searches-once : (end : SearchEnd) → Searches index store work twice end → Searches index store work once end
  unfolding Searches SearchesBy search_check
  searches-once end x = by (search_check index store work once) x
    where
      by : (c : Result ⊤ Refusal) → SearchesBy c index store work twice end → SearchesBy c index store work once end
      by (Ok _) w =
          let test = live_in (index_shape index) index.counts store in
          let state = walk (store_view (index_shape index) index.counts store w.query (wanted_of (labelled name))) index.params.ef_search in
          record {
            query = w.query;
            normalized = w.normalized;
            walked = (same_to state test end).0
                (subst (λ (s : State). WalkedTo s test index work twice end) (walks_alike w.query index.params.ef_search) w.walked);
          }
      by (Err r) u = record { answer = u.answer; work = u.work; ids = u.ids; distances = u.distances }

  pub searches-twice : (end : SearchEnd) → Searches index store work once end → Searches index store work twice end
  unfolding Searches SearchesBy search_check
  searches-twice end x = by (search_check index store work once) x
    where
      by : (c : Result ⊤ Refusal) → SearchesBy c index store work once end → SearchesBy c index store work twice end
      by (Ok _) w =
          let test = live_in (index_shape index) index.counts store in
          let state = walk (store_view (index_shape index) index.counts store w.query (wanted_of (labelled name))) index.params.ef_search in
          record {
            query = w.query;
            normalized = w.normalized;
            walked = subst (λ (s : State). WalkedTo s test index work twice end) (sym (walks_alike w.query index.params.ef_search))
                ((same_to state test end).1 w.walked);
          }
      by (Err r) u = record { answer = u.answer; work = u.work; ids = u.ids; distances = u.distances }

  pub answers-twice : (end end' : SearchEnd) → Searches index store work twice end → Searches index store work once end' → SameEnd end end'
  answers-twice end end' x y =
      searches-same index once work work end end' store store refl (held_itself (index_shape index) index.counts store) (searches-once end x) y
