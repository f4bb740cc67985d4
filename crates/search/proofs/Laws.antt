-- What no row's case gives, and the walk's end as a search's.
use Prim.Native.Nat.{ℕ, ◌≤◌}
use mathlib.Core.Bool.{Bool, true, false}
use mathlib.Core.Path.{◌≡◌, sym, ap, ◌∙◌, subst}
use mathlib.Core.List.{List, [], ◌∷◌}
use native.Mathlib.Omega.{arith}
use borrow.Author.Tests.{not-false, ltb-true, ltb-false, eqb-true}
use lib.Dec.{ltb}
use lib.Ieee.{Float}
use lib.ListN.{length}
use Rattle.vector.specs.Vector.{dot, Normalized}
use Rattle.store.specs.declared.Shape.{Shape}
use Rattle.store.specs.Store.{Store, work_size, work_part}
use Rattle.store.specs.declared.Counts.{Counts}
use Rattle.walk.specs.declared.Searched.{Searched}
use Rattle.walk.specs.declared.Damaged.{Damaged}
use Rattle.walk.specs.Wanted.{Sought}
use Rattle.walk.specs.Promises.{Works, SearchEnds, SearchGives}
use Rattle.best_first_search.specs.Ranks.{SearchLent}
use Rattle.walk.specs.StoreView.{live_in, store_view}
use Rattle.walk.specs.Walk.{State, damaged, going, walk}
use Rattle.std.specs.Prelude.{Result, Ok, ⊤}
use Rattle.settings.specs.declared.refusal.Refusal.{Refusal}
use Rattle.curator.specs.declared.CuratorIndex.{CuratorIndex}
use Rattle.curator.specs.Calls.{facts_of}
use Rattle.lists.specs.Frame.{Freed, alike_freed}
use Rattle.store.specs.Lent.{lengths_of}
use Rattle.store.specs.Store.{work_part}
use Rattle.curator.specs.Limits.{state_sound, index_shape}
use Rattle.settings.specs.Limits.{built_allowed}
use Rattle.curator.proofs.RowLaws.{NoneHolds, fine_none}
use Rattle.curator.specs.Rows.{Row, state_row, search_rows}
use Rattle.curator.specs.Searches.{wanted_of, SearchEnd, search_check, WalkedTo, SearchWalked, SearchesBy, Searches}
use Rattle.curator.specs.Arguments.{SearchCall, asking_of}
use Rattle.curator.proofs.StateLaws.{sound_facts}
use Rattle.lists.specs.Tests.{and_both, or_left, or_right}
use Rattle.search.specs.Lent.{SearchReady, found_of}
use Rattle.store.specs.LentLaws.{lists-long}
use Rattle.curator.specs.OutcomeLaws.{is-search_refused, is_found}

-- ---- what no row's case gives

-- what is built has a node
has_node : (built : Bool) (c : Counts) → built ≡ true → built_allowed built c ≡ true → 1 ≤ c.nodes
unfolding built_allowed
has_node true c e h =
    let (a, b) = and_both (ltb 0 c.vectors) (ltb 0 c.nodes) h in
    let k = ltb-true 0 c.nodes b in
    omega arith
has_node false c e h = let z : ◌≡◌ {A = ℕ} 0 1 = cc in absurd (omega arith)

abbrev rows_of_search : CuratorIndex → Store → List ℕ → SearchCall → List Row
rows_of_search index store work call =
    state_row (state_sound index)
    ∷ search_rows (facts_of index) (lengths_of store) (length work) (asking_of call)

ready_of : (index : CuratorIndex) (store : Store) (work : List ℕ) (call : SearchCall) → NoneHolds (rows_of_search index store work call)
    → SearchReady index store work call.question.query call.k call.ids call.distances
unfolding search_rows
ready_of index store work call (sound, (short, (built, (dimension, (finite, (answers, _)))))) =
    let s = sound_facts index (not-false _ sound) in
    let long = lists-long (index_shape index) (lengths_of store) (length work) short in
    let i = ltb (length call.ids) call.k in
    let d = ltb (length call.distances) call.k in
    record {
      lent =
          record {
            within = record { limits = s.limits; vectors = s.vectors; entries = s.entries; nodes = s.nodes; bytes = s.bytes };
            long = long.0;
            some = has_node index.built index.counts (not-false _ built) s.built;
            work_enough = long.1;
          };
      dimension = eqb-true _ _ (not-false _ dimension);
      ids = ltb-false _ _ (or_left i d answers);
      distances = ltb-false _ _ (or_right i d answers);
    }

pub ready : (index : CuratorIndex) (store : Store) (work : List ℕ) (call : SearchCall) → search_check index store work call ≡ (Ok tt)
    → SearchReady index store work call.question.query call.k call.ids call.distances
unfolding search_check
ready index store work call fine = ready_of index store work call (fine_none (rows_of_search index store work call) fine)

-- ---- the relation by what the check comes to

pub searches_by : (index : CuratorIndex) (store : Store) (work : List ℕ) (call : SearchCall) (end : SearchEnd) (check : Result ⊤ Refusal)
    → search_check index store work call ≡ check → SearchesBy check index store work call end → Searches index store work call end
unfolding Searches
searches_by index store work call end check e h = subst (λ (c : Result ⊤ Refusal). SearchesBy c index store work call end) (sym e) h

-- ---- the walk's end

-- a list of which only the work part changed
pub freed : (s : Shape) (work work' : List ℕ) → work_size s ≤ length work → Works s work work' → Freed (work_part s ∷ []) work work'
freed s work work' room w = alike_freed (work_part s) work work' (omega (arith, room)) w.size w.alike

pub walked_to : (state : State) (test : ℕ → Bool) (index : CuratorIndex) (work : List ℕ) (call : SearchCall) (searched : Result Searched Damaged) (end : SearchEnd)
    → end.answer ≡ found_of searched → Freed (work_part (index_shape index) ∷ []) work end.work
    → SearchEnds state test call.k searched call.ids end.ids call.distances end.distances → WalkedTo state test index work call end
unfolding WalkedTo
walked_to damaged test index work call searched end a f h =
    record { answer = is-search_refused _ _ (a ∙ ap found_of h.is); work = f; ids = h.ids_kept; distances = h.distances_kept }
walked_to (going p) test index work call searched end a f h =
    record { answer = is_found _ _ _ _ (a ∙ ap found_of h.is); work = f; ids = h.ids_are; distances = h.distances_are }

-- ---- a search that is ready

-- what the walk asks of the lists that it is lent
pub search-lent : (index : CuratorIndex) (store : Store) (work : List ℕ) (query : List Float) (k : ℕ) (ids : List ℕ) (distances : List Float)
    → SearchReady index store work query k ids distances → (s : Shape) → s ≡ index_shape index → SearchLent s index.counts store work k ids distances
search-lent index store work query k ids distances r s e =
    subst (λ (s : Shape). SearchLent s index.counts store work k ids distances) (sym e)
    (record { lent = r.lent; ids_room = r.ids; distances_room = r.distances })

-- the walk from the normalised query, whatever names its arguments have
pub walked_of : (index : CuratorIndex) (store : Store) (work : List ℕ) (call : SearchCall) (end : SearchEnd) (s : Shape) (squares : Float)
    (query stored : List Float) (wanted : Sought) (searched : Result Searched Damaged) → s ≡ index_shape index → query ≡ stored → wanted_of call.question.asked ≡ wanted
    → squares ≡ dot call.question.query call.question.query → Normalized squares call.question.query stored → work_size (index_shape index) ≤ length work
    → end.answer ≡ found_of searched
    → SearchGives s index.counts index.params.ef_search store query wanted call.k work
    call.ids
    call.distances
    searched
    end.work
    end.ids
    end.distances
    → SearchWalked index store work call end
walked_of index store work call end s squares query stored wanted searched es eq ew ed normal room answers h =
    let viewed : Shape → List Float → Sought → State =
    λ s q w. walk (store_view s index.counts store q w) index.params.ef_search in
    let same : viewed s query wanted ≡ viewed (index_shape index) stored (wanted_of call.question.asked) =
    ap (λ (s : Shape). viewed s query wanted) es ∙ ap (λ (q : List Float). viewed (index_shape index) q wanted) eq
    ∙ ap (λ (w : Sought). viewed (index_shape index) stored w) (sym ew) in
    record {
      query = stored;
      normalized = subst (λ (f : Float). Normalized f call.question.query stored) ed normal;
      walked =
          walked_to (viewed (index_shape index) stored (wanted_of call.question.asked)) (live_in (index_shape index) index.counts store) index work call searched end answers
          (freed (index_shape index) work end.work room (subst (λ (s : Shape). Works s work end.work) es h.works))
          (subst (λ (t : State). SearchEnds t (live_in (index_shape index) index.counts store) call.k searched call.ids end.ids call.distances end.distances) same
          (subst (λ (s' : Shape). SearchEnds (viewed s query wanted) (live_in s' index.counts store) call.k searched call.ids end.ids call.distances end.distances) es h.ends));
    }
