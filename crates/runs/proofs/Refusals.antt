-- A state of a run refuses as its model does: the rows are the same, and what they look at is the same by `state_for` and by what is held. Row 4 never
-- holds (State.antt); the document ids held are the rows'; an owner is a row's number, so build's 15 never does either; the tree is over the same vectors.
use Rattle.std.specs.Prelude.{ℕ, ◌≤◌, ◌<◌, Bool, true, false, not, ◌&&◌, Ok, List, ◌≡◌, refl, ltb, eqb, length}
use Rattle.std.proofs.Common.{arith, sym, ap, ◌∙◌, subst, ltb-false, lt-ltb}
use Rattle.std.proofs.lemmas.Bool.{eqb-false, not-false}
use Rattle.lists.specs.Lists.{is_in}
use Rattle.lists.specs.Counting.{Memᴰ_get_d}
use Rattle.lists.specs.Tests.{all_pass, all_pass_lem, or_left, or_right}
use Rattle.store.specs.declared.Lengths.{Lengths}
use Rattle.store.specs.Store.{Store}
use Rattle.store.specs.Lent.{lengths_of, Long, store_short, lists_short}
use Rattle.store.specs.LentLaws.{store_long, lists-long}
use Rattle.tree.specs.Nodes.{Entries}
use Rattle.tree.specs.Tree.{tree_of, size}
use Rattle.curator.specs.Arguments.{AddCall, SearchCall, asking_of}
use Rattle.curator.specs.Rows.{Facts, first_of, add_rows, take_back_rows, withdraw_rows, build_rows, search_rows}
use Rattle.curator.proofs.RowLaws.{NoneHolds, fine_none}
use Rattle.curator.specs.Calls.{facts_of, held_entries, splitting_of}
use Rattle.curator.specs.Changes.{add_check, take_back_check, holds_document, withdraw_check, build_check, owners_damaged, too_many_nodes}
use Rattle.curator.specs.Searches.{search_check}
use Rattle.curator.proofs.StateLaws.{sound-passes}
use Rattle.runs.specs.Calls.{add, take_back, withdraw, build}
use Rattle.runs.specs.Model.{Setting, Model, row_documents, row_entries, model_facts, setting_shape, node_count, change_check, model_search_check}
use Rattle.runs.proofs.State.{Allowed, Within, state_for, state-sound}
use Rattle.runs.proofs.Held.{Held, held-vectors, held-documents, held-entries, owner-below}

-- ---- add, take back and search

module _ (s : Setting) (m : Model) (a : Allowed s) (w : Within s m) (front : Store) where
  -- an add is lent no work list
  pub add_refused : (work : ℕ) (call : AddCall) → add_check (state_for s m) front call ≡ change_check s m (lengths_of front) work (add call)
  unfolding add_check change_check model_facts
  add_refused work call = sound-passes (state_for s m) (add_rows (facts_of (state_for s m)) (lengths_of front) call) (state-sound s m a w)

  -- nor is a taking back
  pub take_back_refused : (work : ℕ) → take_back_check (state_for s m) front ≡ change_check s m (lengths_of front) work take_back
  unfolding take_back_check change_check model_facts
  take_back_refused work = sound-passes (state_for s m) (take_back_rows (facts_of (state_for s m)) (lengths_of front)) (state-sound s m a w)

  pub search_refused : (work : List ℕ) (call : SearchCall)
      → search_check (state_for s m) front work call ≡ model_search_check s m (lengths_of front) (length work) call
  unfolding search_check model_search_check model_facts
  search_refused work call =
      sound-passes (state_for s m) (search_rows (facts_of (state_for s m)) (lengths_of front) (length work) (asking_of call)) (state-sound s m a w)

-- ---- withdraw

-- whether a vector held has the id does not matter where row 3 holds
short-withdraw : (f : Facts) (lent : Lengths) (has has' : Bool) (b : Bool) → store_short f.shape lent ≡ b → (b ≡ false → has ≡ has')
    → first_of (withdraw_rows f lent has) ≡ first_of (withdraw_rows f lent has')
unfolding first_of withdraw_rows
short-withdraw f lent has has' true e h = rw e
short-withdraw f lent has has' false e h = rw (h refl)

-- `held`: what the lent front holds, where it is long enough; a withdrawal is lent no work list
pub withdraw_refused : (s : Setting) (m : Model) → Allowed s → Within s m → (front : Store) (work document : ℕ)
    → (Long (setting_shape s) (lengths_of front) → Held s m front)
    → withdraw_check (state_for s m) front document ≡ change_check s m (lengths_of front) work (withdraw document)
unfolding withdraw_check holds_document change_check model_facts
withdraw_refused s m a w front work document held =
    let index = state_for s m in
    let lent = lengths_of front in
    let has = holds_document index front document in
    sound-passes index (withdraw_rows (facts_of index) lent has) (state-sound s m a w)
    ∙ short-withdraw (model_facts s m) lent has (is_in document (row_documents m)) (store_short (setting_shape s) lent) refl
    (λ e. ap (is_in document) (held-documents s m front (held (store_long (setting_shape s) lent e))))

-- ---- build

owners-sound : (s : Setting) (m : Model) (store : Store) → Held s m store → owners_damaged (state_for s m) store ≡ false
unfolding owners_damaged
owners-sound s m store h =
    let e : held_entries (state_for s m) store ≡ row_entries m = held-entries s m store h in
    let pass : all_pass (λ owner. ltb owner (length m.rows)) (row_entries m).owners ≡ true =
    all_pass_lem (λ owner. ltb owner (length m.rows)) (row_entries m).owners
    (λ x k. let r = Memᴰ_get_d 0 k in
    lt-ltb x (length m.rows) (subst (λ (y : ℕ). y < length m.rows) r.2 (owner-below m r.0 r.1))) in
    ap (λ (en : Entries). not (all_pass (λ owner. ltb owner (length m.rows)) en.owners)) e ∙ ap not pass

too_many : (s : Setting) (m : Model) (store : Store) → Held s m store → too_many_nodes (state_for s m) store ≡ ltb s.capacities.nodes (node_count s m)
unfolding too_many_nodes node_count
too_many s m store h =
    ap (λ (v : _). ltb s.capacities.nodes (size (tree_of (splitting_of s.dimension s.params) v))) (held-vectors s m store h)

-- what the rows of a build look at beyond the facts does not matter where row 3 holds
short-build : (f : Facts) (lent : Lengths) (work : ℕ) (d t d' t' : Bool) (b : Bool) → lists_short f.shape lent work ≡ b
    → (b ≡ false → (d ≡ d') × (t ≡ t'))
    → first_of (build_rows f lent work d t) ≡ first_of (build_rows f lent work d' t')
unfolding first_of build_rows
short-build f lent work d t d' t' true e h = rw e
short-build f lent work d t d' t' false e h = let p = h refl in rw (p.0, p.1)

-- `held`: what the lent front holds, where it is long enough
pub build_refused : (s : Setting) (m : Model) → Allowed s → Within s m → (front : Store) (work : List ℕ)
    → (Long (setting_shape s) (lengths_of front) → Held s m front)
    → build_check (state_for s m) front work ≡ change_check s m (lengths_of front) (length work) build
unfolding build_check change_check model_facts
build_refused s m a w front work held =
    let index = state_for s m in
    let lent = lengths_of front in
    let damaged = owners_damaged index front in
    let many = too_many_nodes index front in
    sound-passes index (build_rows (facts_of index) lent (length work) damaged many) (state-sound s m a w)
    ∙ short-build (model_facts s m) lent (length work) damaged many false (ltb s.capacities.nodes (node_count s m))
    (lists_short (setting_shape s) lent (length work)) refl
    (λ e. let h = held (lists-long (setting_shape s) lent (length work) e).0 in (owners-sound s m front h, too_many s m front h))

-- ---- what an accepted call has found

pub record BuildRoom (s : Setting) (m : Model) (lent : Lengths) : Type 0 where
  pub long : Long (setting_shape s) lent
  pub rows : 0 < length m.rows
  pub nodes : node_count s m ≤ s.capacities.nodes

pub build-room : (s : Setting) (m : Model) (lent : Lengths) (work : ℕ) → m.built ≡ false → change_check s m lent work build ≡ Ok tt
    → BuildRoom s m lent
unfolding change_check build_rows model_facts
build-room s m lent work b e =
    let none : NoneHolds (build_rows (model_facts s m) lent work false (ltb s.capacities.nodes (node_count s m))) =
    fine_none (build_rows (model_facts s m) lent work false (ltb s.capacities.nodes (node_count s m))) e in
    let empty : eqb (length m.rows) 0 ≡ false = ap (λ (x : Bool). not x && eqb (length m.rows) 0) (sym b) ∙ none.1.0 in
    let many : ltb s.capacities.nodes (node_count s m) ≡ false =
    ap (λ (x : Bool). not x && ltb s.capacities.nodes (node_count s m)) (sym b) ∙ none.1.1.1.0 in
    let some : length m.rows ≡ 0 → ⊥ = eqb-false (length m.rows) 0 empty in
    record {
      long = (lists-long (setting_shape s) lent work none.0).0;
      rows = omega arith;
      nodes = ltb-false s.capacities.nodes (node_count s m) many;
    }

pub record SearchRoom (s : Setting) (m : Model) (lent : Lengths) (call : SearchCall) : Type 0 where
  pub long : Long (setting_shape s) lent
  pub built : m.built ≡ true
  pub ids : call.k ≤ length call.ids
  pub distances : call.k ≤ length call.distances

pub search-room : (s : Setting) (m : Model) (lent : Lengths) (work : ℕ) (call : SearchCall) → model_search_check s m lent work call ≡ Ok tt
    → SearchRoom s m lent call
unfolding model_search_check search_rows model_facts
search-room s m lent work call e =
    let none : NoneHolds (search_rows (model_facts s m) lent work (asking_of call)) = fine_none (search_rows (model_facts s m) lent work (asking_of call)) e in
    let few = ltb (length call.ids) call.k in
    let fewer = ltb (length call.distances) call.k in
    record {
      long = (lists-long (setting_shape s) lent work none.0).0;
      built = not-false m.built none.1.0;
      ids = ltb-false (length call.ids) call.k (or_left few fewer none.1.1.1.1.0);
      distances = ltb-false (length call.distances) call.k (or_right few fewer none.1.1.1.1.0);
    }
