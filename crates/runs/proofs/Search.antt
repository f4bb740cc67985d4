-- A search keeps all and ends as the model expects: refused alike; otherwise its walk over the store is the walk over the rows' tree, and the same hits are
-- struck (Views.antt); that walk is never damaged (Due.antt).
use Prim.Native.Nat.{ℕ}
use Rattle.std.proofs.Common.{arith, ap₂, ◌∙◌, subst}
use Rattle.std.specs.Prelude.{Bool, true, false, Result, Ok, Err, ⊤, List, Float, length}
use Rattle.std.proofs.lemmas.Bool.{false≢true}
use Rattle.std.proofs.Math.Path.{◌≡◌, refl, sym}
use Rattle.vector.specs.Normalized.{normalized, normalized-is}
use Rattle.store.specs.declared.Counts.{Counts}
use Rattle.store.specs.declared.Lengths.{Lengths}
use Rattle.store.specs.Store.{Store}
use Rattle.store.specs.Lent.{lengths_of, join_stores}
use Rattle.walk.specs.Walk.{State, Progress, damaged, going, walk}
use Rattle.walk.specs.StoreView.{store_view}
use Rattle.walk.proofs.SoundWalk.{sound-goes}
use Rattle.settings.specs.declared.refusal.Refusal.{Refusal}
use Rattle.curator.specs.Arguments.{Question, SearchCall}
use Rattle.curator.specs.Searches.{SearchEnd, wanted_of, Searches, SearchesBy, WalkedTo}
use Rattle.runs.specs.Calls.{search}
use Rattle.runs.specs.Model.{Setting, Model, row_hashes, row_bytes, node_count, model_counts, setting_shape, row_live, model_search_check, answered, searched_by, expected, model_walk, tree_view}
use Rattle.runs.specs.Run.{found}
use Rattle.runs.specs.Theorem.{Matches}
use Rattle.runs.proofs.State.{Allowed, Within, state_for, nodes_held}
use Rattle.runs.proofs.Held.{Held}
use Rattle.runs.proofs.Refusals.{search_refused, search-room, SearchRoom}
use Rattle.runs.proofs.Built.{Laid, NodeFacts, node_facts, laid_same}
use Rattle.runs.proofs.Views.{same_walks, same_live}
use Rattle.runs.proofs.Due.{due_below, size_at, IsNode, sound_tree}
use Rattle.runs.proofs.Invariant.{Invariant, long_same, nodes-same, held-front}

-- the defined walk
pub walk_is : (s : Setting) (m : Model) (question : Question)
    → model_walk s m question ≡ walk (tree_view s m (normalized question.query) (wanted_of question.asked)) s.params.ef_search
unfolding model_walk
walk_is s m question = refl

-- it is never damaged
pub walk-goes : (s : Setting) (m : Model) → Allowed s → Within s m → (question : Question) → (p : Progress) × (model_walk s m question ≡ going p)
walk-goes s m a w question =
    let query = normalized question.query in
    let wanted = wanted_of question.asked in
    let r = sound-goes (tree_view s m query wanted) (due_below s m query wanted) (size_at s m) (IsNode s m) (sound_tree s m a w query wanted) s.params.ef_search in
    (r.0, walk_is s m question ∙ r.1)

built_counts : (b : Bool) (s : Setting) (m : Model) → b ≡ true → nodes_held b s m ≡ node_count s m
unfolding nodes_held
built_counts true s m e = refl
built_counts false s m e = absurd (false≢true e)

-- a search of a front, with any rest behind it
module _ (s : Setting) (allowed : Allowed s) (m : Model) (front rest : Store) (inv : Invariant s m (state_for s m) (join_stores front rest)) (work : List ℕ)
    (call : SearchCall) (end : SearchEnd) where
  room-held : SearchRoom s m (lengths_of front) call → Held s m front
  room-held room = held-front s m front rest inv.within room.long inv.held

  abbrev store_walk : List Float → State
  store_walk query = walk (store_view (setting_shape s) (state_for s m).counts front query (wanted_of call.question.asked)) s.params.ef_search

  store-walk : SearchRoom s m (lengths_of front) call → (query : List Float) → query ≡ normalized call.question.query → store_walk query ≡ model_walk s m call.question
  store-walk room query q =
      let wanted = wanted_of call.question.asked in
      let ef = s.params.ef_search in
      let w = inv.within in
      let counts : (state_for s m).counts ≡ model_counts s m =
      λ i. record { vectors = length m.rows; entries = length (row_hashes m); nodes = built_counts m.built s m room.built i; bytes = row_bytes m } in
      let facts : NodeFacts s m = node_facts s m allowed w (w.nodes room.built) in
      let held : Held s m front = room-held room in
      let laid : Laid s m front =
      laid_same s m (join_stores front rest) front facts (nodes-same s (join_stores front rest) front (long_same s front rest room.long)) (inv.laid room.built) in
      ap₂ (λ (c : Counts) (v : List Float). walk (store_view (setting_shape s) c front v wanted) ef) counts q
      ∙ same_walks s m front allowed w facts held laid (normalized call.question.query) wanted ef (w.nodes room.built)
      ∙ sym (walk_is s m call.question)

  walked-holds : (fronts : Lengths) (state : State) → model_walk s m call.question ≡ state → WalkedTo state (row_live m) (state_for s m) work call end
      → Matches (answered m call.k state) (search fronts work call) (found end)
  unfolding answered WalkedTo
  walked-holds fronts damaged e by =
      let r = walk-goes s m allowed inv.within call.question in
      absurd (let z : damaged ≡ going r.0 = sym e ∙ r.1 in let n : ◌≡◌ {A = ℕ} 0 1 = cc in omega arith)
  walked-holds fronts (going p) e by = (by.answer, by.ids, by.distances)

  ends : (c : Result ⊤ Refusal) → model_search_check s m (lengths_of front) (length work) call ≡ c → SearchesBy c (state_for s m) front work call end
      → Matches (searched_by m c call.k (model_walk s m call.question)) (search (lengths_of front) work call) (found end)
  unfolding SearchesBy searched_by
  ends (Err r) e by = (by.answer.number_is, record { ids = by.ids; distances = by.distances })
  ends (Ok _) e by =
      let room : SearchRoom s m (lengths_of front) call = search-room s m (lengths_of front) (length work) call e in
      walked-holds (lengths_of front) (model_walk s m call.question) refl
      (subst (λ (x : State). WalkedTo x (row_live m) (state_for s m) work call end)
      (store-walk room by.query (normalized-is call.question.query by.query by.normalized))
      (subst (λ (test : ℕ → Bool). WalkedTo (store_walk by.query) test (state_for s m) work call end) (same_live s m front (room-held room)) by.walked))

  pub search-keeps : Searches (state_for s m) front work call end
      → Matches (expected s m (search (lengths_of front) work call)) (search (lengths_of front) work call) (found end)
  unfolding Searches expected
  search-keeps by =
      ends (model_search_check s m (lengths_of front) (length work) call) refl
      (subst (λ (c : Result ⊤ Refusal). SearchesBy c (state_for s m) front work call end) (search_refused s m allowed inv.within front work call) by)
