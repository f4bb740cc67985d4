-- A build keeps what is between a run and its model: refused with 13 it has written behind the rows' parts only, and the model is not built; refused
-- otherwise, or of a built index, it has written nothing; accepted, it has laid out the rows' nodes.
use Rattle.std.specs.Prelude.{ℕ, ◌≤◌, ◌<◌, Bool, not, Result, Ok, Err, ⊤, List, ◌∷◌, [], ◌≡◌, ltb}
use Rattle.std.proofs.Common.{arith, inl, inr, sym, ◌∙◌}
use Rattle.std.proofs.Math.Bool.{true, false, and-false}
use Rattle.std.proofs.lemmas.Bool.{false≢true}
use Rattle.std.proofs.Math.Path.{refl, ap, subst}
use Rattle.std.proofs.Math.ListN.{length}
use Rattle.lists.specs.Frame.{freed_length}
use Rattle.store.specs.declared.Lengths.{Lengths}
use Rattle.store.specs.Store.{Store, work_part}
use Rattle.store.specs.Lent.{lengths_of, Long, lists_short, join_stores}
use Rattle.store.specs.Agree.{agree_sym}
use Rattle.curator.specs.declared.CuratorIndex.{CuratorIndex}
use Rattle.settings.specs.declared.refusal.Refusal.{Refusal}
use Rattle.settings.specs.declared.refusal.Refusal.TheVariants as Refusal'
use Rattle.settings.specs.declared.refusal.StoreRefusal.TheVariants.{ListTooShort}
use Rattle.curator.specs.Outcome.{changed_number}
use Rattle.settings.specs.Refusals.{check_number}
use Rattle.curator.specs.Limits.{index_shape}
use Rattle.curator.specs.Rows.{Facts, first_of, build_rows}
use Rattle.curator.specs.Calls.{built_with}
use Rattle.curator.specs.Changes.{free_of, Left, Builds, BuildsBy, BuildsFine, build_check, LaidOut, held_nodes}
use Rattle.runs.specs.Calls.{build}
use Rattle.runs.specs.Model.{Setting, Model, row_vectors, row_hashes, row_names, row_bytes, row_entries, node_count, model_nodes, model_facts, setting_shape, change_rows, change_check, carried_out, changed_by}
use Rattle.runs.specs.Run.{next_index}
use Rattle.runs.specs.Theorem.{with_budget}
use Rattle.runs.proofs.State.{Allowed, Within, Small, state_for, nodes_held}
use Rattle.runs.proofs.Held.{Held, SameRows, rows_join, held_same}
use Rattle.runs.proofs.Refusals.{build_refused, build-room, BuildRoom}
use Rattle.runs.proofs.Built.{Laid, NodeFacts, node_facts, laid_same, laid_out, built-held, held-nodes, laid-lengths, lays_out, left-lengths, left-same, left-held, leaves}
use Rattle.runs.proofs.Invariant.{Invariant, nothing_written, long_same, nodes-same, held-front, held_back}
use Rattle.runs.proofs.ChangeLaws.{Others, ChangeEnds, ChangeOutcome, ChangeLaws}
use Rattle.curator.specs.OutcomeLaws.{refused_is, carried-is, is_carried, is_refused}

-- a built index is refused for short lists alone, which leaves all as it was
rows-built : (f : Facts) (lent : Lengths) (work : ℕ) (many : Bool) (r : Refusal) (short built : Bool) → lists_short f.shape lent work ≡ short
    → f.built ≡ built → built ≡ true → first_of (build_rows f lent work false many) ≡ Err r → r ≡ Refusal'.Store ListTooShort
unfolding first_of build_rows
rows-built f lent work many r true true p q b e = let w : Err (Refusal'.Store ListTooShort) ≡ Err r = rw p at e in cc
rows-built f lent work many r false true p q b e = let w : Ok tt ≡ Err r = rw (p, q) at e in absurd (let z : ◌≡◌ {A = ℕ} 0 1 = cc in omega arith)
rows-built f lent work many r short false p q b e = absurd (false≢true b)

built_refused : (s : Setting) (m : Model) (lent : Lengths) (work : ℕ) (r : Refusal) → m.built ≡ true → change_check s m lent work build ≡ Err r
    → r ≡ Refusal'.Store ListTooShort
unfolding change_check model_facts
built_refused s m lent work r b e =
    rows-built (model_facts s m) lent work (ltb s.capacities.nodes (node_count s m)) r (lists_short (setting_shape s) lent work) m.built refl refl b e

-- ---- a built model

abbrev built_model : Model → Model
built_model m = record { rows = m.rows; built = true }

built_again : (m : Model) → m.built ≡ true → built_model m ≡ m
built_again m e = λ i. record { rows = m.rows; built = sym e i }

-- what looks at the rows alone
count-rows : (s : Setting) (m : Model) → node_count s (built_model m) ≡ node_count s m
unfolding node_count row_vectors
count-rows s m = refl

hashes-rows : (m : Model) → row_hashes (built_model m) ≡ row_hashes m
unfolding row_hashes
hashes-rows m = refl

bytes-rows : (m : Model) → row_bytes (built_model m) ≡ row_bytes m
unfolding row_bytes row_names
bytes-rows m = refl

held_rows : (s : Setting) (m : Model) (store : Store) → Held s m store → Held s (built_model m) store
unfolding row_vectors row_hashes row_names row_bytes
held_rows s m store h =
    record { vectors = h.vectors; documents = h.documents; owners = h.owners; hashes = h.hashes; starts = h.starts; lengths = h.lengths; text = h.text; live = h.live }

laid-rows : (s : Setting) (m : Model) (store : Store) → Laid s m store → Laid s (built_model m) store
unfolding model_nodes row_vectors row_entries row_hashes
laid-rows s m store l = record { centroids = l.centroids; order = l.order; six = l.six; links = l.links; entries = l.entries; filters = l.filters }

within-rows : (s : Setting) (m : Model) → Within s m → 0 < length m.rows → node_count s m ≤ s.capacities.nodes → Within s (built_model m)
unfolding row_hashes row_names row_bytes node_count row_vectors
within-rows s m w some fits = record { vectors = w.vectors; entries = w.entries; bytes = w.bytes; rows = λ b. some; nodes = λ b. fits }

state-built : (s : Setting) (m : Model) (n : ℕ) → n ≡ node_count s m → built_with (state_for s m) n ≡ state_for s (built_model m)
unfolding nodes_held
state-built s m n e =
    let h : length (row_hashes m) ≡ length (row_hashes (built_model m)) = ap length (sym (hashes-rows m)) in
    let c : n ≡ node_count s (built_model m) = e ∙ sym (count-rows s m) in
    let b : row_bytes m ≡ row_bytes (built_model m) = sym (bytes-rows m) in
    λ i. record {
      dimension = s.dimension;
      params = s.params;
      capacities = s.capacities;
      counts = record { vectors = length m.rows; entries = h i; nodes = c i; bytes = b i };
      built = true;
    }

-- ---- the step

module _ (s : Setting) (allowed : Allowed s) (m : Model) (work work' : List ℕ) (front rest front' : Store) (answer : Result CuratorIndex Refusal)
    (inv : Invariant s m (state_for s m) (join_stores front rest)) where
  abbrev check : Result ⊤ Refusal
  check = change_check s m (lengths_of front) (length work) build

  front-held : Long (setting_shape s) (lengths_of front) → Held s m front
  front-held long = held-front s m front rest inv.within long inv.held

  refused_ends : (r : Refusal) → check ≡ Err r → BuildsBy (Err r) (state_for s m) front work answer front' work'
      → Invariant s m (next_index (state_for s m) answer) (join_stores front' rest)
  unfolding BuildsBy next_index
  refused_ends r e by =
      let lengths = left-lengths (setting_shape s) r front work front' work' by.1 in
      let same : SameRows s (join_stores front rest) (join_stores front' rest) =
      rows_join s front front' rest lengths (left-held s front front' work work' r by.1) in
      record {
        state = ap (next_index (state_for s m)) (refused_is r answer by.0);
        within = inv.within;
        held = held_same s m (join_stores front rest) (join_stores front' rest) inv.within same inv.held;
        laid = λ b.
            (let short : Left (setting_shape s) (Refusal'.Store ListTooShort) front work front' work' =
            subst (λ (x : Refusal). Left (setting_shape s) x front work front' work') (built_refused s m (lengths_of front) (length work) r b e) by.1 in
            subst (λ (f : Store). Laid s m (join_stores f rest)) (sym (left-same (setting_shape s) front front' work work' short)) (inv.laid b));
      }

  fine_ends : (b : Bool) → m.built ≡ b → check ≡ Ok tt → BuildsFine b (state_for s m) front work answer front' work'
      → (changed_number answer ≡ 0) × Invariant s (built_model m) (next_index (state_for s m) answer) (join_stores front' rest)
  unfolding BuildsFine next_index
  fine_ends true b e by = (
    by.0.number_is,
    subst (λ (x : Model). Invariant s x (next_index (state_for s m) answer) (join_stores front' rest)) (sym (built_again m b))
        (nothing_written s m (state_for s m) (next_index (state_for s m) answer) (join_stores front rest) (join_stores front' rest) inv
        (ap (next_index (state_for s m)) (carried-is (state_for s m) answer by.0))
        (ap (λ (f : Store). join_stores f rest) by.1)),
  )
  fine_ends false b e by =
      let room : BuildRoom s m (lengths_of front) = build-room s m (lengths_of front) (length work) b e in
      let facts : NodeFacts s m = node_facts s m allowed inv.within room.nodes in
      let h : Held s m front = front-held room.long in
      let out : LaidOut (state_for s m) front work front' work' = by.1 in
      let l : Laid s m front' = laid_out s m front front' work work' facts room.long h out in
      let long' : Long (setting_shape s) (lengths_of front') =
      subst (Long (setting_shape s)) (laid-lengths (state_for s m) front work front' work' out) room.long in
      let h' : Held s m front' = held_same s m front front' inv.within (built-held s m front front' work work' facts room.long h out) h in
      let all = join_stores front' rest in
      let count : length (held_nodes (state_for s m) front) ≡ node_count s m = ap length (held-nodes s m front h) ∙ facts.count in (
        by.0.number_is,
        record {
          state = ap (next_index (state_for s m)) (carried-is (built_with (state_for s m) (length (held_nodes (state_for s m) front))) answer by.0) ∙ state-built s m (length (held_nodes (state_for s m) front)) count;
          within = within-rows s m inv.within room.rows room.nodes;
          held = held_rows s m all (held_back s m front' rest inv.within long' h');
          laid = λ t. laid-rows s m all (laid_same s m front' all facts (agree_sym (nodes-same s all front' (long_same s front' rest long'))) l);
        },
      )

  ends : (c : Result ⊤ Refusal) → check ≡ c → BuildsBy c (state_for s m) front work answer front' work'
      → (changed_number answer ≡ check_number c) × Invariant s (changed_by c build m) (next_index (state_for s m) answer) (join_stores front' rest)
  unfolding BuildsBy changed_by
  ends (Err r) e by = (by.0.number_is, refused_ends r e by)
  ends (Ok _) e by = fine_ends m.built refl e by

  build-keeps : Builds (state_for s m) front work answer front' work'
      → ChangeEnds s m (lengths_of front) (length work) build answer (next_index (state_for s m) answer) (join_stores front' rest)
  unfolding Builds
  build-keeps builds =
      let r = ends check refl
      (subst (λ (c : Result ⊤ Refusal). BuildsBy c (state_for s m) front work answer front' work') (build_refused s m allowed inv.within front work front-held) builds) in
      record { number_is = r.0; invariant = r.1 }

-- ---- the rest that is owed

build-others : (s : Setting) (m : Model) (lent : Lengths) (work : ℕ) → Others (change_rows s m lent work build)
unfolding change_rows build_rows model_facts
build-others s m lent work = (inr (omega arith), (inr (omega arith), (inl (and-false (not m.built)), (inr (omega arith), tt))))

build-budget : (s : Setting) (ef : ℕ) (m : Model) (lent : Lengths) (work : ℕ) → change_rows (with_budget ef s) m lent work build ≡ change_rows s m lent work build
unfolding change_rows model_facts node_count
build-budget s ef m lent work = refl

build-small : (m : Model) → Small m → Small (carried_out build m)
unfolding carried_out
build-small m h = h

-- ---- lengths and outcomes, refused or not

module _ (index : CuratorIndex) (store : Store) (work : List ℕ) (answer : Result CuratorIndex Refusal) (store' : Store) (work' : List ℕ) where
  fine_lengths : (b : Bool) → BuildsFine b index store work answer store' work' → (lengths_of store ≡ lengths_of store') × (length work ≡ length work')
  unfolding BuildsFine
  fine_lengths true by = (ap lengths_of (sym by.1), ap length (sym by.2))
  fine_lengths false by =
      (laid-lengths index store work store' work' by.1, freed_length (work_part (index_shape index) ∷ []) work work' by.1.work)

  lengths_by : (c : Result ⊤ Refusal) → BuildsBy c index store work answer store' work' → (lengths_of store ≡ lengths_of store') × (length work ≡ length work')
  unfolding BuildsBy
  lengths_by (Ok _) by = fine_lengths index.built by
  lengths_by (Err r) by =
      let sh = index_shape index in (left-lengths sh r store work store' work' by.1, freed_length (free_of sh r).work work work' by.1.work)

  -- all lists, the work list too
  pub build-lengths : Builds index store work answer store' work' → (lengths_of store ≡ lengths_of store') × (length work ≡ length work')
  unfolding Builds
  build-lengths by = lengths_by (build_check index store work) by

build_fine : (index : CuratorIndex) (store : Store) (work : List ℕ) (b : Bool)
    → (answer : Result CuratorIndex Refusal) × (store' : Store) × (work' : List ℕ) × BuildsFine b index store work answer store' work'
unfolding BuildsFine
build_fine index store work true = (Ok index, store, work, (is_carried index (Ok index) refl, refl, refl))
build_fine index store work false =
    let out = lays_out index store work in (Ok (built_with index (length (held_nodes index store))), out.0, out.1, (is_carried _ _ refl, out.2))

build_by : (index : CuratorIndex) (store : Store) (work : List ℕ) (c : Result ⊤ Refusal)
    → (answer : Result CuratorIndex Refusal) × (store' : Store) × (work' : List ℕ) × BuildsBy c index store work answer store' work'
unfolding BuildsBy
build_by index store work (Ok _) = build_fine index store work index.built
build_by index store work (Err r) =
    let left = leaves (index_shape index) r store work in (Err r, left.0, left.1, (is_refused r (Err r) refl, left.2))

build-outcome : (index : CuratorIndex) (store : Store) (work : List ℕ) → ChangeOutcome index store work build
unfolding Builds
build-outcome index store work =
    let r = build_by index store work (build_check index store work) in record { answer = r.0; store' = r.1; work' = r.2; changes = r.3 }

pub build_laws : ChangeLaws build
build_laws =
    record {
      keeps = λ s a m work work' front rest front' answer inv builds. build-keeps s a m work work' front rest front' answer inv builds;
      others = build-others;
      budget = build-budget;
      small = λ m typed h. build-small m h;
      lengths = λ index store work answer store' work' builds. (build-lengths index store work answer store' work' builds).0;
      outcome = build-outcome;
    }
