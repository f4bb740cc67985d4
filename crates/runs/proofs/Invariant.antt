-- Between a run and its model: the state is the model's, the lists hold the rows and, once built, the layout of their nodes. Every call keeps it and ends
-- as the model expects: the checks are the same, a refused call leaves all of it, an accepted one writes the same row, takes the same
-- row back, writes the same live marks, the same nodes, or nothing.
use Rattle.std.specs.Prelude.{true, ◌≡◌}
use Rattle.std.proofs.lemmas.Bool.{false≢true}
use Rattle.std.proofs.Common.{arith, sym, ◌∙◌, subst}
use Rattle.store.specs.Store.{Store, starts_at, lengths_at, live_at, numbers_size}
use Rattle.store.specs.Lent.{lengths_of, sizes_of, Long, join_stores}
use Rattle.store.specs.Agree.{Agree, agree_less, agree_front, part_same}
use Rattle.curator.specs.declared.CuratorIndex.{CuratorIndex}
use Rattle.curator.specs.Calls.{fresh}
use Rattle.runs.specs.Model.{Setting, Model, empty_model, setting_shape}
use Rattle.runs.proofs.State.{Within, state_for, empty_state, empty_within}
use Rattle.runs.proofs.Held.{Held, rows_end, rows-within, SameRows, rows_sym, held_same, held_empty}
use Rattle.runs.proofs.Built.{Laid, nodes_end, SameNodes, nodes-within}

pub record Invariant (s : Setting) (m : Model) (index : CuratorIndex) (store : Store) : Type 0 where
  pub state : index ≡ state_for s m
  pub within : Within s m
  pub held : Held s m store
  pub laid : m.built ≡ true → Laid s m store

pub begins : (s : Setting) (index : CuratorIndex) (store : Store) → index ≡ fresh s.dimension s.params s.capacities
    → Invariant s empty_model index store
begins s index store e =
    record { state = e ∙ empty_state s; within = empty_within s; held = held_empty s store; laid = λ b. absurd (false≢true b) }

-- a call that leaves the state and the lists as they were
pub nothing_written : (s : Setting) (m : Model) (index index' : CuratorIndex) (store store' : Store) → Invariant s m index store → index' ≡ index → store' ≡ store
    → Invariant s m index' store'
nothing_written s m index index' store store' inv e f = subst (λ (i : CuratorIndex). Invariant s m i store') (sym e) (subst (Invariant s m index) (sym f) inv)

-- ---- lists and fronts

-- the lists up to their sizes
abbrev pub SameLists : Setting → Store → Store → Type 0
SameLists s = Agree (sizes_of (setting_shape s))

-- a front that is long enough has them
pub long_same : (s : Setting) (front rest : Store) → Long (setting_shape s) (lengths_of front) → SameLists s (join_stores front rest) front
long_same s front rest l = agree_front (sizes_of (setting_shape s)) front rest l

-- the parts of the rows stand before the ends of the lists
pub rows_same : (s : Setting) (store store' : Store) → SameLists s store store' → SameRows s store store'
rows_same s store store' a =
    let sh = setting_shape s in
    let e = s.capacities.entries in
    record {
      fronts = agree_less (rows_end s) (sizes_of sh) store store' (rows-within s) a;
      starts = part_same (starts_at sh) e (numbers_size sh) store.numbers store'.numbers (omega arith) a.numbers;
      lengths = part_same (lengths_at sh) e (numbers_size sh) store.numbers store'.numbers (omega arith) a.numbers;
      live = part_same (live_at sh) s.capacities.vectors (numbers_size sh) store.numbers store'.numbers (omega arith) a.numbers;
    }

-- so do those of the nodes
pub nodes-same : (s : Setting) (store store' : Store) → SameLists s store store' → SameNodes s store store'
nodes-same s store store' a = agree_less (nodes_end s) (sizes_of (setting_shape s)) store store' (nodes-within s) a

pub held-front : (s : Setting) (m : Model) (front rest : Store) → Within s m → Long (setting_shape s) (lengths_of front) → Held s m (join_stores front rest)
    → Held s m front
held-front s m front rest w l h =
    held_same s m (join_stores front rest) front w (rows_same s (join_stores front rest) front (long_same s front rest l)) h

-- and back, after a call
pub held_back : (s : Setting) (m : Model) (front rest : Store) → Within s m → Long (setting_shape s) (lengths_of front) → Held s m front
    → Held s m (join_stores front rest)
held_back s m front rest w l h =
    held_same s m front (join_stores front rest) w (rows_sym s (join_stores front rest) front (rows_same s (join_stores front rest) front (long_same s front rest l))) h
