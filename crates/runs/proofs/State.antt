-- The state of an index is a function of the setting and the model: its settings are the setting's, its counts the model's. It is sound in every run,
-- so row 4 never holds, because an accepted `new` has checked the settings and the rows of every call keep the counts within the capacities.
use Rattle.std.specs.Prelude.{ℕ, ◌≤◌, ◌<◌, ◌^◌, Bool, true, false, ◌&&◌, Ok, ◌≡◌, refl, length}
use Rattle.std.proofs.Common.{arith, sym, ap₂, subst, lt-ltb}
use Rattle.std.proofs.lemmas.Bool.{false≢true}
use mathlib.Core.List.Memᴰ
use mathlib.Core.List.{Memᴰ}
use Rattle.store.specs.Store.{Limits}
use Rattle.tree.specs.Tree.{tree_of}
use Rattle.tree.proofs.TreeLaws.{size-some}
use Rattle.curator.specs.declared.CuratorIndex.{CuratorIndex}
use Rattle.curator.specs.Limits.{state_sound}
use Rattle.settings.specs.Limits.{built_allowed}
use Rattle.curator.specs.Calls.{fresh, splitting_of}
use Rattle.curator.specs.Changes.{Creates}
use Rattle.curator.proofs.StateLaws.{Sound, sound_facts, facts_sound, created-accepted, created-sound}
use Rattle.runs.specs.Model.{Setting, Model, ModelRow, empty_model, row_hashes, row_bytes, row_vectors, node_count, setting_shape}

-- ---- an accepted `new`

-- the settings and capacities are within their limits
abbrev pub Allowed : Setting → Type 0
Allowed s = Sound (fresh s.dimension s.params s.capacities)

pub created-is : (s : Setting) (index : CuratorIndex) → Creates s.dimension s.params s.capacities (Ok index)
    → (index ≡ fresh s.dimension s.params s.capacities) × Allowed s
created-is s index e =
    let is = (created-accepted s.dimension s.params s.capacities index e).0 in
    (is, subst Sound is (sound_facts index (created-sound s.dimension s.params s.capacities index e)))

pub limits : (s : Setting) → Allowed s → Limits (setting_shape s)
limits s a = a.limits

-- ---- the state of a model

-- how many nodes are held: those of the tree, once it is built
unfoldable pub nodes_held : Bool → Setting → Model → ℕ
nodes_held true s m = node_count s m
nodes_held false s m = 0

-- unbuilt, whatever the rows are
pub no_nodes : (b : Bool) (s : Setting) (m m' : Model) → b ≡ false → nodes_held b s m ≡ nodes_held b s m'
unfolding nodes_held
no_nodes true s m m' e = absurd (false≢true (sym e))
no_nodes false s m m' e = refl

abbrev pub state_for : Setting → Model → CuratorIndex
state_for s m =
    record {
      dimension = s.dimension;
      params = s.params;
      capacities = s.capacities;
      counts = record { vectors = length m.rows; entries = length (row_hashes m); nodes = nodes_held m.built s m; bytes = row_bytes m };
      built = m.built;
    }

-- the counts of a model are within the capacities; it is built only with a row, and with a tree that has room
pub record Within (s : Setting) (m : Model) : Type 0 where
  pub vectors : length m.rows ≤ s.capacities.vectors
  pub entries : length (row_hashes m) ≤ s.capacities.entries
  pub bytes : row_bytes m ≤ s.capacities.text
  pub rows : m.built ≡ true → 0 < length m.rows
  pub nodes : m.built ≡ true → node_count s m ≤ s.capacities.nodes

-- document ids are u32s
abbrev pub Small : Model → Type 0
Small m = (r : ModelRow) → Memᴰ r m.rows → r.document < 2 ^ 32

pub some-nodes : (s : Setting) (m : Model) → 0 < node_count s m
unfolding node_count
some-nodes s m = size-some (tree_of (splitting_of s.dimension s.params) (row_vectors m))

pub empty_state : (s : Setting) → fresh s.dimension s.params s.capacities ≡ state_for s empty_model
unfolding nodes_held row_hashes row_bytes
empty_state s = refl

pub empty_within : (s : Setting) → Within s empty_model
unfolding row_hashes row_bytes
empty_within s =
    record {
      vectors = omega arith;
      entries = omega arith;
      bytes = omega arith;
      rows = λ e. absurd (false≢true e);
      nodes = λ e. absurd (false≢true e);
    }

pub empty_small : Small empty_model
empty_small r k = absurd (Memᴰ.not-nil k)

-- ---- row 4 never holds

built-sound : (b : Bool) (s : Setting) (m : Model) → m.built ≡ b → Within s m
    → built_allowed b (record { vectors = length m.rows; entries = length (row_hashes m); nodes = nodes_held b s m; bytes = row_bytes m }) ≡ true
unfolding built_allowed nodes_held
built-sound true s m e w = ap₂ ◌&&◌ (lt-ltb 0 (length m.rows) (w.rows e)) (lt-ltb 0 (node_count s m) (some-nodes s m))
built-sound false s m e w = refl

nodes-within : (b : Bool) (s : Setting) (m : Model) → m.built ≡ b → Within s m → nodes_held b s m ≤ s.capacities.nodes
unfolding nodes_held
nodes-within true s m e w = w.nodes e
nodes-within false s m e w = omega arith

pub state-sound : (s : Setting) (m : Model) → Allowed s → Within s m → state_sound (state_for s m) ≡ true
state-sound s m a w =
    facts_sound (state_for s m)
    (record {
      limits = a.limits;
      leaf_size = a.leaf_size;
      ef_search = a.ef_search;
      beam_width = a.beam_width;
      vectors = w.vectors;
      entries = w.entries;
      nodes = nodes-within m.built s m refl w;
      bytes = w.bytes;
      built = built-sound m.built s m refl w;
    })
