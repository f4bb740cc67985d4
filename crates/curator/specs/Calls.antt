-- What a call is about: the facts of the state that its rows look at, what the store holds, the entries of a taking back, and the state afterwards.
use Rattle.std.specs.Prelude.{ℕ, zero, suc, ◌+◌, ◌-◌, min, Bool, true, false, List, ◌≡◌, Float, length}
use Rattle.lists.specs.Lists.{part}
use Rattle.lists.specs.Suffix.{count_at_end}
use Rattle.store.specs.declared.Counts.{Counts}
use Rattle.store.specs.Store.{Store, owners_at, starts_at, lengths_at, entry_start, live_marks}
use Rattle.label.specs.Names.{bytes_of_names}
use Rattle.cluster.specs.Vectors.{vectors_in}
use Rattle.tree.specs.Tree.{Splitting}
use Rattle.tree.specs.Nodes.{Entries}
use Rattle.settings.specs.declared.CuratorParams.{CuratorParams}
use Rattle.settings.specs.declared.Capacities.{Capacities}
use Rattle.curator.specs.declared.CuratorIndex.{CuratorIndex}
use Rattle.curator.specs.Limits.{index_shape}
use Rattle.curator.specs.Rows.{Facts}

abbrev pub facts_of : CuratorIndex → Facts
facts_of index =
    record {
      shape = index_shape index;
      vectors = index.counts.vectors;
      entries = index.counts.entries;
      bytes = index.counts.bytes;
      built = index.built;
    }

-- the vectors, their document ids, and the entries, that a store holds
unfoldable pub held_vectors : CuratorIndex → Store → List (List Float)
unfolding vectors_in
held_vectors index store = vectors_in index.dimension index.counts.vectors store.floats

unfoldable pub held_documents : CuratorIndex → Store → List ℕ
held_documents index store = part 0 index.counts.vectors store.numbers

unfoldable pub held_entries : CuratorIndex → Store → Entries
held_entries index store =
    record {
      owners = part (owners_at (index_shape index)) index.counts.entries store.numbers;
      hashes = part 0 index.counts.entries store.hashes;
    }

-- the entries' starts and lengths, and the bytes
unfoldable pub held_starts : CuratorIndex → Store → List ℕ
held_starts index store = part (starts_at (index_shape index)) index.counts.entries store.numbers

unfoldable pub held_lengths : CuratorIndex → Store → List ℕ
held_lengths index store = part (lengths_at (index_shape index)) index.counts.entries store.numbers

unfoldable pub held_text : CuratorIndex → Store → List ℕ
held_text index store = part 0 index.counts.bytes store.text

-- the live marks of the vectors (02, K10)
unfoldable pub held_marks : CuratorIndex → Store → List ℕ
held_marks index store = live_marks (index_shape index) index.counts.vectors store.numbers

-- two stores that agree on what an index holds
pub record SameOfIndex (index : CuratorIndex) (s t : Store) : Type 0 where
  pub vectors : held_vectors index s ≡ held_vectors index t
  pub documents : held_documents index s ≡ held_documents index t
  pub entries : held_entries index s ≡ held_entries index t
  pub starts : held_starts index s ≡ held_starts index t
  pub lengths : held_lengths index s ≡ held_lengths index t
  pub text : held_text index s ≡ held_text index t
  pub marks : held_marks index s ≡ held_marks index t

-- 02, K3: 'The entries taken back are those at the end whose owner is the last vector.' How many they are, for any owners
unfoldable pub last_entries : CuratorIndex → Store → ℕ
unfolding count_at_end held_entries
last_entries index store = count_at_end (index.counts.vectors - 1) (held_entries index store).owners

-- 02, K4: 'Taking back lowers the bytes held to its first entry's start, if that is lower.' With no entry taken back they stay.
abbrev pub lowered : ℕ → ℕ → ℕ → ℕ
lowered zero start held = held
lowered (suc taken) start held = min start held

unfoldable pub bytes_left : CuratorIndex → Store → ℕ
unfolding last_entries
bytes_left index store =
    let taken = last_entries index store in
    lowered taken (entry_start (index_shape index) store.numbers (index.counts.entries - taken)) index.counts.bytes

abbrev pub splitting_of : ℕ → CuratorParams → Splitting
splitting_of dimension p = record { dimension = dimension; branching = p.branching_factor; leaf_size = p.max_leaf_size }

-- the state that an accepted `new` returns: nothing held, not built
abbrev pub fresh : ℕ → CuratorParams → Capacities → CuratorIndex
fresh dimension params capacities =
    record {
      dimension = dimension;
      params = params;
      capacities = capacities;
      counts = record { vectors = 0; entries = 0; nodes = 0; bytes = 0 };
      built = false;
    }

-- the state with other counts, built or not
abbrev pub with_counts : CuratorIndex → Counts → Bool → CuratorIndex
with_counts index counts built =
    record { dimension = index.dimension; params = index.params; capacities = index.capacities; counts = counts; built = built }

-- a vector more, with so many labels of so many bytes
abbrev pub counts_more : Counts → ℕ → ℕ → Counts
counts_more c labels bytes =
    record { vectors = c.vectors + 1; entries = c.entries + labels; nodes = c.nodes; bytes = c.bytes + bytes }

-- the state after an accepted add with labels of these names
abbrev pub grown : CuratorIndex → List (List ℕ) → CuratorIndex
grown index names = with_counts index (counts_more index.counts (length names) (length (bytes_of_names names))) index.built

-- a vector less, with so many entries; so many bytes are left
abbrev pub counts_less : Counts → ℕ → ℕ → Counts
counts_less c entries bytes = record { vectors = c.vectors - 1; entries = c.entries - entries; nodes = c.nodes; bytes = bytes }

-- the state after an accepted taking back
abbrev pub shrunk : CuratorIndex → Store → CuratorIndex
shrunk index store = with_counts index (counts_less index.counts (last_entries index store) (bytes_left index store)) index.built

-- the state after an accepted build with a number of nodes
abbrev pub built_with : CuratorIndex → ℕ → CuratorIndex
built_with index nodes =
    with_counts index (record { vectors = index.counts.vectors; entries = index.counts.entries; nodes = nodes; bytes = index.counts.bytes }) true
