-- 02, K6: 'an inner node's filter equals the pool of its children's', as a caller reads it from the lists.
use Rattle.std.specs.Prelude.{ℕ, ◌+◌, ◌*◌, ◌≤◌, ◌<◌, ◌≡◌, length, get_or}
use mathlib.Core.List.{map, foldl, Memᴰ}
use Rattle.std.specs.Int.Bits.{bit_or}
use Rattle.bloom.specs.Filter.{empty_filter, union_all}
use Rattle.store.specs.declared.Shape.{Shape}
use Rattle.store.specs.Store.{Store, filters_at, node_field, child_links, node_filter}

-- of a node, in a store with a number of nodes
pub record Pooled (s : Shape) (nodes : ℕ) (store : Store) (i : ℕ) : Type 0 where
  -- its child links stand among those of the nodes, as many as its count of children, and each is the number of a node after it
  pub links_end : node_field s store.numbers i 0 + node_field s store.numbers i 1 ≤ nodes
  pub links_count : length (child_links s store.numbers i) ≡ node_field s store.numbers i 1
  pub children : (child : ℕ) → Memᴰ child (child_links s store.numbers i) → (i < child) × (child < nodes)
  -- its filter is the pool of theirs
  pub filter : node_filter s store.hashes i ≡ union_all empty_filter (map (node_filter s store.hashes) (child_links s store.numbers i))
  -- the same word by word: each is the or of theirs
  pub words : (w : ℕ) → w < 4
      → get_or store.hashes (filters_at s + i * 4 + w) 0
      ≡ foldl bit_or 0 (map (λ child. get_or store.hashes (filters_at s + child * 4 + w) 0) (child_links s store.numbers i))
