-- The contract of the finishing passes: what they are given once all nodes of an index are made, and what they leave.
use Rattle.std.specs.Prelude.{ℕ, ◌+◌, ◌*◌, ◌≤◌, ◌<◌, List, [], ◌∷◌, ◌≡◌, Float, length, get_or}
use Rattle.lists.specs.Lists.{part, joined}
use Rattle.lists.specs.Frame.{Freed}
use Rattle.store.specs.declared.Shape.{Shape}
use Rattle.store.specs.Store.{Limits, owners_at, order_at, nodes_at, numbers_size, hashes_size, work_size, work_part}
use Rattle.tree.specs.Tree.{Splitting}
use Rattle.tree.specs.Nodes.{Entries, Node, nodes_of}
use Rattle.tree.specs.Layout.{numbers_of, hashes_of}
use Rattle.tree.specs.Made.{made_from}

-- the label entries that a store holds: 'document ids, entry owners, ..', 'entry hashes, filters'
abbrev pub held : Shape → ℕ → List ℕ → List ℕ → Entries
held s entries numbers hashes = record { owners = part (owners_at s) entries numbers; hashes = part 0 entries hashes }

-- the counts are within the capacities, and the lists are long enough
pub record Room (s : Shape) (vectors entries nodes : ℕ) (numbers hashes work : List ℕ) : Type 0 where
  pub limits : Limits s
  pub vectors_some : 1 ≤ vectors
  pub vectors_fit : vectors ≤ s.vectors
  pub entries_fit : entries ≤ s.entries
  pub nodes_fit : nodes ≤ s.nodes
  pub numbers_long : numbers_size s ≤ length numbers
  pub hashes_long : hashes_size s ≤ length hashes
  pub work_long : work_size s ≤ length work

-- All nodes of an index over some vectors are made: the numbers have the leaf order of vectors, and the six per node as far as they are known.
pub record AllMade (s : Shape) (count entries nodes : ℕ) (numbers hashes : List ℕ) : Type 0 where
  pub splitting : Splitting
  pub vectors : List (List Float)
  pub branching : 1 ≤ splitting.branching
  pub vector_count : length vectors ≡ count
  pub owned : (k : ℕ) → k < entries → get_or numbers (owners_at s + k) 0 < count
  pub count_of_nodes : length (nodes_of splitting vectors (held s entries numbers hashes)) ≡ nodes
  pub order : part (order_at s) count numbers ≡ joined (λ node. node.ids) (nodes_of splitting vectors (held s entries numbers hashes))
  pub six : part (nodes_at s) (6 * nodes) numbers ≡ made_from 0 (nodes_of splitting vectors (held s entries numbers hashes))

-- the nodes of such an index
abbrev pub nodes_made : (s : Shape) (count entries nodes : ℕ) (numbers hashes : List ℕ) → AllMade s count entries nodes numbers hashes → List Node
nodes_made s count entries nodes numbers hashes made = nodes_of made.splitting made.vectors (held s entries numbers hashes)

-- The numbers and the hashes have the nodes written in full; of the work list nothing past its size is touched.
pub record Finished (s : Shape) (count entries nodes : ℕ) (numbers hashes work numbers' hashes' work' : List ℕ) : Type 0 where
  pub numbers_are : (made : AllMade s count entries nodes numbers hashes) → numbers' ≡ numbers_of s (nodes_made s count entries nodes numbers hashes made) numbers
  pub hashes_are : (made : AllMade s count entries nodes numbers hashes) → hashes' ≡ hashes_of s (nodes_made s count entries nodes numbers hashes made) hashes
  pub work_free : Freed (work_part s ∷ []) work work'
