-- The sizes and the parts of a store, in the words and the order of document 01, 'The store'. Starts count from the front of their list.
use Rattle.std.specs.Prelude.{ℕ, ◌+◌, ◌*◌, ◌≤◌, max, List, Float, get_or}
use Rattle.lists.specs.Lists.{part}
use Rattle.lists.specs.Frame.{Part}
use Rattle.store.specs.declared.Shape.{Shape}
use Rattle.store.specs.declared.Counts.{Counts}

-- The four lists that hold an index. The work list holds nothing between calls and is not among them. 02, K4: 'The store gains a byte list for label text'.
pub record Store : Type 0 where
  pub floats : List Float
  pub numbers : List ℕ
  pub hashes : List ℕ
  pub text : List ℕ

-- 'dimension D 1 to 128; branching_factor B 1 to 64', 'V vectors 1 to 4,096, E label entries 0 to 16,384, M nodes 1 to 65,537'; label text of 'capacity 0
-- to 4,177,920' (02, K4)
pub record Limits (s : Shape) : Type 0 where
  pub dimension_low : 1 ≤ s.dimension
  pub dimension_high : s.dimension ≤ 128
  pub branching_low : 1 ≤ s.branching
  pub branching_high : s.branching ≤ 64
  pub vectors_low : 1 ≤ s.vectors
  pub vectors_high : s.vectors ≤ 4096
  pub entries_high : s.entries ≤ 16384
  pub nodes_low : 1 ≤ s.nodes
  pub nodes_high : s.nodes ≤ 65537
  pub text_high : s.text ≤ 4177920

-- counts within the capacities, and these within their limits
pub record CountsWithin (s : Shape) (c : Counts) : Type 0 where
  pub limits : Limits s
  pub vectors : c.vectors ≤ s.vectors
  pub entries : c.entries ≤ s.entries
  pub nodes : c.nodes ≤ s.nodes
  pub bytes : c.bytes ≤ s.text

-- 'Floats (f32): D times (V + M + B): vectors, centroids, cluster centres.'
abbrev pub centroids_at : Shape → ℕ
centroids_at s = s.dimension * s.vectors

abbrev pub centres_at : Shape → ℕ
centres_at s = s.dimension * (s.vectors + s.nodes)

abbrev pub floats_size : Shape → ℕ
floats_size s = s.dimension * (s.vectors + s.nodes + s.branching)

-- 'Numbers (u32): 2V + 2E + 7M: document ids, entry owners, leaf order of vectors, six per node (start and count of children, vectors, entries),
-- child links, leaf order of entries'; 'an entry also has its start, the bytes held before it, and its length, two lists of E at the end of the
-- numbers' (02, K4); and 'Each vector gets a live mark, V numbers after all others' (02, K10).
abbrev pub owners_at : Shape → ℕ
owners_at s = s.vectors

abbrev pub order_at : Shape → ℕ
order_at s = s.vectors + s.entries

abbrev pub nodes_at : Shape → ℕ
nodes_at s = 2 * s.vectors + s.entries

abbrev pub links_at : Shape → ℕ
links_at s = 2 * s.vectors + s.entries + 6 * s.nodes

abbrev pub entry_order_at : Shape → ℕ
entry_order_at s = 2 * s.vectors + s.entries + 7 * s.nodes

abbrev pub starts_at : Shape → ℕ
starts_at s = 2 * s.vectors + 2 * s.entries + 7 * s.nodes

abbrev pub lengths_at : Shape → ℕ
lengths_at s = 2 * s.vectors + 3 * s.entries + 7 * s.nodes

abbrev pub live_at : Shape → ℕ
live_at s = 2 * s.vectors + 4 * s.entries + 7 * s.nodes

abbrev pub numbers_size : Shape → ℕ
numbers_size s = 3 * s.vectors + 4 * s.entries + 7 * s.nodes

-- 'Hashes (u64): E + 4M: entry hashes, filters.'
abbrev pub filters_at : Shape → ℕ
filters_at s = s.entries

abbrev pub hashes_size : Shape → ℕ
hashes_size s = s.entries + 4 * s.nodes

-- 'Work (u32): 3M + 3 times the larger of V and E.' A search uses it as waiting nodes, marks of pushed nodes, hits.
abbrev pub marks_at : Shape → ℕ
marks_at s = 2 * s.nodes

abbrev pub hits_at : Shape → ℕ
hits_at s = 3 * s.nodes

abbrev pub work_size : Shape → ℕ
work_size s = 3 * s.nodes + 3 * max s.vectors s.entries

-- the parts that a call may leave free, by start and length
abbrev pub centroids_part : Shape → Part
centroids_part s = record { start = centroids_at s; count = s.dimension * s.nodes }

abbrev pub centres_part : Shape → Part
centres_part s = record { start = centres_at s; count = s.dimension * s.branching }

abbrev pub order_part : Shape → Part
order_part s = record { start = order_at s; count = s.vectors }

abbrev pub nodes_part : Shape → Part
nodes_part s = record { start = nodes_at s; count = 6 * s.nodes }

abbrev pub links_part : Shape → Part
links_part s = record { start = links_at s; count = s.nodes }

abbrev pub entry_order_part : Shape → Part
entry_order_part s = record { start = entry_order_at s; count = s.entries }

abbrev pub filters_part : Shape → Part
filters_part s = record { start = filters_at s; count = 4 * s.nodes }

abbrev pub work_part : Shape → Part
work_part s = record { start = 0; count = work_size s }

-- 'a vector or centroid is the part of the float list that starts at its number times D'
abbrev pub vector_at : ℕ → List Float → ℕ → List Float
vector_at dimension floats i = part (i * dimension) dimension floats

-- where what a node has stands: one of its six numbers; its child links, by the first two of them; its filter, four words
abbrev pub node_field : Shape → List ℕ → ℕ → ℕ → ℕ
node_field s numbers i field = get_or numbers (nodes_at s + i * 6 + field) 0

abbrev pub child_links : Shape → List ℕ → ℕ → List ℕ
child_links s numbers i = part (links_at s + node_field s numbers i 0) (node_field s numbers i 1) numbers

abbrev pub node_filter : Shape → List ℕ → ℕ → List ℕ
node_filter s hashes i = part (filters_at s + i * 4) 4 hashes

-- where the label text of an entry starts, and how long it is: the bytes of its label
abbrev pub entry_start : Shape → List ℕ → ℕ → ℕ
entry_start s numbers entry = get_or numbers (starts_at s + entry) 0

abbrev pub entry_length : Shape → List ℕ → ℕ → ℕ
entry_length s numbers entry = get_or numbers (lengths_at s + entry) 0

abbrev pub entry_name : Shape → List ℕ → List ℕ → ℕ → List ℕ
entry_name s numbers text entry = part (entry_start s numbers entry) (entry_length s numbers entry) text

-- the live marks of so many vectors
abbrev pub live_marks : Shape → ℕ → List ℕ → List ℕ
live_marks s vectors numbers = part (live_at s) vectors numbers
