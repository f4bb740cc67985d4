-- What the functions of this crate ask of the lists that they are lent, and what they leave in them.
use Rattle.std.specs.Prelude.{ℕ, ◌+◌, ◌*◌, ◌≤◌, ◌<◌, ◌≡◌, List, [], ◌∷◌, Float, length, get_or, Option, None, Some}
use Rattle.std.proofs.lemmas.List.Edits.{sets}
use Rattle.lists.specs.Lists.{part, keep, joined}
use Rattle.store.specs.declared.Shape.{Shape}
use Rattle.store.specs.Store.{Limits, centroids_at, centres_at, floats_size, order_at, nodes_at, numbers_size, work_size, work_part, centroids_part, centres_part, order_part, nodes_part}
use Rattle.cluster.specs.Clusters.{clusters, mean_of}
use Rattle.cluster.specs.Vectors.{vectors_in}
use Rattle.lists.specs.Frame.{AlikeBut, Freed}
use Rattle.tree.specs.Tree.{Splitting, tree_of, size}
use Rattle.tree.specs.Nodes.{Entries, nodes_of}
use Rattle.tree.specs.Layout.{floats_of}
use Rattle.tree.specs.Made.{made_from}
use Rattle.tree.proofs.Steps.{Group}
use Rattle.waiting_groups.specs.Waiting.{non_empty_list, headed, own, stands, six}

-- what a tree is made with
abbrev pub splitting_with : Shape → ℕ → Splitting
splitting_with s leaf = record { dimension = s.dimension; branching = s.branching; leaf_size = leaf }

-- The settings are within their limits, at least one vector is held, and the lists have the sizes of the store.
pub record TreeLent (s : Shape) (n : ℕ) (floats : List Float) (numbers work : List ℕ) : Type 0 where
  pub limits : Limits s
  pub some : 1 ≤ n
  pub held : n ≤ s.vectors
  pub floats_room : floats_size s ≤ length floats
  pub numbers_room : numbers_size s ≤ length numbers
  pub work_room : work_size s ≤ length work

-- A group that may wait in an index of n vectors.
pub record SoundGroup (n : ℕ) (g : Group) : Type 0 where
  pub few : g.levels ≤ 16
  pub filled : 1 ≤ length g.ids
  pub below : (i : ℕ) → i < length g.ids → get_or g.ids i 0 < n

-- The group at a place of the numbers waits to become the node with a number, and the leaf order is filled up to `done`.
pub record Waits (s : Shape) (n made done : ℕ) (g : Group) : Type 0 where
  pub made_few : made < s.nodes
  pub sound : SoundGroup n g
  pub within : done + length g.ids ≤ n

-- The ids of a group are split: its clusters stand from place n on in the work list, for n ids, each that is not empty with its header, and are
-- counted. The centres and the work list's first 2 * n places are free otherwise.
pub record Clustering
    (s : Shape) (n levels : ℕ) (ids : List ℕ) (floats floats' : List Float) (work work' : List ℕ) (count : ℕ) : Type 0
  where
    pub counted : count ≡ length (keep non_empty_list (clusters s.dimension s.branching (vectors_in s.dimension n floats) ids))
    pub placed : part (length ids) (length ids) work' ≡ joined (headed levels) (clusters s.dimension s.branching (vectors_in s.dimension n floats) ids)
    pub floats_alike : AlikeBut (centres_at s) (s.dimension * s.branching) floats floats'
    pub work_alike : AlikeBut 0 (2 * length ids) work work'

-- The ids of a group stand in the numbers from a place on, and the six numbers of its node go to a place of the numbers.
pub record Splits (n levels start size at : ℕ) (numbers : List ℕ) : Type 0 where
  pub few : levels ≤ 16
  pub filled : 1 ≤ size
  pub many : size ≤ n
  pub within : start + size ≤ length numbers
  pub room : at + 6 ≤ length numbers
  pub below : (i : ℕ) → i < size → get_or (part start size numbers) i 0 < n

-- The ids of a group stand in the numbers and are split: its clusters take their place, and the node's six numbers are written.
pub record Divided
    (s : Shape) (n levels start size at : ℕ) (floats floats' : List Float) (numbers numbers' work work' : List ℕ) : Type 0
  where
    pub numbers_are : numbers'
        ≡ sets
        (sets numbers start (joined (headed levels) (clusters s.dimension s.branching (vectors_in s.dimension n floats) (part start size numbers))))
        at
        (0 ∷ length (keep non_empty_list (clusters s.dimension s.branching (vectors_in s.dimension n floats) (part start size numbers))) ∷ 0 ∷ 0 ∷ 0 ∷ 0 ∷ [])
    pub floats_alike : AlikeBut (centres_at s) (s.dimension * s.branching) floats floats'
    pub work_alike : AlikeBut 0 (2 * size) work work'

-- One node is made of a group: its centroid, its six numbers, and what stands in the group's place. The centres and the work list are free.
pub record MadeNode
    (s : Shape) (leaf n made done : ℕ) (g : Group) (floats floats' : List Float) (numbers numbers' work work' : List ℕ) (next : ℕ) : Type 0
  where
    pub numbers_are : numbers'
        ≡ sets (sets numbers (order_at s + done) (stands (splitting_with s leaf) (vectors_in s.dimension n floats) g)) (nodes_at s + 6 * made)
        (six (splitting_with s leaf) (vectors_in s.dimension n floats) done g)
    pub floats_alike : AlikeBut (centres_at s) (s.dimension * s.branching)
        (sets floats (centroids_at s + made * s.dimension) (mean_of s.dimension (vectors_in s.dimension n floats) g.ids)) floats'
    pub work_alike : AlikeBut 0 (work_size s) work work'
    pub next_is : next ≡ done + length (own (splitting_with s leaf) g)

-- All nodes are made: centroids, leaf order and the six numbers of each node, whatever the entries. The centres are free, and the work list.
pub record Whole (s : Shape) (leaf n : ℕ) (floats floats' : List Float) (numbers numbers' work work' : List ℕ) (answer : Option ℕ) : Type 0 where
  pub answered : answer ≡ Some (size (tree_of (splitting_with s leaf) (vectors_in s.dimension n floats)))
  pub centres : List Float
  pub centres_size : length centres ≡ s.dimension * s.branching
  pub floats_are : (e : Entries) → floats' ≡ floats_of s (nodes_of (splitting_with s leaf) (vectors_in s.dimension n floats) e) centres floats
  pub numbers_are : (e : Entries)
      → numbers'
      ≡ sets (sets numbers (order_at s) (joined (λ node. node.ids) (nodes_of (splitting_with s leaf) (vectors_in s.dimension n floats) e)))
      (nodes_at s) (made_from 0 (nodes_of (splitting_with s leaf) (vectors_in s.dimension n floats) e))
  pub work_free : Freed (work_part s ∷ []) work work'

-- 13: 'the defined tree has more than M nodes'. Free are the centroids and the centres, the leaf order of vectors and the six per node, and the work.
pub record Overfull (s : Shape) (floats floats' : List Float) (numbers numbers' work work' : List ℕ) (answer : Option ℕ) : Type 0 where
  pub answered : answer ≡ None
  pub floats_free : Freed (centroids_part s ∷ centres_part s ∷ []) floats floats'
  pub numbers_free : Freed (order_part s ∷ nodes_part s ∷ []) numbers numbers'
  pub work_free : Freed (work_part s ∷ []) work work'

-- What `build_tree` does.
pub record Built (s : Shape) (leaf n : ℕ) (floats floats' : List Float) (numbers numbers' work work' : List ℕ) (answer : Option ℕ) : Type 0 where
  pub whole : size (tree_of (splitting_with s leaf) (vectors_in s.dimension n floats)) ≤ s.nodes
      → Whole s leaf n floats floats' numbers numbers' work work' answer
  pub overfull : s.nodes < size (tree_of (splitting_with s leaf) (vectors_in s.dimension n floats))
      → Overfull s floats floats' numbers numbers' work work' answer
