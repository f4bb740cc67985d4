-- Document 01, 'Tree', 'Entries' and 'Filter': the nodes of a tree in their numbering, each with its centroid, its children's numbers or its ids
-- and entries, and its filter.
use Rattle.std.specs.Prelude.{ℕ, suc, ◌+◌, List, [], ◌∷◌, ◌++◌, map, Float, length, get_or}
use Rattle.lists.specs.Lists.{is_in, count_from, keep}
use Rattle.bloom.specs.Filter.{empty_filter, insert_all}
use Rattle.cluster.specs.Clusters.{mean_of}
use Rattle.tree.specs.Tree.{Tree, Forest, leaf, inner, none, more, Splitting, tree_of, size}

-- The label entries of an index by entry number: the owner, which is an id, and the hash.
pub record Entries : Type 0 where
  pub owners : List ℕ
  pub hashes : List ℕ

-- A node as it is laid out: an inner node has children and no ids or entries, a leaf the other way round.
pub record Node : Type 0 where
  pub centroid : List Float
  pub children : List ℕ
  pub ids : List ℕ
  pub entries : List ℕ
  pub filter : List ℕ

-- a node with nothing in it, read where no node has a number
abbrev pub no_node : Node
no_node = record { centroid = []; children = []; ids = []; entries = []; filter = [] }

-- 'By entry number': the numbers of the entries whose owner is among the ids, so they rise
unfoldable pub entries_of : Entries → List ℕ → List ℕ
unfolding keep is_in count_from
entries_of e ids = keep (λ number. is_in (get_or e.owners number 0) ids) (count_from 0 (length e.owners))

-- 'every filter from root to the owner's leaf gets the hash', by entry number: a node's filter has the hashes of the entries whose owner is below it
unfoldable pub filter_of : Entries → List ℕ → List ℕ
unfolding entries_of insert_all
filter_of e ids = insert_all empty_filter (map (λ number. get_or e.hashes number 0) (entries_of e ids))

-- the numbers of the trees of a forest whose first node has a number
unfoldable pub roots : ℕ → Forest → List ℕ
unfolding size
roots i none = []
roots i (more tree rest) = i ∷ roots (i + size tree) rest

-- 'nodes are numbered as made, parent first': the nodes of a tree whose root has the number i, by their numbers
unfoldable mutual
  unfolding mean_of filter_of entries_of roots size

  pub nodes_from : Splitting → List (List Float) → Entries → ℕ → Tree → List Node
  nodes_from s vectors e i (leaf ids) =
      record {
        centroid = mean_of s.dimension vectors ids;
        children = [];
        ids = ids;
        entries = entries_of e ids;
        filter = filter_of e ids;
      }
      ∷ []
  nodes_from s vectors e i (inner ids children) =
      record {
        centroid = mean_of s.dimension vectors ids;
        children = roots (suc i) children;
        ids = [];
        entries = [];
        filter = filter_of e ids;
      }
      ∷ forest_nodes s vectors e (suc i) children

  pub forest_nodes : Splitting → List (List Float) → Entries → ℕ → Forest → List Node
  forest_nodes s vectors e i none = []
  forest_nodes s vectors e i (more tree rest) = nodes_from s vectors e i tree ++ forest_nodes s vectors e (i + size tree) rest

-- the nodes of an index
unfoldable pub nodes_of : Splitting → List (List Float) → Entries → List Node
unfolding nodes_from tree_of
nodes_of s vectors e = nodes_from s vectors e 0 (tree_of s vectors)
