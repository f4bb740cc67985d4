-- Document 01, 'Tree': how the ids of an index are split into nodes.
use Rattle.std.specs.Prelude.{ℕ, zero, suc, ◌+◌, cond, List, [], ◌∷◌, leb, ltb, Float, length}
use Rattle.lists.specs.Lists.{keep, count_from}
use Rattle.cluster.specs.Clusters.{clusters}

-- A tree keeps at each node the ids below it, and at an inner node its children in order.
mutual
  pub data Tree : Type 0 where
    leaf : List ℕ → Tree
    inner : List ℕ → Forest → Tree

  pub data Forest : Type 0 where
    none : Forest
    more : Tree → Forest → Forest

-- what a tree is made with: 'dimension D', `branching_factor` and `max_leaf_size`
pub record Splitting : Type 0 where
  pub dimension : ℕ
  pub branching : ℕ
  pub leaf_size : ℕ

-- 'Non-empty clusters become children in order'
unfoldable pub groups : Splitting → List (List Float) → List ℕ → List (List ℕ)
unfolding clusters keep
groups s vectors ids = keep (λ cluster. ltb 0 (length cluster)) (clusters s.dimension s.branching vectors ids)

-- the trees of the groups, each made by a function of its ids
unfoldable pub forest_of : (List ℕ → Tree) → List (List ℕ) → Forest
forest_of grow [] = none
forest_of grow (ids ∷ rest) = more (grow ids) (forest_of grow rest)

-- 'A node is a leaf exactly if it has at most `max_leaf_size` ids or depth above 15; the root has depth 0.' The first argument is how many more
-- levels may be split: 16 at the root, so that it is 0 exactly at the depths above 15.
unfoldable pub grow : Splitting → List (List Float) → ℕ → List ℕ → Tree
unfolding forest_of groups
grow s vectors zero ids = leaf ids
grow s vectors (suc levels) ids =
    let children = forest_of (grow s vectors levels) (groups s vectors ids) in
    cond (leb (length ids) s.leaf_size) (leaf ids) (inner ids children)

-- the tree over all vectors of an index, whose ids are 0, 1, and so on
unfoldable pub tree_of : Splitting → List (List Float) → Tree
unfolding grow count_from
tree_of s vectors = grow s vectors 16 (count_from 0 (length vectors))

-- how many nodes a tree has
unfoldable mutual
  pub size : Tree → ℕ
  size (leaf ids) = 1
  size (inner ids children) = suc (sizes children)

  pub sizes : Forest → ℕ
  sizes none = 0
  sizes (more tree rest) = size tree + sizes rest
