-- The tree of document 01's worked example, of one vector at leaf size 0, which has 17 nodes, and an empty cluster.
use Rattle.std.specs.Prelude.{[], ◌∷◌, map, ◌≡◌, refl}
use Rattle.std.specs.Float.{binary32}
use Rattle.std.specs.Float.Ieee.{of_bits}
use Rattle.cluster.specs.Trials.{sample}
use Rattle.tree.specs.Tree.{Splitting, groups, tree_of, size, sizes, leaf, inner, none, more}

-- 'D 2, B 2, leaf size 1'
abbrev pub two : Splitting
two = record { dimension = 2; branching = 2; leaf_size = 1 }

pub shape : tree_of two sample ≡ inner (0 ∷ 1 ∷ 2 ∷ []) (more (leaf (0 ∷ [])) (more (inner (1 ∷ 2 ∷ []) (more (leaf (1 ∷ [])) (more (leaf (2 ∷ [])) none))) none))
unfolding tree_of sample
shape = refl

pub seventeen_nodes : size (tree_of (record { dimension = 2; branching = 2; leaf_size = 0 }) (map (map (of_bits binary32)) ((0x3F800000 ∷ 0 ∷ []) ∷ []))) ≡ 17
unfolding tree_of size sizes of_bits
seventeen_nodes = refl

-- Two vectors alike go to the first centre: the second cluster is empty and no child.
pub one_child : groups two (map (map (of_bits binary32)) ((0x3F800000 ∷ 0 ∷ []) ∷ (0x3F800000 ∷ 0 ∷ []) ∷ [])) (0 ∷ 1 ∷ []) ≡ (0 ∷ 1 ∷ []) ∷ []
unfolding groups of_bits
one_child = refl
