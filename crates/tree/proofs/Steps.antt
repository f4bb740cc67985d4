-- The tree made node by node, in the order of the numbers. A group waits to become a node: its ids, and how many more levels may be split.
-- The nodes of a group and of those that wait behind it are the group's node and then those of its children's groups and of the rest.
use Prim.Native.Nat.{ℕ, zero, suc, ◌≤◌}
use Rattle.std.specs.Prelude.{◌≡◌, ◌⊎◌, Bool, leb, Float}
use Rattle.std.proofs.Math.Path.{refl, sym, ap, ap₂}
use Rattle.std.proofs.Common.{◌∙◌, inl, inr, arith, leb-true, leb-false, length-append}
use Rattle.std.proofs.Math.Bool.{true, false, cond}
use Rattle.std.proofs.lemmas.Bool.{false≢true}
use mathlib.Core.List.{List, [], ◌∷◌, ◌++◌, map, map-append, append-nil}
use Rattle.std.proofs.Math.ListN.{length, length-map}
use Rattle.lists.specs.Lists.{joined, count_from}
use Rattle.lists.specs.Counting.{joined-append, joined-map}
use Rattle.lists.specs.Tests.{which}
use Rattle.lists.specs.Partition.{List-as-Permᴰ, List·Permᴰ·trans, perm_of_eq}
use Rattle.cluster.specs.Clusters.{clusters, mean_of}
use Rattle.cluster.specs.ClustersLaws.{perm_clusters}
use Rattle.tree.specs.Tree.{Tree, Forest, leaf, inner, none, more, Splitting, groups, forest_of, grow, tree_of, size}
use Rattle.tree.specs.Nodes.{Entries, Node, nodes_of}
use Rattle.tree.proofs.TreeLaws.{kept-grow, grow-zero, grow_leaf, grow_inner, joined-groups}
use Rattle.tree.proofs.NodeLaws.{trees_of, length-roots}
use Rattle.tree.proofs.Subtrees.{subs, forest_subs, length-subs, children_of, own_ids}
use Rattle.tree.proofs.NumberedNodes.{root_node, numbered, map-numbered, nodes-numbered}

-- A group of ids that waits to become a node, and how many more levels may be split: 16 at the root.
pub record Group : Type 0 where
  pub levels : ℕ
  pub ids : List ℕ

-- whether a group becomes a leaf: 'at most `max_leaf_size` ids or depth above 15'
unfoldable pub is_leaf : Splitting → ℕ → List ℕ → Bool
is_leaf s zero ids = true
is_leaf s (suc levels) ids = leb (length ids) s.leaf_size

-- the children's groups of an inner node with a number of levels, each with one level fewer
unfoldable pub split_group : Splitting → List (List Float) → ℕ → List ℕ → List Group
unfolding groups
split_group s vectors zero ids = []
split_group s vectors (suc levels) ids = map (λ group. record { levels = levels; ids = group }) (groups s vectors ids)

-- the children's groups of a group's node; a leaf has none
unfoldable pub child_groups : Splitting → List (List Float) → Group → List Group
unfolding is_leaf split_group
child_groups s vectors g = let below = split_group s vectors g.levels g.ids in cond (is_leaf s g.levels g.ids) [] below

-- the groups that become nodes below and at a group, one for each node, by node number
unfoldable pub groups_from : Splitting → List (List Float) → ℕ → List ℕ → List Group
unfolding groups joined
groups_from s vectors zero ids = record { levels = zero; ids = ids } ∷ []
groups_from s vectors (suc levels) ids =
    let below = joined (groups_from s vectors levels) (groups s vectors ids) in
    record { levels = suc levels; ids = ids } ∷ cond (leb (length ids) s.leaf_size) [] below

-- the groups that become nodes, one for each node, in the order in which the nodes are made, while a list of groups waits
unfoldable pub made : Splitting → List (List Float) → List Group → List Group
unfolding joined groups_from
made s vectors waiting = joined (λ g. groups_from s vectors g.levels g.ids) waiting

-- the tree of a group
abbrev pub grown_tree : Splitting → List (List Float) → Group → Tree
grown_tree s vectors g = grow s vectors g.levels g.ids

module _ (s : Splitting) (vectors : List (List Float)) where
  pub child_groups_leaf : (g : Group) → is_leaf s g.levels g.ids ≡ true → child_groups s vectors g ≡ []
  unfolding child_groups
  child_groups_leaf g h = ap (λ (b : Bool). cond b [] (split_group s vectors g.levels g.ids)) h

  pub child_groups-split : (g : Group) → is_leaf s g.levels g.ids ≡ false → child_groups s vectors g ≡ split_group s vectors g.levels g.ids
  unfolding child_groups
  child_groups-split g h = ap (λ (b : Bool). cond b [] (split_group s vectors g.levels g.ids)) h

  -- ---- the law of the loop

  pub made_none : made s vectors [] ≡ []
  unfolding made
  made_none = refl

  pub made-append : (xs ys : List Group) → made s vectors (xs ++ ys) ≡ made s vectors xs ++ made s vectors ys
  unfolding made
  made-append xs ys = joined-append (λ g. groups_from s vectors g.levels g.ids) xs ys

  made-split : (levels : ℕ) (l : List (List ℕ)) → made s vectors (map (λ group. record { levels = levels; ids = group }) l) ≡ joined (groups_from s vectors levels) l
  unfolding made
  made-split levels l = joined-map (λ g. groups_from s vectors g.levels g.ids) (λ group. record { levels = levels; ids = group }) l

  made-cond : (b : Bool) (l m : List Group) → l ≡ made s vectors m → cond b [] l ≡ made s vectors (cond b [] m)
  made-cond true l m h = sym made_none
  made-cond false l m h = h

  -- the groups below a group are made of its children's groups
  groups_from-cons : (levels : ℕ) (ids : List ℕ)
      → groups_from s vectors levels ids ≡ record { levels = levels; ids = ids } ∷ made s vectors (child_groups s vectors (record { levels = levels; ids = ids }))
  unfolding groups_from child_groups
  groups_from-cons zero ids = ap (λ (r : List Group). record { levels = zero; ids = ids } ∷ r) (sym made_none)
  groups_from-cons (suc levels) ids =
      ap (λ (r : List Group). record { levels = suc levels; ids = ids } ∷ r)
      (made-cond (leb (length ids) s.leaf_size) (joined (groups_from s vectors levels) (groups s vectors ids))
      (map (λ group. record { levels = levels; ids = group }) (groups s vectors ids)) (sym (made-split levels (groups s vectors ids))))

  -- What is made while a group waits with others behind it: its node, and then what is made while its children's groups wait with those behind them.
  pub made-cons : (g : Group) (rest : List Group) → made s vectors (g ∷ rest) ≡ g ∷ made s vectors (child_groups s vectors g ++ rest)
  unfolding made
  made-cons g rest =
      ap (λ (r : List Group). r ++ made s vectors rest) (groups_from-cons g.levels g.ids)
      ∙ ap (λ (r : List Group). g ∷ r) (sym (made-append (child_groups s vectors g) rest))

  pub made_one : (g : Group) → made s vectors (g ∷ []) ≡ groups_from s vectors g.levels g.ids
  unfolding made joined
  made_one g = append-nil (groups_from s vectors g.levels g.ids)

  -- each group that waits becomes a node
  pub made-waiting : (waiting : List Group) → length waiting ≤ length (made s vectors waiting)
  made-waiting [] = omega arith
  made-waiting (g ∷ rest) =
      let e = ap (λ (l : List Group). length l) (made-cons g rest) in
      let a = ap (λ (l : List Group). length l) (made-append (child_groups s vectors g) rest) in
      let b = length-append (made s vectors (child_groups s vectors g)) (made s vectors rest) in
      let h = made-waiting rest in
      omega arith

  -- ---- the tree of a group

  subs-cond : (b : Bool) (t : Tree) (ids : List ℕ) (f : Forest) (l : List Group) → t ≡ cond b (leaf ids) (inner ids f) → forest_subs f ≡ map (grown_tree s vectors) l
      → subs t ≡ t ∷ map (grown_tree s vectors) (cond b [] l)
  unfolding subs
  subs-cond true t ids f l e h = ap subs e ∙ ap (λ (r : Tree). r ∷ []) (sym e)
  subs-cond false t ids f l e h = ap subs e ∙ ap₂ ◌∷◌ (sym e) h

  subs_forest : (levels : ℕ) (l : List (List ℕ)) → ((ids : List ℕ) → subs (grow s vectors levels ids) ≡ map (grown_tree s vectors) (groups_from s vectors levels ids))
      → forest_subs (forest_of (grow s vectors levels) l) ≡ map (grown_tree s vectors) (joined (groups_from s vectors levels) l)
  unfolding forest_of forest_subs joined
  subs_forest levels [] h = refl
  subs_forest levels (ids ∷ l) h =
      ap₂ (λ (a b : List Tree). a ++ b) (h ids) (subs_forest levels l h)
      ∙ sym (map-append (grown_tree s vectors) (groups_from s vectors levels ids) (joined (groups_from s vectors levels) l))

  subs-groups_from : (levels : ℕ) (ids : List ℕ) → subs (grow s vectors levels ids) ≡ map (grown_tree s vectors) (groups_from s vectors levels ids)
  unfolding grow subs groups_from
  subs-groups_from zero ids = refl
  subs-groups_from (suc levels) ids =
      subs-cond (leb (length ids) s.leaf_size) (grow s vectors (suc levels) ids) ids (forest_of (grow s vectors levels) (groups s vectors ids))
      (joined (groups_from s vectors levels) (groups s vectors ids)) refl (subs_forest levels (groups s vectors ids) (subs-groups_from levels))

  -- What is made of one group is, in order, the subtrees of its tree.
  pub subs-made : (g : Group) → subs (grown_tree s vectors g) ≡ map (grown_tree s vectors) (made s vectors (g ∷ []))
  subs-made g = subs-groups_from g.levels g.ids ∙ ap (map (grown_tree s vectors)) (sym (made_one g))

  pub length-made : (g : Group) → length (made s vectors (g ∷ [])) ≡ size (grown_tree s vectors g)
  length-made g =
      sym (length-map (made s vectors (g ∷ [])) (grown_tree s vectors)) ∙ ap (λ (l : List Tree). length l) (sym (subs-made g)) ∙ length-subs (grown_tree s vectors g)

  -- the group of the root
  abbrev pub root_group : Group
  root_group = record { levels = 16; ids = count_from 0 (length vectors) }

  -- ---- a group's node

  -- the trees of a list of groups
  unfoldable pub forest_grown : List Group → Forest
  forest_grown [] = none
  forest_grown (g ∷ rest) = more (grown_tree s vectors g) (forest_grown rest)

  trees_of-grown : (l : List Group) → trees_of (forest_grown l) ≡ map (grown_tree s vectors) l
  unfolding forest_grown trees_of
  trees_of-grown [] = refl
  trees_of-grown (g ∷ rest) = ap (λ (r : List Tree). grown_tree s vectors g ∷ r) (trees_of-grown rest)

  forest_of-grown : (levels : ℕ) (l : List (List ℕ))
      → forest_of (grow s vectors levels) l ≡ forest_grown (map (λ group. record { levels = levels; ids = group }) l)
  unfolding forest_of forest_grown
  forest_of-grown levels [] = refl
  forest_of-grown levels (ids ∷ l) = ap (λ (r : Forest). more (grow s vectors levels ids) r) (forest_of-grown levels l)

  -- a group's tree is a leaf, or an inner node over the trees of its children's groups
  pub grown_leaf : (g : Group) → is_leaf s g.levels g.ids ≡ true → grown_tree s vectors g ≡ leaf g.ids
  unfolding is_leaf
  grown_leaf g = go g.levels g.ids
    where
      go : (levels : ℕ) (ids : List ℕ) → is_leaf s levels ids ≡ true → grow s vectors levels ids ≡ leaf ids
      go zero ids h = grow-zero s vectors ids
      go (suc levels) ids h = grow_leaf s vectors (suc levels) ids (leb-true (length ids) s.leaf_size h)

  pub grown_inner : (g : Group) → is_leaf s g.levels g.ids ≡ false → grown_tree s vectors g ≡ inner g.ids (forest_grown (child_groups s vectors g))
  unfolding is_leaf split_group
  grown_inner g h = go g.levels g.ids h ∙ ap (λ (l : List Group). inner g.ids (forest_grown l)) (sym (child_groups-split g h))
    where
      go : (levels : ℕ) (ids : List ℕ) → is_leaf s levels ids ≡ false → grow s vectors levels ids ≡ inner ids (forest_grown (split_group s vectors levels ids))
      go zero ids h = absurd (false≢true (sym h))
      go (suc levels) ids h =
          grow_inner s vectors levels ids (leb-false (length ids) s.leaf_size h)
          ∙ ap (inner ids) (forest_of-grown levels (groups s vectors ids))

  -- the ids at a group's node, and the trees of its children
  pub own-grown : (g : Group) → own_ids (grown_tree s vectors g) ≡ cond (is_leaf s g.levels g.ids) g.ids []
  unfolding own_ids
  own-grown g = go (which (is_leaf s g.levels g.ids))
    where
      go : (is_leaf s g.levels g.ids ≡ true) ⊎ (is_leaf s g.levels g.ids ≡ false) → own_ids (grown_tree s vectors g) ≡ cond (is_leaf s g.levels g.ids) g.ids []
      go (inl h) = ap own_ids (grown_leaf g h) ∙ ap (λ (b : Bool). cond b g.ids []) (sym h)
      go (inr h) = ap own_ids (grown_inner g h) ∙ ap (λ (b : Bool). cond b g.ids []) (sym h)

  pub children-grown : (g : Group) → trees_of (children_of (grown_tree s vectors g)) ≡ map (grown_tree s vectors) (child_groups s vectors g)
  unfolding children_of trees_of
  children-grown g = go (which (is_leaf s g.levels g.ids))
    where
      go : (is_leaf s g.levels g.ids ≡ true) ⊎ (is_leaf s g.levels g.ids ≡ false)
          → trees_of (children_of (grown_tree s vectors g)) ≡ map (grown_tree s vectors) (child_groups s vectors g)
      go (inl h) = ap (λ (t : Tree). trees_of (children_of t)) (grown_leaf g h) ∙ ap (map (grown_tree s vectors)) (sym (child_groups_leaf g h))
      go (inr h) = ap (λ (t : Tree). trees_of (children_of t)) (grown_inner g h) ∙ trees_of-grown (child_groups s vectors g)

  -- ---- a split

  -- A split puts the clusters, in order, in the group's place.
  pub split-ids : (g : Group) → is_leaf s g.levels g.ids ≡ false
      → joined (λ child. child.ids) (child_groups s vectors g) ≡ joined (λ cluster. cluster) (clusters s.dimension s.branching vectors g.ids)
  unfolding is_leaf split_group
  split-ids g h = ap (joined (λ child. child.ids)) (child_groups-split g h) ∙ go g.levels g.ids h
    where
      go : (levels : ℕ) (ids : List ℕ) → is_leaf s levels ids ≡ false
          → joined (λ child. child.ids) (split_group s vectors levels ids) ≡ joined (λ cluster. cluster) (clusters s.dimension s.branching vectors ids)
      go zero ids h = absurd (false≢true (sym h))
      go (suc levels) ids h =
          joined-map (λ child. child.ids) (λ group. record { levels = levels; ids = group }) (groups s vectors ids) ∙ joined-groups s vectors ids

  pub split_perm : 1 ≤ s.branching → (g : Group) → is_leaf s g.levels g.ids ≡ false
      → List-as-Permᴰ (joined (λ child. child.ids) (child_groups s vectors g)) g.ids
  split_perm b g h =
      List·Permᴰ·trans (perm_of_eq (split-ids g h)) (perm_clusters s.dimension s.branching vectors g.ids b)

-- ---- nodes from what is made

numbered-map {ℓ κ μ} : {A : Type ℓ} {B : Type κ} {C : Type μ} (f : ℕ → B → C) (g : A → B) (i : ℕ) (l : List A)
    → numbered f i (map g l) ≡ numbered (λ k x. f k (g x)) i l
unfolding numbered
numbered-map f g i [] = refl
numbered-map f g i (x ∷ xs) = ap (λ r. f i (g x) ∷ r) (numbered-map f g (suc i) xs)

module _ (s : Splitting) (vectors : List (List Float)) (e : Entries) where
  -- The nodes are, in order, those of the groups that are made. What a node shows whatever its number is told by its group.
  pub nodes-made : nodes_of s vectors e ≡ numbered (λ k g. root_node s vectors e k (grown_tree s vectors g)) 0 (made s vectors (root_group s vectors ∷ []))
  unfolding nodes_of tree_of
  nodes-made =
      nodes-numbered s vectors e 0 (tree_of s vectors)
      ∙ ap (numbered (root_node s vectors e) 0) (subs-made s vectors (root_group s vectors))
      ∙ numbered-map (root_node s vectors e) (grown_tree s vectors) 0 (made s vectors (root_group s vectors ∷ []))

  pub map-made {ℓ} : {C : Type ℓ} (f : Node → C) (h : Group → C) → ((k : ℕ) (g : Group) → f (root_node s vectors e k (grown_tree s vectors g)) ≡ h g)
      → map f (nodes_of s vectors e) ≡ map h (made s vectors (root_group s vectors ∷ []))
  map-made f h q =
      ap (map f) nodes-made ∙ map-numbered f h (λ k g. root_node s vectors e k (grown_tree s vectors g)) 0 (made s vectors (root_group s vectors ∷ [])) q

  pub made-ids : map (λ node. node.ids) (nodes_of s vectors e)
      ≡ map (λ g. cond (is_leaf s g.levels g.ids) g.ids []) (made s vectors (root_group s vectors ∷ []))
  unfolding root_node
  made-ids = map-made (λ node. node.ids) (λ g. cond (is_leaf s g.levels g.ids) g.ids []) (λ k g. own-grown s vectors g)

  pub made_counts : map (λ node. length node.children) (nodes_of s vectors e)
      ≡ map (λ g. length (child_groups s vectors g)) (made s vectors (root_group s vectors ∷ []))
  unfolding root_node
  made_counts =
      map-made (λ node. length node.children) (λ g. length (child_groups s vectors g))
      (λ k g.
      length-roots (suc k) (children_of (grown_tree s vectors g))
      ∙ ap (λ (l : List Tree). length l) (children-grown s vectors g)
      ∙ length-map (child_groups s vectors g) (grown_tree s vectors))

  pub made-centroids : map (λ node. node.centroid) (nodes_of s vectors e)
      ≡ map (λ g. mean_of s.dimension vectors g.ids) (made s vectors (root_group s vectors ∷ []))
  unfolding root_node
  made-centroids =
      map-made (λ node. node.centroid) (λ g. mean_of s.dimension vectors g.ids)
      (λ k g. ap (mean_of s.dimension vectors) (kept-grow s vectors g.levels g.ids))
