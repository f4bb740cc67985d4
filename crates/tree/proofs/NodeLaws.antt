-- Laws of the nodes of a tree: how many there are, the ids of their leaves, and their children's numbers.
use Rattle.std.specs.Prelude.{ℕ, zero, suc, ◌+◌, ◌-◌, ◌*◌, ◌≤◌, ◌<◌, ◌≡◌, refl, ◌⊎◌, Float, length, get_or}
use Rattle.std.proofs.Common.{sym, ap, ap₂, ◌∙◌, inl, inr, not-suc-le-zero, le_of_suc-le-suc, arith, length-append}
use mathlib.Core.List.Memᴰ
use mathlib.Core.List.{List, [], ◌∷◌, ◌++◌, append-nil, append_assoc, Memᴰ}
use Rattle.lists.specs.Lists.{joined, count_from}
use Rattle.lists.specs.Counting.{get_d_Memᴰ, Memᴰ-count_from, count_from-cons, count_from-append, length-count_from, joined-append, joined-Memᴰ}
use Rattle.lists.specs.Partition.{List-as-Permᴰ, List·Permᴰ·nil, List·Permᴰ·cons, List·Permᴰ·trans, Permᴰ·append-right, List·Permᴰ·append-comm, perm_of_eq, perm_append, perm_length, perm_Memᴰ, count, Memᴰ-count, count-append, once_perm, once-count_from}
use Rattle.tree.specs.Tree.{Tree, Forest, leaf, inner, none, more, Splitting, tree_of, size, sizes}
use Rattle.tree.specs.Nodes.{Entries, Node, nodes_from, forest_nodes, nodes_of, roots}
use Rattle.tree.proofs.TreeLaws.{leaf_ids, forest_ids, perm_tree_of, size-some, size-tree_of}

-- ---- how many nodes, and their ids

-- a number that is at most once in the joined lists is in one of them
pub one_list : {B : Type 0} (x : ℕ) (f : B → List ℕ) (l : List B) (i j : ℕ) (d : B) → count x (joined f l) ≤ 1 → i < length l → j < length l
    → Memᴰ x (f (get_or l i d)) → Memᴰ x (f (get_or l j d)) → i ≡ j
unfolding joined
one_list x f [] i j d h a b m n = absurd (not-suc-le-zero a)
one_list x f (y ∷ l) zero zero d h a b m n = refl
one_list x f (y ∷ l) zero (suc j) d h a b m n =
    let c = count-append x (f y) (joined f l) in
    let p = Memᴰ-count m in
    let q = Memᴰ-count (joined-Memᴰ f x (get_d_Memᴰ l j d (le_of_suc-le-suc b)) n) in
    absurd (omega arith)
one_list x f (y ∷ l) (suc i) zero d h a b m n =
    let c = count-append x (f y) (joined f l) in
    let p = Memᴰ-count n in
    let q = Memᴰ-count (joined-Memᴰ f x (get_d_Memᴰ l i d (le_of_suc-le-suc a)) m) in
    absurd (omega arith)
one_list x f (y ∷ l) (suc i) (suc j) d h a b m n =
    let c = count-append x (f y) (joined f l) in
    ap suc (one_list x f l i j d (omega arith) (le_of_suc-le-suc a) (le_of_suc-le-suc b) m n)

module _ (s : Splitting) (vectors : List (List Float)) (e : Entries) where
  mutual
    unfolding nodes_from forest_nodes size sizes

    pub length-nodes_from : (i : ℕ) (t : Tree) → length (nodes_from s vectors e i t) ≡ size t
    length-nodes_from i (leaf ids) = refl
    length-nodes_from i (inner ids children) = ap suc (length-forest_nodes (suc i) children)

    pub length-forest_nodes : (i : ℕ) (f : Forest) → length (forest_nodes s vectors e i f) ≡ sizes f
    length-forest_nodes i none = refl
    length-forest_nodes i (more tree rest) =
        length-append (nodes_from s vectors e i tree) (forest_nodes s vectors e (i + size tree) rest)
        ∙ ap₂ (λ (a b : ℕ). a + b) (length-nodes_from i tree) (length-forest_nodes (i + size tree) rest)

  pub length-nodes_of : length (nodes_of s vectors e) ≡ size (tree_of s vectors)
  unfolding nodes_of
  length-nodes_of = length-nodes_from 0 (tree_of s vectors)

  -- the leaf order: the ids of the nodes, by node number, are those of the leaves, left to right
  mutual
    unfolding nodes_from forest_nodes joined leaf_ids forest_ids

    pub ids-nodes_from : (i : ℕ) (t : Tree) → joined (λ node. node.ids) (nodes_from s vectors e i t) ≡ leaf_ids t
    ids-nodes_from i (leaf ids) = append-nil ids
    ids-nodes_from i (inner ids children) = ids-forest_nodes (suc i) children

    pub ids-forest_nodes : (i : ℕ) (f : Forest) → joined (λ node. node.ids) (forest_nodes s vectors e i f) ≡ forest_ids f
    ids-forest_nodes i none = refl
    ids-forest_nodes i (more tree rest) =
        joined-append (λ node. node.ids) (nodes_from s vectors e i tree) (forest_nodes s vectors e (i + size tree) rest)
        ∙ ap₂ (λ (a b : List ℕ). a ++ b) (ids-nodes_from i tree) (ids-forest_nodes (i + size tree) rest)

  -- every id is in exactly one leaf
  pub perm_ids : 1 ≤ s.branching → List-as-Permᴰ (joined (λ node. node.ids) (nodes_of s vectors e)) (count_from 0 (length vectors))
  unfolding nodes_of
  perm_ids b = List·Permᴰ·trans (perm_of_eq (ids-nodes_from 0 (tree_of s vectors))) (perm_tree_of s vectors b)

  pub length_ids : 1 ≤ s.branching → length (joined (λ node. node.ids) (nodes_of s vectors e)) ≡ length vectors
  length_ids b = perm_length (perm_ids b) ∙ length-count_from 0 (length vectors)

  -- an id in a leaf is below the number of vectors
  pub id_below : 1 ≤ s.branching → (node : Node) (id : ℕ) → Memᴰ node (nodes_of s vectors e) → Memᴰ id node.ids → id < length vectors
  id_below b node id m n =
      let r = Memᴰ-count_from id 0 (length vectors) (perm_Memᴰ (perm_ids b) (joined-Memᴰ (λ node. node.ids) id m n)) in omega (arith, r.1)

  -- no id is in two leaves
  pub id_one_leaf : 1 ≤ s.branching → (x i j : ℕ) (d : Node) → i < length (nodes_of s vectors e) → j < length (nodes_of s vectors e)
      → Memᴰ x (get_or (nodes_of s vectors e) i d).ids → Memᴰ x (get_or (nodes_of s vectors e) j d).ids → i ≡ j
  id_one_leaf b x i j d =
      one_list x (λ node. node.ids) (nodes_of s vectors e) i j d
      (once_perm (joined (λ node. node.ids) (nodes_of s vectors e)) (count_from 0 (length vectors)) (perm_ids b)
      (once-count_from 0 (length vectors)) x)

-- ---- children's numbers

-- the trees of a forest in order
unfoldable pub trees_of : Forest → List Tree
trees_of none = []
trees_of (more tree rest) = tree ∷ trees_of rest

-- a child's number is one of the forest's
pub root_range : (i : ℕ) (f : Forest) (c : ℕ) → Memᴰ c (roots i f) → (i ≤ c) × (c < i + sizes f)
unfolding roots sizes
root_range i none c m = absurd (Memᴰ.not-nil m)
root_range i (more tree rest) c m = go (Memᴰ.cases_cons m) (root_range (i + size tree) rest c)
  where
    some : 1 ≤ size tree
    some = size-some tree

    go : (c ≡ i) ⊎ Memᴰ c (roots (i + size tree) rest) → (Memᴰ c (roots (i + size tree) rest) → (i + size tree ≤ c) × (c < i + size tree + sizes rest))
        → (i ≤ c) × (c < i + (size tree + sizes rest))
    go (inl q) later = (omega (arith, q), omega (arith, q, some))
    go (inr n) later = let r = later n in (omega (arith, r.0), omega (arith, r.1))

pub length-roots : (i : ℕ) (f : Forest) → length (roots i f) ≡ length (trees_of f)
unfolding roots trees_of
length-roots i none = refl
length-roots i (more tree rest) = ap suc (length-roots (i + size tree) rest)

-- The numbers of a tree of size n at i, and behind it those of the other trees: i, the tree's children and the other roots and children.
perm_more : (i n m : ℕ) (others first later : List ℕ) → 1 ≤ n → List-as-Permᴰ first (count_from (suc i) (n - 1))
    → List-as-Permᴰ (others ++ later) (count_from (i + n) m) → List-as-Permᴰ (i ∷ (others ++ (first ++ later))) (count_from i (n + m))
perm_more i n m others first later h p q =
    let k : suc (n - 1) ≡ n = omega arith in
    let swapped : List-as-Permᴰ (others ++ (first ++ later)) (first ++ (others ++ later)) =
    List·Permᴰ·trans (perm_of_eq (sym (append_assoc others first later)))
    (List·Permᴰ·trans (Permᴰ·append-right later (List·Permᴰ·append-comm others first)) (perm_of_eq (append_assoc first others later)))
    in
    List·Permᴰ·trans (List·Permᴰ·cons refl (List·Permᴰ·trans swapped (perm_append p q)))
    (perm_of_eq
    (ap (λ (r : List ℕ). r ++ count_from (i + n) m) (sym (count_from-cons i (n - 1)) ∙ ap (count_from i) k) ∙ sym (count_from-append i n m)))

module _ (s : Splitting) (vectors : List (List Float)) (e : Entries) where
  mutual
    unfolding nodes_from forest_nodes joined roots size sizes count_from

    -- each node but the root is the child of exactly one node
    pub perm_children : (i : ℕ) (t : Tree)
        → List-as-Permᴰ (joined (λ node. node.children) (nodes_from s vectors e i t)) (count_from (suc i) (size t - 1))
    perm_children i (leaf ids) = List·Permᴰ·nil
    perm_children i (inner ids children) = let n : suc (sizes children) - 1 ≡ sizes children = omega arith in rw n (perm_roots (suc i) children)

    perm_roots : (i : ℕ) (f : Forest)
        → List-as-Permᴰ (roots i f ++ joined (λ node. node.children) (forest_nodes s vectors e i f)) (count_from i (sizes f))
    perm_roots i none = List·Permᴰ·nil
    perm_roots i (more tree rest) =
        List·Permᴰ·trans
        (perm_of_eq
        (ap (λ (r : List ℕ). i ∷ (roots (i + size tree) rest ++ r))
        (joined-append (λ node. node.children) (nodes_from s vectors e i tree) (forest_nodes s vectors e (i + size tree) rest))))
        (perm_more i (size tree) (sizes rest) (roots (i + size tree) rest) (joined (λ node. node.children) (nodes_from s vectors e i tree))
        (joined (λ node. node.children) (forest_nodes s vectors e (i + size tree) rest)) (size-some tree) (perm_children i tree)
        (perm_roots (i + size tree) rest))

  pub perm_links : List-as-Permᴰ (joined (λ node. node.children) (nodes_of s vectors e)) (count_from 1 (size (tree_of s vectors) - 1))
  unfolding nodes_of
  perm_links = perm_children 0 (tree_of s vectors)

  -- every node but the root has a link
  pub length-links : length (joined (λ node. node.children) (nodes_of s vectors e)) ≡ size (tree_of s vectors) - 1
  length-links = perm_length perm_links ∙ length-count_from 1 (size (tree_of s vectors) - 1)

  -- the node count is at most 16 n + 1
  pub nodes-bound : 1 ≤ s.branching → length (nodes_of s vectors e) ≤ 16 * length vectors + 1
  nodes-bound b = let n = length-nodes_of s vectors e in let h = size-tree_of s vectors b in omega arith
