-- The nodes of a tree by their numbers: the node with number i shows what the i-th subtree, parent first, says. So a fact about every subtree is a
-- fact about every node number.
use Prim.Native.Nat.{ℕ, zero, suc, ◌+◌, ◌≤◌, ◌<◌}
use Rattle.std.specs.Prelude.{◌≡◌, ◌⊎◌, Float}
use Rattle.std.proofs.Math.Path.{refl, sym, ap, ap₂, subst}
use Rattle.std.proofs.Common.{◌∙◌, inl, inr, zero-add, add-zero, not-suc-le-zero, le_of_suc-le-suc}
use mathlib.Core.List.Memᴰ
use mathlib.Core.List.{List, [], ◌∷◌, ◌++◌, map, map-map, Memᴰ}
use native.Mathlib.Omega.{arith}
use Rattle.std.proofs.Math.ListN.{length, get_or}
use Rattle.lists.specs.Maps.{map_on}
use Rattle.lists.specs.Counting.{get_d_Memᴰ}
use Rattle.bloom.specs.Filter.{empty_filter, insert_all, union_all}
use Rattle.cluster.specs.Clusters.{mean_of}
use Rattle.tree.specs.Tree.{Tree, Forest, leaf, inner, none, more, Splitting, tree_of, size}
use Rattle.tree.specs.Nodes.{Entries, Node, nodes_from, forest_nodes, nodes_of, roots, entries_of, filter_of}
use Rattle.tree.proofs.TreeLaws.{kept_ids, Fair, fair_tree_of}
use Rattle.cluster.specs.ClustersLaws.{length-mean_of}
use Rattle.tree.proofs.NodeLaws.{trees_of, length-nodes_of}
use Rattle.tree.proofs.NodeEntryLaws.{entries_of-nil}
use Rattle.tree.proofs.NodeFilterLaws.{length-filter_of, filter_of-nil, filter_of-children}
use Rattle.tree.proofs.Subtrees.{subs, forest_subs, length-subs, children_of, own_ids, subs-children, child_range, fair_sub}

-- ---- nodes by their numbers

-- what the node with a number shows, by its subtree alone
unfoldable pub root_node : Splitting → List (List Float) → Entries → ℕ → Tree → Node
unfolding kept_ids own_ids children_of roots
root_node s vectors e i t =
    record {
      centroid = mean_of s.dimension vectors (kept_ids t);
      children = roots (suc i) (children_of t);
      ids = own_ids t;
      entries = entries_of e (own_ids t);
      filter = filter_of e (kept_ids t);
    }

-- a function of a number and an element, over a list whose first element has a number
unfoldable pub numbered {ℓ κ} : {A : Type ℓ} {B : Type κ} → (ℕ → A → B) → ℕ → List A → List B
numbered f i [] = []
numbered f i (x ∷ xs) = f i x ∷ numbered f (suc i) xs

module _ {ℓ κ} {A : Type ℓ} {B : Type κ} where
  pub numbered-append : (f : ℕ → A → B) (i : ℕ) (xs ys : List A) → numbered f i (xs ++ ys) ≡ numbered f i xs ++ numbered f (i + length xs) ys
  unfolding numbered
  numbered-append f i [] ys = ap (λ (n : ℕ). numbered f n ys) (sym (add-zero i))
  numbered-append f i (x ∷ xs) ys =
      let e : suc i + length xs ≡ i + suc (length xs) = omega arith in
      ap (λ (r : List B). f i x ∷ r) (numbered-append f (suc i) xs ys ∙ ap (λ (n : ℕ). numbered f (suc i) xs ++ numbered f n ys) e)

  pub get_d_numbered : (f : ℕ → A → B) (i : ℕ) (l : List A) (k : ℕ) (d : B) (d' : A) → k < length l → get_or (numbered f i l) k d ≡ f (i + k) (get_or l k d')
  unfolding numbered
  get_d_numbered f i [] k d d' h = absurd (not-suc-le-zero h)
  get_d_numbered f i (x ∷ xs) zero d d' h = ap (λ (n : ℕ). f n x) (sym (add-zero i))
  get_d_numbered f i (x ∷ xs) (suc k) d d' h =
      let e : suc i + k ≡ i + suc k = omega arith in
      get_d_numbered f (suc i) xs k d d' (le_of_suc-le-suc h) ∙ ap (λ (n : ℕ). f n (get_or xs k d')) e

  -- what holds of each value, whatever the number, holds of each element
  pub every-numbered {μ} : (P : B → Type μ) (f : ℕ → A → B) (i : ℕ) (l : List A) → ((k : ℕ) (x : A) → Memᴰ x l → P (f k x)) → (y : B)
      → Memᴰ y (numbered f i l) → P y
  unfolding numbered
  every-numbered P f i [] h y m = absurd (Memᴰ.not-nil m)
  every-numbered P f i (x ∷ xs) h y m = go (Memᴰ.cases_cons m) (every-numbered P f (suc i) xs (λ k z n. h k z (Memᴰ.tail n)) y)
    where
      go : (y ≡ f i x) ⊎ Memᴰ y (numbered f (suc i) xs) → (Memᴰ y (numbered f (suc i) xs) → P y) → P y
      go (inl q) later = subst P (sym q) (h i x (Memᴰ.head refl))
      go (inr n) later = later n

  -- a value that does not read the number
  pub map-numbered {μ} : {C : Type μ} (g : B → C) (h : A → C) (f : ℕ → A → B) (i : ℕ) (l : List A) → ((k : ℕ) (x : A) → g (f k x) ≡ h x)
      → map g (numbered f i l) ≡ map h l
  unfolding numbered
  map-numbered g h f i [] q = refl
  map-numbered g h f i (x ∷ xs) q = ap₂ ◌∷◌ (q i x) (map-numbered g h f (suc i) xs q)

module _ (s : Splitting) (vectors : List (List Float)) (e : Entries) where
  inner_node : ℕ → List ℕ → Forest → List ℕ → Node
  inner_node i ids children entries =
      record {
        centroid = mean_of s.dimension vectors ids;
        children = roots (suc i) children;
        ids = [];
        entries = entries;
        filter = filter_of e ids;
      }

  pub nodes_from-cons : (i : ℕ) (t : Tree) → nodes_from s vectors e i t ≡ root_node s vectors e i t ∷ forest_nodes s vectors e (suc i) (children_of t)
  unfolding nodes_from forest_nodes root_node inner_node
  nodes_from-cons i (leaf ids) = refl
  nodes_from-cons i (inner ids children) =
      ap (λ (entries : List ℕ). inner_node i ids children entries ∷ forest_nodes s vectors e (suc i) children) (sym (entries_of-nil e))

  mutual
    unfolding forest_nodes subs forest_subs numbered children_of

    pub nodes-numbered : (i : ℕ) (t : Tree) → nodes_from s vectors e i t ≡ numbered (root_node s vectors e) i (subs t)
    nodes-numbered i (leaf ids) = nodes_from-cons i (leaf ids)
    nodes-numbered i (inner ids children) =
        nodes_from-cons i (inner ids children)
        ∙ ap (λ (r : List Node). root_node s vectors e i (inner ids children) ∷ r) (forest_numbered (suc i) children)

    pub forest_numbered : (i : ℕ) (f : Forest) → forest_nodes s vectors e i f ≡ numbered (root_node s vectors e) i (forest_subs f)
    forest_numbered i none = refl
    forest_numbered i (more tree rest) =
        ap₂ (λ (a b : List Node). a ++ b) (nodes-numbered i tree)
        (forest_numbered (i + size tree) rest ∙ ap (λ (n : ℕ). numbered (root_node s vectors e) (i + n) (forest_subs rest)) (sym (length-subs tree)))
        ∙ sym (numbered-append (root_node s vectors e) i (subs tree) (forest_subs rest))

  -- the node with number i + k of a tree numbered from i is the root of its k-th subtree
  pub get_d_nodes_from : (i : ℕ) (t : Tree) (k : ℕ) (d : Node) (d' : Tree) → k < size t
      → get_or (nodes_from s vectors e i t) k d ≡ root_node s vectors e (i + k) (get_or (subs t) k d')
  get_d_nodes_from i t k d d' h =
      ap (λ (l : List Node). get_or l k d) (nodes-numbered i t)
      ∙ get_d_numbered (root_node s vectors e) i (subs t) k d d' (rw length-subs h)

  pub node_at_lem : (t : Tree) (k : ℕ) (d : Node) (d' : Tree) → k < size t
      → get_or (nodes_from s vectors e 0 t) k d ≡ root_node s vectors e k (get_or (subs t) k d')
  node_at_lem t k d d' h =
      get_d_nodes_from 0 t k d d' h ∙ ap (λ (n : ℕ). root_node s vectors e n (get_or (subs t) k d')) (zero-add k)

  pub get_d_nodes_of : (k : ℕ) (d : Node) (d' : Tree) → k < size (tree_of s vectors)
      → get_or (nodes_of s vectors e) k d ≡ root_node s vectors e k (get_or (subs (tree_of s vectors)) k d')
  unfolding nodes_of
  get_d_nodes_of = node_at_lem (tree_of s vectors)

  -- what holds of the root of each subtree, whatever its number, holds of each node
  pub every-node {μ} : (P : Node → Type μ) (i : ℕ) (t : Tree) → ((k : ℕ) (sub : Tree) → Memᴰ sub (subs t) → P (root_node s vectors e k sub))
      → (node : Node) → Memᴰ node (nodes_from s vectors e i t) → P node
  every-node P i t h node m =
      every-numbered P (root_node s vectors e) i (subs t) h node (subst (λ (l : List Node). Memᴰ node l) (nodes-numbered i t) m)

-- ---- nodes: what holds of each

module _ (s : Splitting) (vectors : List (List Float)) (e : Entries) where
  -- the entries of a node are those whose owner is among its ids
  pub node-entries : (i : ℕ) (t : Tree) (node : Node) → Memᴰ node (nodes_from s vectors e i t) → node.entries ≡ entries_of e node.ids
  unfolding root_node
  node-entries i t = every-node s vectors e (λ node. node.entries ≡ entries_of e node.ids) i t (λ k sub m. refl)

  pub node-filter-length : (i : ℕ) (t : Tree) (node : Node) → Memᴰ node (nodes_from s vectors e i t) → length node.filter ≡ 4
  unfolding root_node
  node-filter-length i t = every-node s vectors e (λ node. length node.filter ≡ 4) i t (λ k sub m. length-filter_of e (kept_ids sub))

  pub node-centroid-length : (i : ℕ) (t : Tree) (node : Node) → Memᴰ node (nodes_from s vectors e i t) → length node.centroid ≡ s.dimension
  unfolding root_node
  node-centroid-length i t =
      every-node s vectors e (λ node. length node.centroid ≡ s.dimension) i t (λ k sub m. length-mean_of s.dimension vectors (kept_ids sub))

  pub nodes_of-four : (node : Node) → Memᴰ node (nodes_of s vectors e) → length node.filter ≡ 4
  unfolding nodes_of
  nodes_of-four = node-filter-length 0 (tree_of s vectors)

  pub nodes_of-wide : (node : Node) → Memᴰ node (nodes_of s vectors e) → length node.centroid ≡ s.dimension
  unfolding nodes_of
  nodes_of-wide = node-centroid-length 0 (tree_of s vectors)

  -- children are above their parent and below the node count
  pub node-children : (t : Tree) (i : ℕ) (d : Node) (c : ℕ) → i < size t → Memᴰ c (get_or (nodes_from s vectors e 0 t) i d).children
      → (i < c) × (c < size t)
  unfolding root_node
  node-children t i d c h m =
      let r = child_range t i (leaf []) c h (subst (λ (node : Node). Memᴰ c node.children) (node_at_lem s vectors e t i d (leaf []) h) m) in
      (r.0, r.2)

-- ---- filters by node numbers

-- A node's filter has the hashes of its own entries and the filters of its children: a leaf has no children, an inner node no entries.
pub filter-root : (e : Entries) (t : Tree) → Fair t
    → filter_of e (kept_ids t)
    ≡ union_all (insert_all empty_filter (map (λ number. get_or e.hashes number 0) (entries_of e (own_ids t))))
    (map (λ child. filter_of e (kept_ids child)) (trees_of (children_of t)))
unfolding kept_ids own_ids children_of trees_of union_all filter_of
filter-root e (leaf ids) h = refl
filter-root e (inner ids children) h =
    filter_of-children e ids children h
    ∙ ap (λ (f : List ℕ). union_all f (map (λ child. filter_of e (kept_ids child)) (trees_of children))) (sym (filter_of-nil e))

module _ (s : Splitting) (vectors : List (List Float)) (e : Entries) where
  -- the filters of the children, by their numbers
  filters-at : (t : Tree) (i : ℕ) (d : Node) → i < size t
      → map (λ c. (get_or (nodes_from s vectors e 0 t) c d).filter) (roots (suc i) (children_of (get_or (subs t) i (leaf []))))
      ≡ map (λ child. filter_of e (kept_ids child)) (trees_of (children_of (get_or (subs t) i (leaf []))))
  unfolding root_node
  filters-at t i d h =
      let sub = get_or (subs t) i (leaf []) in
      map_on (λ c. (get_or (nodes_from s vectors e 0 t) c d).filter) (λ c. filter_of e (kept_ids (get_or (subs t) c (leaf [])))) (roots (suc i) (children_of sub))
      (λ c m. ap (λ (node : Node). node.filter) (node_at_lem s vectors e t c d (leaf []) (child_range t i (leaf []) c h m).2))
      ∙ sym (map-map (λ child. filter_of e (kept_ids child)) (λ c. get_or (subs t) c (leaf [])) (roots (suc i) (children_of sub)))
      ∙ ap (map (λ child. filter_of e (kept_ids child))) (subs-children t i (leaf []) h)

  pub filter-at : (t : Tree) → Fair t → (i : ℕ) (d : Node) → i < size t
      → (get_or (nodes_from s vectors e 0 t) i d).filter
      ≡ union_all (insert_all empty_filter (map (λ number. get_or e.hashes number 0) (get_or (nodes_from s vectors e 0 t) i d).entries))
      (map (λ c. (get_or (nodes_from s vectors e 0 t) c d).filter) (get_or (nodes_from s vectors e 0 t) i d).children)
  unfolding root_node
  filter-at t fair i d h =
      let sub = get_or (subs t) i (leaf []) in
      let own = insert_all empty_filter (map (λ number. get_or e.hashes number 0) (entries_of e (own_ids sub))) in
      subst
      (λ (node : Node).
      node.filter
      ≡ union_all (insert_all empty_filter (map (λ number. get_or e.hashes number 0) node.entries))
      (map (λ c. (get_or (nodes_from s vectors e 0 t) c d).filter) node.children))
      (sym (node_at_lem s vectors e t i d (leaf []) h))
      (filter-root e sub (fair_sub t sub fair (get_d_Memᴰ (subs t) i (leaf []) (rw length-subs h)))
      ∙ ap (union_all own) (sym (filters-at t i d h)))

  -- a node that has children has no entries of its own
  root-entries : (i : ℕ) (t : Tree) → 1 ≤ length (root_node s vectors e i t).children → (root_node s vectors e i t).entries ≡ []
  unfolding root_node children_of own_ids roots
  root-entries i (leaf ids) h = absurd (not-suc-le-zero h)
  root-entries i (inner ids children) h = entries_of-nil e

  -- so its filter is the pool of its children's
  inner_filter : (t : Tree) → Fair t → (i : ℕ) (d : Node) → i < size t → 1 ≤ length (get_or (nodes_from s vectors e 0 t) i d).children
      → (get_or (nodes_from s vectors e 0 t) i d).filter
      ≡ union_all empty_filter (map (λ c. (get_or (nodes_from s vectors e 0 t) c d).filter) (get_or (nodes_from s vectors e 0 t) i d).children)
  unfolding insert_all
  inner_filter t fair i d h some =
      let node = get_or (nodes_from s vectors e 0 t) i d in
      let none : node.entries ≡ [] =
      subst (λ (n : Node). 1 ≤ length n.children → n.entries ≡ []) (sym (node_at_lem s vectors e t i d (leaf []) h)) (root-entries i (get_or (subs t) i (leaf []))) some in
      filter-at t fair i d h
      ∙ ap (λ (entries : List ℕ). union_all (insert_all empty_filter (map (λ number. get_or e.hashes number 0) entries)) (map (λ c. (get_or (nodes_from s vectors e 0 t) c d).filter) node.children))
      none

-- ---- both for the nodes of an index

module _ (s : Splitting) (vectors : List (List Float)) (e : Entries) where
  pub nodes_of-children : (i : ℕ) (d : Node) (c : ℕ) → i < length (nodes_of s vectors e) → Memᴰ c (get_or (nodes_of s vectors e) i d).children
      → (i < c) × (c < length (nodes_of s vectors e))
  unfolding nodes_of
  nodes_of-children i d c h m =
      let n = length-nodes_of s vectors e in
      let r = node-children s vectors e (tree_of s vectors) i d c (omega arith) m in
      (r.0, omega (arith, r.1))

  pub nodes_of_pool : 1 ≤ s.branching → (i : ℕ) (d : Node) → i < length (nodes_of s vectors e) → 1 ≤ length (get_or (nodes_of s vectors e) i d).children
      → (get_or (nodes_of s vectors e) i d).filter
      ≡ union_all empty_filter (map (λ c. (get_or (nodes_of s vectors e) c d).filter) (get_or (nodes_of s vectors e) i d).children)
  unfolding nodes_of
  nodes_of_pool b i d h some =
      let n = length-nodes_of s vectors e in inner_filter s vectors e (tree_of s vectors) (fair_tree_of s vectors b) i d (omega arith) some
