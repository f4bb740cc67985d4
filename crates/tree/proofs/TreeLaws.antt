-- Laws of the tree of document 01, for any vectors, NaN and infinities too.
--
-- In order: when a node is a leaf; the groups of a split; how many nodes there are; the ids of the leaves, each id once. What later files say of a
-- tree asks only that it is `Fair`: each inner node keeps the ids of the leaves below it. Every grown tree is.
use Rattle.std.specs.Prelude.{ℕ, zero, suc, ◌+◌, ◌*◌, ◌≤◌, ◌<◌, ◌≡◌, refl, Bool, true, false, cond, leb, ltb, Float, length}
use Rattle.std.proofs.Common.{zero-le, ap, ◌∙◌, suc-mul, mul-add, arith, ltb-true, ltb-false, le-leb, length-append}
use mathlib.Core.List.{List, [], ◌∷◌, ◌++◌, Memᴰ}
use Rattle.std.proofs.lemmas.Bool.{lt-leb}
use Rattle.lists.specs.Lists.{joined, count_from}
use Rattle.lists.specs.Counting.{Memᴰ-keep, length-count_from}
use Rattle.lists.specs.Partition.{List-as-Permᴰ, List·Permᴰ·nil, List·Permᴰ·trans, Permᴰ·refl, perm_of_eq, perm_append, perm_length, joined-keep, Different, once_perm, once-count_from}
use Rattle.cluster.specs.Clusters.{clusters}
use Rattle.cluster.specs.ClustersLaws.{perm_clusters}
use Rattle.tree.specs.Tree.{Tree, Forest, leaf, inner, none, more, Splitting, groups, forest_of, grow, tree_of, size, sizes}

-- a property of both values of a choice
pub of_both {ℓ κ} : {A : Type ℓ} (P : A → Type κ) (b : Bool) (x y : A) → P x → P y → P (cond b x y)
of_both P true x y p q = p
of_both P false x y p q = q

-- ---- when a node is a leaf: exactly if it has at most `max_leaf_size` ids or no level is left

pub grow-zero : (s : Splitting) (vectors : List (List Float)) (ids : List ℕ) → grow s vectors zero ids ≡ leaf ids
unfolding grow
grow-zero s vectors ids = refl

pub grow_leaf : (s : Splitting) (vectors : List (List Float)) (levels : ℕ) (ids : List ℕ) → length ids ≤ s.leaf_size
    → grow s vectors levels ids ≡ leaf ids
unfolding grow
grow_leaf s vectors zero ids h = refl
grow_leaf s vectors (suc levels) ids h =
    ap (λ (b : Bool). cond b (leaf ids) (inner ids (forest_of (grow s vectors levels) (groups s vectors ids)))) (le-leb (length ids) s.leaf_size h)

pub grow_inner : (s : Splitting) (vectors : List (List Float)) (levels : ℕ) (ids : List ℕ) → s.leaf_size < length ids
    → grow s vectors (suc levels) ids ≡ inner ids (forest_of (grow s vectors levels) (groups s vectors ids))
unfolding grow
grow_inner s vectors levels ids h =
    ap (λ (b : Bool). cond b (leaf ids) (inner ids (forest_of (grow s vectors levels) (groups s vectors ids)))) (lt-leb (length ids) s.leaf_size h)

-- the ids that a tree keeps at its root
unfoldable pub kept_ids : Tree → List ℕ
kept_ids (leaf ids) = ids
kept_ids (inner ids children) = ids

pub kept-grow : (s : Splitting) (vectors : List (List Float)) (levels : ℕ) (ids : List ℕ) → kept_ids (grow s vectors levels ids) ≡ ids
unfolding grow kept_ids
kept-grow s vectors zero ids = refl
kept-grow s vectors (suc levels) ids =
    of_both (λ t. kept_ids t ≡ ids) (leb (length ids) s.leaf_size) (leaf ids) (inner ids (forest_of (grow s vectors levels) (groups s vectors ids))) refl refl

-- ---- groups: non-empty, and together the ids

pub joined-groups : (s : Splitting) (vectors : List (List Float)) (ids : List ℕ)
    → joined (λ group. group) (groups s vectors ids) ≡ joined (λ group. group) (clusters s.dimension s.branching vectors ids)
unfolding groups
joined-groups s vectors ids =
    joined-keep (λ group. group) (λ cluster. ltb 0 (length cluster)) (clusters s.dimension s.branching vectors ids)
    (λ l m e. empty l (ltb-false 0 (length l) e))
  where
    empty : (l : List ℕ) → length l ≤ 0 → l ≡ []
    empty [] h = refl
    empty (x ∷ l) h = absurd (omega arith)

pub perm_groups : (s : Splitting) (vectors : List (List Float)) (ids : List ℕ) → 1 ≤ s.branching
    → List-as-Permᴰ (joined (λ group. group) (groups s vectors ids)) ids
perm_groups s vectors ids b =
    List·Permᴰ·trans (perm_of_eq (joined-groups s vectors ids)) (perm_clusters s.dimension s.branching vectors ids b)

pub group_some : (s : Splitting) (vectors : List (List Float)) (ids group : List ℕ) → Memᴰ group (groups s vectors ids) → 1 ≤ length group
unfolding groups
group_some s vectors ids group m =
    ltb-true 0 (length group)
    (Memᴰ-keep (λ cluster. ltb 0 (length cluster)) group (clusters s.dimension s.branching vectors ids) m).0

-- lists that each have an element are no more than the elements
count_le_joined : (l : List (List ℕ)) → ((group : List ℕ) → Memᴰ group l → 1 ≤ length group) → length l ≤ length (joined (λ group. group) l)
unfolding joined
count_le_joined [] h = zero-le
count_le_joined (group ∷ l) h =
    let first : 1 ≤ length group = h group (Memᴰ.head refl) in
    let rest = count_le_joined l (λ other m. h other (Memᴰ.tail m)) in
    let both = length-append group (joined (λ group. group) l) in
    omega arith

pub groups_le : (s : Splitting) (vectors : List (List Float)) (ids : List ℕ) → 1 ≤ s.branching → length (groups s vectors ids) ≤ length ids
groups_le s vectors ids b =
    let h = count_le_joined (groups s vectors ids) (group_some s vectors ids) in
    let e = perm_length (perm_groups s vectors ids b) in
    omega arith

-- ---- how many nodes there are

pub size-some : (t : Tree) → 1 ≤ size t
unfolding size
size-some (leaf ids) = omega arith
size-some (inner ids children) = omega arith

-- with a bound on each tree by its ids
sizes-bound : (levels : ℕ) (f : List ℕ → Tree) → ((ids : List ℕ) → size (f ids) ≤ 1 + levels * length ids) → (l : List (List ℕ))
    → sizes (forest_of f l) ≤ length l + levels * length (joined (λ ids. ids) l)
unfolding forest_of sizes joined
sizes-bound levels f h [] = zero-le
sizes-bound levels f h (ids ∷ l) =
    let first = h ids in
    let rest = sizes-bound levels f h l in
    let e : levels * length (ids ++ joined (λ ids. ids) l) ≡ levels * length ids + levels * length (joined (λ ids. ids) l) =
    ap (λ (n : ℕ). levels * n) (length-append ids (joined (λ ids. ids) l)) ∙ mul-add levels (length ids) (length (joined (λ ids. ids) l))
    in
    omega arith

-- at most one node a depth for each id, and one root
pub size-bound : (s : Splitting) (vectors : List (List Float)) → 1 ≤ s.branching → (levels : ℕ) (ids : List ℕ)
    → size (grow s vectors levels ids) ≤ 1 + levels * length ids
unfolding grow size
size-bound s vectors b zero ids = omega arith
size-bound s vectors b (suc levels) ids =
    let below = sizes-bound levels (grow s vectors levels) (size-bound s vectors b levels) (groups s vectors ids) in
    let all = perm_length (perm_groups s vectors ids b) in
    let same = ap (λ (n : ℕ). levels * n) all in
    let few = groups_le s vectors ids b in
    let e = suc-mul levels (length ids) in
    of_both (λ t. size t ≤ 1 + suc levels * length ids) (leb (length ids) s.leaf_size) (leaf ids)
    (inner ids (forest_of (grow s vectors levels) (groups s vectors ids))) (omega arith) (omega arith)

pub size-tree_of : (s : Splitting) (vectors : List (List Float)) → 1 ≤ s.branching → size (tree_of s vectors) ≤ 16 * length vectors + 1
unfolding tree_of
size-tree_of s vectors b =
    let h = size-bound s vectors b 16 (count_from 0 (length vectors)) in
    let e = length-count_from 0 (length vectors) in
    omega arith

-- ---- the ids of the leaves, left to right

unfoldable mutual
  pub leaf_ids : Tree → List ℕ
  leaf_ids (leaf ids) = ids
  leaf_ids (inner ids children) = forest_ids children

  pub forest_ids : Forest → List ℕ
  forest_ids none = []
  forest_ids (more tree rest) = leaf_ids tree ++ forest_ids rest

-- Each inner node keeps, as a bag, the ids of the leaves below it.
unfoldable mutual
  unfolding leaf_ids

  pub Fair : Tree → Type 0
  Fair (leaf ids) = Unit {0}
  Fair (inner ids children) = List-as-Permᴰ (forest_ids children) ids × AllFair children

  pub AllFair : Forest → Type 0
  AllFair none = Unit {0}
  AllFair (more tree rest) = Fair tree × AllFair rest

pub perm_leaf_ids : (t : Tree) → Fair t → List-as-Permᴰ (leaf_ids t) (kept_ids t)
unfolding leaf_ids kept_ids Fair
perm_leaf_ids (leaf ids) h = Permᴰ·refl ids
perm_leaf_ids (inner ids children) h = h.0

forest_ids_lem : (f : List ℕ → Tree) → ((ids : List ℕ) → List-as-Permᴰ (leaf_ids (f ids)) ids) → (l : List (List ℕ))
    → List-as-Permᴰ (forest_ids (forest_of f l)) (joined (λ ids. ids) l)
unfolding forest_of forest_ids joined
forest_ids_lem f h [] = List·Permᴰ·nil
forest_ids_lem f h (ids ∷ l) = perm_append (h ids) (forest_ids_lem f h l)

-- every id is in exactly one leaf: the ids of the leaves are, as a bag, the ids that the tree was grown from
pub perm_grow : (s : Splitting) (vectors : List (List Float)) → 1 ≤ s.branching → (levels : ℕ) (ids : List ℕ)
    → List-as-Permᴰ (leaf_ids (grow s vectors levels ids)) ids
unfolding grow leaf_ids
perm_grow s vectors b zero ids = Permᴰ·refl ids
perm_grow s vectors b (suc levels) ids =
    of_both (λ t. List-as-Permᴰ (leaf_ids t) ids) (leb (length ids) s.leaf_size) (leaf ids)
    (inner ids (forest_of (grow s vectors levels) (groups s vectors ids))) (Permᴰ·refl ids)
    (List·Permᴰ·trans (forest_ids_lem (grow s vectors levels) (perm_grow s vectors b levels) (groups s vectors ids)) (perm_groups s vectors ids b))

all_fair : (f : List ℕ → Tree) → ((ids : List ℕ) → Fair (f ids)) → (l : List (List ℕ)) → AllFair (forest_of f l)
unfolding forest_of AllFair
all_fair f h [] = tt
all_fair f h (ids ∷ l) = (h ids, all_fair f h l)

pub fair_grow : (s : Splitting) (vectors : List (List Float)) → 1 ≤ s.branching → (levels : ℕ) (ids : List ℕ) → Fair (grow s vectors levels ids)
unfolding grow Fair
fair_grow s vectors b zero ids = tt
fair_grow s vectors b (suc levels) ids =
    of_both Fair (leb (length ids) s.leaf_size) (leaf ids) (inner ids (forest_of (grow s vectors levels) (groups s vectors ids))) tt (
      List·Permᴰ·trans (forest_ids_lem (grow s vectors levels) (perm_grow s vectors b levels) (groups s vectors ids)) (perm_groups s vectors ids b),
      all_fair (grow s vectors levels) (fair_grow s vectors b levels) (groups s vectors ids),
    )

pub perm_tree_of : (s : Splitting) (vectors : List (List Float)) → 1 ≤ s.branching
    → List-as-Permᴰ (leaf_ids (tree_of s vectors)) (count_from 0 (length vectors))
unfolding tree_of
perm_tree_of s vectors b = perm_grow s vectors b 16 (count_from 0 (length vectors))

pub fair_tree_of : (s : Splitting) (vectors : List (List Float)) → 1 ≤ s.branching → Fair (tree_of s vectors)
unfolding tree_of
fair_tree_of s vectors b = fair_grow s vectors b 16 (count_from 0 (length vectors))

-- ---- no id twice

pub once-tree_of : (s : Splitting) (vectors : List (List Float)) → 1 ≤ s.branching → Different (leaf_ids (tree_of s vectors))
once-tree_of s vectors b =
    once_perm (leaf_ids (tree_of s vectors)) (count_from 0 (length vectors)) (perm_tree_of s vectors b) (once-count_from 0 (length vectors))
