-- The subtrees of a tree by their numbers, parent first: where each stands, the subtrees at its children's numbers, the ids below it, and what holds
-- of every one.
use Rattle.std.specs.Prelude.{ℕ, zero, suc, ◌+◌, ◌-◌, ◌≤◌, ◌<◌, ◌≡◌, refl, ◌⊎◌, true, false, ltb, length, get_or, drop}
use Rattle.std.proofs.Common.{sym, ap, ap₂, subst, ◌∙◌, inl, inr, add-zero, not-suc-le-zero, le_of_suc-le-suc, arith, ltb-true, ltb-false, length-append, length-drop, get_or-append-add, get_or-drop, drop-drop}
use mathlib.Core.List.Memᴰ
use mathlib.Core.List.{List, [], ◌∷◌, ◌++◌, map, map-map, append-nil, append_assoc, Memᴰ}
use Rattle.std.proofs.Math.ListN.{get_or-append}
use Rattle.std.proofs.lemmas.List.{drop-append-le}
use Rattle.std.proofs.Math.Seq.{drop-append-add, drop-append_seam}
use Rattle.lists.specs.Lists.{joined}
use Rattle.lists.specs.Counting.{joined-append}
use Rattle.lists.specs.Tests.{which}
use Rattle.tree.specs.Tree.{Tree, Forest, leaf, inner, none, more, size, sizes}
use Rattle.tree.specs.Nodes.{roots}
use Rattle.tree.proofs.TreeLaws.{leaf_ids, forest_ids, Fair, AllFair}
use Rattle.tree.proofs.NodeLaws.{trees_of, root_range}

-- ---- the subtrees, parent first

unfoldable mutual
  pub subs : Tree → List Tree
  subs (leaf ids) = leaf ids ∷ []
  subs (inner ids children) = inner ids children ∷ forest_subs children

  pub forest_subs : Forest → List Tree
  forest_subs none = []
  forest_subs (more tree rest) = subs tree ++ forest_subs rest

mutual
  unfolding subs forest_subs size sizes

  pub length-subs : (t : Tree) → length (subs t) ≡ size t
  length-subs (leaf ids) = refl
  length-subs (inner ids children) = ap suc (length-forest_subs children)

  pub length-forest_subs : (f : Forest) → length (forest_subs f) ≡ sizes f
  length-forest_subs none = refl
  length-forest_subs (more tree rest) =
      length-append (subs tree) (forest_subs rest) ∙ ap₂ (λ (a b : ℕ). a + b) (length-subs tree) (length-forest_subs rest)

-- the children of a tree's root, and the ids that are laid out at it: a leaf's
unfoldable pub children_of : Tree → Forest
children_of (leaf ids) = none
children_of (inner ids children) = children

unfoldable pub own_ids : Tree → List ℕ
own_ids (leaf ids) = ids
own_ids (inner ids children) = []

pub subs-cons : (t : Tree) → subs t ≡ t ∷ forest_subs (children_of t)
unfolding subs forest_subs children_of
subs-cons (leaf ids) = refl
subs-cons (inner ids children) = refl

pub size-children : (t : Tree) → size t ≡ suc (sizes (children_of t))
unfolding size sizes children_of
size-children (leaf ids) = refl
size-children (inner ids children) = refl

-- ---- where a subtree stands

-- From the number of a subtree on, the list begins with the subtrees of it.
abbrev pub BeginsAt : List Tree → ℕ → Tree → Type 0
BeginsAt l i t = (rest : List Tree) × (drop i l ≡ subs t ++ rest)

begins-left : (xs ys : List Tree) (i : ℕ) (d : Tree) → i < length xs → BeginsAt xs i (get_or xs i d) → BeginsAt (xs ++ ys) i (get_or (xs ++ ys) i d)
begins-left xs ys i d h b = (
  b.0 ++ ys,
  drop-append-le i xs ys (omega arith)
      ∙ ap (λ (r : List Tree). r ++ ys) b.1
      ∙ append_assoc (subs (get_or xs i d)) b.0 ys
      ∙ ap (λ (t : Tree). subs t ++ (b.0 ++ ys)) (sym (get_or-append xs ys d i h)),
)

begins_right : (xs ys : List Tree) (i : ℕ) (d : Tree) → BeginsAt ys i (get_or ys i d) → BeginsAt (xs ++ ys) (length xs + i) (get_or (xs ++ ys) (length xs + i) d)
begins_right xs ys i d b =
    (b.0, drop-append-add xs ys i ∙ b.1 ∙ ap (λ (t : Tree). subs t ++ b.0) (sym (get_or-append-add xs ys i d)))

begins_either : (xs ys : List Tree) (i : ℕ) (d : Tree) → i < length xs + length ys → ((k : ℕ) → k < length xs → BeginsAt xs k (get_or xs k d))
    → ((k : ℕ) → k < length ys → BeginsAt ys k (get_or ys k d)) → BeginsAt (xs ++ ys) i (get_or (xs ++ ys) i d)
begins_either xs ys i d h f g = go (which (ltb i (length xs)))
  where
    go : (ltb i (length xs) ≡ true) ⊎ (ltb i (length xs) ≡ false) → BeginsAt (xs ++ ys) i (get_or (xs ++ ys) i d)
    go (inl e) = let b = ltb-true i (length xs) e in begins-left xs ys i d b (f i b)
    go (inr e) =
        let b = ltb-false i (length xs) e in
        let n : length xs + (i - length xs) ≡ i = omega arith in
        subst (λ (k : ℕ). BeginsAt (xs ++ ys) k (get_or (xs ++ ys) k d)) n (begins_right xs ys (i - length xs) d (g (i - length xs) (omega arith)))

mutual
  unfolding subs forest_subs

  pub sub-begins : (t : Tree) (i : ℕ) (d : Tree) → i < length (subs t) → BeginsAt (subs t) i (get_or (subs t) i d)
  sub-begins (leaf ids) zero d h = ([], refl)
  sub-begins (leaf ids) (suc i) d h = absurd (not-suc-le-zero (le_of_suc-le-suc h))
  sub-begins (inner ids children) zero d h = ([], sym (append-nil (subs (inner ids children))))
  sub-begins (inner ids children) (suc i) d h = forest_begins children i d (le_of_suc-le-suc h)

  pub forest_begins : (f : Forest) (i : ℕ) (d : Tree) → i < length (forest_subs f) → BeginsAt (forest_subs f) i (get_or (forest_subs f) i d)
  forest_begins none i d h = absurd (not-suc-le-zero h)
  forest_begins (more tree rest) i d h =
      begins_either (subs tree) (forest_subs rest) i d (subst (λ (n : ℕ). i < n) (length-append (subs tree) (forest_subs rest)) h)
      (λ k g. sub-begins tree k d g) (λ k g. forest_begins rest k d g)

pub sub-end : (t : Tree) (i : ℕ) (d : Tree) → i < size t → i + size (get_or (subs t) i d) ≤ size t
sub-end t i d h =
    let b = sub-begins t i d (rw length-subs h) in
    let sub = get_or (subs t) i d in
    let n : length (subs t) - i ≡ length (subs sub) + length b.0 =
    sym (length-drop i (subs t)) ∙ ap (λ (l : List Tree). length l) b.1 ∙ length-append (subs sub) b.0
    in
    let p = length-subs t in
    let q = length-subs sub in
    omega arith

-- ---- children

-- the trees at the numbers of a forest's roots are the forest's
pub at-roots : (l : List Tree) (i : ℕ) (f : Forest) (rest : List Tree) (d : Tree) → drop i l ≡ forest_subs f ++ rest
    → map (λ c. get_or l c d) (roots i f) ≡ trees_of f
unfolding roots trees_of forest_subs
at-roots l i none rest d h = refl
at-roots l i (more tree others) rest d h =
    let whole : drop i l ≡ subs tree ++ (forest_subs others ++ rest) = h ∙ append_assoc (subs tree) (forest_subs others) rest in
    let first : get_or l i d ≡ tree =
    ap (λ (n : ℕ). get_or l n d) (sym (add-zero i))
    ∙ sym (get_or-drop i l 0 d)
    ∙ ap (λ (r : List Tree). get_or r 0 d) (whole ∙ ap (λ (r : List Tree). r ++ (forest_subs others ++ rest)) (subs-cons tree))
    in
    let later : drop (i + size tree) l ≡ forest_subs others ++ rest =
    sym (drop-drop (size tree) i l)
    ∙ ap (λ (r : List Tree). drop (size tree) r) whole
    ∙ ap (λ (n : ℕ). drop n (subs tree ++ (forest_subs others ++ rest))) (sym (length-subs tree))
    ∙ drop-append_seam (subs tree) (forest_subs others ++ rest)
    in
    ap₂ ◌∷◌ first (at-roots l (i + size tree) others rest d later)

-- The subtrees at the children's numbers are the trees of the forest.
pub subs-children : (t : Tree) (i : ℕ) (d : Tree) → i < size t
    → map (λ c. get_or (subs t) c d) (roots (suc i) (children_of (get_or (subs t) i d))) ≡ trees_of (children_of (get_or (subs t) i d))
subs-children t i d h =
    let b = sub-begins t i d (rw length-subs h) in
    let sub = get_or (subs t) i d in
    let n : i + 1 ≡ suc i = omega arith in
    let later : drop (suc i) (subs t) ≡ forest_subs (children_of sub) ++ b.0 =
    ap (λ (n : ℕ). drop n (subs t)) (sym n)
    ∙ sym (drop-drop 1 i (subs t))
    ∙ ap (λ (r : List Tree). drop 1 r) (b.1 ∙ ap (λ (r : List Tree). r ++ b.0) (subs-cons sub))
    in
    at-roots (subs t) (suc i) (children_of sub) b.0 d later

-- Children are above their parent and within its interval.
pub child_range : (t : Tree) (i : ℕ) (d : Tree) (c : ℕ) → i < size t → Memᴰ c (roots (suc i) (children_of (get_or (subs t) i d)))
    → (i < c) × (c < i + size (get_or (subs t) i d)) × (c < size t)
child_range t i d c h m =
    let sub = get_or (subs t) i d in
    let r = root_range (suc i) (children_of sub) c m in
    let e = size-children sub in
    let f = sub-end t i d h in
    (r.0, omega (arith, r.1, e), omega (arith, r.1, e, f))

-- The intervals of the children's subtrees stand one behind the other, from the number behind the parent to the end of its interval: what holds
-- of no children at the end, and of one child more in front, holds of the children.
tile_roots : (at : ℕ → ℕ) (T : ℕ → List ℕ → Type 0) (i : ℕ) (f : Forest) → map at (roots i f) ≡ map size (trees_of f) → T (i + sizes f) []
    → ((c : ℕ) (cs : List ℕ) → T (c + at c) cs → T c (c ∷ cs)) → T i (roots i f)
unfolding roots trees_of sizes
tile_roots at T i none e end next = subst (λ (n : ℕ). T n []) (add-zero i) end
tile_roots at T i (more tree rest) e end next =
    let here : at i ≡ size tree = ap (λ (l : List ℕ). get_or l 0 0) e in
    let later : map at (roots (i + size tree) rest) ≡ map size (trees_of rest) = ap (λ (l : List ℕ). drop 1 l) e in
    let n : i + (size tree + sizes rest) ≡ i + size tree + sizes rest = omega arith in
    next i (roots (i + size tree) rest)
    (subst (λ (k : ℕ). T (i + k) (roots (i + size tree) rest)) (sym here)
    (tile_roots at T (i + size tree) rest later (subst (λ (k : ℕ). T k []) n end) next))

pub children_tile : (t : Tree) (i : ℕ) (d : Tree) → i < size t → (T : ℕ → List ℕ → Type 0) → T (i + size (get_or (subs t) i d)) []
    → ((c : ℕ) (cs : List ℕ) → T (c + size (get_or (subs t) c d)) cs → T c (c ∷ cs)) → T (suc i) (roots (suc i) (children_of (get_or (subs t) i d)))
children_tile t i d h T end next =
    let sub = get_or (subs t) i d in
    let e = size-children sub in
    let n : i + size sub ≡ suc i + sizes (children_of sub) = omega arith in
    tile_roots (λ c. size (get_or (subs t) c d)) T (suc i) (children_of sub)
    (sym (map-map size (λ c. get_or (subs t) c d) (roots (suc i) (children_of sub))) ∙ ap (map size) (subs-children t i d h))
    (subst (λ (k : ℕ). T k []) n end) next

-- ---- what is gathered below a node

-- the ids below a node are those that are laid out at and below it
mutual
  unfolding leaf_ids forest_ids subs forest_subs own_ids joined

  pub leaf_ids-subs : (t : Tree) → leaf_ids t ≡ joined own_ids (subs t)
  leaf_ids-subs (leaf ids) = sym (append-nil ids)
  leaf_ids-subs (inner ids children) = forest_ids-subs children

  pub forest_ids-subs : (f : Forest) → forest_ids f ≡ joined own_ids (forest_subs f)
  forest_ids-subs none = refl
  forest_ids-subs (more tree rest) =
      ap₂ (λ (a b : List ℕ). a ++ b) (leaf_ids-subs tree) (forest_ids-subs rest) ∙ sym (joined-append own_ids (subs tree) (forest_subs rest))

-- ---- facts about every subtree

fair_first : (t sub : Tree) {l : List Tree} → Fair t → (sub ≡ t) ⊎ Memᴰ sub l → (Memᴰ sub l → Fair sub) → Fair sub
fair_first t sub h (inl e) later = subst Fair (sym e) h
fair_first t sub h (inr m) later = later m

fair_either : (xs ys : List Tree) (sub : Tree) → Memᴰ sub xs ⊎ Memᴰ sub ys → (Memᴰ sub xs → Fair sub) → (Memᴰ sub ys → Fair sub)
    → Fair sub
fair_either xs ys sub (inl m) f g = f m
fair_either xs ys sub (inr m) f g = g m

mutual
  unfolding subs forest_subs Fair AllFair

  pub fair_sub : (t : Tree) (sub : Tree) → Fair t → Memᴰ sub (subs t) → Fair sub
  fair_sub (leaf ids) sub h m = fair_first (leaf ids) sub h (Memᴰ.cases_cons m) (λ n. absurd (Memᴰ.not-nil n))
  fair_sub (inner ids children) sub h m =
      fair_first (inner ids children) sub h (Memᴰ.cases_cons m) (λ n. fair_forest children sub h.1 n)

  pub fair_forest : (f : Forest) (sub : Tree) → AllFair f → Memᴰ sub (forest_subs f) → Fair sub
  fair_forest none sub h m = absurd (Memᴰ.not-nil m)
  fair_forest (more tree rest) sub h m =
      fair_either (subs tree) (forest_subs rest) sub (Memᴰ.append_cases (subs tree) m) (λ n. fair_sub tree sub h.0 n) (λ n. fair_forest rest sub h.1 n)
