-- Laws of the entries of a tree's nodes: those whose owner is among a node's ids. Every entry is in exactly one leaf, and a leaf's entry numbers rise.
use Rattle.std.specs.Prelude.{ℕ, zero, suc, ◌+◌, ◌≤◌, ◌<◌, ◌≡◌, refl, Bool, false, ◌||◌, Float, length, get_or}
use Rattle.std.proofs.Math.Path.{sym}
use Rattle.std.proofs.Common.{ap₂, ◌∙◌, not-suc-le-zero, le_of_suc-le-suc}
use Rattle.std.proofs.Math.Bool.{true}
use mathlib.Core.List.{List, [], ◌∷◌, ◌++◌, append-nil, Memᴰ}
use native.Mathlib.Omega.{arith}
use Rattle.lists.specs.Lists.{keep, joined, count_from, is_in}
use Rattle.lists.specs.Counting.{get_d_Memᴰ, is_in-append, is_in-count_from, Memᴰ-count_from, length-count_from, keep-nil, keep-pass, keep_fail, keep_congr, keep_all, keep-none, is_in-nil, Memᴰ-keep, joined-append}
use Rattle.lists.specs.Partition.{List-as-Permᴰ, List·Permᴰ·cons, List·Permᴰ·trans, Permᴰ·middle, perm_of_eq, perm_append, perm_length, perm_is_in, is_in-count, count-append, Different, once-left, once_right}
use Rattle.tree.specs.Tree.{Tree, Forest, leaf, inner, none, more, Splitting, tree_of, size}
use Rattle.tree.specs.Nodes.{Entries, nodes_from, forest_nodes, nodes_of, entries_of}
use Rattle.tree.proofs.TreeLaws.{of_both, leaf_ids, forest_ids, once-tree_of, perm_tree_of}

-- what passes one of two tests that nothing passes both
pub keep_or {ℓ} : {A : Type ℓ} (p q : A → Bool) (l : List A) → ((x : A) → Memᴰ x l → p x ≡ true → q x ≡ true → ⊥)
    → List-as-Permᴰ (keep p l ++ keep q l) (keep (λ x. p x || q x) l)
keep_or p q [] h = perm_of_eq (ap₂ ◌++◌ (keep-nil p) (keep-nil q) ∙ sym (keep-nil (λ x. p x || q x)))
keep_or {A = A} p q (x ∷ xs) h = go (p x) (q x) refl refl (keep_or p q xs (λ y m. h y (Memᴰ.tail m)))
  where
    go : (a b : Bool) → p x ≡ a → q x ≡ b → List-as-Permᴰ (keep p xs ++ keep q xs) (keep (λ x. p x || q x) xs)
        → List-as-Permᴰ (keep p (x ∷ xs) ++ keep q (x ∷ xs)) (keep (λ x. p x || q x) (x ∷ xs))
    go true true ep eq rest = absurd (h x (Memᴰ.head refl) ep eq)
    go true false ep eq rest =
        List·Permᴰ·trans (perm_of_eq (ap₂ ◌++◌ (keep-pass p x xs ep) (keep_fail q x xs eq)))
        (List·Permᴰ·trans (List·Permᴰ·cons refl rest)
        (perm_of_eq (sym (keep-pass (λ x. p x || q x) x xs (ap₂ ◌||◌ ep eq)))))
    go false true ep eq rest =
        List·Permᴰ·trans (perm_of_eq (ap₂ ◌++◌ (keep_fail p x xs ep) (keep-pass q x xs eq)))
        (List·Permᴰ·trans (Permᴰ·middle x (keep p xs) (keep q xs))
        (List·Permᴰ·trans (List·Permᴰ·cons refl rest)
        (perm_of_eq (sym (keep-pass (λ x. p x || q x) x xs (ap₂ ◌||◌ ep eq))))))
    go false false ep eq rest =
        List·Permᴰ·trans (perm_of_eq (ap₂ ◌++◌ (keep_fail p x xs ep) (keep_fail q x xs eq)))
        (List·Permᴰ·trans rest (perm_of_eq (sym (keep_fail (λ x. p x || q x) x xs (ap₂ ◌||◌ ep eq)))))

-- lists whose elements rise
abbrev pub Rising : List ℕ → Type 0
Rising l = (j k : ℕ) → j < k → k < length l → get_or l j 0 < get_or l k 0

rising-cons : (x : ℕ) (l : List ℕ) → ((y : ℕ) → Memᴰ y l → x < y) → Rising l → Rising (x ∷ l)
rising-cons x l h r zero zero a b = absurd (omega arith)
rising-cons x l h r zero (suc k) a b = h (get_or l k 0) (get_d_Memᴰ l k 0 (le_of_suc-le-suc b))
rising-cons x l h r (suc j) zero a b = absurd (omega arith)
rising-cons x l h r (suc j) (suc k) a b = r j k (le_of_suc-le-suc a) (le_of_suc-le-suc b)

pub keep-rising : (p : ℕ → Bool) (i n : ℕ) → Rising (keep p (count_from i n))
unfolding keep count_from
keep-rising p i zero = λ j k a b. absurd (not-suc-le-zero b)
keep-rising p i (suc n) =
    of_both Rising (p i) (i ∷ keep p (count_from (suc i) n)) (keep p (count_from (suc i) n))
    (rising-cons i (keep p (count_from (suc i) n))
    (λ y m. (Memᴰ-count_from y (suc i) n (Memᴰ-keep p y (count_from (suc i) n) m).1).0) (keep-rising p (suc i) n))
    (keep-rising p (suc i) n)

module _ (e : Entries) where
  -- 'so its entry numbers rise'
  pub entries_rise : (ids : List ℕ) → Rising (entries_of e ids)
  unfolding entries_of
  entries_rise ids = keep-rising (λ number. is_in (get_or e.owners number 0) ids) 0 (length e.owners)

  -- an entry number is below the count
  pub entry_below : (ids : List ℕ) (x : ℕ) → Memᴰ x (entries_of e ids) → x < length e.owners
  unfolding entries_of
  entry_below ids x m =
      let r = Memᴰ-count_from x 0 (length e.owners) (Memᴰ-keep (λ number. is_in (get_or e.owners number 0) ids) x (count_from 0 (length e.owners)) m).1 in
      omega (arith, r.1)

  -- the ids count as a bag
  pub entries_of_perm : (xs ys : List ℕ) → List-as-Permᴰ xs ys → entries_of e xs ≡ entries_of e ys
  unfolding entries_of
  entries_of_perm xs ys p =
      keep_congr (λ number. is_in (get_or e.owners number 0) xs) (λ number. is_in (get_or e.owners number 0) ys) (count_from 0 (length e.owners))
      (λ x m. perm_is_in (get_or e.owners x 0) xs ys p)

  -- the entries of ids that are cut into two lists, none in both
  pub entries_of-append : (xs ys : List ℕ) → Different (xs ++ ys) → List-as-Permᴰ (entries_of e xs ++ entries_of e ys) (entries_of e (xs ++ ys))
  unfolding entries_of
  entries_of-append xs ys h =
      List·Permᴰ·trans
      (keep_or (λ number. is_in (get_or e.owners number 0) xs) (λ number. is_in (get_or e.owners number 0) ys) (count_from 0 (length e.owners))
      (λ x m a b. apart (get_or e.owners x 0) a b))
      (perm_of_eq
      (keep_congr (λ number. is_in (get_or e.owners number 0) xs || is_in (get_or e.owners number 0) ys)
      (λ number. is_in (get_or e.owners number 0) (xs ++ ys)) (count_from 0 (length e.owners))
      (λ x m. sym (is_in-append (get_or e.owners x 0) xs ys))))
    where
      apart : (z : ℕ) → is_in z xs ≡ true → is_in z ys ≡ true → ⊥
      apart z a b =
          let p = is_in-count z xs a in
          let q = is_in-count z ys b in
          let r = count-append z xs ys in
          let k = h z in
          omega arith

  -- no ids, no entries
  pub entries_of-nil : entries_of e [] ≡ []
  unfolding entries_of
  entries_of-nil = keep-none (λ number. is_in (get_or e.owners number 0) []) (count_from 0 (length e.owners)) (λ x m. is_in-nil (get_or e.owners x 0))

  -- with every owner among the ids, every entry
  pub entries_of-all : (n : ℕ) → ((k : ℕ) → k < length e.owners → get_or e.owners k 0 < n)
      → entries_of e (count_from 0 n) ≡ count_from 0 (length e.owners)
  unfolding entries_of
  entries_of-all n h =
      keep_all (λ number. is_in (get_or e.owners number 0) (count_from 0 n)) (count_from 0 (length e.owners))
      (λ x m.
      let r = Memᴰ-count_from x 0 (length e.owners) m in
      let k = h x (omega (arith, r.1)) in
      is_in-count_from (get_or e.owners x 0) 0 n (omega arith) (omega arith))

module _ (s : Splitting) (vectors : List (List Float)) (e : Entries) where
  mutual
    unfolding nodes_from forest_nodes joined leaf_ids forest_ids

    pub entries-nodes_from : (i : ℕ) (t : Tree) → Different (leaf_ids t)
        → List-as-Permᴰ (joined (λ node. node.entries) (nodes_from s vectors e i t)) (entries_of e (leaf_ids t))
    entries-nodes_from i (leaf ids) h = perm_of_eq (append-nil (entries_of e ids))
    entries-nodes_from i (inner ids children) h = entries-forest_nodes (suc i) children h

    pub entries-forest_nodes : (i : ℕ) (f : Forest) → Different (forest_ids f)
        → List-as-Permᴰ (joined (λ node. node.entries) (forest_nodes s vectors e i f)) (entries_of e (forest_ids f))
    entries-forest_nodes i none h = perm_of_eq (sym (entries_of-nil e))
    entries-forest_nodes i (more tree rest) h =
        List·Permᴰ·trans
        (perm_of_eq (joined-append (λ node. node.entries) (nodes_from s vectors e i tree) (forest_nodes s vectors e (i + size tree) rest)))
        (List·Permᴰ·trans
        (perm_append (entries-nodes_from i tree (once-left (leaf_ids tree) (forest_ids rest) h))
        (entries-forest_nodes (i + size tree) rest (once_right (leaf_ids tree) (forest_ids rest) h)))
        (entries_of-append e (leaf_ids tree) (forest_ids rest) h))

  -- every entry is in exactly one leaf
  pub perm_entries : 1 ≤ s.branching → ((k : ℕ) → k < length e.owners → get_or e.owners k 0 < length vectors)
      → List-as-Permᴰ (joined (λ node. node.entries) (nodes_of s vectors e)) (count_from 0 (length e.owners))
  unfolding nodes_of
  perm_entries b h =
      List·Permᴰ·trans (entries-nodes_from 0 (tree_of s vectors) (once-tree_of s vectors b))
      (perm_of_eq
      (entries_of_perm e (leaf_ids (tree_of s vectors)) (count_from 0 (length vectors)) (perm_tree_of s vectors b) ∙ entries_of-all e (length vectors) h))

  pub length-entries : 1 ≤ s.branching → ((k : ℕ) → k < length e.owners → get_or e.owners k 0 < length vectors)
      → length (joined (λ node. node.entries) (nodes_of s vectors e)) ≡ length e.owners
  length-entries b h = perm_length (perm_entries b h) ∙ length-count_from 0 (length e.owners)
