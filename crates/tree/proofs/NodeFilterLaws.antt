-- Laws of the filters of a tree's nodes: a filter has four words, admits the hashes of its entries, and at an inner node is the or of its children's.
use Rattle.std.specs.Prelude.{ℕ, ◌≡◌, Bool, true, false, ◌||◌, length}
use Rattle.std.proofs.Math.Path.{refl, sym, ap}
use Rattle.std.proofs.Common.{ap₂, ◌∙◌}
use mathlib.Core.List.Memᴰ
use mathlib.Core.List.{List, [], ◌∷◌, ◌++◌, map, map-map, Memᴰ}
use Rattle.std.proofs.Math.ListN.{get_or}
use Rattle.lists.specs.Lists.{keep, joined, count_from, is_in}
use Rattle.lists.specs.Counting.{is_in-append, keep-nil, keep-pass, keep_fail, keep_congr}
use Rattle.lists.specs.Partition.{List-as-Permᴰ, List·Permᴰ·nil, List·Permᴰ·trans, Permᴰ·symm, perm_append}
use Rattle.bloom.specs.Filter.{empty_filter, insert_all, may_contain, union, union_all}
use Rattle.bloom.proofs.FilterLaws.{insert_all-split, insert_all-four, may_contain-all, union_assoc, union_comm, union_self, union_empty, union_empty_right, union-four}
use Rattle.tree.specs.Tree.{Forest, inner, none, more}
use Rattle.tree.specs.Nodes.{Entries, entries_of, filter_of}
use Rattle.tree.proofs.TreeLaws.{kept_ids, forest_ids, Fair, AllFair, perm_leaf_ids}
use Rattle.tree.proofs.NodeLaws.{trees_of}
use Rattle.tree.proofs.NodeEntryLaws.{entries_of_perm, entries_of-nil}

-- the filter of a list of hashes
hashes_filter : List ℕ → List ℕ
hashes_filter hashes = insert_all empty_filter hashes

filter-cons : (x : ℕ) (xs : List ℕ) → hashes_filter (x ∷ xs) ≡ union (hashes_filter (x ∷ [])) (hashes_filter xs)
unfolding hashes_filter
filter-cons x xs = insert_all-split (x ∷ []) xs

union-both : (h p q : List ℕ) → union h (union p q) ≡ union (union h p) (union h q)
union-both h p q =
    ap (λ (r : List ℕ). union r (union p q)) (sym (union_self h))
    ∙ union_assoc h h (union p q)
    ∙ ap (union h) (sym (union_assoc h p q) ∙ ap (λ (r : List ℕ). union r q) (union_comm h p) ∙ union_assoc p h q)
    ∙ sym (union_assoc h p (union h q))

union-later : (h p q : List ℕ) → union h (union p q) ≡ union p (union h q)
union-later h p q = sym (union_assoc h p q) ∙ ap (λ (r : List ℕ). union r q) (union_comm h p) ∙ union_assoc p h q

-- what passes one of two tests or both
filter_or : (f : ℕ → ℕ) (p q : ℕ → Bool) (l : List ℕ)
    → hashes_filter (map f (keep (λ x. p x || q x) l)) ≡ union (hashes_filter (map f (keep p l))) (hashes_filter (map f (keep q l)))
filter_or f p q [] = rw (keep-nil (λ x. p x || q x), keep-nil p, keep-nil q) (sym (union_self (hashes_filter [])))
filter_or f p q (x ∷ xs) = go (p x) (q x) refl refl (filter_or f p q xs)
  where
    one : List ℕ
    one = hashes_filter (f x ∷ [])

    left : List ℕ
    left = hashes_filter (map f (keep p xs))

    right : List ℕ
    right = hashes_filter (map f (keep q xs))

    go : (a b : Bool) → p x ≡ a → q x ≡ b
        → hashes_filter (map f (keep (λ x. p x || q x) xs)) ≡ union (hashes_filter (map f (keep p xs))) (hashes_filter (map f (keep q xs)))
        → hashes_filter (map f (keep (λ x. p x || q x) (x ∷ xs))) ≡ union (hashes_filter (map f (keep p (x ∷ xs)))) (hashes_filter (map f (keep q (x ∷ xs))))
    go true true ep eq rest =
        rw (keep-pass (λ x. p x || q x) x xs (ap₂ ◌||◌ ep eq), keep-pass p x xs ep, keep-pass q x xs eq)
        (filter-cons (f x) (map f (keep (λ x. p x || q x) xs)) ∙ ap (union one) rest ∙ union-both one left right
        ∙ ap₂ union (sym (filter-cons (f x) (map f (keep p xs)))) (sym (filter-cons (f x) (map f (keep q xs)))))
    go true false ep eq rest =
        rw (keep-pass (λ x. p x || q x) x xs (ap₂ ◌||◌ ep eq), keep-pass p x xs ep, keep_fail q x xs eq)
        (filter-cons (f x) (map f (keep (λ x. p x || q x) xs)) ∙ ap (union one) rest ∙ sym (union_assoc one left right)
        ∙ ap (λ (r : List ℕ). union r right) (sym (filter-cons (f x) (map f (keep p xs)))))
    go false true ep eq rest =
        rw (keep-pass (λ x. p x || q x) x xs (ap₂ ◌||◌ ep eq), keep_fail p x xs ep, keep-pass q x xs eq)
        (filter-cons (f x) (map f (keep (λ x. p x || q x) xs)) ∙ ap (union one) rest ∙ union-later one left right
        ∙ ap (union left) (sym (filter-cons (f x) (map f (keep q xs)))))
    go false false ep eq rest =
        rw (keep_fail (λ x. p x || q x) x xs (ap₂ ◌||◌ ep eq), keep_fail p x xs ep, keep_fail q x xs eq) rest

module _ (e : Entries) where
  pub length-filter_of : (ids : List ℕ) → length (filter_of e ids) ≡ 4
  unfolding filter_of
  length-filter_of ids = insert_all-four empty_filter (map (λ number. get_or e.hashes number 0) (entries_of e ids)) refl

  -- the ids count as a bag
  pub filter_of_perm : (xs ys : List ℕ) → List-as-Permᴰ xs ys → filter_of e xs ≡ filter_of e ys
  unfolding filter_of
  filter_of_perm xs ys p = ap (λ (l : List ℕ). insert_all empty_filter (map (λ number. get_or e.hashes number 0) l)) (entries_of_perm e xs ys p)

  -- a filter never denies the hash of an entry whose owner is among its ids
  pub filter_of_admits : (ids : List ℕ) (x : ℕ) → Memᴰ x (entries_of e ids) → may_contain (filter_of e ids) (get_or e.hashes x 0) ≡ true
  unfolding filter_of
  filter_of_admits ids x m = may_contain-all (Memᴰ.map (λ number. get_or e.hashes number 0) m) empty_filter refl

  pub filter_of-nil : filter_of e [] ≡ empty_filter
  unfolding filter_of insert_all
  filter_of-nil = ap (λ (l : List ℕ). insert_all empty_filter (map (λ number. get_or e.hashes number 0) l)) (entries_of-nil e)

  pub filter_of-append : (xs ys : List ℕ) → filter_of e (xs ++ ys) ≡ union (filter_of e xs) (filter_of e ys)
  unfolding filter_of entries_of hashes_filter
  filter_of-append xs ys =
      ap (λ (l : List ℕ). hashes_filter (map (λ number. get_or e.hashes number 0) l))
      (keep_congr (λ number. is_in (get_or e.owners number 0) (xs ++ ys))
      (λ number. is_in (get_or e.owners number 0) xs || is_in (get_or e.owners number 0) ys) (count_from 0 (length e.owners))
      (λ x m. is_in-append (get_or e.owners x 0) xs ys))
      ∙ filter_or (λ number. get_or e.hashes number 0) (λ number. is_in (get_or e.owners number 0) xs)
      (λ number. is_in (get_or e.owners number 0) ys) (count_from 0 (length e.owners))

  pub filter_of-joined : (l : List (List ℕ)) (f : List ℕ) → length f ≡ 4
      → union_all f (map (filter_of e) l) ≡ union f (filter_of e (joined (λ ids. ids) l))
  unfolding union_all joined
  filter_of-joined [] f h = sym (ap (union f) filter_of-nil ∙ union_empty_right f h)
  filter_of-joined (ids ∷ l) f h =
      filter_of-joined l (union f (filter_of e ids)) (union-four f (filter_of e ids) h (length-filter_of ids))
      ∙ union_assoc f (filter_of e ids) (filter_of e (joined (λ ids. ids) l))
      ∙ ap (union f) (sym (filter_of-append ids (joined (λ ids. ids) l)))

  -- the or of the filters of lists whose ids together are, as a bag, the ids
  pub filter_of-parts : (ids : List ℕ) (l : List (List ℕ)) → List-as-Permᴰ (joined (λ part. part) l) ids
      → filter_of e ids ≡ union_all empty_filter (map (filter_of e) l)
  filter_of-parts ids l p =
      sym (filter_of-joined l empty_filter refl
      ∙ union_empty (filter_of e (joined (λ part. part) l)) (length-filter_of (joined (λ part. part) l))
      ∙ filter_of_perm (joined (λ part. part) l) ids p)

pub perm_children-ids : (f : Forest) → AllFair f → List-as-Permᴰ (joined (λ ids. ids) (map kept_ids (trees_of f))) (forest_ids f)
unfolding trees_of joined forest_ids AllFair
perm_children-ids none h = List·Permᴰ·nil
perm_children-ids (more tree rest) h = perm_append (Permᴰ·symm (perm_leaf_ids tree h.0)) (perm_children-ids rest h.1)

-- an inner node's filter is the or of its children's
pub filter_of-children : (e : Entries) (ids : List ℕ) (children : Forest) → Fair (inner ids children)
    → filter_of e ids ≡ union_all empty_filter (map (λ t. filter_of e (kept_ids t)) (trees_of children))
unfolding Fair
filter_of-children e ids children h =
    filter_of-parts e ids (map kept_ids (trees_of children)) (List·Permᴰ·trans (perm_children-ids children h.1) h.0)
    ∙ ap (union_all empty_filter) (map-map (filter_of e) kept_ids (trees_of children))
