-- Laws of the answer: with different documents nothing is dropped; a larger budget never makes an answer worse. Assumes nothing.
use Rattle.std.specs.Prelude.{ℕ, ◌/◌, ◌^◌, ◌≤◌, ◌<◌, ◌≡◌, refl, Bool, cond, List, [], ◌∷◌, ◌++◌, map, length, get_or, take}
use Rattle.std.proofs.Common.{arith, sym, ap, ◌∙◌, subst, eq-eqb, ne_eqb}
use Rattle.std.proofs.lemmas.Bool.{false≢true}
use Rattle.std.proofs.lemmas.List.{map-append}
use Rattle.lists.specs.Lists.{is_in, keep}
use Rattle.lists.specs.Counting.{is_in-here, keep_append}
use Rattle.lists.specs.Partition.{List-as-Permᴰ, Permᴰ·map, count, count-append, perm_count, Different}
use Rattle.record_queue.specs.Sorted.{sort, NoLater}
use Rattle.record_queue.specs.SortedLaws.{sort_perm, sort-keep, no_later-sort, no_later-take, no_later-at}
use Rattle.walk.specs.Walk.{Progress}
use Rattle.walk.proofs.DifferentLaws.{different_head, different_tail}
use Rattle.walk.specs.Answer.{document_of, drop_after, drop_repeats, ranked}

-- ---- repeats

pub drop-nil : (document : ℕ) → drop_after document [] ≡ []
unfolding drop_after
drop-nil document = refl

pub drop-same : (document hit : ℕ) (rest : List ℕ) → document_of hit ≡ document → drop_after document (hit ∷ rest) ≡ drop_after document rest
unfolding drop_after
drop-same document hit rest e =
    ap (λ (b : Bool). cond b (drop_after document rest) (hit ∷ drop_after (document_of hit) rest)) (eq-eqb (document_of hit) document e)

pub drop_other : (document hit : ℕ) (rest : List ℕ) → (document_of hit ≡ document → ⊥) → drop_after document (hit ∷ rest) ≡ hit ∷ drop_after (document_of hit) rest
unfolding drop_after
drop_other document hit rest n =
    ap (λ (b : Bool). cond b (drop_after document rest) (hit ∷ drop_after (document_of hit) rest)) (ne_eqb (document_of hit) document n)

pub repeats_nil : drop_repeats [] ≡ []
unfolding drop_repeats
repeats_nil = refl

pub repeats_cons : (hit : ℕ) (rest : List ℕ) → drop_repeats (hit ∷ rest) ≡ hit ∷ drop_after (document_of hit) rest
unfolding drop_repeats
repeats_cons hit rest = refl

pub ranked-is : (test : ℕ → Bool) (p : Progress) → ranked test p ≡ keep test (drop_repeats (sort p.found))
unfolding ranked
ranked-is test p = refl

-- With different documents nothing is dropped
drop-none : (document : ℕ) (l : List ℕ) → Different (document ∷ map document_of l) → drop_after document l ≡ l
drop-none document [] d = drop-nil document
drop-none document (hit ∷ rest) d =
    drop_other document hit rest differ
    ∙ ap {B = List ℕ} (λ t. hit ∷ t) (drop-none (document_of hit) rest (different_tail document (document_of hit ∷ map document_of rest) d))
  where
    differ : document_of hit ≡ document → ⊥
    differ e =
        false≢true (sym (different_head document (document_of hit ∷ map document_of rest) d)
        ∙ ap (λ (x : ℕ). is_in document (x ∷ map document_of rest)) e ∙ is_in-here document (map document_of rest))

pub repeats_none : (l : List ℕ) → Different (map document_of l) → drop_repeats l ≡ l
repeats_none [] d = repeats_nil
repeats_none (hit ∷ rest) d = repeats_cons hit rest ∙ ap {B = List ℕ} (λ t. hit ∷ t) (drop-none (document_of hit) rest d)

pub different_perm : (f : ℕ → ℕ) (xs ys : List ℕ) → List-as-Permᴰ xs ys → Different (map f xs) → Different (map f ys)
different_perm f xs ys p d x = omega (arith, d x, perm_count x (map f xs) (map f ys) (Permᴰ·map f p))

pub different-part : (f : ℕ → ℕ) (more xs : List ℕ) → Different (map f (more ++ xs)) → Different (map f xs)
different-part f more xs d x =
    omega (arith, d x, ap (count x) (map-append f more xs), count-append x (map f more) (map f xs))

-- so the hits that pass the test are listed in order
pub ranked-all : (test : ℕ → Bool) (p : Progress) → Different (map document_of p.found) → ranked test p ≡ sort (keep test p.found)
ranked-all test p d =
    ranked-is test p
    ∙ ap (keep test) (repeats_none (sort p.found) (different_perm document_of p.found (sort p.found) (sort_perm p.found) d))
    ∙ sym (sort-keep test p.found)

-- ---- larger budgets

-- With more found, and no document twice, every place among the first k that was filled is filled by a hit that is not later
pub never_worse : (test : ℕ → Bool) (p q : Progress) (more : List ℕ) (k : ℕ) → q.found ≡ more ++ p.found → Different (map document_of q.found)
    → NoLater (take k (ranked test p)) (take k (ranked test q))
never_worse test p q more k e d =
    let fewer : Different (map document_of p.found) = different-part document_of more p.found (subst (λ (l : List ℕ). Different (map document_of l)) e d) in
    let kept : keep test more ++ keep test p.found ≡ keep test q.found = sym (keep_append test more p.found) ∙ ap (keep test) (sym e) in
    let later : NoLater (sort (keep test p.found)) (sort (keep test q.found)) =
    subst (λ (l : List ℕ). NoLater (sort (keep test p.found)) (sort l)) kept (no_later-sort (keep test more) (keep test p.found)) in
    no_later-take k (ranked test p) (ranked test q) (rw (ranked-all test p fewer, ranked-all test q d) later)

-- so its distance is not later in total order: its key is not above
pub never-later : (test : ℕ → Bool) (p q : Progress) (more : List ℕ) (k : ℕ) → q.found ≡ more ++ p.found → Different (map document_of q.found)
    → (i : ℕ) → i < length (take k (ranked test p)) → get_or (take k (ranked test q)) i 0 / 2 ^ 64 ≤ get_or (take k (ranked test p)) i 0 / 2 ^ 64
never-later test p q more k e d i h =
    let less : get_or (take k (ranked test q)) i 0 ≤ get_or (take k (ranked test p)) i 0 =
    no_later-at (take k (ranked test p)) (take k (ranked test q)) i (never_worse test p q more k e d) h in
    omega arith
