-- Hits that are struck. Where one document more is asked for than k for each hit that fails a test, the first k that pass are those of all: the front that is
-- asked for has at least k that pass, or it is all there is. Repeats dropped, no more fail than did before, and of the hits found as many fail as vectors are
-- withdrawn. Assumes nothing.
use Prim.Native.Nat.{ℕ, ◌+◌, ◌-◌, ◌^◌, ◌≤◌, ◌<◌}
use native.Mathlib.Numerals.{add-one}
use mir.Val.{bool_byte}
use native.Mathlib.Omega.{arith}
use mathlib.Core.Path.{◌≡◌, refl, sym, ap, ◌∙◌, subst}
use mathlib.Core.Logic.{◌⊎◌, inl, inr}
use mathlib.Core.Bool.{Bool, true, false, not, not-not}
use mathlib.Core.List.{List, [], ◌∷◌, ◌++◌, map, Memᴰ}
use lib.Dec.{ltb}
use lib.Ieee.{Float}
use lib.ListN.{length, get_or, take, drop, length-append, length-take, length-map, take-append-drop}
use lib.Seq.{length-take-le, take-suc, take_all, take-append-le}
use borrow.Author.Tests.{ltb-true}
use Rattle.lists.specs.Lists.{part, keep}
use Rattle.lists.specs.Tests.{all_pass, all_pass-Memᴰ}
use Rattle.lists.specs.Counting.{get_d_Memᴰ, keep-nil, keep-pass, keep_fail, keep_append, keep_congr, keep-map, length-keep_not}
use Rattle.record_queue.specs.Sorted.{sort}
use Rattle.record_queue.specs.SortedLaws.{le_or_lt, sort-keep, length-sort}
use Rattle.record_queue.specs.RecordsLaws.{same_or_not}
use Rattle.store.specs.declared.Shape.{Shape}
use Rattle.walk.specs.StoreView.{hit_at}
use Rattle.walk.specs.Answer.{document_of, vector_of, is_live, drop_after, drop_repeats, listed}
use Rattle.walk.proofs.AnswerLaws.{drop-nil, drop-same, drop_other}
use Rattle.hit_queue.specs.QueueLaws.{repeats_after}
use Rattle.best_first_search.specs.Ranks.{withdrawn, CountWithdrawn}

-- ---- the first k that pass

-- those of a list in two parts
keep-parts : (p : ℕ → Bool) (n : ℕ) (l : List ℕ) → keep p l ≡ keep p (take n l) ++ keep p (drop n l)
keep-parts p n l = ap (keep p) (sym (take-append-drop n l)) ∙ keep_append p (take n l) (drop n l)

-- a front has them, if so many of it pass
front-passes : (p : ℕ → Bool) (k n : ℕ) (l : List ℕ) → k ≤ length (keep p (take n l)) → take k (keep p l) ≡ take k (keep p (take n l))
front-passes p k n l enough = ap (take k) (keep-parts p n l) ∙ take-append-le k (keep p (take n l)) (keep p (drop n l)) enough

-- of two lists with the same front, where no more fail than the front is longer than k
pub passes-first : (p : ℕ → Bool) (k n : ℕ) (xs ys : List ℕ) → take n xs ≡ take n ys → k + length (keep (λ x. not (p x)) ys) ≤ n
    → take k (keep p xs) ≡ take k (keep p ys)
passes-first p k n xs ys same few = go (le_or_lt n (length ys))
  where
    fail : ℕ → Bool
    fail x = not (p x)

    go : (n ≤ length ys) ⊎ (length ys < n) → take k (keep p xs) ≡ take k (keep p ys)
    go (inl long) =
        let enough : k ≤ length (keep p (take n ys)) =
        omega (
          arith,
          few,
          length-keep_not p (take n ys),
          length-take-le n ys long,
          ap length (keep-parts fail n ys),
          length-append (keep fail (take n ys)) (keep fail (drop n ys)),
        ) in
        front-passes p k n xs (subst (λ (l : List ℕ). k ≤ length (keep p l)) (sym same) enough) ∙ ap (λ (l : List ℕ). take k (keep p l)) same
        ∙ sym (front-passes p k n ys enough)
    go (inr short) =
        let short' : length xs ≤ n = omega (arith, short, ap length same, length-take n xs, length-take n ys) in
        ap (λ (l : List ℕ). take k (keep p l)) (sym (take_all n xs short') ∙ same ∙ take_all n ys (let t : length ys ≤ n = omega (arith, short) in t))

-- ---- how many pass a test

keep-more : (p : ℕ → Bool) (x : ℕ) (l : List ℕ) → length (keep p (x ∷ l)) ≡ length (keep p (x ∷ [])) + length (keep p l)
keep-more p x l = ap length (keep_append p (x ∷ []) l) ∙ length-append (keep p (x ∷ [])) (keep p l)

-- repeats dropped, not more
after-few : (p : ℕ → Bool) (d : ℕ) (l : List ℕ) → length (keep p (drop_after d l)) ≤ length (keep p l)
after-few p d [] = omega (arith, ap (λ (l : List ℕ). length (keep p l)) (drop-nil d))
after-few p d (x ∷ xs) = go (same_or_not (document_of x) d) (after-few p d xs) (after-few p (document_of x) xs)
  where
    go : (document_of x ≡ d) ⊎ (document_of x ≡ d → ⊥) → length (keep p (drop_after d xs)) ≤ length (keep p xs)
        → length (keep p (drop_after (document_of x) xs)) ≤ length (keep p xs) → length (keep p (drop_after d (x ∷ xs))) ≤ length (keep p (x ∷ xs))
    go (inl e) a b = omega (arith, ap (λ (l : List ℕ). length (keep p l)) (drop-same d x xs e), keep-more p x xs, a)
    go (inr n) a b =
        omega (arith, ap (λ (l : List ℕ). length (keep p l)) (drop_other d x xs n), keep-more p x (drop_after (document_of x) xs), keep-more p x xs, b)

pub listed-is : (test : ℕ → Bool) (hits : List ℕ) → listed test hits ≡ keep test (drop_repeats (sort hits))
unfolding listed
listed-is test hits = refl

pub listed-few : (p : ℕ → Bool) (hits : List ℕ) → length (keep p (drop_repeats (sort hits))) ≤ length (keep p hits)
listed-few p hits =
    omega (
      arith,
      ap (λ (l : List ℕ). length (keep p l)) (repeats_after (sort hits)),
      after-few p (2 ^ 32) (sort hits),
      ap length (sort-keep p hits),
      length-sort (keep p hits),
    )

-- ---- withdrawn vectors

-- the vector of a vector's hit
pub hit-vector : (s : Shape) (floats : List Float) (numbers : List ℕ) (query : List Float) (vector : ℕ) → vector < 2 ^ 32
    → vector_of (hit_at s floats numbers query vector) ≡ vector
hit-vector s floats numbers query vector h = omega arith

-- as many hits are not live as vectors are withdrawn
pub struck-are : (marks numbers : List ℕ) (hit : ℕ → ℕ) → ((x : ℕ) → Memᴰ x numbers → vector_of (hit x) ≡ x)
    → length (keep (λ x. not (is_live marks x)) (map hit numbers)) ≡ length (keep (withdrawn marks) numbers)
unfolding is_live
struck-are marks numbers hit at =
    ap length (keep-map (λ x. not (is_live marks x)) hit numbers
    ∙ ap (map hit) (keep_congr (λ x. not (is_live marks (hit x))) (withdrawn marks) numbers
    (λ x m. not-not (withdrawn marks (vector_of (hit x))) ∙ ap (withdrawn marks) (at x m))))
    ∙ length-map (keep (withdrawn marks) numbers) hit

-- ---- counting them

-- each number has a mark
pub number-marked : (marks list numbers : List ℕ) (from found j : ℕ) → CountWithdrawn marks list from found → numbers ≡ part from found list → j < length numbers
    → get_or numbers j 0 < length marks
number-marked marks list numbers from found j w is less =
    ltb-true (get_or numbers j 0) (length marks)
    (all_pass-Memᴰ (λ x. ltb x (length marks)) numbers (ap (all_pass (λ x. ltb x (length marks))) is ∙ w.held) (get_or numbers j 0) (get_d_Memᴰ numbers j 0 less))

-- the numbers as a loop over them reads them
abbrev pub counted_part : ℕ → ℕ → List ℕ → List ℕ
counted_part from found list = take (from + found - from) (drop from list)

-- so many of the first j numbers pass
pub record Passed (p : ℕ → Bool) (numbers : List ℕ) (count j : ℕ) : Type 0 where
  pub few : count ≤ j
  pub counted : count ≡ length (keep p (take j numbers))

module _ (p : ℕ → Bool) (numbers : List ℕ) where
  pub passed_start : Passed p numbers 0 0
  passed_start = record { few = omega arith; counted = sym (ap length (keep-nil p)) }

  module _ (count j : ℕ) (less : j < length numbers) (c : Passed p numbers count j) where
    abbrev next : ℕ
    next = get_or numbers j 0

    more : length (keep p (take (j + 1) numbers)) ≡ count + length (keep p (next ∷ []))
    more =
        ap (λ (n : ℕ). length (keep p (take n numbers))) (add-one j) ∙ ap (λ (l : List ℕ). length (keep p l)) (take-suc numbers j 0 less)
        ∙ ap length (keep_append p (take j numbers) (next ∷ [])) ∙ length-append (keep p (take j numbers)) (keep p (next ∷ []))
        ∙ ap (λ (n : ℕ). n + length (keep p (next ∷ []))) (sym c.counted)

    one : (b : Bool) → p next ≡ b → length (keep p (next ∷ [])) ≡ bool_byte b
    one true t = ap length (keep-pass p next [] t) ∙ ap (λ (l : List ℕ). length (next ∷ l)) (keep-nil p)
    one false f = ap length (keep_fail p next [] f) ∙ ap length (keep-nil p)

    pub passed-next : Passed p numbers (count + bool_byte (p next)) (j + 1)
    passed-next = record { few = few (p next); counted = sym (more ∙ ap (λ (n : ℕ). count + n) (one (p next) refl)) }
      where
        few : (b : Bool) → count + bool_byte b ≤ j + 1
        few true = omega (arith, c.few)
        few false = omega (arith, c.few)

  pub passed-all : (count j : ℕ) → length numbers ≤ j → Passed p numbers count j → count ≡ length (keep p numbers)
  passed-all count j end c = c.counted ∙ ap (λ (l : List ℕ). length (keep p l)) (take_all j numbers end)
