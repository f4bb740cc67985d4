-- Runs of equal document ids in sorted hits: a hit more never makes them fewer, so hits that come after k runs of some are not among the first k of all.
-- Assumes nothing.
use Prim.Native.Nat.{ℕ, suc, ◌^◌, ◌≤◌, ◌<◌}
use native.Mathlib.Omega.{arith}
use mathlib.Core.Path.{◌≡◌, refl, sym, ap, ap₂, ◌∙◌, subst}
use mathlib.Core.Logic.{◌⊎◌, inl, inr}
use mathlib.Core.Bool.{Bool, true, false, not}
use mathlib.Core.List.Memᴰ
use mathlib.Core.List.{List, [], ◌∷◌, ◌++◌, Memᴰ}
use lib.Dec.{leb}
use lib.ListN.{length, take}
use lib.Seq.{take-append-le}
use borrow.Author.Tests.{le-leb, lt-leb, leb-true}
use Rattle.lists.specs.Lists.{keep}
use Rattle.lists.specs.Counting.{keep-nil, keep-pass, keep_fail, keep_append, keep_all, keep-none, Memᴰ-keep}
use Rattle.lists.specs.Tests.{which, either}
use Rattle.record_queue.specs.Sorted.{sort, insert, inserts, Least, Sorted}
use Rattle.record_queue.specs.SortedLaws.{le_or_lt, insert_le, insert_gt, insert-least, inserts-nil, inserts-cons, inserts-insert, sort-cons, sort-append, sort-append_comm, sort-keep, sort_sorted, least_mem}
use Rattle.record_queue.specs.RecordsLaws.{same_or_not}
use Rattle.walk.specs.Answer.{document_of, drop_after, drop_repeats}
use Rattle.walk.proofs.AnswerLaws.{drop-nil, drop-same, drop_other}
use Rattle.hit_queue.specs.QueueLaws.{repeats_after}

-- ---- runs

-- the document id of the last hit, or the one before
abbrev pub last_of : ℕ → List ℕ → ℕ
last_of d [] = d
last_of d (x ∷ xs) = last_of (document_of x) xs

pub after-append : (d : ℕ) (xs ys : List ℕ) → drop_after d (xs ++ ys) ≡ drop_after d xs ++ drop_after (last_of d xs) ys
after-append d [] ys = ap (λ (l : List ℕ). l ++ drop_after d ys) (sym (drop-nil d))
after-append d (x ∷ xs) ys = go (same_or_not (document_of x) d) (after-append (document_of x) xs ys)
  where
    go : (document_of x ≡ d) ⊎ (document_of x ≡ d → ⊥) → drop_after (document_of x) (xs ++ ys) ≡ drop_after (document_of x) xs ++ drop_after (last_of (document_of x) xs) ys
        → drop_after d (x ∷ xs ++ ys) ≡ drop_after d (x ∷ xs) ++ drop_after (last_of (document_of x) xs) ys
    go (inl e) rest =
        drop-same d x (xs ++ ys) e ∙ ap (λ (n : ℕ). drop_after n (xs ++ ys)) (sym e) ∙ rest
        ∙ ap (λ (l : List ℕ). l ++ drop_after (last_of (document_of x) xs) ys) (ap (λ (n : ℕ). drop_after n xs) e ∙ sym (drop-same d x xs e))
    go (inr n) rest =
        drop_other d x (xs ++ ys) n ∙ ap {B = List ℕ} (λ t. x ∷ t) rest
        ∙ ap (λ (l : List ℕ). l ++ drop_after (last_of (document_of x) xs) ys) (sym (drop_other d x xs n))

-- after another id there is at most one run fewer
after_close : (d e : ℕ) (l : List ℕ) → length (drop_after d l) ≤ suc (length (drop_after e l))
after_close d e [] = omega (arith, ap length (drop-nil d))
after_close d e (x ∷ xs) = go (same_or_not (document_of x) d) (same_or_not (document_of x) e)
  where
    go : (document_of x ≡ d) ⊎ (document_of x ≡ d → ⊥) → (document_of x ≡ e) ⊎ (document_of x ≡ e → ⊥)
        → length (drop_after d (x ∷ xs)) ≤ suc (length (drop_after e (x ∷ xs)))
    go (inl a) (inl b) = omega (arith, ap (λ (n : ℕ). length (drop_after n (x ∷ xs))) (sym a ∙ b))
    go (inl a) (inr b) =
        omega (arith, ap length (drop-same d x xs a), ap (λ (n : ℕ). length (drop_after n xs)) a, ap length (drop_other e x xs b))
    go (inr a) (inl b) =
        omega (arith, ap length (drop_other d x xs a), ap (λ (n : ℕ). length (drop_after n xs)) b, ap length (drop-same e x xs b))
    go (inr a) (inr b) = omega (arith, ap length (drop_other d x xs a), ap length (drop_other e x xs b))

-- a hit more in front
after_more : (d x : ℕ) (l : List ℕ) → length (drop_after d l) ≤ length (drop_after d (x ∷ l))
after_more d x l = either (same_or_not (document_of x) d)
    (λ e. let t : length (drop_after d l) ≤ length (drop_after d (x ∷ l)) = omega (arith, ap length (drop-same d x l e)) in t)
    (λ n. let t : length (drop_after d l) ≤ length (drop_after d (x ∷ l)) = omega (arith, ap length (drop_other d x l n), after_close d (document_of x) l) in t)

-- and in its place
insert-more : (d x : ℕ) (l : List ℕ) → length (drop_after d l) ≤ length (drop_after d (insert x l))
insert-more d x [] = omega (arith, ap length (drop-nil d))
insert-more d x (y ∷ ys) = go (le_or_lt x y) (same_or_not (document_of y) d) (insert-more d x ys) (insert-more (document_of y) x ys)
  where
    go : (x ≤ y) ⊎ (y < x) → (document_of y ≡ d) ⊎ (document_of y ≡ d → ⊥) → length (drop_after d ys) ≤ length (drop_after d (insert x ys))
        → length (drop_after (document_of y) ys) ≤ length (drop_after (document_of y) (insert x ys)) → length (drop_after d (y ∷ ys)) ≤ length (drop_after d (insert x (y ∷ ys)))
    go (inl le) s a b = omega (arith, ap (λ (l : List ℕ). length (drop_after d l)) (insert_le x y ys le), after_more d x (y ∷ ys))
    go (inr gt) (inl e) a b =
        omega (arith, ap (λ (l : List ℕ). length (drop_after d l)) (insert_gt x y ys gt), ap length (drop-same d y ys e), ap length (drop-same d y (insert x ys) e), a)
    go (inr gt) (inr n) a b =
        omega (arith, ap (λ (l : List ℕ). length (drop_after d l)) (insert_gt x y ys gt), ap length (drop_other d y ys n), ap length (drop_other d y (insert x ys) n), b)

inserts-more : (d : ℕ) (xs l : List ℕ) → length (drop_after d l) ≤ length (drop_after d (inserts xs l))
inserts-more d [] l = omega (arith, ap (λ (k : List ℕ). length (drop_after d k)) (inserts-nil l))
inserts-more d (x ∷ xs) l =
    omega (arith, ap (λ (k : List ℕ). length (drop_after d k)) (inserts-cons x xs l), insert-more d x (inserts xs l), inserts-more d xs l)

-- hits more never make the runs fewer
pub runs-more : (xs ys : List ℕ) → length (drop_repeats (sort xs)) ≤ length (drop_repeats (sort (xs ++ ys)))
runs-more xs ys =
    omega (
      arith,
      ap length (repeats_after (sort xs)),
      ap length (repeats_after (sort (xs ++ ys))),
      ap (λ (l : List ℕ). length (drop_after (2 ^ 32) l)) (sort-append_comm xs ys ∙ sort-append ys xs),
      inserts-more (2 ^ 32) ys (sort xs),
    )

-- ---- sorting

sort_middle : (xs : List ℕ) (y : ℕ) (ys : List ℕ) → sort (xs ++ (y ∷ ys)) ≡ insert y (sort (xs ++ ys))
sort_middle xs y ys = sort-append xs (y ∷ ys) ∙ ap (inserts xs) (sort-cons y ys) ∙ inserts-insert xs y (sort ys) ∙ ap (insert y) (sym (sort-append xs ys))

-- ---- hits up to one of them are the front of the sorted hits

abbrev up_to : ℕ → ℕ → Bool
up_to b y = leb y b

split-low : (b : ℕ) (l : List ℕ) → Sorted l → (rest : List ℕ) × (l ≡ keep (up_to b) l ++ rest)
split-low b [] h = ([], sym (ap (λ (l : List ℕ). l ++ []) (keep-nil (up_to b))))
split-low b (x ∷ xs) h = go (le_or_lt x b) (split-low b xs h.1)
  where
    go : (x ≤ b) ⊎ (b < x) → ((rest : List ℕ) × (xs ≡ keep (up_to b) xs ++ rest)) → (rest : List ℕ) × (x ∷ xs ≡ keep (up_to b) (x ∷ xs) ++ rest)
    go (inl le) r = (r.0, ap {B = List ℕ} (λ l. x ∷ l) r.1 ∙ ap (λ (l : List ℕ). l ++ r.0) (sym (keep-pass (up_to b) x xs (le-leb x b le))))
    go (inr gt) r = (
      x ∷ xs,
      ap (λ (l : List ℕ). l ++ (x ∷ xs))
          (sym (keep_fail (up_to b) x xs (lt-leb x b gt) ∙ keep-none (up_to b) xs (λ y m. lt-leb y b (let t : b < y = omega (arith, gt, least_mem x xs h.0 m) in t)))),
    )

-- a hit that is not below a front goes in behind it
insert-behind : (front rest : List ℕ) (b : ℕ) → Sorted (front ++ rest) → ((y : ℕ) → Memᴰ y front → y ≤ b) → insert b (front ++ rest) ≡ front ++ insert b rest
insert-behind [] rest b s low = refl
insert-behind (x ∷ xs) rest b s low = go (le_or_lt b x) (insert-behind xs rest b s.1 (λ y m. low y (Memᴰ.tail m)))
  where
    all : List ℕ
    all = xs ++ rest

    go : (b ≤ x) ⊎ (x < b) → insert b all ≡ xs ++ insert b rest → insert b (x ∷ all) ≡ x ∷ (xs ++ insert b rest)
    go (inl le) behind =
        let same : b ≡ x = omega (arith, le, low x (Memᴰ.head refl)) in
        insert_le b x all le ∙ ap (λ (n : ℕ). n ∷ x ∷ all) same
        ∙ ap {B = List ℕ} (λ l. x ∷ l) (sym (ap (λ (n : ℕ). insert n all) same ∙ insert-least x all s.0) ∙ behind)
    go (inr gt) behind = insert_gt b x all gt ∙ ap {B = List ℕ} (λ l. x ∷ l) behind

-- the first k of a front with k runs are those of the whole
front-first : (k : ℕ) (front rest : List ℕ) → k ≤ length (drop_repeats front) → take k (drop_repeats (front ++ rest)) ≡ take k (drop_repeats front)
front-first k front rest enough =
    let more : List ℕ = drop_after (last_of (2 ^ 32) front) rest in
    ap (take k) (repeats_after (front ++ rest) ∙ after-append (2 ^ 32) front rest)
    ∙ take-append-le k (drop_after (2 ^ 32) front) more (subst (λ (l : List ℕ). k ≤ length l) (repeats_after front) enough)
    ∙ ap (take k) (sym (repeats_after front))

-- ---- hits that are not below k runs of others can be left out

module _ (k : ℕ) (some : List ℕ) (enough : k ≤ length (drop_repeats (sort some))) where
  without-one : (b : ℕ) (others : List ℕ) → ((y : ℕ) → Memᴰ y some → y ≤ b)
      → take k (drop_repeats (insert b (sort (some ++ others)))) ≡ take k (drop_repeats (sort (some ++ others)))
  without-one b others low =
      ap (λ (l : List ℕ). take k (drop_repeats l)) (ap (insert b) split.1 ∙ insert-behind front split.0 b (subst Sorted split.1 (sort_sorted (some ++ others))) below)
      ∙ front-first k front (insert b split.0) many ∙ sym (front-first k front split.0 many) ∙ ap (λ (l : List ℕ). take k (drop_repeats l)) (sym split.1)
    where
      all : List ℕ
      all = sort (some ++ others)

      front : List ℕ
      front = keep (up_to b) all

      split : (rest : List ℕ) × (all ≡ front ++ rest)
      split = split-low b all (sort_sorted (some ++ others))

      below : (y : ℕ) → Memᴰ y front → y ≤ b
      below y m = leb-true y b (Memᴰ-keep (up_to b) y all m).0

      is : front ≡ sort (some ++ keep (up_to b) others)
      is =
          sym (sort-keep (up_to b) (some ++ others)) ∙ ap sort (keep_append (up_to b) some others
          ∙ ap (λ (l : List ℕ). l ++ keep (up_to b) others) (keep_all (up_to b) some (λ y m. le-leb y b (low y m))))

      many : k ≤ length (drop_repeats front)
      many = omega (arith, enough, runs-more some (keep (up_to b) others), ap (λ (l : List ℕ). length (drop_repeats l)) is)

  pub without : (past others : List ℕ) → ((y : ℕ) → Memᴰ y some → (b : ℕ) → Memᴰ b past → y ≤ b)
      → take k (drop_repeats (sort (some ++ (past ++ others)))) ≡ take k (drop_repeats (sort (some ++ others)))
  without [] others low = refl
  without (b ∷ past) others low =
      ap (λ (l : List ℕ). take k (drop_repeats l)) (sort_middle some b (past ++ others)) ∙ without-one b (past ++ others) (λ y m. low y m b (Memᴰ.head refl))
      ∙ without past others (λ y m c n. low y m c (Memᴰ.tail n))

-- ---- sorted lists in two parts

-- none of the first part is above one of the second
pub sorted_before : (xs ys : List ℕ) → Sorted (xs ++ ys) → (x : ℕ) → Memᴰ x xs → (y : ℕ) → Memᴰ y ys → x ≤ y
sorted_before [] ys h x m y n = absurd (Memᴰ.not-nil m)
sorted_before (z ∷ xs) ys h x m y n = go (Memᴰ.cases_cons m) (λ i. sorted_before xs ys h.1 x i y n)
  where
    go : (x ≡ z) ⊎ Memᴰ x xs → (Memᴰ x xs → x ≤ y) → x ≤ y
    go (inl e) rest = subst (λ (t : ℕ). t ≤ y) (sym e) (least_mem z (xs ++ ys) h.0 (Memᴰ.append_right xs n))
    go (inr i) rest = rest i

least-front : (x : ℕ) (xs ys : List ℕ) → Least x (xs ++ ys) → Least x xs
least-front x [] ys h = tt
least-front x (z ∷ xs) ys h = (h.0, least-front x xs ys h.1)

pub sorted_front : (xs ys : List ℕ) → Sorted (xs ++ ys) → Sorted xs
sorted_front [] ys h = tt
sorted_front (x ∷ xs) ys h = (least-front x xs ys h.0, sorted_front xs ys h.1)

-- those that pass a test, and the others
pub sort-split : (p : ℕ → Bool) (l : List ℕ) → sort l ≡ sort (keep (λ x. not (p x)) l ++ keep p l)
sort-split p [] = ap sort (sym (ap₂ (λ (xs ys : List ℕ). xs ++ ys) (keep-nil (λ x. not (p x))) (keep-nil p)))
sort-split p (x ∷ xs) = go (which (p x)) (sort-split p xs)
  where
    q : ℕ → Bool
    q y = not (p y)

    go : (p x ≡ true) ⊎ (p x ≡ false) → sort xs ≡ sort (keep q xs ++ keep p xs) → sort (x ∷ xs) ≡ sort (keep q (x ∷ xs) ++ keep p (x ∷ xs))
    go (inl t) rest =
        sort-cons x xs ∙ ap (insert x) rest ∙ sym (sort_middle (keep q xs) x (keep p xs))
        ∙ ap sort (sym (ap₂ (λ (xs ys : List ℕ). xs ++ ys) (keep_fail q x xs (ap not t)) (keep-pass p x xs t)))
    go (inr f) rest =
        sort-cons x xs ∙ ap (insert x) rest ∙ sym (sort-cons x (keep q xs ++ keep p xs))
        ∙ ap sort (sym (ap₂ (λ (xs ys : List ℕ). xs ++ ys) (keep-pass q x xs (ap not f)) (keep_fail p x xs f)))
