-- Every node of a walk is pushed once: lists without repeats, and the nodes pushed are those opened and those that wait. Assumes nothing.
use Rattle.std.specs.Prelude.{ℕ, zero, suc, ◌+◌, ◌^◌, ◌≤◌, ◌<◌, ◌≡◌, refl, ◌⊎◌, Bool, true, false, not, eqb, length}
use Rattle.std.proofs.Common.{arith, sym, ap, ◌∙◌, subst, inl, inr, eqb-true}
use mathlib.Core.List.Memᴰ
use mathlib.Core.List.{List, [], ◌∷◌, map, Memᴰ}
use Rattle.std.proofs.lemmas.Bool.{eqb-false, not-true}
use Rattle.lists.specs.Lists.{keep, is_in}
use Rattle.lists.specs.Counting.{is_in-nil, is_in-Memᴰ, keep-nil, keep-pass, keep_fail, Memᴰ-keep, length-keep_not}
use Rattle.lists.specs.Tests.{which, either}
use Rattle.lists.specs.Partition.{List-as-Permᴰ, Permᴰ·map, hit, count, hit_same, hit_other, count-nil, count-cons, perm_count, count_not_in, Memᴰ-count, count-keep_fail, count-keep-pass, Different}
use Rattle.record_queue.specs.Sorted.{insert}
use Rattle.record_queue.specs.SortedLaws.{insert_perm}
use Rattle.walk.specs.Walk.{children, View, waiting_node, node_number, Progress, going, shown, walk}
use Rattle.walk.proofs.WalkLaws.{pushed_one, start_progress, Kept, kept-walk}

pub different-nil : Different []
different-nil x = omega (arith, count-nil x)

-- one more that is not in it
pub different-cons : (c : ℕ) (l : List ℕ) → is_in c l ≡ false → Different l → Different (c ∷ l)
different-cons c l f d x = go (which (eqb x c))
  where
    go : (eqb x c ≡ true) ⊎ (eqb x c ≡ false) → count x (c ∷ l) ≤ 1
    go (inl e) =
        let same : x ≡ c = eqb-true x c e in
        let z : count x l ≡ 0 = ap (λ (y : ℕ). count y l) same ∙ count_not_in c l f in
        omega (arith, count-cons x c l, hit_same x c same, z)
    go (inr e) = omega (arith, count-cons x c l, hit_other x c (eqb-false x c e), d x)

pub different_tail : (x : ℕ) (l : List ℕ) → Different (x ∷ l) → Different l
different_tail x l d y = omega (arith, d y, count-cons y x l)

pub different_head : (x : ℕ) (l : List ℕ) → Different (x ∷ l) → is_in x l ≡ false
different_head x l d = go (which (is_in x l))
  where
    go : (is_in x l ≡ true) ⊎ (is_in x l ≡ false) → is_in x l ≡ false
    go (inl e) =
        absurd (let n : 0 < count x l = Memᴰ-count (is_in-Memᴰ x l e) in omega (arith, d x, count-cons x x l, hit_same x x refl, n))
    go (inr e) = e

-- a number is there as often as there are equal ones
kept-count : (n : ℕ) (l : List ℕ) → length (keep (λ x. eqb x n) l) ≡ count n l
kept-count n [] = ap length (keep-nil (λ x. eqb x n)) ∙ sym (count-nil n)
kept-count n (y ∷ ys) = go (which (eqb y n)) (kept-count n ys)
  where
    go : (eqb y n ≡ true) ⊎ (eqb y n ≡ false) → length (keep (λ x. eqb x n) ys) ≡ count n ys → length (keep (λ x. eqb x n) (y ∷ ys)) ≡ count n (y ∷ ys)
    go (inl e) r =
        let one : hit n y ≡ 1 = hit_same n y (sym (eqb-true y n e)) in
        omega (arith, ap length (keep-pass (λ x. eqb x n) y ys e), count-cons n y ys, one, r)
    go (inr e) r =
        let none' : hit n y ≡ 0 = hit_other n y (λ w. eqb-false y n e (sym w)) in
        omega (arith, ap length (keep_fail (λ x. eqb x n) y ys e), count-cons n y ys, none', r)

different-keep : (p : ℕ → Bool) (l : List ℕ) → Different l → Different (keep p l)
different-keep p l d x = go (which (p x))
  where
    go : (p x ≡ true) ⊎ (p x ≡ false) → count x (keep p l) ≤ 1
    go (inl e) = omega (arith, count-keep-pass p x l e, d x)
    go (inr e) = omega (arith, count-keep_fail p x l e)

-- different numbers below n are at most n
pub different-below : (n : ℕ) (l : List ℕ) → Different l → ((x : ℕ) → Memᴰ x l → x < n) → length l ≤ n
different-below zero [] d h = omega arith
different-below zero (x ∷ xs) d h = absurd (let none' : x < 0 = h x (Memᴰ.head refl) in omega arith)
different-below (suc n) l d h =
    let fewer : length (keep (λ x. not (eqb x n)) l) ≤ n = different-below n (keep (λ x. not (eqb x n)) l) (different-keep (λ x. not (eqb x n)) l d) below in
    omega (arith, fewer, length-keep_not (λ x. eqb x n) l, kept-count n l, d n)
  where
    other : (x : ℕ) → not (eqb x n) ≡ true → x < suc n → x < n
    other x e g = let differ : x ≡ n → ⊥ = eqb-false x n (not-true (eqb x n) e) in omega arith

    below : (x : ℕ) → Memᴰ x (keep (λ x. not (eqb x n)) l) → x < n
    below x m = let k = Memᴰ-keep (λ x. not (eqb x n)) x l m in other x k.0 (h x k.1)

-- the numbers of waiting nodes
abbrev pub node_numbers : List ℕ → List ℕ
node_numbers waiting = map node_number waiting

-- what a view shows as children are numbers below n
abbrev pub ChildrenBelow : View → ℕ → Type 0
ChildrenBelow view n = (i : ℕ) (numbers : List ℕ) (child : ℕ) → shown view i ≡ children numbers → Memᴰ child numbers → child < n

pub number_of : (view : View) (c : ℕ) → c < 2 ^ 64 → node_number (waiting_node view c) ≡ c
number_of view c h = omega arith

pub numbers-insert : (view : View) (c : ℕ) (waiting : List ℕ) → c < 2 ^ 64
    → List-as-Permᴰ (c ∷ node_numbers waiting) (node_numbers (insert (waiting_node view c) waiting))
numbers-insert view c waiting h =
    subst (λ (x : ℕ). List-as-Permᴰ (x ∷ node_numbers waiting) (node_numbers (insert (waiting_node view c) waiting))) (number_of view c h)
    (Permᴰ·map node_number (insert_perm (waiting_node view c) waiting))

-- Every node is pushed once, and the nodes pushed are those opened and those that wait
pub record Once (n : ℕ) (p : Progress) : Type 0 where
  pub different : Different p.pushed
  pub below : (x : ℕ) → Memᴰ x p.pushed → x < n
  pub counted : (x : ℕ) → count x p.opened + count x (node_numbers p.waiting) ≡ count x p.pushed

pub once-push : (view : View) (n : ℕ) → n ≤ 2 ^ 64 → (p : Progress) (child : ℕ) → child < n → is_in child p.pushed ≡ false → Once n p
    → Once n (pushed_one view child p)
once-push view n fits p child low f h = record {
  different = different-cons child p.pushed f h.different;
  below = λ x k. either (Memᴰ.cases_cons k) (λ q. subst (λ (y : ℕ). y < n) (sym q) low) (λ j. h.below x j);
  counted = λ x. omega (
    arith,
    h.counted x,
    count-cons x child p.pushed,
    perm_count x (child ∷ node_numbers p.waiting) (node_numbers (insert (waiting_node view child) p.waiting)) (numbers-insert view child p.waiting (let t : child < 2 ^ 64 = omega arith in t)),
    count-cons x child (node_numbers p.waiting),
  );
}

module _ (view : View) (n : ℕ) (fits : n ≤ 2 ^ 64) (children-below : ChildrenBelow view n) where
  pub once-kept : Kept view (Once n)
  once-kept = record {
    opens = λ p least rest e h. record {
      different = h.different;
      below = h.below;
      counted = λ x. omega (
        arith,
        h.counted x,
        count-cons x (node_number least) p.opened,
        ap (λ (w : List ℕ). count x (node_numbers w)) e,
        count-cons x (node_number least) (node_numbers rest),
      );
    };
    pushes = λ p i numbers child e m f h. once-push view n fits p child (children-below i numbers child e m) f h;
    adds = λ p new g h. record { different = h.different; below = h.below; counted = h.counted };
  }

  pub once-start : 0 < n → Once n (start_progress view)
  once-start pos = record {
    different = different-cons 0 [] (is_in-nil 0) different-nil;
    below = λ x k. either (Memᴰ.cases_cons k) (λ q. subst (λ (y : ℕ). y < n) (sym q) pos) (λ j. absurd (Memᴰ.not-nil j));
    counted = λ x. omega (arith, count-nil x, ap (λ (c : ℕ). count x (c ∷ [])) (number_of view 0 (let t : 0 < 2 ^ 64 = omega arith in t)));
  }

  pub once : 0 < n → (b : ℕ) (p : Progress) → walk view b ≡ going p → Once n p
  once pos b p e = kept-walk view (Once n) once-kept (once-start pos) b p e
