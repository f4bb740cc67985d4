-- Lists with the same elements in another order (mathlib's `List-as-Permᴰ`), sorting a list into classes, and how often a
-- number is in a list.
--
-- Of `List-as-Permᴰ` mathlib has the laws that are passed on here; those that follow speak of the native numbers, of `isIn`,
-- `keep`, `joined`, `sum_of` and `count`. "x is in exactly one of the lists" is `count x (joined f l) ≡ 1`.
use Rattle.std.specs.Prelude.{◌≡◌, ◌⊎◌, Bool, true, false, ℕ, zero, suc, ◌+◌, ◌-◌, ◌≤◌, ◌<◌, length, get_or, eqb, leb, ltb}
use Rattle.std.proofs.Math.Path.{refl, ap, ap₂}
use Rattle.std.proofs.Common.{sym, ◌∙◌, subst, inl, inr, not-suc-le-zero, le_of_suc-le-suc, zero-add, eq-zero-or-pos, eqb-true, eq-eqb, ne_eqb, leb-true, leb-false, ltb-true, ltb-false}
use Rattle.std.proofs.Math.Bool.{cond}
use Rattle.std.proofs.lemmas.Bool.{false≢true, eqb-false}
use native.Mathlib.Omega.{arith}
use mathlib.Core.List.{List, [], ◌∷◌, ◌++◌, append_assoc, Memᴰ}
pub use mathlib.Core.List.Permᴰ.{append_comm as List·Permᴰ·append-comm}
pub use mathlib.Core.List.Permᴰ.{append_left as Permᴰ·append-left}
pub use mathlib.Core.List.Permᴰ.{append_right as Permᴰ·append-right}
pub use mathlib.Core.List.Permᴰ.{cons as List·Permᴰ·cons}
pub use mathlib.Core.List.Permᴰ.{map as Permᴰ·map}
pub use mathlib.Core.List.Permᴰ.{middle as Permᴰ·middle}
pub use mathlib.Core.List.Permᴰ.{nil as List·Permᴰ·nil}
pub use mathlib.Core.List.Permᴰ.{refl as Permᴰ·refl}
pub use mathlib.Core.List.Permᴰ.{swap as List·Permᴰ·swap}
pub use mathlib.Core.List.Permᴰ.{symm as Permᴰ·symm}
pub use mathlib.Core.List.Permᴰ.{trans as List·Permᴰ·trans}
pub use mathlib.Core.List.{Permᴰ as List-as-Permᴰ}
use Rattle.std.proofs.Math.Arith.{lt_of_le-ne}
use Rattle.lists.specs.Lists.{keep, joined, count_from, is_in}
use Rattle.lists.specs.Counting.{get_d_Memᴰ, is_in_ext, is_in-Memᴰ, Memᴰ-is_in, is_in-keep, count_from-cons, count_from-append, is_in-count_from_not, Memᴰ-count_from, keep-nil, keep-pass, keep_fail, joined-cons, joined-append, joined_congr, joined-none, sum_of, sum_of-append}
use Rattle.lists.specs.Tests.{which}

-- ---- laws of every permutation

module _ {ℓ} {A : Type ℓ} where
  pub perm_of_eq : {xs ys : List A} → xs ≡ ys → List-as-Permᴰ xs ys
  perm_of_eq {xs} e = subst (λ (r : List A). List-as-Permᴰ xs r) e (Permᴰ·refl xs)

  pub perm_append : {xs xs' ys ys' : List A} → List-as-Permᴰ xs xs' → List-as-Permᴰ ys ys' → List-as-Permᴰ (xs ++ ys) (xs' ++ ys')
  perm_append {xs' = xs'} {ys = ys} p q = List·Permᴰ·trans (Permᴰ·append-right ys p) (Permᴰ·append-left xs' q)

  pub perm_length : {xs ys : List A} → List-as-Permᴰ xs ys → length xs ≡ length ys
  perm_length List·Permᴰ·nil = refl
  perm_length (List·Permᴰ·cons e p) = ap suc (perm_length p)
  perm_length (List·Permᴰ·swap e f) = refl
  perm_length (List·Permᴰ·trans p q) = perm_length p ∙ perm_length q

  swap-Memᴰ : {x a b a' b' : A} {l : List A} → a ≡ b' → b ≡ a' → Memᴰ x (a ∷ b ∷ l) → Memᴰ x (a' ∷ b' ∷ l)
  swap-Memᴰ e f (Memᴰ.head q) = Memᴰ.tail (Memᴰ.head (q ∙ e))
  swap-Memᴰ e f (Memᴰ.tail (Memᴰ.head q)) = Memᴰ.head (q ∙ f)
  swap-Memᴰ e f (Memᴰ.tail (Memᴰ.tail m)) = Memᴰ.tail (Memᴰ.tail m)

  cons-Memᴰ : {x a b : A} {xs ys : List A} → a ≡ b → (Memᴰ x xs → Memᴰ x ys) → Memᴰ x (a ∷ xs) → Memᴰ x (b ∷ ys)
  cons-Memᴰ e rest (Memᴰ.head q) = Memᴰ.head (q ∙ e)
  cons-Memᴰ e rest (Memᴰ.tail m) = Memᴰ.tail (rest m)

  pub perm_Memᴰ : {x : A} {xs ys : List A} → List-as-Permᴰ xs ys → Memᴰ x xs → Memᴰ x ys
  perm_Memᴰ List·Permᴰ·nil m = m
  perm_Memᴰ (List·Permᴰ·cons e p) m = cons-Memᴰ e (perm_Memᴰ p) m
  perm_Memᴰ (List·Permᴰ·swap e f) m = swap-Memᴰ e f m
  perm_Memᴰ (List·Permᴰ·trans p q) m = perm_Memᴰ q (perm_Memᴰ p m)

  pub perm_sum_of : (f : A → ℕ) {xs ys : List A} → List-as-Permᴰ xs ys → sum_of f xs ≡ sum_of f ys
  unfolding sum_of
  perm_sum_of f List·Permᴰ·nil = refl
  perm_sum_of f (List·Permᴰ·cons e p) = ap₂ (λ (a b : ℕ). a + b) (ap f e) (perm_sum_of f p)
  perm_sum_of f (List·Permᴰ·swap {a = a} {b = b} {a' = a'} {b' = b'} {l = l} e g) =
      let u : f a ≡ f b' = ap f e in
      let v : f b ≡ f a' = ap f g in
      let w : f a + (f b + sum_of f l) ≡ f a' + (f b' + sum_of f l) = omega arith in
      w
  perm_sum_of f (List·Permᴰ·trans p q) = perm_sum_of f p ∙ perm_sum_of f q

  swapped : (a b c d r : List A) → a ≡ d → b ≡ c → List-as-Permᴰ (a ++ (b ++ r)) (c ++ (d ++ r))
  swapped a b c d r e f =
      List·Permᴰ·trans (perm_of_eq (sym (append_assoc a b r)))
      (List·Permᴰ·trans (Permᴰ·append-right r (List·Permᴰ·append-comm a b))
      (perm_of_eq (append_assoc b a r ∙ ap₂ (λ (u v : List A). u ++ (v ++ r)) f e)))

pub perm_is_in : (x : ℕ) (xs ys : List ℕ) → List-as-Permᴰ xs ys → is_in x xs ≡ is_in x ys
perm_is_in x xs ys p =
    is_in_ext x xs ys (λ h. Memᴰ-is_in (perm_Memᴰ p (is_in-Memᴰ x xs h))) (λ h. Memᴰ-is_in (perm_Memᴰ (Permᴰ·symm p) (is_in-Memᴰ x ys h)))

-- ---- of `joined` and `keep`

module _ {ℓ} {A B : Type ℓ} where
  -- the lists in another order
  pub perm_joined-list : (f : B → List A) {l m : List B} → List-as-Permᴰ l m → List-as-Permᴰ (joined f l) (joined f m)
  unfolding joined
  perm_joined-list f List·Permᴰ·nil = List·Permᴰ·nil
  perm_joined-list f (List·Permᴰ·cons e p) = perm_append (perm_of_eq (ap f e)) (perm_joined-list f p)
  perm_joined-list f (List·Permᴰ·swap {a = a} {b = b} {a' = a'} {b' = b'} {l = l} e g) =
      swapped (f a) (f b) (f a') (f b') (joined f l) (ap f e) (ap f g)
  perm_joined-list f (List·Permᴰ·trans p q) = List·Permᴰ·trans (perm_joined-list f p) (perm_joined-list f q)

  -- elements whose list is empty may be left out
  pub joined-keep : (f : B → List A) (p : B → Bool) (l : List B) → ((x : B) → Memᴰ x l → p x ≡ false → f x ≡ [])
      → joined f (keep p l) ≡ joined f l
  joined-keep f p [] h = ap (joined f) (keep-nil p)
  joined-keep f p (x ∷ xs) h = go (which (p x)) (joined-keep f p xs (λ y m. h y (Memᴰ.tail m)))
    where
      go : (p x ≡ true) ⊎ (p x ≡ false) → joined f (keep p xs) ≡ joined f xs → joined f (keep p (x ∷ xs)) ≡ joined f (x ∷ xs)
      go (inl e) r =
          ap (joined f) (keep-pass p x xs e) ∙ joined-cons f x (keep p xs) ∙ ap (λ (q : List A). f x ++ q) r ∙ sym (joined-cons f x xs)
      go (inr e) r =
          ap (joined f) (keep_fail p x xs e) ∙ r ∙ ap (λ (q : List A). q ++ joined f xs) (sym (h x (Memᴰ.head refl) e)) ∙ sym (joined-cons f x xs)

module _ {ℓ} {A : Type ℓ} where
  cond-joined : (b : Bool) (x : A) (r : List A) → cond b (x ∷ r) r ≡ cond b (x ∷ []) [] ++ r
  cond-joined true x r = refl
  cond-joined false x r = refl

  pub keep-is-joined : (p : A → Bool) (l : List A) → keep p l ≡ joined (λ x. cond (p x) (x ∷ []) []) l
  unfolding keep joined
  keep-is-joined p [] = refl
  keep-is-joined p (x ∷ xs) =
      cond-joined (p x) x (keep p xs) ∙ ap (λ (r : List A). cond (p x) (x ∷ []) [] ++ r) (keep-is-joined p xs)

  pub perm_keep : (p : A → Bool) {l m : List A} → List-as-Permᴰ l m → List-as-Permᴰ (keep p l) (keep p m)
  perm_keep p {l} {m} q =
      List·Permᴰ·trans (perm_of_eq (keep-is-joined p l))
      (List·Permᴰ·trans (perm_joined-list (λ x. cond (p x) (x ∷ []) []) q) (perm_of_eq (sym (keep-is-joined p m))))

-- ---- a list sorted into classes

module _ {ℓ} {A B : Type ℓ} where
  -- one element more in the list of b, and the lists before and after as they were
  joined-one-more : (f g : B → List A) (x : A) (pre : List B) (b : B) (post : List B) → ((y : B) → Memᴰ y pre → f y ≡ g y)
      → ((y : B) → Memᴰ y post → f y ≡ g y) → f b ≡ x ∷ g b → List-as-Permᴰ (joined f (pre ++ (b ∷ post))) (x ∷ joined g (pre ++ (b ∷ post)))
  joined-one-more f g x pre b post h k e =
      let before : joined f (pre ++ (b ∷ post)) ≡ joined g pre ++ (x ∷ (g b ++ joined g post)) =
      joined-append f pre (b ∷ post)
      ∙ ap₂ (λ (u v : List A). u ++ v) (joined_congr f g pre h)
      (joined-cons f b post ∙ ap₂ (λ (u v : List A). u ++ v) e (joined_congr f g post k))
      in
      let after : joined g (pre ++ (b ∷ post)) ≡ joined g pre ++ (g b ++ joined g post) =
      joined-append g pre (b ∷ post) ∙ ap (λ (u : List A). joined g pre ++ u) (joined-cons g b post)
      in
      List·Permᴰ·trans (perm_of_eq before)
      (List·Permᴰ·trans (Permᴰ·middle x (joined g pre) (g b ++ joined g post)) (List·Permᴰ·cons refl (perm_of_eq (sym after))))

-- the numbers below k, cut around i
pub count_from-split : (i k : ℕ) → i < k → count_from zero k ≡ count_from zero i ++ (i ∷ count_from (suc i) (k - suc i))
count_from-split i k h =
    let e : k ≡ i + suc (k - suc i) = omega arith in
    ap (λ (n : ℕ). count_from zero n) e
    ∙ count_from-append zero i (suc (k - suc i))
    ∙ ap (λ (n : ℕ). count_from zero i ++ count_from n (suc (k - suc i))) (zero-add i)
    ∙ ap (λ (r : List ℕ). count_from zero i ++ r) (count_from-cons i (k - suc i))

module _ {A : Type 0} where
  -- the elements whose class is j, in order
  abbrev pub class_of : (A → ℕ) → List A → ℕ → List A
  class_of f l j = keep (λ x. eqb (f x) j) l

  -- the classes one after another have every element of the list
  pub perm_classes : (f : A → ℕ) (k : ℕ) (l : List A) → ((x : A) → Memᴰ x l → f x < k)
      → List-as-Permᴰ (joined (λ j. keep (λ x. eqb (f x) j) l) (count_from zero k)) l
  perm_classes f k [] h = perm_of_eq (joined-none (class_of f []) (count_from zero k) (λ j m. keep-nil (λ x. eqb (f x) j)))
  perm_classes f k (x ∷ xs) h =
      let i : f x < k = h x (Memᴰ.head refl) in
      let cut : count_from zero k ≡ count_from zero (f x) ++ (f x ∷ count_from (suc (f x)) (k - suc (f x))) = count_from-split (f x) k i in
      let other : (j : ℕ) → (f x ≡ j → ⊥) → class_of f (x ∷ xs) j ≡ class_of f xs j = λ j n. keep_fail (λ y. eqb (f y) j) x xs (ne_eqb (f x) j n) in
      List·Permᴰ·trans (perm_of_eq (ap (joined (class_of f (x ∷ xs))) cut))
      (List·Permᴰ·trans
      (joined-one-more (class_of f (x ∷ xs)) (class_of f xs) x (count_from zero (f x)) (f x) (count_from (suc (f x)) (k - suc (f x)))
      (λ j m. other j (λ e. let b = Memᴰ-count_from j zero (f x) m in omega (arith, b.1)))
      (λ j m. other j (λ e. let b = Memᴰ-count_from j (suc (f x)) (k - suc (f x)) m in omega (arith, b.0)))
      (keep-pass (λ y. eqb (f y) (f x)) x xs (eq-eqb (f x) (f x) refl)))
      (List·Permᴰ·cons refl
      (List·Permᴰ·trans (perm_of_eq (ap (joined (class_of f xs)) (sym cut))) (perm_classes f k xs (λ y m. h y (Memᴰ.tail m))))))

-- ---- how often a number is in a list

-- 1 where the numbers are equal, 0 where not
unfoldable pub hit : ℕ → ℕ → ℕ
hit x y = cond (eqb x y) 1 0

unfoldable pub count : ℕ → List ℕ → ℕ
unfolding hit sum_of
count x l = sum_of (hit x) l

pub hit_same : (x y : ℕ) → x ≡ y → hit x y ≡ 1
unfolding hit
hit_same x y e = ap (λ (b : Bool). cond b 1 0) (eq-eqb x y e)

pub hit_other : (x y : ℕ) → (x ≡ y → ⊥) → hit x y ≡ 0
unfolding hit
hit_other x y n = ap (λ (b : Bool). cond b 1 0) (ne_eqb x y n)

pub count-nil : (x : ℕ) → count x [] ≡ 0
unfolding count
count-nil x = refl

pub count-cons : (x y : ℕ) (ys : List ℕ) → count x (y ∷ ys) ≡ hit x y + count x ys
unfolding count
count-cons x y ys = refl

pub count-append : (x : ℕ) (xs ys : List ℕ) → count x (xs ++ ys) ≡ count x xs + count x ys
unfolding count
count-append x xs ys = sum_of-append (hit x) xs ys

pub perm_count : (x : ℕ) (xs ys : List ℕ) → List-as-Permᴰ xs ys → count x xs ≡ count x ys
unfolding count
perm_count x xs ys p = perm_sum_of (hit x) p

-- a number is in a list exactly if it is there at least once
pub Memᴰ-count : {x : ℕ} {l : List ℕ} → Memᴰ x l → 0 < count x l
Memᴰ-count {x} (Memᴰ.head {x = y} {xs = ys} e) =
    let h : hit x y ≡ 1 = hit_same x y e in
    let c : count x (y ∷ ys) ≡ hit x y + count x ys = count-cons x y ys in
    omega arith
Memᴰ-count {x} (Memᴰ.tail {x = y} {xs = ys} m) =
    let r : 0 < count x ys = Memᴰ-count m in
    let c : count x (y ∷ ys) ≡ hit x y + count x ys = count-cons x y ys in
    omega arith

pub is_in-count : (x : ℕ) (l : List ℕ) → is_in x l ≡ true → 0 < count x l
is_in-count x l h = Memᴰ-count (is_in-Memᴰ x l h)

cons-Memᴰ-count : (x y : ℕ) (ys : List ℕ) → (0 < count x ys → Memᴰ x ys) → 0 < count x (y ∷ ys) → Memᴰ x (y ∷ ys)
cons-Memᴰ-count x y ys rest h = go (which (eqb x y))
  where
    go : (eqb x y ≡ true) ⊎ (eqb x y ≡ false) → Memᴰ x (y ∷ ys)
    go (inl e) = Memᴰ.head (eqb-true x y e)
    go (inr e) =
        let o : hit x y ≡ 0 = hit_other x y (eqb-false x y e) in
        let c : count x (y ∷ ys) ≡ hit x y + count x ys = count-cons x y ys in
        let r : 0 < count x ys = omega arith in
        Memᴰ.tail (rest r)

pub count-Memᴰ : (x : ℕ) (l : List ℕ) → 0 < count x l → Memᴰ x l
count-Memᴰ x [] h = let c : count x [] ≡ 0 = count-nil x in absurd (omega arith)
count-Memᴰ x (y ∷ ys) h = cons-Memᴰ-count x y ys (count-Memᴰ x ys) h

pub count-is_in : (x : ℕ) (l : List ℕ) → 0 < count x l → is_in x l ≡ true
count-is_in x l h = Memᴰ-is_in (count-Memᴰ x l h)

pub count_not_in : (x : ℕ) (l : List ℕ) → is_in x l ≡ false → count x l ≡ 0
count_not_in x l e = go (eq-zero-or-pos (count x l))
  where
    go : (count x l ≡ 0) ⊎ (0 < count x l) → count x l ≡ 0
    go (inl z) = z
    go (inr h) = absurd (false≢true (sym e ∙ count-is_in x l h))

-- the numbers counted from i on are each there once
pub count-count_from_not : (x i n : ℕ) → (x < i) ⊎ (i + n ≤ x) → count x (count_from i n) ≡ 0
count-count_from_not x i n o = count_not_in x (count_from i n) (is_in-count_from_not x i n o)

pub count-count_from : (x i n : ℕ) → i ≤ x → x < i + n → count x (count_from i n) ≡ 1
count-count_from x i zero h g = absurd (omega arith)
count-count_from x i (suc n) h g = ap (count x) (count_from-cons i n) ∙ count-cons x i (count_from (suc i) n) ∙ go (which (eqb x i)) (count-count_from x (suc i) n)
  where
    go : (eqb x i ≡ true) ⊎ (eqb x i ≡ false) → (suc i ≤ x → x < suc i + n → count x (count_from (suc i) n) ≡ 1)
        → hit x i + count x (count_from (suc i) n) ≡ 1
    go (inl e) rest =
        let q : x ≡ i = eqb-true x i e in
        let o : hit x i ≡ 1 = hit_same x i q in
        let z : count x (count_from (suc i) n) ≡ 0 = count-count_from_not x (suc i) n (inl (omega arith)) in
        omega arith
    go (inr e) rest =
        let q : x ≡ i → ⊥ = eqb-false x i e in
        let o : hit x i ≡ 0 = hit_other x i q in
        let b : i < x = lt_of_le-ne h (λ w. q (sym w)) in
        let r : count x (count_from (suc i) n) ≡ 1 = rest b (omega arith) in
        omega arith

-- what passes is there as often as before, and what does not is not there
pub count-keep_fail : (p : ℕ → Bool) (x : ℕ) (l : List ℕ) → p x ≡ false → count x (keep p l) ≡ 0
count-keep_fail p x l e = count_not_in x (keep p l) (is_in-keep p x l ∙ rw e)

pub count-keep-pass : (p : ℕ → Bool) (x : ℕ) (l : List ℕ) → p x ≡ true → count x (keep p l) ≡ count x l
count-keep-pass p x [] e = ap (count x) (keep-nil p)
count-keep-pass p x (y ∷ ys) e = go (which (p y)) (count-keep-pass p x ys e)
  where
    go : (p y ≡ true) ⊎ (p y ≡ false) → count x (keep p ys) ≡ count x ys → count x (keep p (y ∷ ys)) ≡ count x (y ∷ ys)
    go (inl q) r =
        ap (count x) (keep-pass p y ys q) ∙ count-cons x y (keep p ys) ∙ ap (λ (n : ℕ). hit x y + n) r ∙ sym (count-cons x y ys)
    go (inr q) r =
        ap (count x) (keep_fail p y ys q) ∙ r ∙ sym (zero-add (count x ys))
        ∙ ap (λ (n : ℕ). n + count x ys) (sym (hit_other x y (λ w. false≢true (sym q ∙ ap p (sym w) ∙ e))))
        ∙ sym (count-cons x y ys)

twice : (x y : ℕ) (ys : List ℕ) (j d : ℕ) → count x (y ∷ ys) ≤ 1 → j < length ys → y ≡ x → get_or ys j d ≡ x → ⊥
twice x y ys j d c h e f =
    let s : count x (y ∷ ys) ≡ hit x y + count x ys = count-cons x y ys in
    let o : hit x y ≡ 1 = hit_same x y (sym e) in
    let r : 0 < count x ys = subst (λ (z : ℕ). 0 < count z ys) f (Memᴰ-count (get_d_Memᴰ ys j d h)) in
    omega arith

-- a number that is there at most once has one place
pub count-one-place : (x : ℕ) (l : List ℕ) (i j d : ℕ) → count x l ≤ 1 → i < length l → j < length l → get_or l i d ≡ x → get_or l j d ≡ x → i ≡ j
count-one-place x [] i j d c hi hj ei ej = absurd (not-suc-le-zero hi)
count-one-place x (y ∷ ys) zero zero d c hi hj ei ej = refl
count-one-place x (y ∷ ys) zero (suc j) d c hi hj ei ej = absurd (twice x y ys j d c (le_of_suc-le-suc hj) ei ej)
count-one-place x (y ∷ ys) (suc i) zero d c hi hj ei ej = absurd (twice x y ys i d c (le_of_suc-le-suc hi) ej ei)
count-one-place x (y ∷ ys) (suc i) (suc j) d c hi hj ei ej =
    let s : count x (y ∷ ys) ≡ hit x y + count x ys = count-cons x y ys in
    ap suc (count-one-place x ys i j d (omega arith) (le_of_suc-le-suc hi) (le_of_suc-le-suc hj) ei ej)

-- lists in which every number is equally often are permutations
module _ {ℓ} {A : Type ℓ} where
  pub Memᴰ-split : {x : A} {l : List A} → Memᴰ x l → (pre : List A) × (post : List A) × (l ≡ pre ++ (x ∷ post))
  Memᴰ-split {x} (Memᴰ.head {x = y} {xs = ys} e) = ([], ys, ap (λ (z : A). z ∷ ys) (sym e))
  Memᴰ-split {x} (Memᴰ.tail {x = y} {xs = ys} m) = let r = Memᴰ-split m in (y ∷ r.0, r.1, ap (λ (t : List A). y ∷ t) r.2)

without : (x : ℕ) (xs ys pre post : List ℕ) (z : ℕ) → count z (x ∷ xs) ≡ count z ys → ys ≡ pre ++ (x ∷ post) → count z xs ≡ count z (pre ++ post)
without x xs ys pre post z h e =
    let a : count z (x ∷ xs) ≡ hit z x + count z xs = count-cons z x xs in
    let b : count z ys ≡ count z pre + count z (x ∷ post) = ap (count z) e ∙ count-append z pre (x ∷ post) in
    let c : count z (x ∷ post) ≡ hit z x + count z post = count-cons z x post in
    let d : count z (pre ++ post) ≡ count z pre + count z post = count-append z pre post in
    omega arith

pub count_perm : (xs ys : List ℕ) → ((x : ℕ) → count x xs ≡ count x ys) → List-as-Permᴰ xs ys
count_perm [] [] h = List·Permᴰ·nil
count_perm [] (y ∷ ys) h =
    let c : 0 < count y (y ∷ ys) = Memᴰ-count (Memᴰ.head refl) in
    let e : count y [] ≡ count y (y ∷ ys) = h y in
    let z : count y [] ≡ 0 = count-nil y in
    absurd (omega arith)
count_perm (x ∷ xs) ys h =
    let c : 0 < count x (x ∷ xs) = Memᴰ-count (Memᴰ.head refl) in
    let e : count x (x ∷ xs) ≡ count x ys = h x in
    let b : 0 < count x ys = omega arith in
    let s = Memᴰ-split (count-Memᴰ x ys b) in
    List·Permᴰ·trans (List·Permᴰ·cons refl (count_perm xs (s.0 ++ s.1) (λ z. without x xs ys s.0 s.1 z (h z) s.2)))
    (List·Permᴰ·trans (Permᴰ·symm (Permᴰ·middle x s.0 s.1)) (perm_of_eq (sym s.2)))

-- ---- no number twice

abbrev pub Different : List ℕ → Type 0
Different l = (x : ℕ) → count x l ≤ 1

pub once_perm : (xs ys : List ℕ) → List-as-Permᴰ xs ys → Different ys → Different xs
once_perm xs ys p h x = let e = perm_count x xs ys p in let k = h x in omega arith

pub once-left : (xs ys : List ℕ) → Different (xs ++ ys) → Different xs
once-left xs ys h x = let e = count-append x xs ys in let k = h x in omega arith

pub once_right : (xs ys : List ℕ) → Different (xs ++ ys) → Different ys
once_right xs ys h x = let e = count-append x xs ys in let k = h x in omega arith

pub once-count_from : (i n : ℕ) → Different (count_from i n)
once-count_from i n x = go (leb i x) (ltb x (i + n)) refl refl
  where
    go : (a b : Bool) → leb i x ≡ a → ltb x (i + n) ≡ b → count x (count_from i n) ≤ 1
    go true true p q = let e = count-count_from x i n (leb-true i x p) (ltb-true x (i + n) q) in omega arith
    go true false p q = let e = count-count_from_not x i n (inr (ltb-false x (i + n) q)) in omega arith
    go false b p q = let e = count-count_from_not x i n (inl (leb-false i x p)) in omega arith
