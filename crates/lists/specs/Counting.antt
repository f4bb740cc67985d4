-- Laws of `countFrom`, `isIn`, `keep` and `joined`.
--
-- "Every element of l" is said by mathlib's membership, `List.Memᴰ x l`. The laws at the start go between it, a place
-- (`get_or l k d` with k below the length) and the test `isIn`.
use Rattle.std.specs.Prelude.{◌≡◌, ◌⊎◌, Bool, true, false, ◌&&◌, ◌||◌, get_or, eqb}
use Rattle.std.proofs.Math.Path.{refl, sym, ap, ap₂, subst}
use Rattle.std.proofs.Common.{◌∙◌, inl, inr, not-suc-le-zero, le_of_suc-le-suc, add-zero, zero-add, suc-add, zero-lt-suc, arith, eqb-true, eq-eqb, ne_eqb}
use Rattle.std.proofs.Math.Bool.{cond, not, or_assoc, or-true}
use Rattle.std.proofs.lemmas.Bool.{false≢true}
use Prim.Native.Nat.{ℕ, zero, suc, ◌+◌, ◌-◌, ◌≤◌, ◌<◌, zero-le, suc-le-suc}
use mathlib.Core.List.Memᴰ
use mathlib.Core.List.{List, [], ◌∷◌, ◌++◌, map, map-append, append_assoc, append-nil, Memᴰ}
use Rattle.std.proofs.Math.ListN.{length, length-append}
use Rattle.lists.specs.Lists.{keep, joined, count_from, is_in}
use Rattle.lists.specs.Tests.{which}

-- ---- an element and its place

module _ {ℓ} {A : Type ℓ} where
  pub get_d_Memᴰ : (l : List A) (k : ℕ) (d : A) → k < length l → Memᴰ (get_or l k d) l
  get_d_Memᴰ [] k d h = absurd (not-suc-le-zero h)
  get_d_Memᴰ (x ∷ xs) zero d h = Memᴰ.head refl
  get_d_Memᴰ (x ∷ xs) (suc k) d h = Memᴰ.tail (get_d_Memᴰ xs k d (le_of_suc-le-suc h))

  pub Memᴰ_get_d : {x : A} {l : List A} (d : A) → Memᴰ x l → (k : ℕ) × (k < length l) × (get_or l k d ≡ x)
  Memᴰ_get_d d (Memᴰ.head {xs = xs} e) = (zero, zero-lt-suc (length xs), sym e)
  Memᴰ_get_d d (Memᴰ.tail m) = let r = Memᴰ_get_d d m in (suc r.0, suc-le-suc r.1, r.2)

  -- what holds at each place holds of each element
  pub every-Memᴰ {κ} : (P : A → Type κ) (l : List A) (d : A) → ((k : ℕ) → k < length l → P (get_or l k d)) → (x : A) → Memᴰ x l → P x
  every-Memᴰ P l d h x m = let r = Memᴰ_get_d d m in subst P r.2 (h r.0 r.1)

-- ---- `isIn`

cond_or : (b c : Bool) → cond b true c ≡ (b || c)
cond_or true c = refl
cond_or false c = refl

pub is_in-nil : (x : ℕ) → is_in x [] ≡ false
unfolding is_in
is_in-nil x = refl

pub is_in-cons : (x y : ℕ) (ys : List ℕ) → is_in x (y ∷ ys) ≡ (eqb x y || is_in x ys)
unfolding is_in
is_in-cons x y ys = cond_or (eqb x y) (is_in x ys)

pub is_in-here : (x : ℕ) (ys : List ℕ) → is_in x (x ∷ ys) ≡ true
is_in-here x ys = is_in-cons x x ys ∙ ap (λ (b : Bool). b || is_in x ys) (eq-eqb x x refl)

pub is_in-later : (x y : ℕ) (ys : List ℕ) → (x ≡ y → ⊥) → is_in x (y ∷ ys) ≡ is_in x ys
is_in-later x y ys h = is_in-cons x y ys ∙ ap (λ (b : Bool). b || is_in x ys) (ne_eqb x y h)

pub is_in-append : (x : ℕ) (xs ys : List ℕ) → is_in x (xs ++ ys) ≡ (is_in x xs || is_in x ys)
is_in-append x [] ys = ap (λ (b : Bool). b || is_in x ys) (sym (is_in-nil x))
is_in-append x (z ∷ xs) ys =
    is_in-cons x z (xs ++ ys)
    ∙ ap (λ (b : Bool). eqb x z || b) (is_in-append x xs ys)
    ∙ sym (or_assoc (eqb x z) (is_in x xs) (is_in x ys))
    ∙ ap (λ (b : Bool). b || is_in x ys) (sym (is_in-cons x z xs))

cons-Memᴰ : (x y : ℕ) (ys : List ℕ) (b : Bool) → eqb x y ≡ b → (b || is_in x ys) ≡ true → (is_in x ys ≡ true → Memᴰ x ys) → Memᴰ x (y ∷ ys)
cons-Memᴰ x y ys true e h rest = Memᴰ.head (eqb-true x y e)
cons-Memᴰ x y ys false e h rest = Memᴰ.tail (rest h)

pub is_in-Memᴰ : (x : ℕ) (l : List ℕ) → is_in x l ≡ true → Memᴰ x l
is_in-Memᴰ x [] h = absurd (false≢true (sym (is_in-nil x) ∙ h))
is_in-Memᴰ x (y ∷ ys) h = cons-Memᴰ x y ys (eqb x y) refl (sym (is_in-cons x y ys) ∙ h) (is_in-Memᴰ x ys)

pub Memᴰ-is_in : {x : ℕ} {l : List ℕ} → Memᴰ x l → is_in x l ≡ true
Memᴰ-is_in {x} (Memᴰ.head {x = y} {xs = ys} e) = is_in-cons x y ys ∙ ap (λ (b : Bool). b || is_in x ys) (eq-eqb x y e)
Memᴰ-is_in {x} (Memᴰ.tail {x = y} {xs = ys} m) = is_in-cons x y ys ∙ ap (λ (b : Bool). eqb x y || b) (Memᴰ-is_in m) ∙ or-true (eqb x y)

pub get_d_is_in : (l : List ℕ) (k d : ℕ) → k < length l → is_in (get_or l k d) l ≡ true
get_d_is_in l k d h = Memᴰ-is_in (get_d_Memᴰ l k d h)

pub place-is_in : (x : ℕ) (l : List ℕ) (k d : ℕ) → k < length l → get_or l k d ≡ x → is_in x l ≡ true
place-is_in x l k d h e = subst (λ (y : ℕ). is_in y l ≡ true) e (get_d_is_in l k d h)

-- a number is in both lists or in neither
pub is_in_ext : (x : ℕ) (l m : List ℕ) → (is_in x l ≡ true → is_in x m ≡ true) → (is_in x m ≡ true → is_in x l ≡ true) → is_in x l ≡ is_in x m
is_in_ext x l m f g = both (is_in x l) (is_in x m) f g
  where
    both : (a b : Bool) → (a ≡ true → b ≡ true) → (b ≡ true → a ≡ true) → a ≡ b
    both true b f g = sym (f refl)
    both false true f g = g refl
    both false false f g = refl

-- ---- `countFrom`

pub count_from-cons : (i n : ℕ) → count_from i (suc n) ≡ i ∷ count_from (suc i) n
unfolding count_from
count_from-cons i n = refl

pub length-count_from : (i n : ℕ) → length (count_from i n) ≡ n
unfolding count_from
length-count_from i zero = refl
length-count_from i (suc n) = ap suc (length-count_from (suc i) n)

pub get_d_count_from : (i n k d : ℕ) → k < n → get_or (count_from i n) k d ≡ i + k
unfolding count_from
get_d_count_from i zero k d h = absurd (not-suc-le-zero h)
get_d_count_from i (suc n) zero d h = sym (add-zero i)
get_d_count_from i (suc n) (suc k) d h = let e : suc i + k ≡ i + suc k = omega arith in get_d_count_from (suc i) n k d (le_of_suc-le-suc h) ∙ e

pub count_from-append : (i m n : ℕ) → count_from i (m + n) ≡ count_from i m ++ count_from (i + m) n
unfolding count_from
count_from-append i zero n = rw (zero-add, add-zero)
count_from-append i (suc m) n =
    let e : suc i + m ≡ i + suc m = omega arith in
    ap (λ (k : ℕ). count_from i k) (suc-add m n)
    ∙ ap (λ (r : List ℕ). i ∷ r) (count_from-append (suc i) m n ∙ ap (λ (k : ℕ). count_from (suc i) m ++ count_from k n) e)

pub count_from_snoc : (i n : ℕ) → count_from i (suc n) ≡ count_from i n ++ ((i + n) ∷ [])
unfolding count_from
count_from_snoc i n = let e : suc n ≡ n + 1 = omega arith in ap (λ (k : ℕ). count_from i k) e ∙ count_from-append i n 1

-- a number is in `countFrom i n` exactly if it is at least i and below i + n
pub is_in-count_from : (x i n : ℕ) → i ≤ x → x < i + n → is_in x (count_from i n) ≡ true
is_in-count_from x i n h g =
    let k : x - i < n = omega arith in
    let e : i + (x - i) ≡ x = omega arith in
    let at : get_or (count_from i n) (x - i) 0 ≡ x = get_d_count_from i n (x - i) 0 k ∙ e in
    place-is_in x (count_from i n) (x - i) 0 (rw length-count_from k) at

pub Memᴰ-count_from : (x i n : ℕ) → Memᴰ x (count_from i n) → (i ≤ x) × (x < i + n)
Memᴰ-count_from x i n m =
    let r = Memᴰ_get_d 0 m in
    let b : r.0 < n = subst (λ (c : ℕ). r.0 < c) (length-count_from i n) r.1 in
    let e : i + r.0 ≡ x = sym (get_d_count_from i n r.0 0 b) ∙ r.2 in
    (omega (arith, e), omega (arith, e, b))

pub count_from-is_in : (x i n : ℕ) → is_in x (count_from i n) ≡ true → (i ≤ x) × (x < i + n)
count_from-is_in x i n h = Memᴰ-count_from x i n (is_in-Memᴰ x (count_from i n) h)

pub is_in-count_from_not : (x i n : ℕ) → (x < i) ⊎ (i + n ≤ x) → is_in x (count_from i n) ≡ false
is_in-count_from_not x i n o = pick (which (is_in x (count_from i n))) o
  where
    pick : (is_in x (count_from i n) ≡ true) ⊎ (is_in x (count_from i n) ≡ false) → (x < i) ⊎ (i + n ≤ x) → is_in x (count_from i n) ≡ false
    pick (inr e) o = e
    pick (inl e) (inl h) = let r = count_from-is_in x i n e in absurd (omega (arith, r.0, h))
    pick (inl e) (inr h) = let r = count_from-is_in x i n e in absurd (omega (arith, r.1, h))

-- ---- `keep`

module _ {ℓ} {A : Type ℓ} where
  pub keep-nil : (p : A → Bool) → keep p [] ≡ []
  unfolding keep
  keep-nil p = refl

  pub keep-pass : (p : A → Bool) (x : A) (xs : List A) → p x ≡ true → keep p (x ∷ xs) ≡ x ∷ keep p xs
  unfolding keep
  keep-pass p x xs e = ap (λ (b : Bool). cond b (x ∷ keep p xs) (keep p xs)) e

  pub keep_fail : (p : A → Bool) (x : A) (xs : List A) → p x ≡ false → keep p (x ∷ xs) ≡ keep p xs
  unfolding keep
  keep_fail p x xs e = ap (λ (b : Bool). cond b (x ∷ keep p xs) (keep p xs)) e

  cond-append : (b : Bool) (x : A) (xs ys : List A) → cond b (x ∷ (xs ++ ys)) (xs ++ ys) ≡ cond b (x ∷ xs) xs ++ ys
  cond-append true x xs ys = refl
  cond-append false x xs ys = refl

  pub keep_append : (p : A → Bool) (xs ys : List A) → keep p (xs ++ ys) ≡ keep p xs ++ keep p ys
  unfolding keep
  keep_append p [] ys = refl
  keep_append p (x ∷ xs) ys =
      ap (λ (r : List A). cond (p x) (x ∷ r) r) (keep_append p xs ys) ∙ cond-append (p x) x (keep p xs) (keep p ys)

  -- tests that agree on the elements keep the same
  pub keep_congr : (p q : A → Bool) (l : List A) → ((x : A) → Memᴰ x l → p x ≡ q x) → keep p l ≡ keep q l
  unfolding keep
  keep_congr p q [] h = refl
  keep_congr p q (x ∷ xs) h =
      ap₂ (λ (b : Bool) (r : List A). cond b (x ∷ r) r) (h x (Memᴰ.head refl)) (keep_congr p q xs (λ y m. h y (Memᴰ.tail m)))

  -- all pass, none pass
  pub keep_all : (p : A → Bool) (l : List A) → ((x : A) → Memᴰ x l → p x ≡ true) → keep p l ≡ l
  keep_all p [] h = keep-nil p
  keep_all p (x ∷ xs) h =
      keep-pass p x xs (h x (Memᴰ.head refl)) ∙ ap (λ (r : List A). x ∷ r) (keep_all p xs (λ y m. h y (Memᴰ.tail m)))

  pub keep-none : (p : A → Bool) (l : List A) → ((x : A) → Memᴰ x l → p x ≡ false) → keep p l ≡ []
  keep-none p [] h = keep-nil p
  keep-none p (x ∷ xs) h = keep_fail p x xs (h x (Memᴰ.head refl)) ∙ keep-none p xs (λ y m. h y (Memᴰ.tail m))

  cond_le : (b : Bool) (x : A) (xs : List A) (n : ℕ) → length xs ≤ n → length (cond b (x ∷ xs) xs) ≤ suc n
  cond_le true x xs n h = suc-le-suc h
  cond_le false x xs n h = omega arith

  pub length-keep_le : (p : A → Bool) (l : List A) → length (keep p l) ≤ length l
  unfolding keep
  length-keep_le p [] = zero-le
  length-keep_le p (x ∷ xs) = cond_le (p x) x (keep p xs) (length xs) (length-keep_le p xs)

  -- those that pass and those that do not are all
  cond-length : (b : Bool) (x : A) (xs ys : List A) (n : ℕ) → length xs + length ys ≡ n
      → length (cond b (x ∷ xs) xs) + length (cond (not b) (x ∷ ys) ys) ≡ suc n
  cond-length true x xs ys n h = omega arith
  cond-length false x xs ys n h = omega arith

  pub length-keep_not : (p : A → Bool) (l : List A) → length (keep p l) + length (keep (λ x. not (p x)) l) ≡ length l
  unfolding keep
  length-keep_not p [] = refl
  length-keep_not p (x ∷ xs) = cond-length (p x) x (keep p xs) (keep (λ y. not (p y)) xs) (length xs) (length-keep_not p xs)

  -- an element of what is kept passes, and is of the list; and back
  cons-kept : (p : A → Bool) (x y : A) (ys : List A) (b : Bool) → p y ≡ b → Memᴰ x (cond b (y ∷ keep p ys) (keep p ys))
      → (Memᴰ x (keep p ys) → (p x ≡ true) × Memᴰ x ys) → (p x ≡ true) × Memᴰ x (y ∷ ys)
  cons-kept p x y ys true e (Memᴰ.head q) rest = (ap p q ∙ e, Memᴰ.head q)
  cons-kept p x y ys true e (Memᴰ.tail m) rest = let r = rest m in (r.0, Memᴰ.tail r.1)
  cons-kept p x y ys false e m rest = let r = rest m in (r.0, Memᴰ.tail r.1)

  pub Memᴰ-keep : (p : A → Bool) (x : A) (l : List A) → Memᴰ x (keep p l) → (p x ≡ true) × Memᴰ x l
  unfolding keep
  Memᴰ-keep p x [] m = absurd (Memᴰ.not-nil m)
  Memᴰ-keep p x (y ∷ ys) m = cons-kept p x y ys (p y) refl m (Memᴰ-keep p x ys)

  cond-later : (b : Bool) (x y : A) (ys : List A) → Memᴰ x ys → Memᴰ x (cond b (y ∷ ys) ys)
  cond-later true x y ys m = Memᴰ.tail m
  cond-later false x y ys m = m

  pub keep-Memᴰ : (p : A → Bool) (x : A) {l : List A} → p x ≡ true → Memᴰ x l → Memᴰ x (keep p l)
  unfolding keep
  keep-Memᴰ p x e (Memᴰ.head {x = y} {xs = ys} q) =
      subst (λ (r : List A). Memᴰ x r) (sym (keep-pass p y ys (ap p (sym q) ∙ e))) (Memᴰ.head q)
  keep-Memᴰ p x e (Memᴰ.tail {x = y} {xs = ys} m) = cond-later (p y) x y (keep p ys) (keep-Memᴰ p x e m)

pub is_in-keep : (p : ℕ → Bool) (x : ℕ) (l : List ℕ) → is_in x (keep p l) ≡ (p x && is_in x l)
is_in-keep p x l = go (p x) refl (which (is_in x (keep p l)))
  where
    go : (b : Bool) → p x ≡ b → (is_in x (keep p l) ≡ true) ⊎ (is_in x (keep p l) ≡ false) → is_in x (keep p l) ≡ (b && is_in x l)
    go true e o =
        is_in_ext x (keep p l) l (λ h. Memᴰ-is_in (Memᴰ-keep p x l (is_in-Memᴰ x (keep p l) h)).1)
        (λ h. Memᴰ-is_in (keep-Memᴰ p x e (is_in-Memᴰ x l h)))
    go false e (inr h) = h
    go false e (inl h) = absurd (false≢true (sym e ∙ (Memᴰ-keep p x l (is_in-Memᴰ x (keep p l) h)).0))

module _ {ℓ κ} {A : Type ℓ} {B : Type κ} where
  cond_map : (f : A → B) (b : Bool) (x : A) (xs : List A) → cond b (f x ∷ map f xs) (map f xs) ≡ map f (cond b (x ∷ xs) xs)
  cond_map f true x xs = refl
  cond_map f false x xs = refl

  pub keep-map : (p : B → Bool) (f : A → B) (l : List A) → keep p (map f l) ≡ map f (keep (λ x. p (f x)) l)
  unfolding keep
  keep-map p f [] = refl
  keep-map p f (x ∷ xs) =
      ap (λ (r : List B). cond (p (f x)) (f x ∷ r) r) (keep-map p f xs) ∙ cond_map f (p (f x)) x (keep (λ y. p (f y)) xs)

-- ---- `joined`

-- the sum of the numbers that a function gives for the elements
unfoldable pub sum_of {ℓ} : {A : Type ℓ} → (A → ℕ) → List A → ℕ
sum_of f [] = zero
sum_of f (x ∷ xs) = f x + sum_of f xs

module _ {ℓ} {A : Type ℓ} where
  pub sum_of-append : (f : A → ℕ) (xs ys : List A) → sum_of f (xs ++ ys) ≡ sum_of f xs + sum_of f ys
  unfolding sum_of
  sum_of-append f [] ys = sym (zero-add (sum_of f ys))
  sum_of-append f (x ∷ xs) ys = let e = sum_of-append f xs ys in omega (arith, e)

  pub sum_of-map {κ} : {B : Type κ} (f : A → ℕ) (g : B → A) (l : List B) → sum_of f (map g l) ≡ sum_of (λ x. f (g x)) l
  unfolding sum_of
  sum_of-map f g [] = refl
  sum_of-map f g (x ∷ xs) = ap (λ (n : ℕ). f (g x) + n) (sum_of-map f g xs)

module _ {ℓ} {A B : Type ℓ} where
  pub joined-nil : (f : B → List A) → joined f [] ≡ []
  unfolding joined
  joined-nil f = refl

  pub joined-cons : (f : B → List A) (x : B) (xs : List B) → joined f (x ∷ xs) ≡ f x ++ joined f xs
  unfolding joined
  joined-cons f x xs = refl

  pub joined-append : (f : B → List A) (xs ys : List B) → joined f (xs ++ ys) ≡ joined f xs ++ joined f ys
  unfolding joined
  joined-append f [] ys = refl
  joined-append f (x ∷ xs) ys =
      ap (λ (r : List A). f x ++ r) (joined-append f xs ys) ∙ sym (append_assoc (f x) (joined f xs) (joined f ys))

  pub joined_snoc : (f : B → List A) (xs : List B) (x : B) → joined f (xs ++ (x ∷ [])) ≡ joined f xs ++ f x
  unfolding joined
  joined_snoc f xs x = joined-append f xs (x ∷ []) ∙ ap (λ (r : List A). joined f xs ++ r) (append-nil (f x))

  pub joined_congr : (f g : B → List A) (l : List B) → ((x : B) → Memᴰ x l → f x ≡ g x) → joined f l ≡ joined g l
  unfolding joined
  joined_congr f g [] h = refl
  joined_congr f g (x ∷ xs) h =
      ap₂ (λ (a b : List A). a ++ b) (h x (Memᴰ.head refl)) (joined_congr f g xs (λ y m. h y (Memᴰ.tail m)))

  pub joined-none : (f : B → List A) (l : List B) → ((x : B) → Memᴰ x l → f x ≡ []) → joined f l ≡ []
  unfolding joined
  joined-none f [] h = refl
  joined-none f (x ∷ xs) h =
      ap₂ (λ (a b : List A). a ++ b) (h x (Memᴰ.head refl)) (joined-none f xs (λ y m. h y (Memᴰ.tail m)))

  pub length-joined : (f : B → List A) (l : List B) → length (joined f l) ≡ sum_of (λ x. length (f x)) l
  unfolding joined sum_of
  length-joined f [] = refl
  length-joined f (x ∷ xs) = length-append (f x) (joined f xs) ∙ ap (λ (n : ℕ). length (f x) + n) (length-joined f xs)

  pub sum_of-joined : (g : A → ℕ) (f : B → List A) (l : List B) → sum_of g (joined f l) ≡ sum_of (λ x. sum_of g (f x)) l
  unfolding joined sum_of
  sum_of-joined g f [] = refl
  sum_of-joined g f (x ∷ xs) = sum_of-append g (f x) (joined f xs) ∙ ap (λ (n : ℕ). sum_of g (f x) + n) (sum_of-joined g f xs)

  pub keep-joined : (p : A → Bool) (f : B → List A) (l : List B) → keep p (joined f l) ≡ joined (λ x. keep p (f x)) l
  unfolding joined
  keep-joined p f [] = keep-nil p
  keep-joined p f (x ∷ xs) = keep_append p (f x) (joined f xs) ∙ ap (λ (r : List A). keep p (f x) ++ r) (keep-joined p f xs)

  -- an element is in the joined lists exactly if it is in the list of some element
  pub Memᴰ-joined : (f : B → List A) (a : A) (l : List B) → Memᴰ a (joined f l) → (x : B) × Memᴰ x l × Memᴰ a (f x)
  unfolding joined
  Memᴰ-joined f a [] m = absurd (Memᴰ.not-nil m)
  Memᴰ-joined f a (x ∷ xs) m = pick (Memᴰ.append_cases (f x) m) (Memᴰ-joined f a xs)
    where
      pick : Memᴰ a (f x) ⊎ Memᴰ a (joined f xs) → (Memᴰ a (joined f xs) → (y : B) × Memᴰ y xs × Memᴰ a (f y))
          → (y : B) × Memᴰ y (x ∷ xs) × Memᴰ a (f y)
      pick (inl m) rest = (x, Memᴰ.head refl, m)
      pick (inr m) rest = let r = rest m in (r.0, Memᴰ.tail r.1, r.2)

  pub joined-Memᴰ : (f : B → List A) (a : A) {x : B} {l : List B} → Memᴰ x l → Memᴰ a (f x) → Memᴰ a (joined f l)
  unfolding joined
  joined-Memᴰ f a {x = x} (Memᴰ.head {x = y} {xs = ys} e) m =
      Memᴰ.append_left (joined f ys) (subst (λ (z : B). Memᴰ a (f z)) e m)
  joined-Memᴰ f a (Memᴰ.tail {x = y} {xs = ys} n) m = Memᴰ.append_right (f y) (joined-Memᴰ f a n m)

module _ {ℓ} {A B C : Type ℓ} where
  pub joined-map : (f : B → List A) (g : C → B) (l : List C) → joined f (map g l) ≡ joined (λ x. f (g x)) l
  unfolding joined
  joined-map f g [] = refl
  joined-map f g (x ∷ xs) = ap (λ (r : List A). f (g x) ++ r) (joined-map f g xs)

  pub map-joined : (g : A → C) (f : B → List A) (l : List B) → map g (joined f l) ≡ joined (λ x. map g (f x)) l
  unfolding joined
  map-joined g f [] = refl
  map-joined g f (x ∷ xs) = map-append g (f x) (joined f xs) ∙ ap (λ (r : List C). map g (f x) ++ r) (map-joined g f xs)
