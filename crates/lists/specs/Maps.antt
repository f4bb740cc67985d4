-- Laws of `map`: of functions that agree on a list, and of an element.
use Rattle.std.specs.Prelude.{◌≡◌, refl, ℕ, zero, suc, ◌<◌, length, get_or, take, replicate}
use Rattle.std.proofs.Common.{inl, inr, ap, ap₂, not-suc-le-zero, le_of_suc-le-suc, arith}
use mathlib.Core.List.Memᴰ
use mathlib.Core.List.{List, [], ◌∷◌, map, Memᴰ}
use Rattle.lists.specs.Lists.{count_from}

module _ {ℓ κ} {A : Type ℓ} {B : Type κ} where
  pub map_on : (f g : A → B) (l : List A) → ((x : A) → Memᴰ x l → f x ≡ g x) → map f l ≡ map g l
  map_on f g [] h = refl
  map_on f g (x ∷ xs) h = ap₂ ◌∷◌ (h x (Memᴰ.head refl)) (map_on f g xs (λ y m. h y (Memᴰ.tail m)))

  -- of functions that agree on the element at each place
  pub map_same : (f g : A → B) (l : List A) (d : A) → ((k : ℕ) → k < length l → f (get_or l k d) ≡ g (get_or l k d)) → map f l ≡ map g l
  map_same f g [] d h = refl
  map_same f g (x ∷ l) d h =
      ap₂ (λ (a : B) (r : List B). a ∷ r) (h 0 (let k : 0 < length (x ∷ l) = omega arith in k))
      (map_same f g l d (λ k b. h (suc k) (let c : suc k < length (x ∷ l) = omega arith in c)))

  pub get_d_map : (f : A → B) (l : List A) (i : ℕ) (d : A) (e : B) → i < length l → get_or (map f l) i e ≡ f (get_or l i d)
  get_d_map f [] i d e h = absurd (not-suc-le-zero h)
  get_d_map f (x ∷ xs) zero d e h = refl
  get_d_map f (x ∷ xs) (suc i) d e h = get_d_map f xs i d e (le_of_suc-le-suc h)

  pub map-take : (f : A → B) (k : ℕ) (l : List A) → map f (take k l) ≡ take k (map f l)
  map-take f zero l = refl
  map-take f (suc k) [] = refl
  map-take f (suc k) (x ∷ xs) = ap (λ (r : List B). f x ∷ r) (map-take f k xs)

pub count_from-suc : (i n : ℕ) → count_from (suc i) n ≡ map suc (count_from i n)
unfolding count_from
count_from-suc i zero = refl
count_from-suc i (suc n) = ap (λ (l : List ℕ). suc i ∷ l) (count_from-suc (suc i) n)

-- an element of a mapped list is that of an element
pub Memᴰ-map {ℓ κ} : {A : Type ℓ} {B : Type κ} (f : A → B) {y : B} {l : List A} → Memᴰ y (map f l) → (x : A) × Memᴰ x l × (y ≡ f x)
Memᴰ-map f {l = []} m = absurd (Memᴰ.not-nil m)
Memᴰ-map f {l = x ∷ xs} m = elim (Memᴰ.cases_cons m) [
  | inl e ↦ (x, Memᴰ.head refl, e)
  | inr k ↦ let r = Memᴰ-map f k in (r.0, Memᴰ.tail r.1, r.2)
]

-- one of a first part is one of the list
pub take-Memᴰ {ℓ} : {A : Type ℓ} (k : ℕ) (l : List A) {x : A} → Memᴰ x (take k l) → Memᴰ x l
take-Memᴰ zero l m = absurd (Memᴰ.not-nil m)
take-Memᴰ (suc k) [] m = m
take-Memᴰ (suc k) (y ∷ ys) (Memᴰ.head e) = Memᴰ.head e
take-Memᴰ (suc k) (y ∷ ys) (Memᴰ.tail m) = Memᴰ.tail (take-Memᴰ k ys m)

-- one of an element's repetitions is that element
pub Memᴰ-replicate {ℓ} : {A : Type ℓ} (n : ℕ) {x y : A} → Memᴰ y (replicate n x) → y ≡ x
Memᴰ-replicate zero m = absurd (Memᴰ.not-nil m)
Memᴰ-replicate (suc n) (Memᴰ.head e) = e
Memᴰ-replicate (suc n) (Memᴰ.tail m) = Memᴰ-replicate n m
