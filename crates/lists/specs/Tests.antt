-- Tests that are joined, tests of every number of a list, and choices by a test.
use Rattle.std.specs.Prelude.{ℕ, ◌≡◌, refl, ◌⊎◌, Bool, true, false, cond, ◌&&◌, ◌||◌}
use Rattle.std.proofs.Common.{sym, ap, ap₂, ◌∙◌, inl, inr}
use Rattle.std.proofs.lemmas.Bool.{false≢true}
use mathlib.Core.List.Memᴰ
use mathlib.Core.List.{List, [], ◌∷◌, ◌++◌, Memᴰ}

-- whether every number of a list passes a test
unfoldable pub all_pass : (ℕ → Bool) → List ℕ → Bool
all_pass test [] = true
all_pass test (x ∷ xs) = test x && all_pass test xs

-- ---- two cases

-- by cases, the sum first
pub either {ℓ} : {A B : Type 0} {C : Type ℓ} → A ⊎ B → (A → C) → (B → C) → C
either (inl a) f g = f a
either (inr b) f g = g b

-- a test's two values
pub which : (b : Bool) → (b ≡ true) ⊎ (b ≡ false)
which true = inl refl
which false = inr refl

-- ---- joined tests

pub and_left : (a b : Bool) → (a && b) ≡ true → a ≡ true
and_left true b e = refl
and_left false b e = e

pub and_right : (a b : Bool) → (a && b) ≡ true → b ≡ true
and_right true b e = e
and_right false b e = absurd (false≢true e)

pub and_both : (a b : Bool) → (a && b) ≡ true → (a ≡ true) × (b ≡ true)
and_both a b e = (and_left a b e, and_right a b e)

pub and_false : (a : Bool) → (a && false) ≡ false
and_false true = refl
and_false false = refl

pub or_left : (a b : Bool) → (a || b) ≡ false → a ≡ false
or_left true b e = e
or_left false b e = refl

pub or_right : (a b : Bool) → (a || b) ≡ false → b ≡ false
or_right true b e = absurd (false≢true (sym e))
or_right false b e = e

-- ---- choices

-- a choice is one of the two
pub cond_cases {ℓ} : {A : Type ℓ} (b : Bool) (x y : A) → ((b ≡ true) × (cond b x y ≡ x)) ⊎ ((b ≡ false) × (cond b x y ≡ y))
cond_cases true x y = inl (refl, refl)
cond_cases false x y = inr (refl, refl)

pub chosen {ℓ} : {A : Type ℓ} (b : Bool) (x y : A) → b ≡ true → cond b x y ≡ x
chosen {A = A} b x y e = ap (λ (c : Bool). cond c x y) e

-- ---- tests of every number

pub all_pass-nil : (t : ℕ → Bool) → all_pass t [] ≡ true
unfolding all_pass
all_pass-nil t = refl

pub all_pass-cons : (t : ℕ → Bool) (x : ℕ) (xs : List ℕ) → all_pass t (x ∷ xs) ≡ (t x && all_pass t xs)
unfolding all_pass
all_pass-cons t x xs = refl

-- from each, and for each
pub all_pass_lem : (t : ℕ → Bool) (l : List ℕ) → ((x : ℕ) → Memᴰ x l → t x ≡ true) → all_pass t l ≡ true
unfolding all_pass
all_pass_lem t [] h = refl
all_pass_lem t (x ∷ xs) h = ap₂ ◌&&◌ (h x (Memᴰ.head refl)) (all_pass_lem t xs (λ y k. h y (Memᴰ.tail k)))

pub all_pass-Memᴰ : (t : ℕ → Bool) (l : List ℕ) → all_pass t l ≡ true → (x : ℕ) → Memᴰ x l → t x ≡ true
all_pass-Memᴰ t [] e x m = absurd (Memᴰ.not-nil m)
all_pass-Memᴰ t (y ∷ ys) e x m =
    let both : (t y && all_pass t ys) ≡ true = sym (all_pass-cons t y ys) ∙ e in
    either (Memᴰ.cases_cons m) (λ s. ap t s ∙ and_left (t y) (all_pass t ys) both)
    (λ k. all_pass-Memᴰ t ys (and_right (t y) (all_pass t ys) both) x k)

pub all_pass_congr : (t u : ℕ → Bool) (l : List ℕ) → ((x : ℕ) → Memᴰ x l → t x ≡ u x) → all_pass t l ≡ all_pass u l
all_pass_congr t u [] h = all_pass-nil t ∙ sym (all_pass-nil u)
all_pass_congr t u (x ∷ xs) h =
    all_pass-cons t x xs ∙ ap₂ ◌&&◌ (h x (Memᴰ.head refl)) (all_pass_congr t u xs (λ y m. h y (Memᴰ.tail m))) ∙ sym (all_pass-cons u x xs)

-- numbers that pass a test pass a weaker one
pub all_pass_weaken : (t u : ℕ → Bool) (l : List ℕ) → ((x : ℕ) → t x ≡ true → u x ≡ true) → all_pass t l ≡ true → all_pass u l ≡ true
all_pass_weaken t u l weaker h = all_pass_lem u l (λ x m. weaker x (all_pass-Memᴰ t l h x m))

-- two tests at once
and_apart : (a b c d : Bool) → ((a && b) && (c && d)) ≡ ((a && c) && (b && d))
and_apart true true c d = refl
and_apart true false true d = refl
and_apart true false false d = refl
and_apart false b c d = refl

pub all_pass_and : (t u : ℕ → Bool) (l : List ℕ) → all_pass (λ x. t x && u x) l ≡ (all_pass t l && all_pass u l)
all_pass_and t u [] = all_pass-nil (λ x. t x && u x) ∙ sym (ap₂ ◌&&◌ (all_pass-nil t) (all_pass-nil u))
all_pass_and t u (x ∷ xs) =
    all_pass-cons (λ x. t x && u x) x xs ∙ ap (λ (b : Bool). (t x && u x) && b) (all_pass_and t u xs)
    ∙ and_apart (t x) (u x) (all_pass t xs) (all_pass u xs) ∙ sym (ap₂ ◌&&◌ (all_pass-cons t x xs) (all_pass-cons u x xs))

pub all_pass-append : (t : ℕ → Bool) (xs ys : List ℕ) → all_pass t (xs ++ ys) ≡ (all_pass t xs && all_pass t ys)
all_pass-append t [] ys = rw (all_pass-nil t)
all_pass-append t (x ∷ xs) ys = rw (all_pass-cons t x (xs ++ ys), all_pass-cons t x xs, all_pass-append t xs ys) (go (t x))
  where
    go : (b : Bool) → (b && (all_pass t xs && all_pass t ys)) ≡ ((b && all_pass t xs) && all_pass t ys)
    go true = refl
    go false = refl
