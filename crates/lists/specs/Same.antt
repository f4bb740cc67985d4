-- `same_list` says whether two lists are equal. Assumes nothing.
use Rattle.std.specs.Prelude.{ℕ, true, false, ◌&&◌, List, [], ◌∷◌, ◌≡◌, refl, ◌⊎◌, eqb}
use Rattle.std.proofs.lemmas.Bool.{false≢true}
use Rattle.std.proofs.Common.{ap₂, subst, inl, inr, eqb-true, eq-eqb}
use Rattle.lists.specs.Lists.{same_list}
use Rattle.lists.specs.Tests.{which, and_left, and_right}

pub same-equal : (xs ys : List ℕ) → same_list xs ys ≡ true → xs ≡ ys
unfolding same_list
same-equal [] [] e = refl
same-equal [] (y ∷ ys) e = absurd (false≢true e)
same-equal (x ∷ xs) [] e = absurd (false≢true e)
same-equal (x ∷ xs) (y ∷ ys) e =
    ap₂ (λ (z : ℕ) (zs : List ℕ). z ∷ zs) (eqb-true x y (and_left (eqb x y) (same_list xs ys) e))
    (same-equal xs ys (and_right (eqb x y) (same_list xs ys) e))

pub same_itself : (xs : List ℕ) → same_list xs xs ≡ true
unfolding same_list
same_itself [] = refl
same_itself (x ∷ xs) = ap₂ ◌&&◌ (eq-eqb x x refl) (same_itself xs)

pub equal-same : (xs ys : List ℕ) → xs ≡ ys → same_list xs ys ≡ true
equal-same xs ys e = subst (λ (l : List ℕ). same_list xs l ≡ true) e (same_itself xs)

pub differ_same : (xs ys : List ℕ) → (xs ≡ ys → ⊥) → same_list xs ys ≡ false
differ_same xs ys n = go (which (same_list xs ys))
  where
    go : (same_list xs ys ≡ true) ⊎ (same_list xs ys ≡ false) → same_list xs ys ≡ false
    go (inl t) = absurd (n (same-equal xs ys t))
    go (inr f) = f
