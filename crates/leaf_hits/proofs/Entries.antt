-- Four entries of a leaf's list at once: what both tests of all four together say of each. Assumes nothing.
use Prim.Native.Nat.{ℕ, ◌+◌, ◌≤◌, ◌<◌}
use mathlib.Core.Path.{◌≡◌, refl, ap, ap₂, ◌∙◌}
use mathlib.Core.Bool.{Bool, true, false, ◌&&◌}
use mathlib.Core.List.{List, [], ◌∷◌}
use lib.Dec.{ltb}
use lib.ListN.{length, get_or}
use borrow.Author.Tests.{ltb-true}
use Rattle.lists.specs.Lists.{part}
use Rattle.lists.specs.Parts.{part-four}
use Rattle.lists.specs.Tests.{all_pass, and_left, and_right, and_false, all_pass-cons, all_pass_and}
use Rattle.leaf_hits.specs.Gathering.{all_pass-one}

-- as `all_below` joins them
abbrev pub all_four : (ℕ → Bool) → ℕ → ℕ → ℕ → ℕ → Bool
all_four p a b c d = p a && (p b && (p c && p d))

all_pass-four : (p : ℕ → Bool) (a b c d : ℕ) → all_pass p (a ∷ b ∷ c ∷ d ∷ []) ≡ all_four p a b c d
all_pass-four p a b c d =
    all_pass-cons p a (b ∷ c ∷ d ∷ [])
    ∙ ap (λ (t : Bool). p a && t)
    (all_pass-cons p b (c ∷ d ∷ []) ∙ ap (λ (t : Bool). p b && t) (all_pass-cons p c (d ∷ []) ∙ ap (λ (t : Bool). p c && t) (all_pass-one p d (p d) refl)))

-- four numbers that stand at a place: if one fails, so does the list
module _ (p q : ℕ → Bool) (numbers : List ℕ) (at : ℕ) (room : at + 4 ≤ length numbers) where
  abbrev all : (ℕ → Bool) → Bool
  all t = all_four t (get_or numbers at 0) (get_or numbers (at + 1) 0) (get_or numbers (at + 2) 0) (get_or numbers (at + 3) 0)

  both : all_pass (λ x. p x && q x) (part at 4 numbers) ≡ (all p && all q)
  both =
      all_pass_and p q (part at 4 numbers)
      ∙ rw (part-four at numbers 0 room) (ap₂ ◌&&◌ (all_pass-four p _ _ _ _) (all_pass-four q _ _ _ _))

  pub first_fails : all p ≡ false → all_pass (λ x. p x && q x) (part at 4 numbers) ≡ false
  first_fails f = both ∙ ap (λ (t : Bool). t && all q) f

  pub second_fails : all q ≡ false → all_pass (λ x. p x && q x) (part at 4 numbers) ≡ false
  second_fails f = both ∙ ap (λ (t : Bool). all p && t) f ∙ and_false (all p)

-- if all pass, so does each
pub all-below : (bound a b c d : ℕ) → all_four (λ x. ltb x bound) a b c d ≡ true → (a < bound) × (b < bound) × (c < bound) × (d < bound)
all-below bound a b c d all =
    let low : ℕ → Bool = λ x. ltb x bound in
    let later : (low b && (low c && low d)) ≡ true = and_right (low a) (low b && (low c && low d)) all in
    let last : (low c && low d) ≡ true = and_right (low b) (low c && low d) later in (
      ltb-true a bound (and_left (low a) (low b && (low c && low d)) all),
      ltb-true b bound (and_left (low b) (low c && low d) later),
      ltb-true c bound (and_left (low c) (low d) last),
      ltb-true d bound (and_right (low c) (low d) last),
    )
