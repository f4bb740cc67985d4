-- The pool of two lists of four words, word by word.
use mathlib.Core.List.{List, [], ◌∷◌}
use mathlib.Core.Path.{◌≡◌, refl, ◌∙◌}
use Prim.Native.Nat.{ℕ, ◌<◌}
use native.Mathlib.Omega.{arith}
use lib.Bits.{bit_or}
use lib.ListN.{length, get_or}
use lib.Dec.{lit<}
use Rattle.bloom.specs.Filter.{union}

data Four : List ℕ → Type 0 where
  four : (a b c d : ℕ) → Four (a ∷ b ∷ c ∷ d ∷ [])

is-four : (l : List ℕ) → length l ≡ 4 → Four l
is-four [] e = absurd (omega arith)
is-four (a ∷ []) e = absurd (omega arith)
is-four (a ∷ b ∷ []) e = absurd (omega arith)
is-four (a ∷ b ∷ c ∷ []) e = absurd (omega arith)
is-four (a ∷ b ∷ c ∷ d ∷ []) e = four a b c d
is-four (a ∷ b ∷ c ∷ d ∷ x ∷ l) e = absurd (omega arith)

united : {f g : List ℕ} → Four f → Four g
    → bit_or (get_or f 0 0) (get_or g 0 0) ∷ bit_or (get_or f 1 0) (get_or g 1 0) ∷ bit_or (get_or f 2 0) (get_or g 2 0) ∷ bit_or (get_or f 3 0) (get_or g 3 0) ∷ []
    ≡ union f g
unfolding union
united (four a b c d) (four p q r s) = refl

same-word : (f g r : List ℕ) → ((i : ℕ) → i < 4 → get_or r i 0 ≡ bit_or (get_or f i 0) (get_or g i 0)) → Four r
    → r ≡ bit_or (get_or f 0 0) (get_or g 0 0) ∷ bit_or (get_or f 1 0) (get_or g 1 0) ∷ bit_or (get_or f 2 0) (get_or g 2 0) ∷ bit_or (get_or f 3 0) (get_or g 3 0) ∷ []
same-word f g r each (four a b c d) = let e₀ = each 0 (lit< tt) in let e₁ = each 1 (lit< tt) in let e₂ = each 2 (lit< tt) in let e₃ = each 3 (lit< tt) in cc

pub unite_all : (f g r : List ℕ) → length f ≡ 4 → length g ≡ 4 → length r ≡ 4 → ((i : ℕ) → i < 4 → get_or r i 0 ≡ bit_or (get_or f i 0) (get_or g i 0))
    → r ≡ union f g
unite_all f g r p q n each = same-word f g r each (is-four r n) ∙ united (is-four f p) (is-four g q)
