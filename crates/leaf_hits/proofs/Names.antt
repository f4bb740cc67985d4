-- Bytes of the text and a name, and a name in two parts. Assumes nothing.
use Prim.Native.Nat.{ℕ, ◌+◌, ◌-◌, ◌≤◌}
use native.Mathlib.Omega.{arith}
use mathlib.Core.Path.{◌≡◌, refl, sym, ap, ap₂, ◌∙◌}
use mathlib.Core.Bool.{Bool, true, false, ◌&&◌, and_assoc}
use mathlib.Core.List.{List, [], ◌∷◌, ◌++◌}
use lib.Dec.{eqb}
use lib.ListN.{length, length-append, take, drop}
use lib.Pointwise.{pointwise}
use Rattle.lists.specs.Lists.{part, same_list}
use Rattle.lists.specs.Parts.{length_part, part-append-parts}
use Rattle.lists.specs.Same.{same-equal, equal-same, differ_same}
use Rattle.std.proofs.lemmas.Bool.{false≢true}
use Rattle.std.proofs.Common.{le_of_eq, take-append-drop, take_all, drop-drop, length-drop}
use Rattle.std.proofs.Math.Seq.{take-add}

-- `==` of two lists of bytes
pub equal_bytes : (xs ys : List ℕ) → pointwise eqb xs ys ≡ same_list xs ys
unfolding same_list
equal_bytes [] [] = refl
equal_bytes [] (y ∷ ys) = refl
equal_bytes (x ∷ xs) [] = refl
equal_bytes (x ∷ xs) (y ∷ ys) = ap (λ (b : Bool). eqb x y && b) (equal_bytes xs ys)

-- two lists that are split at the same place
same-append : (xs ys us vs : List ℕ) → length xs ≡ length ys → same_list (xs ++ us) (ys ++ vs) ≡ (same_list xs ys && same_list us vs)
unfolding same_list
same-append [] [] us vs e = refl
same-append [] (y ∷ ys) us vs e = absurd (omega arith)
same-append (x ∷ xs) [] us vs e = absurd (omega arith)
same-append (x ∷ xs) (y ∷ ys) us vs e =
    ap (λ (b : Bool). eqb x y && b) (same-append xs ys us vs (omega arith)) ∙ sym (and_assoc (eqb x y) (same_list xs ys) (same_list us vs))

-- what a slice from a place on holds, as the code cuts it
pub cut_from : (n : ℕ) (l : List ℕ) → take (length l - n) (drop n l) ≡ drop n l
cut_from n l = take_all (length l - n) (drop n l) (le_of_eq (length-drop n l))

-- ---- n bytes from a place on

module _ (n at : ℕ) (xs ys : List ℕ) (low : at + n ≤ length xs) where
  -- the test of the library, as the code cuts both
  pub same-at : (k : ℕ) → k ≡ n → (t : Bool)
      → t ≡ pointwise eqb (take k (drop at xs)) (take (length (take k (drop at xs))) (take (length ys - at) (drop at ys)))
      → t ≡ same_list (part at n xs) (part at n ys)
  same-at k e t is =
      is
      ∙ ap₂ (λ (k : ℕ) (l : List ℕ). pointwise eqb (take k (drop at xs)) (take (length (take k (drop at xs))) l)) e (cut_from at ys)
      ∙ equal_bytes (part at n xs) (take (length (part at n xs)) (drop at ys))
      ∙ ap (λ (k : ℕ). same_list (part at n xs) (take k (drop at ys))) (length_part at n xs low)

-- where the first bytes are equal, and the next n too, all of these are
pub fronts_more : (n at : ℕ) (xs ys : List ℕ) → same_list (part at n xs) (part at n ys) ≡ true → take at xs ≡ take at ys
    → take (at + n) xs ≡ take (at + n) ys
fronts_more n at xs ys e f =
    take-add at n xs ∙ ap₂ ◌++◌ f (same-equal (part at n xs) (part at n ys) e) ∙ sym (take-add at n ys)

-- where a part differs, so does the whole
pub part_differs : (n at : ℕ) (xs ys : List ℕ) → same_list (part at n xs) (part at n ys) ≡ false → same_list xs ys ≡ false
part_differs n at xs ys f =
    differ_same xs ys (λ d. false≢true (sym f ∙ equal-same (part at n xs) (part at n ys) (ap (λ (l : List ℕ). part at n l) d)))

-- ---- the last n bytes, which begin no later than a place before which all are equal

module _ (n at from : ℕ) (xs ys : List ℕ) (same : length xs ≡ length ys) (last : from + n ≡ length ys) (meets : from ≤ at) where
  -- what stands from the place on stands at the end of the last n
  behind : (l : List ℕ) → length l ≡ length ys → drop at l ≡ drop (at - from) (part from n l)
  behind l long =
      let e : from + (at - from) ≡ at = omega arith in
      sym (ap (drop (at - from)) (take_all n (drop from l) (le_of_eq (length-drop from l ∙ omega (arith, long, last))))
      ∙ drop-drop (at - from) from l ∙ ap (λ (k : ℕ). drop k l) e)

  meet : take at xs ≡ take at ys → part from n xs ≡ part from n ys → xs ≡ ys
  meet f b =
      sym (take-append-drop at xs)
      ∙ ap₂ ◌++◌ f (behind xs same ∙ ap (drop (at - from)) b ∙ sym (behind ys refl))
      ∙ take-append-drop at ys

  pub ends-same : take at xs ≡ take at ys → (t : Bool) → t ≡ same_list (part from n xs) (part from n ys) → t ≡ same_list xs ys
  ends-same f t e = by t refl
    where
      by : (b : Bool) → t ≡ b → t ≡ same_list xs ys
      by true b = b ∙ sym (equal-same xs ys (meet f (same-equal (part from n xs) (part from n ys) (sym e ∙ b))))
      by false b = b ∙ sym (part_differs n from xs ys (sym e ∙ b))

-- ---- a name in two parts

module _ (text : List ℕ) (start size : ℕ) (first second : List ℕ) (room : start + size ≤ length text) where
  -- another length
  pub name_longer : (size ≡ length first + length second → ⊥) → same_list (part start size text) (first ++ second) ≡ false
  name_longer n =
      differ_same (part start size text) (first ++ second)
      (λ e. n (sym (length_part start size text room) ∙ ap length e ∙ length-append first second))

  -- of that length it is two parts side by side
  pub halves : size ≡ length first + length second
      → same_list (part start size text) (first ++ second)
      ≡ (same_list (part start (length first) text) first && same_list (part (start + length first) (length second) text) second)
  halves fits =
      ap (λ (l : List ℕ). same_list l (first ++ second))
      (ap (λ (n : ℕ). part start n text) fits ∙ sym (part-append-parts start (length first) (length second) text))
      ∙ same-append (part start (length first) text) first (part (start + length first) (length second) text) second
      (length_part start (length first) text (omega (arith, room, fits)))
