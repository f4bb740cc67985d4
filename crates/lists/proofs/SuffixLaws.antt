-- Laws of specs/Suffix.antt.
use Rattle.std.specs.Prelude.{ℕ, zero, suc, ◌-◌, ◌≤◌, ◌<◌, Bool, true, false, cond, ◌≡◌, refl, eqb, length, get_or, drop, replicate}
use Rattle.std.proofs.Common.{arith, sym, ap, ◌∙◌, eq-eqb, ne_eqb}
use Rattle.std.proofs.lemmas.Bool.{false≢true}
use mathlib.Core.List.{List, [], ◌∷◌, ◌++◌, Memᴰ}
use Rattle.std.proofs.lemmas.List.{length-replicate}
use Rattle.lists.specs.Counting.{get_d_Memᴰ}
use Rattle.lists.specs.Maps.{Memᴰ-replicate}
use Rattle.lists.specs.Tests.{all_pass, all_pass_lem, all_pass-Memᴰ, either, which}
use Rattle.lists.specs.Suffix.{count_at_end, all_are}

-- of 1, 0, 1, 1 the last two are at the end, though three are 1; at the end of these none is 0; of 1, 1 all are
trial-at-end :
    (count_at_end 1 (1 ∷ 0 ∷ 1 ∷ 1 ∷ []) ≡ 2) × (count_at_end 0 (1 ∷ 0 ∷ 1 ∷ 1 ∷ []) ≡ 0) × (count_at_end 1 (1 ∷ 1 ∷ []) ≡ 2) × (count_at_end 1 [] ≡ 0)
unfolding count_at_end
trial-at-end = (refl, refl, refl, refl)

one_other : (x : ℕ) (l : List ℕ) (i : ℕ) → i < length l → eqb (get_or l i 0) x ≡ false → all_are x l ≡ false
one_other x l i h e =
    either (which (all_are x l)) (λ t. absurd (false≢true (sym e ∙ all_pass-Memᴰ (λ z. eqb z x) l t (get_or l i 0) (get_d_Memᴰ l i 0 h)))) (λ f. f)

-- it is not longer than the list
pub at-end-few : (x : ℕ) (l : List ℕ) → count_at_end x l ≤ length l
unfolding count_at_end
at-end-few x [] = omega arith
at-end-few x (y ∷ l) = by (all_are x (y ∷ l)) (at-end-few x l)
  where
    by : (b : Bool) → count_at_end x l ≤ length l → cond b (suc (length l)) (count_at_end x l) ≤ suc (length l)
    by true h = omega arith
    by false h = omega arith

-- the whole list
pub at-end-all : (x : ℕ) (l : List ℕ) → all_are x l ≡ true → count_at_end x l ≡ length l
unfolding count_at_end
at-end-all x [] h = refl
at-end-all x (y ∷ l) h = ap (λ (b : Bool). cond b (suc (length l)) (count_at_end x l)) h

at-end-later : (x y : ℕ) (l : List ℕ) → all_are x (y ∷ l) ≡ false → count_at_end x (y ∷ l) ≡ count_at_end x l
unfolding count_at_end
at-end-later x y l h = ap (λ (b : Bool). cond b (suc (length l)) (count_at_end x l)) h

-- all that stands behind another number
pub at-end-behind : (x : ℕ) (l : List ℕ) (i : ℕ) → i < length l → eqb (get_or l i 0) x ≡ false → all_are x (drop (suc i) l) ≡ true
    → count_at_end x l ≡ length l - suc i
at-end-behind x [] i h e a = absurd (omega arith)
at-end-behind x (y ∷ l) zero h e a = at-end-later x y l (one_other x (y ∷ l) 0 h e) ∙ at-end-all x l a ∙ (omega arith)
at-end-behind x (y ∷ l) (suc i) h e a =
    at-end-later x y l (one_other x (y ∷ l) (suc i) h e) ∙ at-end-behind x l i (omega arith) e a ∙ (omega arith)

-- what stands behind smaller numbers
pub at-end-written : (x k : ℕ) (l : List ℕ) → ((y : ℕ) → Memᴰ y l → y < x) → count_at_end x (l ++ replicate k x) ≡ k
at-end-written x k [] h =
    at-end-all x (replicate k x) (all_pass_lem (λ z. eqb z x) (replicate k x) (λ z m. eq-eqb z x (Memᴰ-replicate k m))) ∙ length-replicate k x
at-end-written x k (y ∷ l) h =
    at-end-later x y (l ++ replicate k x)
    (one_other x (y ∷ (l ++ replicate k x)) 0 (omega arith) (ne_eqb y x (λ e. let b : y < x = h y (Memᴰ.head refl) in omega arith)))
    ∙ at-end-written x k l (λ z m. h z (Memᴰ.tail m))
