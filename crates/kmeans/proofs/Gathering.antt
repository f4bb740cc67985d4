-- The ids with a mark are copied behind the marks. What is still due of them from place i on is written from the next free place on.
use Prim.Native.Nat.{ℕ, suc, ◌+◌, ◌≤◌, ◌<◌}
use mathlib.Core.Path.{◌≡◌, refl, sym, ap, ◌∙◌}
use mathlib.Core.Bool.{Bool, true, false, cond}
use mathlib.Core.List.{List, [], ◌∷◌}
use native.Mathlib.Nat.{add-zero, zero-add}
use native.Mathlib.Numerals.{add-one}
use native.Mathlib.Omega.{arith}
use borrow.Author.Tests.{eq-eqb, ne_eqb}
use lib.Dec.{eqb}
use lib.ListN.{length, get_or, set, take, drop, drop_of_length-le}
use lib.Seq.{sets, drop-cons, length-take-le, get_or-take, take-set-le}
use Rattle.kmeans.specs.Marks.{with_mark}

-- the first mark decides of the first id
with_mark-cons : (j : ℕ) (marks ids : List ℕ) (i : ℕ) → i < length marks → i < length ids → (b : Bool) → eqb (get_or marks i 0) j ≡ b
    → with_mark j (drop i marks) (drop i ids) ≡ cond b (get_or ids i 0 ∷ with_mark j (drop (suc i) marks) (drop (suc i) ids)) (with_mark j (drop (suc i) marks) (drop (suc i) ids))
unfolding with_mark
with_mark-cons j marks ids i h g b e = rw (drop-cons marks i 0, drop-cons ids i 0, e)

with_mark-none : (j : ℕ) (marks ids : List ℕ) (i : ℕ) → length marks ≤ i → with_mark j (drop i marks) (drop i ids) ≡ []
unfolding with_mark
with_mark-none j marks ids i h = rw (drop_of_length-le marks h)

-- what is still due
abbrev due : ℕ → List ℕ → List ℕ → ℕ → List ℕ
due j ids work i = with_mark j (drop i (take (length ids) work)) (drop i ids)

pub record Gathered (j : ℕ) (ids work₀ : List ℕ) (at : ℕ) (work : List ℕ) (found i : ℕ) : Type 0 where
  pub marks : take (length ids) work ≡ take (length ids) work₀
  pub left : sets work₀ at (due j ids work₀ 0) ≡ sets work (at + found) (due j ids work₀ i)
  pub size : length (due j ids work₀ 0) ≡ found + length (due j ids work₀ i)

module _ (j : ℕ) (ids work₀ : List ℕ) (at : ℕ) (behind : length ids ≤ at) (fits : at + length (due j ids work₀ 0) ≤ length work₀) where
  length-marks : length (take (length ids) work₀) ≡ length ids
  length-marks = length-take-le (length ids) work₀ (omega arith)

  pub gather_none : Gathered j ids work₀ at work₀ 0 0
  gather_none =
      record {
        marks = refl;
        left = ap (λ (k : ℕ). sets work₀ k (due j ids work₀ 0)) (sym (add-zero at));
        size = sym (zero-add (length (due j ids work₀ 0)));
      }

  module _ (work : List ℕ) (found i : ℕ) (inv : Gathered j ids work₀ at work found i) (h : i < length ids) where
    mark : get_or (take (length ids) work₀) i 0 ≡ get_or work i 0
    mark = ap (λ (l : List ℕ). get_or l i 0) (sym inv.marks) ∙ get_or-take (length ids) work i 0 h

    next : (b : Bool) → eqb (get_or work i 0) j ≡ b → due j ids work₀ i ≡ cond b (get_or ids i 0 ∷ due j ids work₀ (suc i)) (due j ids work₀ (suc i))
    next b e =
        with_mark-cons j (take (length ids) work₀) ids i (rw length-marks h) h b (ap (λ (m : ℕ). eqb m j) mark ∙ e)

    pub gather_room : length work ≡ length work₀ → get_or work i 0 ≡ j → at + found < length work
    gather_room same e =
        let n : length (due j ids work₀ i) ≡ suc (length (due j ids work₀ (suc i))) =
        ap (λ (l : List ℕ). length l) (next true (eq-eqb (get_or work i 0) j e)) in
        omega (arith, inv.size)

    pub gather_hit : get_or work i 0 ≡ j → Gathered j ids work₀ at (set work (at + found) (get_or ids i 0)) (found + 1) (i + 1)
    gather_hit e =
        let id : ℕ = get_or ids i 0 in
        let q : due j ids work₀ i ≡ id ∷ due j ids work₀ (i + 1) = next true (eq-eqb (get_or work i 0) j e) ∙ rw add-one in
        let k : suc (at + found) ≡ at + (found + 1) = omega arith in
        record {
          marks = take-set-le (length ids) work (at + found) id (omega arith) ∙ inv.marks;
          left =
              inv.left
              ∙ ap (λ (l : List ℕ). sets work (at + found) l) q
              ∙ ap (λ (p : ℕ). sets (set work (at + found) id) p (due j ids work₀ (i + 1))) k;
          size = let n = ap (λ (l : List ℕ). length l) q in omega (arith, inv.size, n);
        }

    pub gather_miss : (get_or work i 0 ≡ j → ⊥) → Gathered j ids work₀ at work found (i + 1)
    gather_miss e =
        let q : due j ids work₀ i ≡ due j ids work₀ (i + 1) = next false (ne_eqb (get_or work i 0) j e) ∙ rw add-one in
        record {
          marks = inv.marks;
          left = inv.left ∙ ap (λ (l : List ℕ). sets work (at + found) l) q;
          size = inv.size ∙ ap (λ (l : List ℕ). found + length l) q;
        }

  pub gather_end : (work : List ℕ) (found i : ℕ) → Gathered j ids work₀ at work found i → length ids ≤ i
      → (found ≡ length (due j ids work₀ 0)) × (work ≡ sets work₀ at (due j ids work₀ 0))
  gather_end work found i inv h =
      let q : due j ids work₀ i ≡ [] = with_mark-none j (take (length ids) work₀) ids i (rw length-marks h) in (
        sym (inv.size ∙ ap (λ (l : List ℕ). found + length l) q ∙ add-zero found),
        sym (inv.left ∙ ap (λ (l : List ℕ). sets work (at + found) l) q),
      )
