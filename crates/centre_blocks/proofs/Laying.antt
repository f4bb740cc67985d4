-- Centres are laid out one after the other: the columns of two centres do not meet.
use Prim.Native.Nat.{ℕ, ◌+◌, ◌*◌, ◌/◌, ◌≤◌, ◌<◌}
use mathlib.Core.Path.{◌≡◌, refl, sym, ap, ◌∙◌}
use mathlib.Core.Bool.{true, false}
use mathlib.Core.List.{List, []}
use native.Mathlib.Nat.{not-suc-le-zero}
use native.Mathlib.Omega.{arith}
use borrow.Author.Tests.{ltb-true, ltb-false}
use lib.Dec.{ltb}
use lib.ListN.{length, get_or, set, length-set}
use lib.Seq.{ext_get_or, get_or-set_same, get_or-set_other}
use lib.Ieee.{Float, nan}
use Rattle.lists.specs.Lists.{part}
use Rattle.lists.specs.Parts.{length_part, get_d_part}
use Rattle.lists.specs.Tests.{either, which}
use Rattle.cluster.specs.Vectors.{vectors_from}
use Rattle.cluster.specs.VectorsLaws.{row-end, length-vectors_in, vector_of-vectors_from}
use Rattle.centre_blocks.specs.Blocks.{column, column_at, centres_in}
use Rattle.centre_blocks.specs.Promises.{ColumnWritten}
use Rattle.centre_blocks.specs.BlocksLaws.{length-column, get_d_column, column-is, length-centres_in, vector_of-centres_in}

-- below the next number is below the number, or the number
last_or_before {ℓ} : (j i : ℕ) {P : Type ℓ} → j < i + 1 → (j < i → P) → (j ≡ i → P) → P
last_or_before j i h before last =
    either (which (ltb j i)) (λ t. before (ltb-true j i t)) (λ f. last (let g = ltb-false j i f in omega arith))

-- ---- one column

-- i components of a vector are written, and the other floats are as they were
pub record Laying (from at : ℕ) (floats before after : List Float) (i : ℕ) : Type 0 where
  pub same : length after ≡ length before
  pub laid : (j : ℕ) → j < i → get_or after (at + j * 16) nan ≡ get_or floats (from + j) nan
  pub others : (p : ℕ) → ((j : ℕ) → j < i → p ≡ at + j * 16 → ⊥) → get_or after p nan ≡ get_or before p nan

pub laying_none : (from at : ℕ) (floats before : List Float) → Laying from at floats before before 0
laying_none from at floats before = record { same = refl; laid = λ j h. absurd (not-suc-le-zero h); others = λ p h. refl }

pub laying_next : (from at : ℕ) (floats before after : List Float) (i : ℕ) → Laying from at floats before after i → at + i * 16 < length after
    → Laying from at floats before (set after (at + i * 16) (get_or floats (from + i) nan)) (i + 1)
laying_next from at floats before after i w h =
    record {
      same = length-set after p x ∙ w.same;
      laid = λ j b.
          last_or_before j i b
          (λ g. get_or-set_other after p (at + j * 16) x nan (λ e. omega arith) ∙ w.laid j g)
          (λ e. rw e (get_or-set_same after p x nan h));
      others = λ q apart.
          get_or-set_other after p q x nan (λ e. apart i (omega arith) e)
          ∙ w.others q (λ j b e. apart j (omega arith) e);
    }
  where
    p : ℕ
    p = at + i * 16

    x : Float
    x = get_or floats (from + i) nan

pub laying_all : (from at n : ℕ) (floats before after : List Float) (i : ℕ) → Laying from at floats before after i → i ≡ n → from + n ≤ length floats
    → ColumnWritten n at (part from n floats) before after
laying_all from at n floats before after i w e h =
    record {
      is = column-is n after at (part from n floats) (length_part from n floats h)
          (λ j b. w.laid j (omega arith) ∙ sym (get_d_part from n floats j nan b));
      others = λ p apart. w.others p (λ j b. apart j (omega arith));
    }

-- ---- all columns

columns_apart : (n j c i i' : ℕ) → j < c → i < n → column_at n j + i * 16 ≡ column_at n c + i' * 16 → ⊥
columns_apart n j c i i' h b e = either (which (ltb (j / 16) (c / 16))) earlier alike
  where
    earlier : ltb (j / 16) (c / 16) ≡ true → ⊥
    earlier t = let r = row-end (n * 16) (j / 16) (c / 16) (ltb-true (j / 16) (c / 16) t) in omega arith

    alike : ltb (j / 16) (c / 16) ≡ false → ⊥
    alike f =
        let q : j / 16 ≡ c / 16 = let g = ltb-false (j / 16) (c / 16) f in omega arith in
        let s : j / 16 * (n * 16) ≡ c / 16 * (n * 16) = ap (λ (m : ℕ). m * (n * 16)) q in
        omega arith

-- one centre more
pub laid_next : (n s : ℕ) (floats before after : List Float) (c : ℕ)
    → ((j : ℕ) → j < c → column n before (column_at n j) ≡ part (s + j * n) n floats)
    → ColumnWritten n (column_at n c) (part (s + c * n) n floats) before after
    → (j : ℕ) → j < c + 1 → column n after (column_at n j) ≡ part (s + j * n) n floats
laid_next n s floats before after c laid w j h =
    last_or_before j c h
    (λ b. column-is n after (column_at n j) (column n before (column_at n j)) (length-column n before (column_at n j))
    (λ i g.
    w.others (column_at n j + i * 16) (λ i' g' e. columns_apart n j c i i' b g e)
    ∙ sym (get_d_column n before (column_at n j) i g))
    ∙ laid j b)
    (λ e. rw e w.is)

pub laid-all : (n k s : ℕ) (floats blocks : List Float) (c : ℕ) → ((j : ℕ) → j < c → column n blocks (column_at n j) ≡ part (s + j * n) n floats) → k ≤ c
    → centres_in n k blocks ≡ vectors_from n k s floats
laid-all n k s floats blocks c laid h =
    ext_get_or [] (centres_in n k blocks) (vectors_from n k s floats) (rw (length-centres_in, length-vectors_in))
    (λ j b. let g : j < k = rw length-centres_in at b in
    vector_of-centres_in n k blocks j g ∙ laid j (omega arith) ∙ sym (vector_of-vectors_from n k s floats j g))
