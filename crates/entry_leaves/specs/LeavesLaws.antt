-- The leaf of each vector: one block of ids after the other is marked.
use Rattle.std.specs.Prelude.{ℕ, zero, suc, ◌+◌, ◌<◌, ◌≡◌, refl, List, length, get_or}
use Rattle.std.proofs.Common.{sym, ap, ap₂, ◌∙◌, add-one}
use Rattle.node_table.specs.Table.{written, sum_to}
use Rattle.entry_leaves.specs.Leaves.{marked}
use Rattle.node_table.specs.TableLaws.{written_congr, length-written}

pub marked-none : (places counts : ℕ → ℕ) (l : List ℕ) → l ≡ marked places counts 0 l
unfolding marked
marked-none places counts l = refl

pub length_marked : (places counts : ℕ → ℕ) (i : ℕ) (l : List ℕ) → length (marked places counts i l) ≡ length l
unfolding marked
length_marked places counts zero l = refl
length_marked places counts (suc i) l =
    length-written (λ k. places (sum_to counts i + k)) (λ k. i) (counts i) (marked places counts i l) ∙ length_marked places counts i l

pub marked_next : (places counts : ℕ → ℕ) (i : ℕ) (l m next ids : List ℕ) → m ≡ marked places counts i l
    → next ≡ written (λ k. get_or ids k 0) (λ k. i) (length ids) m → length ids ≡ counts i
    → ((k : ℕ) → k < counts i → get_or ids k 0 ≡ places (sum_to counts i + k)) → next ≡ marked places counts (i + 1) l
unfolding marked
marked_next places counts i l m next ids h e n same =
    e
    ∙ ap₂ (λ (c : ℕ) (r : List ℕ). written (λ k. get_or ids k 0) (λ k. i) c r) n h
    ∙ written_congr (λ k. get_or ids k 0) (λ k. places (sum_to counts i + k)) (λ k. i) (λ k. i) (counts i) (marked places counts i l) same (λ k b. refl)
    ∙ ap (λ (j : ℕ). marked places counts j l) (sym (add-one i))
