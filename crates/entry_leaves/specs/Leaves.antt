-- The leaf of each vector and of each entry, as they are written into the work list.
use Rattle.std.specs.Prelude.{ℕ, zero, suc, ◌+◌, List, get_or}
use Rattle.node_table.specs.Table.{written, cell, sum_to}

-- for each row i in turn, i at the places of its block, as many as its count; the blocks follow one another
unfoldable pub marked : (ℕ → ℕ) → (ℕ → ℕ) → ℕ → List ℕ → List ℕ
unfolding written sum_to
marked places counts zero l = l
marked places counts (suc i) l = written (λ k. places (sum_to counts i + k)) (λ k. i) (counts i) (marked places counts i l)

-- the leaf of each vector, at its number, and from a place on the leaf of each entry, which is its owner's
unfoldable pub leaves_marked : ℕ → List ℕ → ℕ → ℕ → ℕ → ℕ → ℕ → List ℕ → List ℕ
unfolding written marked
leaves_marked at numbers counts rows order owners entries work =
    let leaves = marked (λ k. get_or numbers (order + k) 0) (cell counts numbers) rows work in
    written (λ k. at + k) (λ k. get_or leaves (get_or numbers (owners + k) 0) 0) entries leaves
