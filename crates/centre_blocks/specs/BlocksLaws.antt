-- Columns, element by element, and centres, column by column.
use Rattle.std.specs.Prelude.{ℕ, ◌+◌, ◌*◌, ◌/◌, ◌≤◌, ◌<◌, ◌≡◌, List, [], length, get_or, Float}
use Rattle.std.proofs.Common.{sym, ap, ◌∙◌, zero-add, arith, ext_get_or}
use Rattle.std.proofs.lemmas.List.{length-map}
use Rattle.std.specs.Float.{nan}
use Rattle.lists.specs.Lists.{count_from}
use Rattle.lists.specs.Maps.{get_d_map}
use Rattle.lists.specs.Counting.{length-count_from, get_d_count_from}
use Rattle.cluster.specs.Clusters.{vector_of}
use Rattle.cluster.specs.VectorsLaws.{row-end}
use Rattle.centre_blocks.specs.Blocks.{column, column_at, centres_in}

pub length-column : (n : ℕ) (blocks : List Float) (at : ℕ) → length (column n blocks at) ≡ n
unfolding column
length-column n blocks at = length-map (count_from 0 n) (λ i. get_or blocks (at + i * 16) nan) ∙ length-count_from 0 n

pub get_d_column : (n : ℕ) (blocks : List Float) (at i : ℕ) → i < n → get_or (column n blocks at) i nan ≡ get_or blocks (at + i * 16) nan
unfolding column
get_d_column n blocks at i h =
    get_d_map (λ i. get_or blocks (at + i * 16) nan) (count_from 0 n) i 0 nan (rw length-count_from h)
    ∙ ap (λ (j : ℕ). get_or blocks (at + j * 16) nan) (get_d_count_from 0 n i 0 h ∙ zero-add i)

-- a column is a list by its elements
pub column-is : (n : ℕ) (blocks : List Float) (at : ℕ) (l : List Float) → length l ≡ n → ((i : ℕ) → i < n → get_or blocks (at + i * 16) nan ≡ get_or l i nan)
    → column n blocks at ≡ l
column-is n blocks at l e h =
    ext_get_or nan (column n blocks at) l (length-column n blocks at ∙ sym e)
    (λ i b. let k : i < n = rw length-column at b in get_d_column n blocks at i k ∙ h i k)

pub length-centres_in : (n k : ℕ) (blocks : List Float) → length (centres_in n k blocks) ≡ k
unfolding centres_in
length-centres_in n k blocks = length-map (count_from 0 k) (λ c. column n blocks (column_at n c)) ∙ length-count_from 0 k

pub vector_of-centres_in : (n k : ℕ) (blocks : List Float) (c : ℕ) → c < k → vector_of (centres_in n k blocks) c ≡ column n blocks (column_at n c)
unfolding centres_in
vector_of-centres_in n k blocks c h =
    get_d_map (λ c. column n blocks (column_at n c)) (count_from 0 k) c 0 [] (rw length-count_from h)
    ∙ ap (λ (j : ℕ). column n blocks (column_at n j)) (get_d_count_from 0 k c 0 h ∙ zero-add c)

-- the block of a centre is within the blocks
pub block_within : (n k size c : ℕ) → (k + 15) / 16 * (n * 16) ≤ size → c < k → c / 16 * (n * 16) + n * 16 ≤ size
block_within n k size c h g = let e = row-end (n * 16) (c / 16) ((k + 15) / 16) (omega arith) in omega arith
