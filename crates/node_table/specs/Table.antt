-- The six numbers per node are a table with a row for each node; a column of it starts at a place of the list. Where the parts of an index start.
use Rattle.std.specs.Prelude.{ℕ, zero, suc, ◌+◌, ◌*◌, List, map, get_or, set}
use Rattle.lists.specs.Lists.{count_from}
use Rattle.store.specs.declared.Shape.{Shape}
use Rattle.store.specs.Store.{owners_at, order_at, nodes_at, links_at, entry_order_at, filters_at}
use Rattle.node_table.specs.declared.Places.{Places}

-- a list with a number of places written, one after the other: at place p i the number f i
unfoldable pub written : (ℕ → ℕ) → (ℕ → ℕ) → ℕ → List ℕ → List ℕ
written p f zero l = l
written p f (suc i) l = set (written p f i l) (p i) (f i)

-- ---- columns

-- the place of row i in the column that starts at a place, and the number there
abbrev pub cell_at : ℕ → ℕ → ℕ
cell_at at i = at + 6 * i

abbrev pub cell : ℕ → List ℕ → ℕ → ℕ
cell at l i = get_or l (at + 6 * i) 0

-- the numbers of a column, from the first row on
abbrev pub cells : ℕ → ℕ → List ℕ → List ℕ
cells at rows l = map (cell at l) (count_from 0 rows)

-- a list with a column written
abbrev pub column : ℕ → ℕ → (ℕ → ℕ) → List ℕ → List ℕ
column at rows f l = written (cell_at at) f rows l

-- ---- starts of blocks

-- the sum of a function's values at the numbers below one
unfoldable pub sum_to : (ℕ → ℕ) → ℕ → ℕ
sum_to f zero = 0
sum_to f (suc i) = sum_to f i + f i

-- 'an empty block has start 0 and count 0': the start of a block of so many elements that would begin at a place
unfoldable pub start_at : ℕ → ℕ → ℕ
start_at at zero = 0
start_at at (suc count) = at

-- 'each block starting where the one before ended': the start of the block of row i, the counts in the column after the one at a place
unfoldable pub block_start : ℕ → List ℕ → ℕ → ℕ
unfolding sum_to start_at
block_start at l i = start_at (sum_to (cell (at + 1) l) i) (cell (at + 1) l i)

-- ---- places

-- where the parts of an index start
abbrev pub places_of : Shape → Places
places_of s =
    record {
      owners = owners_at s;
      vectors = order_at s;
      table = nodes_at s;
      links = links_at s;
      order = entry_order_at s;
      filters = filters_at s;
    }
