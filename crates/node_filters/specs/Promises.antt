-- What a node's row is asked to be.
use Rattle.std.specs.Prelude.{ℕ, ◌+◌, ◌≤◌, ◌<◌, List, length, get_or}
use Rattle.node_table.specs.declared.Places.{Places}
use Rattle.node_table.specs.Table.{cell}

-- the blocks of row i are within the lists, its entries are entries and its children later rows
pub record RowFits (p : Places) (l : List ℕ) (rows : ℕ) (i : ℕ) : Type 0 where
  pub children_end : p.links + cell p.table l i + cell (p.table + 1) l i ≤ length l
  pub entries_end : p.order + cell (p.table + 4) l i + cell (p.table + 5) l i ≤ length l
  pub entry_below : (k : ℕ) → k < cell (p.table + 5) l i → get_or l (p.order + cell (p.table + 4) l i + k) 0 < p.filters
  pub child_above : (k : ℕ) → k < cell (p.table + 1) l i → i < get_or l (p.links + cell p.table l i + k) 0
  pub child_below : (k : ℕ) → k < cell (p.table + 1) l i → get_or l (p.links + cell p.table l i + k) 0 < rows
