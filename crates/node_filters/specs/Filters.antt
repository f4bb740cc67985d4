-- The filter of a node is made of the filters of its children and the hashes of its entries.
use Rattle.std.specs.Prelude.{ℕ, zero, suc, ◌+◌, ◌*◌, List, map, get_or}
use Rattle.std.proofs.lemmas.List.Edits.{sets}
use Rattle.lists.specs.Lists.{part}
use Rattle.bloom.specs.Filter.{empty_filter, insert_all, union_all}
use Rattle.node_table.specs.declared.Places.{Places}
use Rattle.node_table.specs.Table.{cell}

-- the children and the entries of row i
abbrev pub child_block : Places → List ℕ → ℕ → List ℕ
child_block p l i = part (p.links + cell p.table l i) (cell (p.table + 1) l i) l

abbrev pub entry_block : Places → List ℕ → ℕ → List ℕ
entry_block p l i = part (p.order + cell (p.table + 4) l i) (cell (p.table + 5) l i) l

-- the filter of row i: the hashes of its entries, and the filters of its children
unfoldable pub filter_made : Places → List ℕ → List ℕ → ℕ → List ℕ
unfolding insert_all union_all
filter_made p l hashes i =
    union_all (insert_all empty_filter (map (λ x. get_or hashes x 0) (entry_block p l i))) (map (λ c. part (p.filters + 4 * c) 4 hashes) (child_block p l i))

-- from the last row to the first
unfoldable pub filters_made : Places → List ℕ → ℕ → List ℕ → List ℕ
unfolding filter_made
filters_made p l zero hashes = hashes
filters_made p l (suc i) hashes = filters_made p l i (sets hashes (p.filters + 4 * i) (filter_made p l hashes i))
