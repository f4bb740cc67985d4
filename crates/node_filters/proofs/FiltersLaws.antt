-- The filters from the last row to the first, one row a turn.
use Rattle.std.specs.Prelude.{ℕ, suc, ◌+◌, ◌*◌, ◌≡◌, refl, List}
use Rattle.std.proofs.Common.{ap}
use Rattle.std.proofs.lemmas.List.Edits.{sets}
use Rattle.node_table.specs.declared.Places.{Places}
use Rattle.node_filters.specs.Filters.{filter_made, filters_made}

pub made-next : (p : Places) (l : List ℕ) (hashes after : List ℕ) (i : ℕ) → after ≡ sets hashes (p.filters + 4 * i) (filter_made p l hashes i)
    → filters_made p l i after ≡ filters_made p l (suc i) hashes
unfolding filters_made
made-next p l hashes after i h = ap (filters_made p l i) h

pub made_none : (p : Places) (l hashes : List ℕ) → filters_made p l 0 hashes ≡ hashes
unfolding filters_made
made_none p l hashes = refl
