-- Settings and capacities by their numbers, as a caller in C or an echo file gives them.
use Rattle.std.specs.Prelude.{ℕ}
use Rattle.settings.specs.declared.CuratorParams.{CuratorParams}
use Rattle.settings.specs.declared.Capacities.{Capacities}

abbrev pub params_of : ℕ → ℕ → ℕ → ℕ → CuratorParams
params_of branching leaf_size ef beam =
    record { branching_factor = branching; max_leaf_size = leaf_size; ef_search = ef; beam_width = beam }

abbrev pub capacities_of : ℕ → ℕ → ℕ → ℕ → Capacities
capacities_of vectors entries nodes text = record { vectors = vectors; entries = entries; nodes = nodes; text = text }
