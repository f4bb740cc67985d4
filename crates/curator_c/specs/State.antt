-- A state as a list of numbers: its layout, and what state a list holds.
use Rattle.std.specs.Prelude.{ℕ, Bool, true, false, cond, List, [], ◌∷◌, ltb, eqb, length, get_or}
use Rattle.curator.specs.declared.CuratorIndex.{CuratorIndex}
use Rattle.std.specs.Prelude.{Option, Some, None}

-- how many places a state takes
abbrev pub places : ℕ
places = 14

-- The layout: dimension, branching_factor, max_leaf_size, ef_search, beam_width, V, E, M, vectors held, entries held, nodes, built (1) or not (0), the
-- capacity of label text, bytes held.
abbrev pub state_list : CuratorIndex → List ℕ
state_list index =
    index.dimension ∷ index.params.branching_factor ∷ index.params.max_leaf_size ∷ index.params.ef_search
    ∷ index.params.beam_width
    ∷ index.capacities.vectors
    ∷ index.capacities.entries
    ∷ index.capacities.nodes
    ∷ index.counts.vectors
    ∷ index.counts.entries
    ∷ index.counts.nodes
    ∷ cond index.built 1 0
    ∷ index.capacities.text
    ∷ index.counts.bytes
    ∷ []

-- the state whose numbers stand in a list, but for whether it is built
abbrev pub state_of : List ℕ → Bool → CuratorIndex
state_of list built =
    record {
      dimension = get_or list 0 0;
      params =
          record {
            branching_factor = get_or list 1 0;
            max_leaf_size = get_or list 2 0;
            ef_search = get_or list 3 0;
            beam_width = get_or list 4 0;
          };
      capacities = record { vectors = get_or list 5 0; entries = get_or list 6 0; nodes = get_or list 7 0; text = get_or list 12 0 };
      counts = record { vectors = get_or list 8 0; entries = get_or list 9 0; nodes = get_or list 10 0; bytes = get_or list 13 0 };
      built = built;
    }

-- What state a list holds: none where it has fewer places or its built flag is neither 0 nor 1. Whether the state is sound is row 4 of the calls.
unfoldable pub state_in : List ℕ → Option CuratorIndex
state_in list =
    cond (ltb (length list) places)
    None
    (cond (eqb (get_or list 11 0) 0) (Some (state_of list false)) (cond (eqb (get_or list 11 0) 1) (Some (state_of list true)) None))
