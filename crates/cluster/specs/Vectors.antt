-- The vectors that a float list holds, one after the other.
use Rattle.std.specs.Prelude.{ℕ, List, map, drop, Float}
use Rattle.lists.specs.Lists.{count_from}
use Rattle.store.specs.Store.{vector_at}

-- the first count vectors of a float list
unfoldable pub vectors_in : ℕ → ℕ → List Float → List (List Float)
unfolding count_from
vectors_in dimension count floats = map (λ i. vector_at dimension floats i) (count_from 0 count)

-- the vectors of a float list from a place on
abbrev pub vectors_from : ℕ → ℕ → ℕ → List Float → List (List Float)
vectors_from dimension count start floats = vectors_in dimension count (drop start floats)
