-- What some lists hold, computed.
use Rattle.std.specs.Prelude.{true, [], ◌∷◌, ◌≡◌, refl}
use Rattle.bloom.specs.Filter.{union}
use Rattle.std.specs.Prelude.{Some, None}
use Rattle.curator_c.specs.State.{state_in}
use Rattle.curator_c.specs.Results.{pool_short, PoolsBy, PoolResult}

-- the state of document 01's worked example, built, with a number more in the list
built-example :
    state_in (2 ∷ 2 ∷ 1 ∷ 5 ∷ 4 ∷ 128 ∷ 256 ∷ 512 ∷ 3 ∷ 3 ∷ 5 ∷ 1 ∷ 65280 ∷ 3 ∷ 77 ∷ [])
    ≡ Some
    (record {
      dimension = 2;
      params = record { branching_factor = 2; max_leaf_size = 1; ef_search = 5; beam_width = 4 };
      capacities = record { vectors = 128; entries = 256; nodes = 512; text = 65280 };
      counts = record { vectors = 3; entries = 3; nodes = 5; bytes = 3 };
      built = true;
    })
unfolding state_in
built-example = refl

-- a flag of 2, and thirteen numbers
flag_2 : state_in (2 ∷ 2 ∷ 1 ∷ 5 ∷ 4 ∷ 128 ∷ 256 ∷ 512 ∷ 3 ∷ 3 ∷ 5 ∷ 2 ∷ 65280 ∷ 3 ∷ []) ≡ None
unfolding state_in
flag_2 = refl

thirteen : state_in (2 ∷ 2 ∷ 1 ∷ 5 ∷ 4 ∷ 128 ∷ 256 ∷ 512 ∷ 3 ∷ 3 ∷ 5 ∷ 1 ∷ 65280 ∷ []) ≡ None
unfolding state_in
thirteen = refl

-- two filters pooled, each with a word more in its list; and three words
pooled : PoolResult (1 ∷ 2 ∷ 4 ∷ 8 ∷ 9 ∷ []) (2 ∷ 2 ∷ 0 ∷ 1 ∷ 7 ∷ []) 0 (3 ∷ 2 ∷ 4 ∷ 9 ∷ 9 ∷ [])
unfolding PoolResult PoolsBy pool_short union
pooled = (refl, refl)

three_words : PoolResult (1 ∷ 2 ∷ 4 ∷ 8 ∷ []) (2 ∷ 2 ∷ 0 ∷ []) 3 (1 ∷ 2 ∷ 4 ∷ 8 ∷ [])
unfolding PoolResult PoolsBy pool_short
three_words = (refl, refl)
