-- What functions that read the vectors of ids and write behind them ask of the lists that they are lent.
use Rattle.std.specs.Prelude.{ℕ, ◌+◌, ◌*◌, ◌≤◌, ◌<◌, ◌^◌, List, length, get_or, Float}

-- Ids are below the count of vectors held, and the part of the float list from `at` on, of a size, is behind those vectors.
-- So few ids have a number that an f32 holds.
pub record BehindVectors (floats : List Float) (ids : List ℕ) (dimension count at size : ℕ) : Type 0 where
  pub below : (i : ℕ) → i < length ids → get_or ids i 0 < count
  pub few : length ids ≤ 2 ^ 24
  pub behind : count * dimension ≤ at
  pub within : at + size ≤ length floats
