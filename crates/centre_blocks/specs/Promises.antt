-- What laying out one vector leaves.
use Rattle.std.specs.Prelude.{ℕ, ◌+◌, ◌*◌, ◌<◌, ◌≡◌, List, get_or, Float}
use Rattle.std.specs.Float.{nan}
use Rattle.centre_blocks.specs.Blocks.{column}

-- a column is the vector, and the floats outside of it are as they were
pub record ColumnWritten (dimension at : ℕ) (vector before after : List Float) : Type 0 where
  pub is : column dimension after at ≡ vector
  pub others : (p : ℕ) → ((i : ℕ) → i < dimension → p ≡ at + i * 16 → ⊥) → get_or after p nan ≡ get_or before p nan
