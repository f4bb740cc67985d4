-- What the functions of this crate leave in the lists that they are lent.
use Rattle.std.specs.Prelude.{ℕ, ◌*◌, ◌≡◌, List, length, take, Float}
use Rattle.lists.specs.Frame.{AlikeBut}
use Rattle.cluster.specs.Clusters.{last_centres}
use Rattle.cluster.specs.Vectors.{vectors_in, vectors_from}
use Rattle.kmeans.specs.Marks.{assignment}

-- the k centres from `at` on are these, and nothing else changed
pub record Centred (dimension k at : ℕ) (before : List Float) (centres : List (List Float)) (after : List Float) : Type 0 where
  pub centres_are : vectors_from dimension k at after ≡ centres
  pub alike : AlikeBut at (k * dimension) before after

-- The marks of ids by the centres of the third round stand in front of the work list. Of the lists only the centres' part and the work list's
-- first 2 * n places, for n ids, are written.
pub record Clustered (dimension count at k : ℕ) (ids : List ℕ) (floats floats' : List Float) (work work' : List ℕ) : Type 0 where
  pub marks : take (length ids) work' ≡ assignment (vectors_in dimension count floats) (last_centres dimension k (vectors_in dimension count floats) ids) ids
  pub floats_alike : AlikeBut at (k * dimension) floats floats'
  pub work_alike : AlikeBut 0 (2 * length ids) work work'
