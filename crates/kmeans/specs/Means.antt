-- The means of all clusters in one pass: sums are begun, vectors are added by their marks, and sums are divided.
use Rattle.std.specs.Prelude.{ℕ, cond, List, map, ltb, pos, get_or, replicate, Float}
use Rattle.std.specs.Float.{binary32}
use Rattle.std.specs.Float.Ieee.{div, of_int}
use Rattle.lists.specs.Lists.{count_from}
use Rattle.vector.specs.Vector.{zero32}
use Rattle.cluster.specs.Clusters.{vector_of, sum_from}
use Rattle.kmeans.specs.Marks.{with_mark}

-- what a function gives for the number of each centre and the centre
unfoldable pub each_centre : ℕ → (ℕ → List Float → List Float) → List (List Float) → List (List Float)
unfolding count_from
each_centre k f centres = map (λ j. f j (vector_of centres j)) (count_from 0 k)

-- 0 where the centre's count is not 0
abbrev pub begun : ℕ → List ℕ → ℕ → List Float → List Float
begun dimension counts j centre = cond (ltb 0 (get_or counts j 0)) (replicate dimension zero32) centre

-- with the vectors of the ids with the centre's mark added
abbrev pub summed : List (List Float) → List ℕ → List ℕ → ℕ → List Float → List Float
summed vectors marks ids j centre = sum_from vectors centre (with_mark j marks ids)

-- divided by its count where that is not 0
abbrev pub divided : List ℕ → ℕ → List Float → List Float
divided counts j centre = cond (ltb 0 (get_or counts j 0)) (map (λ x. div binary32 x (of_int binary32 (pos (get_or counts j 0)))) centre) centre
