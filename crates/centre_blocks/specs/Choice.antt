-- The choice of the nearest centre by sums of products.
use Rattle.std.specs.Prelude.{ℕ, ◌+◌, ◌<◌, ◌≡◌, List, length, get_or, drop, Float}
use Rattle.std.specs.Float.{nan, binary32}
use Rattle.std.specs.Float.Ieee.{sub}
use Rattle.distance.specs.Distance.{one32, distance}
use Rattle.cluster.specs.Clusters.{vector_of, nearest_from}
use Rattle.nearest_centre.specs.declared.Best.{Best}

-- what is chosen once the centres from number i on are compared too
abbrev pub to_choose : List Float → List (List Float) → ℕ → Best → ℕ
to_choose v centres i best = nearest_from v i best.number best.least (drop i centres)

-- the sum gives the distance of v from centre i, where there is one
abbrev pub SumIs : List Float → List (List Float) → ℕ → Float → Type 0
SumIs v centres i sum = i < length centres → sub binary32 one32 sum ≡ distance v (vector_of centres i)

-- the sums are those of the centres from a first one on
abbrev pub SumsAre : List Float → List (List Float) → ℕ → List Float → Type 0
SumsAre v centres first sums = (l : ℕ) → l < length sums → SumIs v centres (first + l) (get_or sums l nan)
