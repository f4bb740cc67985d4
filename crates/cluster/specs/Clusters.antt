-- Document 01, 'Clusters': the groups into which the ids of a node are split. An id is the number of a vector in a list of vectors.
use Rattle.std.specs.Prelude.{ℕ, suc, ◌*◌, ◌/◌, min, false, cond, List, [], ◌∷◌, map, pos, length, get_or, replicate, eqb, Float}
use Rattle.std.specs.Float.{inf, binary32}
use Rattle.std.specs.Float.Ieee.{add, div, lt, of_int}
use Rattle.lists.specs.Lists.{keep, count_from}
use Rattle.vector.specs.Vector.{zero32}
use Rattle.distance.specs.Distance.{distance}

-- the vector with an id
abbrev pub vector_of : List (List Float) → ℕ → List Float
vector_of vectors id = get_or vectors id []

-- a sum of two vectors, component by component
unfoldable pub add_vectors : List Float → List Float → List Float
unfolding add
add_vectors [] ys = []
add_vectors (x ∷ xs) [] = x ∷ xs
add_vectors (x ∷ xs) (y ∷ ys) = add binary32 x y ∷ add_vectors xs ys

-- the vectors of ids added to a sum, in the order of the ids
unfoldable pub sum_from : List (List Float) → List Float → List ℕ → List Float
unfolding add_vectors
sum_from vectors sum [] = sum
sum_from vectors sum (id ∷ ids) = sum_from vectors (add_vectors sum (vector_of vectors id)) ids

-- 'its sum from +0.0, in id order, over its size'
unfoldable pub mean_of : ℕ → List (List Float) → List ℕ → List Float
unfolding sum_from zero32 div of_int
mean_of dimension vectors ids =
    map (λ x. div binary32 x (of_int binary32 (pos (length ids)))) (sum_from vectors (replicate dimension zero32) ids)

-- 'the first centre with a strictly smaller distance (`<`, from infinity; none smaller: cluster 0)': the centres from number i on are still to be
-- compared, best is the number chosen so far and least its distance
unfoldable pub nearest_from : List Float → ℕ → ℕ → Float → List (List Float) → ℕ
unfolding distance lt
nearest_from v i best least [] = best
nearest_from v i best least (centre ∷ centres) =
    let d = distance v centre in
    let closer = lt d least in
    nearest_from v (suc i) (cond closer i best) (cond closer d least) centres

unfoldable pub nearest : List Float → List (List Float) → ℕ
unfolding nearest_from
nearest v centres = nearest_from v 0 0 (inf false) centres

-- the ids that go to the centre with a number, in id order
unfoldable pub members : List (List Float) → List (List Float) → ℕ → List ℕ → List ℕ
unfolding nearest keep
members vectors centres j ids = keep (λ id. eqb (nearest (vector_of vectors id) centres) j) ids

-- 'each non-empty cluster's centre becomes its sum .. over its size. Empty ones keep theirs.'
unfoldable pub recentred : ℕ → List (List Float) → List Float → List ℕ → List Float
unfolding mean_of
recentred dimension vectors centre [] = centre
recentred dimension vectors centre (id ∷ ids) = mean_of dimension vectors (id ∷ ids)

-- the centres after a round, from number j on
unfoldable pub recentre_from : ℕ → List (List Float) → List ℕ → List (List Float) → ℕ → List (List Float) → List (List Float)
unfolding recentred members
recentre_from dimension vectors ids centres j [] = []
recentre_from dimension vectors ids centres j (centre ∷ rest) =
    recentred dimension vectors centre (members vectors centres j ids) ∷ recentre_from dimension vectors ids centres (suc j) rest

unfoldable pub recentre : ℕ → List (List Float) → List ℕ → List (List Float) → List (List Float)
unfolding recentre_from
recentre dimension vectors ids centres = recentre_from dimension vectors ids centres 0 centres

-- 'centre i is the vector of id number i times (n / k, rounded down)'
unfoldable pub first_centres : List (List Float) → List ℕ → ℕ → List (List Float)
unfolding count_from
first_centres vectors ids k = map (λ i. vector_of vectors (get_or ids (i * (length ids / k)) 0)) (count_from 0 k)

-- 'For n ids and k = the smaller of B and n'
abbrev pub cluster_count : ℕ → List ℕ → ℕ
cluster_count branching ids = min branching (length ids)

-- 'Three rounds': the clusters are those of the third assignment, which is to the centres of the second round.
unfoldable pub last_centres : ℕ → ℕ → List (List Float) → List ℕ → List (List Float)
unfolding recentre first_centres
last_centres dimension branching vectors ids =
    recentre dimension vectors ids (recentre dimension vectors ids (first_centres vectors ids (cluster_count branching ids)))

unfoldable pub clusters : ℕ → ℕ → List (List Float) → List ℕ → List (List ℕ)
unfolding last_centres members count_from
clusters dimension branching vectors ids =
    map (λ j. members vectors (last_centres dimension branching vectors ids) j ids) (count_from 0 (cluster_count branching ids))
