-- Laws of the definitions of 'Clusters': lengths, and that every id is in one cluster.
use Rattle.std.specs.Prelude.{ℕ, zero, suc, ◌+◌, ◌*◌, ◌/◌, ◌≤◌, ◌<◌, min, ◌≡◌, refl, Bool, true, false, cond, pos, length, get_or, replicate, Float}
use Rattle.std.proofs.Common.{sym, ap, ◌∙◌, subst, not-suc-le-zero, le_of_suc-le-suc, add-zero, zero-add, arith}
use mathlib.Core.List.{List, [], ◌∷◌, ◌++◌, Memᴰ}
use Rattle.std.proofs.lemmas.List.{length-map, length-replicate}
use Rattle.std.specs.Float.{nan, inf, binary32}
use Rattle.std.specs.Float.Ieee.{add, div, lt, of_int}
use Rattle.lists.specs.Maps.{get_d_map}
use Rattle.lists.specs.Lists.{joined, count_from}
use Rattle.lists.specs.Counting.{joined-map, length-count_from, get_d_count_from}
use Rattle.lists.specs.Partition.{List-as-Permᴰ, perm_classes}
use Rattle.vector.specs.Vector.{zero32}
use Rattle.distance.specs.Distance.{distance}
use Rattle.cluster.specs.Clusters.{vector_of, add_vectors, sum_from, mean_of, nearest_from, nearest, members, recentred, recentre_from, recentre, first_centres, cluster_count, last_centres, clusters}

-- ---- sums and means

pub length-add_vectors : (xs ys : List Float) → length (add_vectors xs ys) ≡ length xs
unfolding add_vectors
length-add_vectors [] ys = refl
length-add_vectors (x ∷ xs) [] = refl
length-add_vectors (x ∷ xs) (y ∷ ys) = ap suc (length-add_vectors xs ys)

pub get_d_add_vectors : (xs ys : List Float) (i : ℕ) → i < length xs → i < length ys
    → get_or (add_vectors xs ys) i nan ≡ add binary32 (get_or xs i nan) (get_or ys i nan)
unfolding add_vectors
get_d_add_vectors [] ys i h g = absurd (not-suc-le-zero h)
get_d_add_vectors (x ∷ xs) [] i h g = absurd (not-suc-le-zero g)
get_d_add_vectors (x ∷ xs) (y ∷ ys) zero h g = refl
get_d_add_vectors (x ∷ xs) (y ∷ ys) (suc i) h g = get_d_add_vectors xs ys i (le_of_suc-le-suc h) (le_of_suc-le-suc g)

pub sum_from-nil : (vectors : List (List Float)) (sum : List Float) → sum_from vectors sum [] ≡ sum
unfolding sum_from
sum_from-nil vectors sum = refl

-- one more id at the end
pub sum_from_snoc : (vectors : List (List Float)) (sum : List Float) (ids : List ℕ) (id : ℕ)
    → sum_from vectors sum (ids ++ (id ∷ [])) ≡ add_vectors (sum_from vectors sum ids) (vector_of vectors id)
unfolding sum_from
sum_from_snoc vectors sum [] id = refl
sum_from_snoc vectors sum (x ∷ ids) id = sum_from_snoc vectors (add_vectors sum (vector_of vectors x)) ids id

pub length-sum_from : (vectors : List (List Float)) (sum : List Float) (ids : List ℕ) → length (sum_from vectors sum ids) ≡ length sum
unfolding sum_from
length-sum_from vectors sum [] = refl
length-sum_from vectors sum (id ∷ ids) =
    length-sum_from vectors (add_vectors sum (vector_of vectors id)) ids ∙ length-add_vectors sum (vector_of vectors id)

pub length-mean_of : (dimension : ℕ) (vectors : List (List Float)) (ids : List ℕ) → length (mean_of dimension vectors ids) ≡ dimension
unfolding mean_of
length-mean_of dimension vectors ids =
    length-map (sum_from vectors (replicate dimension zero32) ids) (λ x. div binary32 x (of_int binary32 (pos (length ids))))
    ∙ length-sum_from vectors (replicate dimension zero32) ids
    ∙ length-replicate dimension zero32

-- ---- the nearest centre

-- the choice so far and the number of each later centre are all that can be chosen
nearest_from-below : (v : List Float) (i best : ℕ) (least : Float) (centres : List (List Float)) (k : ℕ) → best < k → i + length centres ≤ k
    → nearest_from v i best least centres < k
unfolding nearest_from
nearest_from-below v i best least [] k h g = h
nearest_from-below v i best least (centre ∷ centres) k h g =
    let d = distance v centre in
    nearest_from-below v (suc i) (cond (lt d least) i best) (cond (lt d least) d least) centres k (chosen (lt d least)) (omega arith)
  where
    chosen : (b : Bool) → cond b i best < k
    chosen true = omega arith
    chosen false = h

pub nearest-below : (v : List Float) (centres : List (List Float)) (k : ℕ) → length centres ≤ k → 1 ≤ k → nearest v centres < k
unfolding nearest
nearest-below v centres k h g = nearest_from-below v 0 0 (inf false) centres k g (omega arith)

-- ---- centres

length-recentre_from : (dimension : ℕ) (vectors : List (List Float)) (ids : List ℕ) (centres : List (List Float)) (j : ℕ) (rest : List (List Float))
    → length (recentre_from dimension vectors ids centres j rest) ≡ length rest
unfolding recentre_from
length-recentre_from dimension vectors ids centres j [] = refl
length-recentre_from dimension vectors ids centres j (centre ∷ rest) = ap suc (length-recentre_from dimension vectors ids centres (suc j) rest)

pub length-recentre : (dimension : ℕ) (vectors : List (List Float)) (ids : List ℕ) (centres : List (List Float))
    → length (recentre dimension vectors ids centres) ≡ length centres
unfolding recentre
length-recentre dimension vectors ids centres = length-recentre_from dimension vectors ids centres 0 centres

get_d_recentre_from : (dimension : ℕ) (vectors : List (List Float)) (ids : List ℕ) (centres : List (List Float)) (j : ℕ) (rest : List (List Float)) (i : ℕ)
    → i < length rest
    → vector_of (recentre_from dimension vectors ids centres j rest) i ≡ recentred dimension vectors (vector_of rest i) (members vectors centres (j + i) ids)
unfolding recentre_from
get_d_recentre_from dimension vectors ids centres j [] i h = absurd (not-suc-le-zero h)
get_d_recentre_from dimension vectors ids centres j (centre ∷ rest) zero h = rw add-zero
get_d_recentre_from dimension vectors ids centres j (centre ∷ rest) (suc i) h =
    let e : suc j + i ≡ j + suc i = omega arith in
    get_d_recentre_from dimension vectors ids centres (suc j) rest i (le_of_suc-le-suc h)
    ∙ ap (λ (k : ℕ). recentred dimension vectors (vector_of rest i) (members vectors centres k ids)) e

pub vector_of-recentre : (dimension : ℕ) (vectors : List (List Float)) (ids : List ℕ) (centres : List (List Float)) (j : ℕ) → j < length centres
    → vector_of (recentre dimension vectors ids centres) j ≡ recentred dimension vectors (vector_of centres j) (members vectors centres j ids)
unfolding recentre
vector_of-recentre dimension vectors ids centres j h =
    get_d_recentre_from dimension vectors ids centres 0 centres j h
    ∙ ap (λ (k : ℕ). recentred dimension vectors (vector_of centres j) (members vectors centres k ids)) (zero-add j)

pub length-first_centres : (vectors : List (List Float)) (ids : List ℕ) (k : ℕ) → length (first_centres vectors ids k) ≡ k
unfolding first_centres
length-first_centres vectors ids k =
    length-map (count_from 0 k) (λ i. vector_of vectors (get_or ids (i * (length ids / k)) 0)) ∙ length-count_from 0 k

pub vector_of-first_centres : (vectors : List (List Float)) (ids : List ℕ) (k i : ℕ) → i < k
    → vector_of (first_centres vectors ids k) i ≡ vector_of vectors (get_or ids (i * (length ids / k)) 0)
unfolding first_centres
vector_of-first_centres vectors ids k i h =
    get_d_map (λ i. vector_of vectors (get_or ids (i * (length ids / k)) 0)) (count_from 0 k) i 0 [] (rw length-count_from h)
    ∙ ap (λ (n : ℕ). vector_of vectors (get_or ids (n * (length ids / k)) 0)) (get_d_count_from 0 k i 0 h ∙ zero-add i)

pub length-last_centres : (dimension branching : ℕ) (vectors : List (List Float)) (ids : List ℕ)
    → length (last_centres dimension branching vectors ids) ≡ cluster_count branching ids
unfolding last_centres
length-last_centres dimension branching vectors ids =
    let k : ℕ = cluster_count branching ids in
    let first : List (List Float) = first_centres vectors ids k in
    length-recentre dimension vectors ids (recentre dimension vectors ids first)
    ∙ length-recentre dimension vectors ids first
    ∙ length-first_centres vectors ids k

-- the smaller of B and n does as B
pub last_centres-count : (dimension branching : ℕ) (vectors : List (List Float)) (ids : List ℕ)
    → last_centres dimension (cluster_count branching ids) vectors ids ≡ last_centres dimension branching vectors ids
unfolding last_centres
last_centres-count dimension branching vectors ids =
    let e : min (min branching (length ids)) (length ids) ≡ min branching (length ids) = omega arith in
    ap (λ (k : ℕ). recentre dimension vectors ids (recentre dimension vectors ids (first_centres vectors ids k))) e

-- ---- clusters

Memᴰ-some : {x : ℕ} {l : List ℕ} → Memᴰ x l → 0 < length l
Memᴰ-some (Memᴰ.head {xs = xs} e) = omega arith
Memᴰ-some (Memᴰ.tail {xs = xs} m) = omega arith

pub length-clusters : (dimension branching : ℕ) (vectors : List (List Float)) (ids : List ℕ)
    → length (clusters dimension branching vectors ids) ≡ cluster_count branching ids
unfolding clusters
length-clusters dimension branching vectors ids =
    length-map (count_from 0 (cluster_count branching ids)) (λ j. members vectors (last_centres dimension branching vectors ids) j ids)
    ∙ length-count_from 0 (cluster_count branching ids)

-- all clusters together are the ids in another order
pub perm_clusters : (dimension branching : ℕ) (vectors : List (List Float)) (ids : List ℕ) → 1 ≤ branching
    → List-as-Permᴰ (joined (λ l. l) (clusters dimension branching vectors ids)) ids
unfolding clusters members
perm_clusters dimension branching vectors ids h =
    let centres : List (List Float) = last_centres dimension branching vectors ids in
    subst (λ (l : List ℕ). List-as-Permᴰ l ids)
    (sym (joined-map (λ l. l) (λ j. members vectors centres j ids) (count_from 0 (cluster_count branching ids))))
    (perm_classes (λ id. nearest (vector_of vectors id) centres) (cluster_count branching ids) ids
    (λ id m. let some = Memᴰ-some m in
    nearest-below (vector_of vectors id) centres (cluster_count branching ids) (let e = length-last_centres dimension branching vectors ids in omega arith)
    (omega arith)))
