-- Laws of marks: with the marks by centres, the ids of a mark are the members of a cluster.
use Rattle.std.specs.Prelude.{ℕ, zero, suc, ◌≤◌, ◌<◌, ◌≡◌, refl, Bool, true, false, cond, List, [], ◌∷◌, map, eqb, length, get_or, Float}
use Rattle.std.proofs.Common.{suc-le-suc, ap, not-suc-le-zero, le_of_suc-le-suc, arith}
use Rattle.std.proofs.lemmas.List.{length-map}
use Rattle.lists.specs.Maps.{get_d_map}
use Rattle.lists.specs.Lists.{keep}
use Rattle.cluster.specs.Clusters.{vector_of, nearest, members}
use Rattle.kmeans.specs.Marks.{assignment, with_mark}

pub length-assignment : (vectors centres : List (List Float)) (ids : List ℕ) → length (assignment vectors centres ids) ≡ length ids
unfolding assignment
length-assignment vectors centres ids = length-map ids (λ id. nearest (vector_of vectors id) centres)

pub get_d_assignment : (vectors centres : List (List Float)) (ids : List ℕ) (i d : ℕ) → i < length ids
    → get_or (assignment vectors centres ids) i d ≡ nearest (vector_of vectors (get_or ids i 0)) centres
unfolding assignment
get_d_assignment vectors centres ids i d h = get_d_map (λ id. nearest (vector_of vectors id) centres) ids i 0 d h

cond_le : (b : Bool) (x : ℕ) (xs : List ℕ) (n : ℕ) → length xs ≤ n → length (cond b (x ∷ xs) xs) ≤ suc n
cond_le true x xs n h = omega arith
cond_le false x xs n h = omega arith

pub length-with_mark : (j : ℕ) (marks ids : List ℕ) → length (with_mark j marks ids) ≤ length ids
unfolding with_mark
length-with_mark j [] ids = omega arith
length-with_mark j (m ∷ marks) [] = omega arith
length-with_mark j (m ∷ marks) (id ∷ ids) = cond_le (eqb m j) id (with_mark j marks ids) (length ids) (length-with_mark j marks ids)

-- the ids with a mark are among the ids
cond_below : (n : ℕ) (b : Bool) (x : ℕ) (xs : List ℕ) → x < n → ((i : ℕ) → i < length xs → get_or xs i 0 < n)
    → (i : ℕ) → i < length (cond b (x ∷ xs) xs) → get_or (cond b (x ∷ xs) xs) i 0 < n
cond_below n true x xs h rest zero g = h
cond_below n true x xs h rest (suc i) g = rest i (le_of_suc-le-suc g)
cond_below n false x xs h rest i g = rest i g

pub with_mark-below : (n j : ℕ) (marks ids : List ℕ) → ((i : ℕ) → i < length ids → get_or ids i 0 < n)
    → (i : ℕ) → i < length (with_mark j marks ids) → get_or (with_mark j marks ids) i 0 < n
unfolding with_mark
with_mark-below n j [] ids h i g = absurd (not-suc-le-zero g)
with_mark-below n j (m ∷ marks) [] h i g = absurd (not-suc-le-zero g)
with_mark-below n j (m ∷ marks) (id ∷ ids) h i g =
    cond_below n (eqb m j) id (with_mark j marks ids) (h zero (omega arith)) (with_mark-below n j marks ids (λ k b. h (suc k) (suc-le-suc b))) i g

-- with the marks by centres they are the members of a cluster
pub with_mark-map : (f : ℕ → ℕ) (j : ℕ) (ids : List ℕ) → with_mark j (map f ids) ids ≡ keep (λ id. eqb (f id) j) ids
unfolding with_mark keep
with_mark-map f j [] = refl
with_mark-map f j (id ∷ ids) = ap (λ (rest : List ℕ). cond (eqb (f id) j) (id ∷ rest) rest) (with_mark-map f j ids)

pub with_mark-assignment : (vectors centres : List (List Float)) (j : ℕ) (ids : List ℕ)
    → with_mark j (assignment vectors centres ids) ids ≡ members vectors centres j ids
unfolding assignment members
with_mark-assignment vectors centres j ids = with_mark-map (λ id. nearest (vector_of vectors id) centres) j ids
