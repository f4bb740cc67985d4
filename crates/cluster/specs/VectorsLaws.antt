-- Laws of `vectorsIn` and `vectorsFrom`: the vectors that a float list holds, one after the other.
use Rattle.std.specs.Prelude.{ℕ, suc, ◌+◌, ◌*◌, ◌≤◌, ◌<◌, ◌≡◌, ◌⊎◌, true, false, List, [], ltb, length, set, take, drop, Float}
use Rattle.std.proofs.Common.{sym, ap, ◌∙◌, inl, inr, suc-mul, zero-add, mul-le-mul_right, arith, ltb-true, ltb-false, length-set, length-drop, ext_get_or, get_or-set_same, get_or-set_other, drop-drop}
use Rattle.std.proofs.lemmas.List.{length-map}
use Rattle.std.proofs.lemmas.List.Edits.{sets}
use Rattle.lists.specs.Maps.{get_d_map}
use Rattle.lists.specs.Lists.{part, count_from}
use Rattle.lists.specs.Parts.{part-part, part-sets-same, part-sets-before, part-sets-after, drop-sets-add}
use Rattle.lists.specs.Frame.{AlikeBut}
use Rattle.lists.specs.Counting.{length-count_from, get_d_count_from}
use Rattle.lists.specs.Tests.{which}
use Rattle.store.specs.Store.{vector_at}
use Rattle.cluster.specs.Clusters.{vector_of}
use Rattle.cluster.specs.Vectors.{vectors_in, vectors_from}

-- a vector ends before a later one begins
pub row-end : (d i j : ℕ) → i < j → i * d + d ≤ j * d
row-end d i j h = let e = suc-mul i d in let k : suc i * d ≤ j * d = mul-le-mul_right d h in omega arith

-- a vector ends before the place behind all vectors
pub vector-before : (d n at i : ℕ) → n * d ≤ at → i < n → i * d + d ≤ at
vector-before d n at i h g = let e = row-end d i n g in omega arith

pub length-vectors_in : (d n : ℕ) (floats : List Float) → length (vectors_in d n floats) ≡ n
unfolding vectors_in
length-vectors_in d n floats = length-map (count_from 0 n) (λ i. vector_at d floats i) ∙ length-count_from 0 n

pub vector_of-vectors_in : (d n : ℕ) (floats : List Float) (i : ℕ) → i < n → vector_of (vectors_in d n floats) i ≡ vector_at d floats i
unfolding vectors_in
vector_of-vectors_in d n floats i h =
    get_d_map (λ i. vector_at d floats i) (count_from 0 n) i 0 [] (rw length-count_from h)
    ∙ ap (λ (k : ℕ). vector_at d floats k) (get_d_count_from 0 n i 0 h ∙ zero-add i)

-- lists of vectors are equal by their vectors
vectors_in_ext : (d n : ℕ) (a : List Float) (l : List (List Float)) → length l ≡ n → ((i : ℕ) → i < n → vector_at d a i ≡ vector_of l i)
    → vectors_in d n a ≡ l
vectors_in_ext d n a l e h =
    ext_get_or [] (vectors_in d n a) l (length-vectors_in d n a ∙ sym e)
    (λ i b. let k : i < n = rw length-vectors_in at b in vector_of-vectors_in d n a i k ∙ h i k)

-- the first n vectors are in the first n * d floats
pub vectors_in-take : (d n c : ℕ) (floats : List Float) → n * d ≤ c → vectors_in d n (take c floats) ≡ vectors_in d n floats
vectors_in-take d n c floats h =
    vectors_in_ext d n (take c floats) (vectors_in d n floats) (length-vectors_in d n floats)
    (λ i k. let e = row-end d i n k in
    part-part 0 c (i * d) d floats (omega arith)
    ∙ ap (λ (s : ℕ). part s d floats) (zero-add (i * d))
    ∙ sym (vector_of-vectors_in d n floats i k))

pub vectors_in-front : (d n c : ℕ) (a b : List Float) → n * d ≤ c → take c a ≡ take c b → vectors_in d n a ≡ vectors_in d n b
vectors_in-front d n c a b h e =
    sym (vectors_in-take d n c a h) ∙ ap (λ (l : List Float). vectors_in d n l) e ∙ vectors_in-take d n c b h

-- one vector is written
vector-written : (d n : ℕ) (floats : List Float) (j : ℕ) (v : List Float) → length v ≡ d → n * d ≤ length floats → j < n → (i : ℕ) → i < n
    → vector_at d (sets floats (j * d) v) i ≡ vector_of (set (vectors_in d n floats) j v) i
vector-written d n floats j v e f h i k = pick (which (ltb i j)) (which (ltb j i))
  where
    other : (i ≡ j → ⊥) → vector_at d floats i ≡ vector_of (set (vectors_in d n floats) j v) i
    other differ =
        sym (get_or-set_other (vectors_in d n floats) j i v [] differ ∙ vector_of-vectors_in d n floats i k)

    same : (j ≡ i) → vector_at d (sets floats (j * d) v) i ≡ vector_of (set (vectors_in d n floats) j v) i
    same q =
        let w = row-end d j n h in
        let g : j < length (vectors_in d n floats) = rw length-vectors_in h in
        let u : j * d + length v ≤ length floats = omega arith in
        rw (← q)
        (ap (λ (s : ℕ). part (j * d) s (sets floats (j * d) v)) (sym e)
        ∙ part-sets-same floats (j * d) v u
        ∙ sym (get_or-set_same (vectors_in d n floats) j v [] g))

    pick : (ltb i j ≡ true) ⊎ (ltb i j ≡ false) → (ltb j i ≡ true) ⊎ (ltb j i ≡ false) → vector_at d (sets floats (j * d) v) i ≡ vector_of (set (vectors_in d n floats) j v) i
    pick (inl a) b =
        let p = row-end d i j (ltb-true i j a) in
        part-sets-before (i * d) d floats (j * d) v p ∙ other (λ q. omega (arith, ltb-true i j a))
    pick (inr a) (inl b) =
        let p = row-end d j i (ltb-true j i b) in
        part-sets-after (i * d) d floats (j * d) v (omega arith) ∙ other (λ q. omega (arith, ltb-true j i b))
    pick (inr a) (inr b) = same (omega (arith, ltb-false i j a, ltb-false j i b))

pub vectors_in_write : (d n : ℕ) (floats : List Float) (j : ℕ) (v : List Float) → length v ≡ d → n * d ≤ length floats → j < n
    → vectors_in d n (sets floats (j * d) v) ≡ set (vectors_in d n floats) j v
vectors_in_write d n floats j v e f h =
    vectors_in_ext d n (sets floats (j * d) v) (set (vectors_in d n floats) j v)
    (length-set (vectors_in d n floats) j v ∙ length-vectors_in d n floats)
    (vector-written d n floats j v e f h)

pub vectors_from_write : (d n start : ℕ) (floats : List Float) (j : ℕ) (v : List Float) → length v ≡ d → start + n * d ≤ length floats → j < n
    → vectors_from d n start (sets floats (start + j * d) v) ≡ set (vectors_from d n start floats) j v
vectors_from_write d n start floats j v e f h =
    ap (λ (l : List Float). vectors_in d n l) (drop-sets-add start floats (j * d) v)
    ∙ vectors_in_write d n (drop start floats) j v e (rw length-drop (omega arith)) h

-- a vector that is read where it stands
pub vector_of-vectors_from : (d n start : ℕ) (floats : List Float) (i : ℕ) → i < n → vector_of (vectors_from d n start floats) i ≡ part (start + i * d) d floats
vector_of-vectors_from d n start floats i h =
    vector_of-vectors_in d n (drop start floats) i h ∙ ap (λ (l : List Float). take d l) (drop-drop (i * d) start floats)

-- vectors before the part
pub alike-vectors : (d n s c : ℕ) (l m : List Float) → AlikeBut s c l m → n * d ≤ s → vectors_in d n m ≡ vectors_in d n l
alike-vectors d n s c l m p h = vectors_in-front d n s m l h p.front
