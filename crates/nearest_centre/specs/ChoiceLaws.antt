-- The choice of the nearest centre, centre by centre: what is to be chosen stays the same as centres are compared.
use Rattle.std.specs.Prelude.{ℕ, suc, ◌+◌, ◌≤◌, ◌<◌, ◌≡◌, cond, List, [], ◌∷◌, length, drop, Float}
use Rattle.std.proofs.Common.{sym, ap, ◌∙◌, add-one, drop_of_length-le, drop-cons}
use Rattle.std.specs.Float.Ieee.{lt}
use Rattle.distance.specs.Distance.{distance}
use Rattle.cluster.specs.Clusters.{vector_of, nearest_from}

pub nearest_from-cons : (v : List Float) (i best : ℕ) (least : Float) (centre : List Float) (centres : List (List Float)) (d : Float) (b : ℕ) (l : Float)
    → d ≡ distance v centre → b ≡ cond (lt d least) i best → l ≡ cond (lt d least) d least
    → nearest_from v i best least (centre ∷ centres) ≡ nearest_from v (suc i) b l centres
unfolding nearest_from
nearest_from-cons v i best least centre centres d b l e p q = rw (p, q, e)

-- one centre
pub nearest_from_turn : (v : List Float) (centres : List (List Float)) (i best : ℕ) (least d : Float) (b : ℕ) (l : Float) → i < length centres
    → d ≡ distance v (vector_of centres i) → b ≡ cond (lt d least) i best → l ≡ cond (lt d least) d least
    → nearest_from v i best least (drop i centres) ≡ nearest_from v (i + 1) b l (drop (i + 1) centres)
nearest_from_turn v centres i best least d b l h e p q =
    ap (λ (cs : List (List Float)). nearest_from v i best least cs) (drop-cons centres i [] h)
    ∙ nearest_from-cons v i best least (vector_of centres i) (drop (suc i) centres) d b l e p q
    ∙ ap (λ (j : ℕ). nearest_from v j b l (drop j centres)) (sym (add-one i))

-- no centre is left
pub nearest_from-end : (v : List Float) (centres : List (List Float)) (i best : ℕ) (least : Float) → length centres ≤ i
    → nearest_from v i best least (drop i centres) ≡ best
unfolding nearest_from
nearest_from-end v centres i best least h = rw (drop_of_length-le centres h)
