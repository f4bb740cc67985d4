-- The mark of an id is the number of the centre to which it goes.
use Rattle.std.specs.Prelude.{ℕ, cond, List, [], ◌∷◌, map, eqb, Float}
use Rattle.cluster.specs.Clusters.{vector_of, nearest}

-- the marks of ids: to which centre each id goes
unfoldable pub assignment : List (List Float) → List (List Float) → List ℕ → List ℕ
unfolding nearest
assignment vectors centres ids = map (λ id. nearest (vector_of vectors id) centres) ids

-- the ids whose mark is j, in order
unfoldable pub with_mark : ℕ → List ℕ → List ℕ → List ℕ
with_mark j [] ids = []
with_mark j (mark ∷ marks) [] = []
with_mark j (mark ∷ marks) (id ∷ ids) = let rest = with_mark j marks ids in cond (eqb mark j) (id ∷ rest) rest
