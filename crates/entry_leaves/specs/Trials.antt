-- The leaves of a small list, by computation.
use Rattle.std.specs.Prelude.{◌≡◌, refl, [], ◌∷◌, get_or}
use Rattle.entry_leaves.specs.Leaves.{marked}

-- rows of 2, 0 and 1 ids, whose order is 1, 2, 0: the vectors 1 and 2 are in row 0, the vector 0 in row 2
leaves : marked (λ k. get_or (1 ∷ 2 ∷ 0 ∷ []) k 0) (λ i. get_or (2 ∷ 0 ∷ 1 ∷ []) i 0) 3 (9 ∷ 9 ∷ 9 ∷ 9 ∷ []) ≡ 2 ∷ 0 ∷ 0 ∷ 9 ∷ []
unfolding marked
leaves = refl
