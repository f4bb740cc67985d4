-- Centres in blocks of sixteen. A block has sixteen floats for each component, one of each of its centres: component i of centre c stands at
-- c / 16 * (dimension * 16) + i * 16 + c % 16. So a centre is a column: every sixteenth float from a place on.
use Rattle.std.specs.Prelude.{ℕ, ◌+◌, ◌*◌, ◌/◌, ◌%◌, List, [], ◌∷◌, ◌++◌, map, get_or, Float}
use Rattle.std.specs.Float.{nan, binary32}
use Rattle.std.specs.Float.Ieee.{add, mul}
use Rattle.lists.specs.Lists.{count_from}
use Rattle.distance.specs.declared.Four.{Four}
use Rattle.centre_blocks.specs.declared.lanes.Sixteen.{Sixteen}

-- every sixteenth float from a place on
unfoldable pub column : ℕ → List Float → ℕ → List Float
unfolding count_from
column dimension blocks at = map (λ i. get_or blocks (at + i * 16) nan) (count_from 0 dimension)

-- where the column of a centre begins
abbrev pub column_at : ℕ → ℕ → ℕ
column_at dimension c = c / 16 * (dimension * 16) + c % 16

-- the first k centres
unfoldable pub centres_in : ℕ → ℕ → List Float → List (List Float)
unfolding column count_from
centres_in dimension k blocks = map (λ c. column dimension blocks (column_at dimension c)) (count_from 0 k)

-- the values of four and of sixteen lanes, in order
abbrev pub four_list : Four → List Float
four_list f = f.a ∷ f.b ∷ f.c ∷ f.d ∷ []

abbrev pub lanes : Sixteen → List Float
lanes s = four_list s.a ++ (four_list s.b ++ (four_list s.c ++ four_list s.d))

-- each sum with the product of x and its own component added
unfoldable pub stepped : List Float → Float → List Float → List Float
unfolding add mul
stepped [] x ys = []
stepped (s ∷ sums) x [] = s ∷ sums
stepped (s ∷ sums) x (y ∷ ys) = add binary32 s (mul binary32 x y) ∷ stepped sums x ys
