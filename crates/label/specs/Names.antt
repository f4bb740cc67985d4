-- 02, K7: names in two parts, as an add brings them. 'In add the lengths list has two bytes a label, first part's then second's; 9 and 20 read the sum, and
-- an odd list is 9.'
use Rattle.std.specs.Prelude.{ℕ, ◌+◌, ◌%◌, Bool, ◌&&◌, List, [], ◌∷◌, ◌++◌, map, length, ◌==◌}
use Rattle.lists.specs.Lists.{total, pieces, joined}
use Rattle.label.specs.Fnv.{fnv}

-- two parts make a name: the first with the second after it; a part left over makes none
unfoldable pub joined_pairs : List (List ℕ) → List (List ℕ)
joined_pairs [] = []
joined_pairs (first ∷ []) = []
joined_pairs (first ∷ second ∷ parts) = (first ++ second) ∷ joined_pairs parts

-- the joined names: the lengths cut the parts from the label bytes, one after the other
unfoldable pub names_of : List ℕ → List ℕ → List (List ℕ)
unfolding pieces joined_pairs
names_of lengths bytes = joined_pairs (pieces lengths bytes)

-- whether the lengths part so many bytes into names; if not, 9
unfoldable pub lengths_fit : List ℕ → ℕ → Bool
unfolding total
lengths_fit lengths bytes = length lengths % 2 == 0 && total lengths == bytes

-- the lengths of names whose second part is empty
unfoldable pub whole_lengths : List ℕ → List ℕ
whole_lengths [] = []
whole_lengths (n ∷ lengths) = n ∷ 0 ∷ whole_lengths lengths

-- each label's hash
unfoldable pub hashes_of_labels : List (List ℕ) → List ℕ
unfolding fnv
hashes_of_labels names = map fnv names

-- ---- label text. 02, K4: 'an entry also has its start, the bytes held before it, and its length'

-- the start of each name: the bytes held before it, the first ones `held`
unfoldable pub starts_from : ℕ → List (List ℕ) → List ℕ
starts_from held [] = []
starts_from held (name ∷ names) = held ∷ starts_from (held + length name) names

-- the length of each
unfoldable pub lengths_of_names : List (List ℕ) → List ℕ
lengths_of_names names = map length names

-- the bytes, name after name
unfoldable pub bytes_of_names : List (List ℕ) → List ℕ
unfolding joined
bytes_of_names names = joined (λ name. name) names

-- lengths and starts by the lengths list alone: two lengths a name, and a name starts where the one before it ends
unfoldable pub summed_pairs : List ℕ → List ℕ
summed_pairs [] = []
summed_pairs (first ∷ []) = []
summed_pairs (first ∷ second ∷ lengths) = (first + second) ∷ summed_pairs lengths

unfoldable pub starts_by_lengths : ℕ → List ℕ → List ℕ
starts_by_lengths held [] = []
starts_by_lengths held (n ∷ lengths) = held ∷ starts_by_lengths (held + n) lengths

-- ---- the other way round: names that are parted somehow, and the lists of an add that brings them

-- a name in two parts
pub record Name : Type 0 where
  pub first : List ℕ
  pub second : List ℕ

abbrev pub joined_name : Name → List ℕ
joined_name name = name.first ++ name.second

-- the lengths list and the label bytes of some names
unfoldable pub part_lengths : List Name → List ℕ
part_lengths [] = []
part_lengths (name ∷ names) = length name.first ∷ length name.second ∷ part_lengths names

unfoldable pub part_bytes : List Name → List ℕ
part_bytes [] = []
part_bytes (name ∷ names) = name.first ++ (name.second ++ part_bytes names)
