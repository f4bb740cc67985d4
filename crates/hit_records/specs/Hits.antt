-- Hit records (document 01: "a slice of structs of id and distance is filled"): what a call answers and leaves.
use Rattle.std.specs.Prelude.{◌≡◌, Bool, cond, ◌||◌, List, [], ◌∷◌, ◌++◌, ℕ, ltb, Float, length, get_or, take, drop}
use Rattle.std.specs.Float.{nan}
use Rattle.hit_records.specs.declared.Hit.{Hit}

-- the records of two lists: record i is the pair of place i
unfoldable pub pairs : List ℕ → List Float → List Hit
pairs [] ds = []
pairs (i ∷ is) [] = []
pairs (i ∷ is) (d ∷ ds) = record { id = i; distance = d } ∷ pairs is ds

-- those of the first `count` hits
abbrev pub hit_records : List ℕ → List Float → ℕ → List Hit
hit_records ids distances count = take count (pairs ids distances)

-- one of them, for the function that makes it
abbrev pub hit_record_at : List ℕ → List Float → ℕ → Hit
hit_record_at ids distances i = record { id = get_or ids i 0; distance = get_or distances i nan }

-- "Answer places from the hit count on keep what they held"
abbrev pub filled_with : List Hit → List Hit → List Hit
filled_with hits front = front ++ drop (length front) hits

-- row 14, "an answer list shorter": the lengths of the three lists, and the hit count
abbrev pub list_short : ℕ → ℕ → ℕ → ℕ → Bool
list_short hits ids distances count = ltb hits count || (ltb ids count || ltb distances count)

-- the number that is returned, and what the list of records is left as
abbrev pub hits_number : Bool → ℕ
hits_number short = cond short 14 0

abbrev pub hits_left : Bool → List Hit → List Hit → List Hit
hits_left short hits front = cond short hits (filled_with hits front)

-- the result in full; "any refusal leaves .. answer lists unchanged"
pub record Fills (hits : List Hit) (ids : List ℕ) (distances : List Float) (count number : ℕ) (hits' : List Hit) : Type 0 where
  pub number_is : number ≡ hits_number (list_short (length hits) (length ids) (length distances) count)
  pub hits_are : hits' ≡ hits_left (list_short (length hits) (length ids) (length distances) count) hits (hit_records ids distances count)
