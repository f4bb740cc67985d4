-- Small functions on lists that the definitions of several crates are written with.
use Rattle.std.specs.Prelude.{ℕ, zero, suc, ◌+◌, Bool, true, false, ◌&&◌, cond, List, [], ◌∷◌, ◌++◌, take, drop, eqb}

module _ {ℓ} {A : Type ℓ} where
  -- the part of a list that starts at a place and has a number of elements
  abbrev pub part : ℕ → ℕ → List A → List A
  part start count l = take count (drop start l)

  -- the elements that pass a test, in order
  unfoldable pub keep : (A → Bool) → List A → List A
  keep p [] = []
  keep p (x ∷ xs) = let rest = keep p xs in cond (p x) (x ∷ rest) rest

  -- the lists that a function gives for the elements, joined
  unfoldable pub joined : {B : Type ℓ} → (B → List A) → List B → List A
  joined f [] = []
  joined f (x ∷ xs) = f x ++ joined f xs

  -- the pieces that lengths cut from a list, one after the other
  unfoldable pub pieces : List ℕ → List A → List (List A)
  pieces [] l = []
  pieces (n ∷ lengths) l = take n l ∷ pieces lengths (drop n l)

-- the sum of a list
unfoldable pub total : List ℕ → ℕ
total [] = 0
total (x ∷ xs) = x + total xs

-- count numbers from a first one on
unfoldable pub count_from : ℕ → ℕ → List ℕ
count_from i zero = []
count_from i (suc n) = i ∷ count_from (suc i) n

-- whether a number is in a list
unfoldable pub is_in : ℕ → List ℕ → Bool
is_in x [] = false
is_in x (y ∷ ys) = let later = is_in x ys in cond (eqb x y) true later

-- whether two lists are the same, element by element, and equally long
unfoldable pub same_list : List ℕ → List ℕ → Bool
same_list [] [] = true
same_list [] (y ∷ ys) = false
same_list (x ∷ xs) [] = false
same_list (x ∷ xs) (y ∷ ys) = eqb x y && same_list xs ys
