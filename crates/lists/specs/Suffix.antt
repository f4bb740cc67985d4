-- How many elements at the end of a list are one number, and laws of it.
use Rattle.std.specs.Prelude.{ℕ, suc, ◌-◌, Bool, cond, eqb, length}
use mathlib.Core.List.{List, [], ◌∷◌}
use Rattle.lists.specs.Tests.{all_pass, which}

-- the longest suffix of which every element is the number
unfoldable pub count_at_end : ℕ → List ℕ → ℕ
unfolding all_pass
count_at_end x [] = 0
count_at_end x (y ∷ l) = cond (all_pass (λ z. eqb z x) (y ∷ l)) (suc (length l)) (count_at_end x l)

abbrev pub all_are : ℕ → List ℕ → Bool
all_are x l = all_pass (λ z. eqb z x) l
