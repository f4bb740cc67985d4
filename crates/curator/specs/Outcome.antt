-- The number and values of every case of every answer: 0 where the call is answered, otherwise the refusal's.
use Rattle.std.specs.Prelude.{ℕ, Bool, cond, List, [], ◌∷◌, ◌≡◌}
use Rattle.curator.specs.declared.CuratorIndex.{CuratorIndex}
use Rattle.std.specs.Prelude.{Result, Ok, Err}
use Rattle.walk.specs.declared.Searched.{Searched}
use Rattle.settings.specs.declared.refusal.Refusal.{Refusal}
use Rattle.settings.specs.Refusals.{number}

abbrev pub changed_number : Result CuratorIndex Refusal → ℕ
changed_number (Ok index) = 0
changed_number (Err r) = number r

-- the state from now on, where a call is carried out
abbrev pub changed_values : Result CuratorIndex Refusal → List CuratorIndex
changed_values (Ok index) = index ∷ []
changed_values (Err r) = []

abbrev pub found_number : Result Searched Refusal → ℕ
found_number (Ok s) = 0
found_number (Err r) = number r

-- 'The answer carries the hit count, the nodes opened, and whole or cut', whole as 1
abbrev pub found_values : Result Searched Refusal → List ℕ
found_values (Ok s) = s.hits ∷ s.opened ∷ cond s.whole 1 0 ∷ []
found_values (Err r) = []

-- ---- answers by number and values: the promises say answers in these words

-- carried out: 0, and the state from now on
pub record Succeeded (index : CuratorIndex) (answer : Result CuratorIndex Refusal) : Type 0 where
  pub number_is : changed_number answer ≡ 0
  pub values_are : changed_values answer ≡ index ∷ []

-- refused: the refusal's number, and no state
pub record ChangeRefused (r : Refusal) (answer : Result CuratorIndex Refusal) : Type 0 where
  pub number_is : changed_number answer ≡ number r
  pub values_are : changed_values answer ≡ []

-- a search answered: 0, with hit count, opened, and whole or cut
pub record SearchFound (hits opened : ℕ) (whole : Bool) (answer : Result Searched Refusal) : Type 0 where
  pub number_is : found_number answer ≡ 0
  pub values_are : found_values answer ≡ hits ∷ opened ∷ cond whole 1 0 ∷ []

-- a search refused
pub record SearchRefused (r : Refusal) (answer : Result Searched Refusal) : Type 0 where
  pub number_is : found_number answer ≡ number r
  pub values_are : found_values answer ≡ []
