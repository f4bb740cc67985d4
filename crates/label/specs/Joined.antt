-- 02, K7: 'Hashing a joined name equals hashing its first part and carrying on through the second, and either part may be empty.'
use Rattle.std.specs.Prelude.{◌≡◌, ℕ, List, [], ◌++◌, refl}
use Rattle.label.specs.Fnv.{fnv_from}
use Rattle.label.specs.FnvLaws.{fnv_from-append}

-- for any start
pub record CarriesOn (start : ℕ) (first second : List ℕ) : Type 0 where
  pub joined : fnv_from start (first ++ second) ≡ fnv_from (fnv_from start first) second
  pub first_empty : fnv_from (fnv_from start []) second ≡ fnv_from start second
  pub second_empty : fnv_from (fnv_from start first) [] ≡ fnv_from start first

pub carries_on : (start : ℕ) (first second : List ℕ) → CarriesOn start first second
unfolding fnv_from
carries_on start first second = record { joined = fnv_from-append start first second; first_empty = refl; second_empty = refl }
