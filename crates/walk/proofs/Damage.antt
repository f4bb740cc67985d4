-- Damage is one value: an answer that is an error is that one. Assumes nothing.
use Rattle.std.proofs.Common.{◌≡◌, refl}
use Rattle.std.specs.Prelude.{Result, Ok, Err, IsErr}
use Rattle.walk.specs.declared.Damaged.{Damaged}

pub is_damage : {A : Type 0} (r : Result A Damaged) → IsErr r → r ≡ Err (record {})
is_damage (Ok _) h = cc
is_damage (Err _) h = refl
