-- The code is the definition.
-- Assumes nothing.
use mathlib.Core.Path.{refl}
use Rattle.bloom.specs.Filter.{has_bit}
use Rattle.bloom.proofs.has_bit.Goals as goal

pub returns : goal.returns
unfolding has_bit
returns c = refl
