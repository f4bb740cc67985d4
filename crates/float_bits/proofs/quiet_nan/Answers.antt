-- `quiet_nan` meets its contract: 0.0 / 0.0 computes to the one NaN.
use mathlib.Core.Path.{refl}
use lib.Ieee.{div, of_bits}
use Rattle.float_bits.proofs.quiet_nan.Goals as goal

pub returns : goal.returns
unfolding div of_bits
returns c = refl
