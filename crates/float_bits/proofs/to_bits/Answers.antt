-- The NaN's pattern is that of `to_bits`.
use mathlib.Core.Path.{sym, ◌∙◌}
use lib.Ieee.{to_bits}
use Rattle.float_bits.specs.NanLaws.{nan_of_is_nan}
use Rattle.float_bits.proofs.to_bits.Goals as goal

pub returns-then-is_nan : goal.returns-then-is_nan
unfolding to_bits
returns-then-is_nan c = rw (nan_of_is_nan c.args.x (sym c.is_nan.ensures.value ∙ c.if-is_nan.true))
