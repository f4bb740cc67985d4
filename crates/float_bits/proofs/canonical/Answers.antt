-- `canonical` meets its contract: only the NaN is one.
use mathlib.Core.Path.{sym, ◌∙◌}
use Rattle.float_bits.specs.NanLaws.{nan_of_is_nan}
use Rattle.float_bits.proofs.canonical.Goals as goal

pub returns-then-is_nan : goal.returns-then-is_nan
returns-then-is_nan c = c.quiet_nan.ensures ∙ sym (nan_of_is_nan c.args.x (sym c.is_nan.ensures.value ∙ c.if-is_nan.true))
