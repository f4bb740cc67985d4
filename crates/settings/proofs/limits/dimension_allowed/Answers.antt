-- The two tests of the definition.
use mathlib.Core.Path.{refl}
use Rattle.settings.specs.Limits.{dimension_allowed}
use Rattle.settings.proofs.limits.dimension_allowed.Goals as goal

pub returns : goal.returns
unfolding dimension_allowed
returns c = refl
