-- The tests of the definition, in its order; it ends the list with `true`.
use mathlib.Core.Bool.{and-true}
use Rattle.settings.specs.Limits.{capacities_allowed}
use Rattle.settings.proofs.limits.capacities_allowed.Goals as goal

pub returns : goal.returns
unfolding capacities_allowed
returns c = simp and-true
