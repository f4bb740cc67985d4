-- The tests of the definition, in its order; it ends the list with `true`.
use mathlib.Core.Bool.{and-true}
use Rattle.settings.specs.Limits.{counts_allowed}
use Rattle.settings.proofs.limits.counts_allowed.Goals as goal

pub returns : goal.returns
unfolding counts_allowed
returns c = simp and-true
