-- By cases of the flag.
use Rattle.settings.specs.Limits.{built_allowed}
use Rattle.settings.proofs.limits.built_allowed.Goals as goal

pub returns-then-built : goal.returns-then-built
unfolding built_allowed
returns-then-built c = rw c.if-built.true

pub returns-else-built : goal.returns-else-built
unfolding built_allowed
returns-else-built c = rw c.if-built.false
