-- `from_one` meets its contract: `canonical` gives its argument.
use Rattle.distance.specs.Distance.{one32}
use Rattle.distance.proofs.from_one.Goals as goal

pub returns : goal.returns
unfolding one32
returns c = c.canonical.ensures
