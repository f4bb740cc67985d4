-- The product is the step's.
use Rattle.label.specs.Fnv.{fnv_step}
use Rattle.label.proofs.hash_byte.Goals as goal

pub returns : goal.returns
unfolding fnv_step
returns c = c.times_prime.ensures
