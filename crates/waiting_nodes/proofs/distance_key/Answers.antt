-- `distance_key` meets its contract. Assumes nothing.
use Rattle.total_order.specs.TotalOrder.{key_of}
use mathlib.Core.Path.{ap, ◌∙◌}
use Rattle.waiting_nodes.proofs.distance_key.Goals as goal

pub returns : goal.returns
returns c = c.key.ensures ∙ ap key_of c.distance_at.ensures
