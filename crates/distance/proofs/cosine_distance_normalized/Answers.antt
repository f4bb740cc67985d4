-- `cosine_distance_normalized` meets its contract: `distance` by cases of whether the lengths are equal.
use mathlib.Core.Path.{sym, ◌∙◌}
use lib.Ieee.{of_bits}
use Rattle.distance.specs.DistanceLaws.{distance-alike, distance-apart}
use Rattle.distance.proofs.cosine_distance_normalized.Goals as goal

pub returns-then-a-b : goal.returns-then-a-b
unfolding of_bits
returns-then-a-b c = sym (distance-apart _ _ c.if-a-b.true)

pub returns : goal.returns
returns c = c.from_one.ensures ∙ rw c.dot.ensures (sym (distance-alike _ _ c.if-a-b.false))
