-- `cosine_distance_four` meets its contract: each field is 1.0 less its own sum, or what the plain function gives.
use Rattle.distance.proofs.Fours.{equal, distances}
use Rattle.distance.proofs.cosine_distance_four.Goals as goal

pub dot_four-requires : goal.dot_four-requires
dot_four-requires c = equal _ _ _ _ _ c.all_equal.result c.all_equal.ensures c.if-all_equal.true

pub returns-then-all_equal : goal.returns-then-all_equal
returns-then-all_equal c =
    distances _ _ _ _ _ c.dot_four.result c.from_ones.result (equal _ _ _ _ _ c.all_equal.result c.all_equal.ensures c.if-all_equal.true) c.dot_four.ensures c.from_ones.ensures
