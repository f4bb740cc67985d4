-- `mean_into` meets its contract: the sum begins at +0.0, and at most 2 ^ 24 ids have a number that an f32 holds.
use Rattle.mean.proofs.Sums.{mean_end, number_in_float}
use Rattle.mean.proofs.mean_into.Goals as goal

pub int_to_float-ids : goal.int_to_float-ids
int_to_float-ids c = number_in_float _ c.requires.few

pub returns : goal.returns
returns c =
    mean_end _ _ _ _ _ c.requires _ _ _ c.zero.ensures c.sum_into.ensures c.divide.ensures
