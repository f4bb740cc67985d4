-- Both tests are asked.
use Rattle.std.proofs.Common.{◌%◌, Bool, ◌&&◌, eqb, length, ap}
use Rattle.label.specs.Names.{lengths_fit}
use Rattle.label.proofs.names.lengths_fit.Goals as goal

pub returns : goal.returns
unfolding lengths_fit
returns c = ap (λ (sums : Bool). eqb (length c.args.lengths.now % 2) 0 && sums) c.sums_to.ensures
