-- `closer_below` meets its contract, by cases of whether there is a centre with the number.
use Prim.Native.Nat.{◌<◌}
use native.Mathlib.Omega.{arith}
use lib.ListN.{length}
use Rattle.distance.specs.Distance.{one32}
use Rattle.nearest_centre.specs.ChoiceLaws.{nearest_from_turn}
use Rattle.centre_blocks.proofs.Choosing.{none-there}
use Rattle.centre_blocks.proofs.closer_below.Goals as goal

pub returns-then-number-k : goal.returns-then-number-k
unfolding one32
returns-then-number-k c = λ v centres e is.
    let p = c.args in
    let below : p.number < length centres = omega (arith, c.if-number-k.true) in
    nearest_from_turn v centres p.number p.best.number p.best.least _ c.closer.result.number c.closer.result.least below (is below)
    c.closer.ensures.number_value c.closer.ensures.least_value

pub returns-else-number-k : goal.returns-else-number-k
returns-else-number-k c = λ v centres e is. none-there v centres c.args.number c.args.best (omega (arith, c.if-number-k.false))
