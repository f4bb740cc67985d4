-- `closer_four` meets its contract: one centre after the other.
use Rattle.centre_blocks.proofs.Choosing.{four_chosen}
use Rattle.centre_blocks.proofs.closer_four.Goals as goal

pub returns : goal.returns
returns c = λ v centres e are.
    let p = c.args in
    four_chosen v centres p.first p.sums p.best c.closer_below-one.result c.closer_below-two.result c.closer_below-three.result c.closer_below.result
    (c.closer_below-one.ensures v centres e) (c.closer_below-two.ensures v centres e) (c.closer_below-three.ensures v centres e) (c.closer_below.ensures v centres e) are
