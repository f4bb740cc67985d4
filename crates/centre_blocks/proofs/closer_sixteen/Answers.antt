-- `closer_sixteen` meets its contract: four centres after four.
use Rattle.centre_blocks.proofs.Choosing.{sixteen_chosen}
use Rattle.centre_blocks.proofs.closer_sixteen.Goals as goal

pub returns : goal.returns
returns c = λ v centres e are.
    let p = c.args in
    sixteen_chosen v centres p.first p.sums p.best c.closer_four-one.result c.closer_four-two.result c.closer_four-three.result c.closer_four.result
    (c.closer_four-one.ensures v centres e) (c.closer_four-two.ensures v centres e) (c.closer_four-three.ensures v centres e) (c.closer_four.ensures v centres e) are
