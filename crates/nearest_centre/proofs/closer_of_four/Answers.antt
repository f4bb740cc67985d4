-- `closer_of_four` meets its contract: one centre after the other.
use Prim.Native.Nat.{◌+◌}
use Rattle.lists.specs.Lists.{part}
use Rattle.nearest_centre.proofs.Choice.{four_steps}
use Rattle.nearest_centre.proofs.closer_of_four.Goals as goal

pub returns : goal.returns
returns c =
    let far = c.distances_at-four in
    let p = c.args in
    let l = p.floats.now in
    let n = p.dimension in
    four_steps p.vector.now (part p.at n l) (part (p.at + n) n l) (part (p.at + n + n) n l) (part (p.at + n + n + n) n l) p.number p.best.number c.closer-one.result.number c.closer-two.result.number
    c.closer-three.result.number c.closer.result.number p.best.least c.closer-one.result.least c.closer-two.result.least
    c.closer-three.result.least c.closer.result.least far.result.a far.result.b far.result.c far.result.d far.ensures.a_value
    far.ensures.b_value far.ensures.c_value far.ensures.d_value c.closer-one.ensures.number_value c.closer-one.ensures.least_value c.closer-two.ensures.number_value
    c.closer-two.ensures.least_value c.closer-three.ensures.number_value c.closer-three.ensures.least_value c.closer.ensures.number_value c.closer.ensures.least_value
