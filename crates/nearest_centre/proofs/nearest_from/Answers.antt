use lib.ListN.{length}
use Rattle.nearest_centre.proofs.Choice.{nearest_turn, nearest-end, centre_within}
use Rattle.nearest_centre.proofs.nearest_from.Goals as goal

pub distance_at-d-requires : goal.distance_at-d-requires
distance_at-d-requires c =
    let p = c.args in
    centre_within p.centres_at p.k p.dimension (length p.floats.now) c.loop-c.c c.requires.dimension_in_bounds c.loop-c-test.true

pub loop-c-preserved : goal.loop-c-preserved
loop-c-preserved c =
    let p = c.args in
    let l = c.loop-c in
    nearest_turn p.floats.now p.vector.now p.centres_at p.k p.dimension _ l.c l.best.number l.best.least c.distance_at-d.result
    c.closer-best.result.number c.closer-best.result.least l.invariant c.loop-c-test.true c.distance_at-d.ensures c.closer-best.ensures.number_value
    c.closer-best.ensures.least_value

pub returns : goal.returns
returns c =
    let p = c.args in
    nearest-end p.floats.now _ p.centres_at p.k p.dimension _ _ _ _ c.loop-c.invariant c.loop-c-test.false
