use mathlib.Core.Path.{refl, sym, ◌∙◌}
use native.Mathlib.Omega.{arith}
use lib.ListN.{length}
use Rattle.cluster.specs.Clusters.{nearest}
use Rattle.nearest_centre.proofs.Choice.{four_turn, four-within}
use Rattle.nearest_centre.proofs.nearest_centre.Goals as goal

pub loop-c-init : goal.loop-c-init
unfolding nearest
loop-c-init c = (omega arith, refl)

pub closer_of_four-best-requires : goal.closer_of_four-best-requires
closer_of_four-best-requires c = record {
  -- the four centres of a turn are within the floats
  dimension_in_bounds = four-within c.args.centres_at c.args.k c.args.dimension (length c.args.floats.now) c.loop-c.c c.requires (omega arith);
  number_bound = omega (arith, c.ranges.k);
}

pub loop-c-preserved : goal.loop-c-preserved
loop-c-preserved c =
    let p = c.args in
    let l = c.loop-c in (
      omega arith,
      four_turn p.floats.now p.vector.now p.centres_at p.k p.dimension _ l.c l.best.number c.closer_of_four-best.result.number l.best.least
          c.closer_of_four-best.result.least l.invariant.1 (omega arith) c.closer_of_four-best.ensures,
    )

pub returns : goal.returns
returns c = c.nearest_from.ensures ∙ sym c.loop-c.invariant.1
