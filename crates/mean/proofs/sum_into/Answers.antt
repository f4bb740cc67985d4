use native.Mathlib.Omega.{arith}
use Rattle.mean.proofs.Sums.{sum-none, sum_turn, sum-end}
use Rattle.cluster.specs.VectorsLaws.{vector-before}
use Rattle.mean.proofs.sum_into.Goals as goal

pub loop-id-init : goal.loop-id-init
loop-id-init c = sum-none _ _ _ _ _ c.requires

pub add-requires : goal.add-requires
add-requires c =
    let room = c.requires in
    record {
      dimension_bound = vector-before _ _ _ _ room.behind (room.below _ c.loop-id-test.true);
      dimension_in_bounds = omega arith;
    }

pub loop-id-preserved : goal.loop-id-preserved
loop-id-preserved c = sum_turn _ _ _ _ _ c.requires _ _ _ c.loop-id.invariant c.loop-id-test.true c.add.ensures

pub returns : goal.returns
returns c = sum-end _ _ _ _ _ c.requires _ _ c.loop-id.invariant c.loop-id-test.false
