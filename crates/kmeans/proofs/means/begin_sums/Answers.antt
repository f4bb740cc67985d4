use native.Mathlib.Omega.{arith}
use lib.ListN.{get_or, replicate, length-replicate}
use Rattle.vector.specs.Vector.{zero32}
use Rattle.cluster.specs.VectorsLaws.{row-end}
use Rattle.kmeans.specs.Means.{begun}
use Rattle.kmeans.proofs.Centring.{centres-none, writing_end}
use Rattle.kmeans.proofs.Averaging.{length-each_centre, each_turn, each_kept, counted, not_counted}
use Rattle.kmeans.proofs.means.begin_sums.Goals as goal
use Rattle.kmeans.proofs.means.begin_sums.Goals.{then-counts-j-gt0, else-counts-j-gt0}

pub loop-j-init : goal.loop-j-init
loop-j-init c =
    let p = c.args in
    centres-none p.dimension p.k p.centres_at p.floats.now _ (length-each_centre p.k (begun p.dimension p.counts.now) _) c.requires.dimension_in_bounds

pub zero-requires : goal.zero-requires
zero-requires c =
    -- the centre of a turn is within the floats
    let end = row-end c.args.dimension c.loop-j.j c.args.k c.loop-j-test.true in
    omega (arith, c.requires.dimension_in_bounds, c.loop-j.auto.floats)

pub loop-j-preserved : goal.loop-j-preserved
loop-j-preserved c =
    let p = c.args in
    let l = c.loop-j in
    elim c.if-counts-j-gt0.branch [
      | then-counts-j-gt0 w ↦
          rw w.floats-is
          (each_turn p.dimension p.k p.centres_at p.floats.now (begun p.dimension p.counts.now) c.requires.dimension_in_bounds l.floats w.zero.new.floats l.j (replicate p.dimension zero32) l.invariant l.auto.floats c.loop-j-test.true
          w.zero.ensures (counted (get_or p.counts.now l.j 0) _ _ w.if-counts-j-gt0.true) (length-replicate p.dimension zero32))
      | else-counts-j-gt0 w ↦
          rw w.floats-is
          (each_kept p.dimension p.k p.centres_at p.floats.now (begun p.dimension p.counts.now) c.requires.dimension_in_bounds l.floats l.j l.invariant l.auto.floats c.loop-j-test.true
          (not_counted (get_or p.counts.now l.j 0) _ _ w.if-counts-j-gt0.false))
    ]

pub returns : goal.returns
returns c =
    let p = c.args in
    let l = c.loop-j in
    writing_end p.dimension p.k p.centres_at p.floats.now _ (length-each_centre p.k (begun p.dimension p.counts.now) _) c.requires.dimension_in_bounds l.floats l.j l.invariant c.loop-j-test.false
