use native.Mathlib.Omega.{arith}
use lib.ListN.{length}
use Rattle.cluster.specs.VectorsLaws.{row-end, vector-before}
use Rattle.cluster.specs.ClustersLaws.{length-first_centres}
use Rattle.kmeans.proofs.Centring.{centres-none, writing_end, step-below, first_turn}
use Rattle.kmeans.proofs.first_centres.Goals as goal

pub loop-i-init : goal.loop-i-init
loop-i-init c =
    let room = c.requires.behind_vectors in
    centres-none _ _ _ _ _ (length-first_centres _ _ _) room.within

pub bounds-ids-i : goal.bounds-ids-i
bounds-ids-i c =
    let i = c.loop-i.i in
    let there = step-below (length c.args.ids.now) c.args.k i c.requires.le_k c.requires.k_in_bounds c.loop-i-test.true in
    omega (arith, there)

pub copy-requires : goal.copy-requires
copy-requires c =
    let i = c.loop-i.i in
    let there = step-below (length c.args.ids.now) c.args.k i c.requires.le_k c.requires.k_in_bounds c.loop-i-test.true in
    let vector = vector-before c.args.dimension c.args.count c.args.centres_at _ c.requires.behind_vectors.behind (c.requires.behind_vectors.below _ there) in
    let centre = row-end c.args.dimension i c.args.k c.loop-i-test.true in
    record {
      dimension_bound = omega (arith, vector);
      dimension_in_bounds = omega (arith, centre, c.requires.behind_vectors.within, c.loop-i.auto.floats);
    }

pub loop-i-preserved : goal.loop-i-preserved
loop-i-preserved c =
    let i = c.loop-i.i in
    let there = step-below (length c.args.ids.now) c.args.k i c.requires.le_k c.requires.k_in_bounds c.loop-i-test.true in
    first_turn _ _ _ _ _ _ c.requires.behind_vectors _ _ _ c.loop-i.invariant c.loop-i.auto.floats c.loop-i-test.true there c.copy.ensures

pub returns : goal.returns
returns c =
    let room = c.requires.behind_vectors in
    writing_end _ _ _ _ _ (length-first_centres _ _ _) room.within _ _ c.loop-i.invariant c.loop-i-test.false
