use Prim.Native.Nat.{◌+◌, ◌*◌, ◌/◌}
use mathlib.Core.Path.{◌≡◌, refl, sym, ap, ◌∙◌}
use native.Mathlib.Omega.{arith}
use lib.ListN.{length}
use Rattle.cluster.specs.Clusters.{nearest}
use Rattle.nearest_centre.specs.ChoiceLaws.{nearest_from-end}
use Rattle.centre_blocks.specs.Blocks.{centres_in}
use Rattle.centre_blocks.specs.Choice.{to_choose}
use Rattle.centre_blocks.specs.BlocksLaws.{length-centres_in}
use Rattle.centre_blocks.proofs.Choosing.{block_sums}
use Rattle.centre_blocks.proofs.nearest_in_blocks.Goals as goal

pub loop-block-init : goal.loop-block-init
unfolding nearest
loop-block-init c = refl

pub loop-block-preserved : goal.loop-block-preserved
loop-block-preserved c =
    let p = c.args in
    let l = c.loop-block in
    let v = p.vector.now in
    let blocks = p.blocks.now in
    let centres = centres_in (length v) p.k blocks in
    let first = l.block * 16 in
    let q : first / 16 ≡ l.block = omega arith in
    let at : first * length v ≡ first / 16 * (length v * 16) = rw q (omega arith) in
    let next : first + 16 ≡ (l.block + 1) * 16 = omega arith in
    l.invariant
    ∙ c.closer_sixteen-best.ensures v centres (length-centres_in (length v) p.k blocks)
    (block_sums v blocks p.k first (first * length v) c.sums_of.result at (omega arith) c.sums_of.ensures)
    ∙ ap (λ i. to_choose v centres i c.closer_sixteen-best.result) next

pub returns : goal.returns
returns c =
    let p = c.args in
    let l = c.loop-block in
    let v = p.vector.now in
    let blocks = p.blocks.now in
    sym
    (l.invariant
    ∙ nearest_from-end v (centres_in (length v) p.k blocks) (l.block * 16) l.best.number l.best.least
    (rw length-centres_in (omega (arith, c.loop-block-test.false))))
