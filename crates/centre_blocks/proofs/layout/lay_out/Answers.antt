use native.Mathlib.Nat.{not-suc-le-zero}
use native.Mathlib.Omega.{arith}
use lib.ListN.{length}
use Rattle.cluster.specs.VectorsLaws.{row-end}
use Rattle.centre_blocks.specs.BlocksLaws.{block_within}
use Rattle.centre_blocks.proofs.Laying.{laid_next, laid-all}
use Rattle.centre_blocks.proofs.layout.lay_out.Goals as goal

pub loop-c-init : goal.loop-c-init
loop-c-init c = λ j h. absurd (not-suc-le-zero h)

pub lay_vector-requires : goal.lay_vector-requires
lay_vector-requires c =
    let p = c.args in
    -- the centre of a turn is within the floats, and its block within the blocks
    let end = row-end p.dimension c.loop-c.c p.k c.loop-c-test.true in
    let room = block_within p.dimension p.k (length p.blocks.now) c.loop-c.c c.requires.dimension_in_bounds_2 c.loop-c-test.true in
    record {
      dimension_in_bounds = omega (arith, c.requires.dimension_in_bounds);
      dimension_in_bounds_2 = omega (arith, room, c.loop-c.auto.blocks);
    }

pub loop-c-preserved : goal.loop-c-preserved
loop-c-preserved c =
    let p = c.args in
    let l = c.loop-c in
    let done = c.lay_vector in
    laid_next p.dimension p.centres_at p.floats.now l.blocks done.new.blocks l.c l.invariant done.ensures

pub returns : goal.returns
returns c =
    let p = c.args in
    let l = c.loop-c in
    laid-all p.dimension p.k p.centres_at p.floats.now l.blocks l.c l.invariant c.loop-c-test.false
