use Rattle.leaf_hits.specs.Gathering.{gather_start, gather_next, gather_fails, gather_over}
use Rattle.std.proofs.Common.{refl, arith}
use borrow.Author.Tests.{lt-ltb, le-ltb}
use Rattle.leaf_hits.proofs.add_vectors.Goals as goal

pub loop-vector-init : goal.loop-vector-init
loop-vector-init c = gather_start _ _ _ _ _ _ _ c.requires.few

pub loop-vector-preserved : goal.loop-vector-preserved
loop-vector-preserved c =
    let g = c.loop-vector.invariant in
    gather_next _ _ _ _ _ _ _ _ _ _ _ _ _ g c.loop-vector-test.true (omega (arith, g.so_far.few, g.size, c.requires.room)) refl
    (lt-ltb _ _ c.if-counts-vector.false) refl refl (omega (arith, g.so_far.few, c.if-total-counts.false))

pub returns-then-counts-vector : goal.returns-then-counts-vector
returns-then-counts-vector c =
    rw (← c.block_of-vector-items.ensures)
    (gather_fails _ _ _ _ _ _ _ _ _ _ _ c.loop-vector.invariant c.loop-vector-test.true refl (le-ltb _ _ c.if-counts-vector.true))

pub returns-then-total-counts : goal.returns-then-total-counts
returns-then-total-counts c =
    rw (← c.block_of-vector-items.ensures)
    (gather_over _ _ _ _ _ _ _ _ _ _ _ c.loop-vector.invariant c.loop-vector-test.true refl (omega (arith, c.if-total-counts.true)))
