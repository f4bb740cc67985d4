use Rattle.std.proofs.Common.{refl, arith}
use Rattle.leaf_hits.specs.Gathering.{entry_past, owner-past, entry-held}
use Rattle.wanted_hits.proofs.Written.{mark-next, mark_fails, mark-end}
use Rattle.wanted_hits.proofs.both.clear_owners.Goals as goal

pub loop-number-preserved : goal.loop-number-preserved
loop-number-preserved c =
    mark-next _ _ _ _ _ _ _ _ _ c.loop-number.invariant c.loop-number-test.true refl
    (entry-held _ _ _ _ _ refl c.if-counts-entry.false c.if-counts-owner.false) refl

pub returns-then-counts-entry : goal.returns-then-counts-entry
returns-then-counts-entry c =
    rw (← c.block_of-number-items.ensures)
    (mark_fails _ _ _ _ _ _ _ _ c.loop-number.invariant c.loop-number-test.true refl (entry_past _ _ _ _ c.if-counts-entry.true))

pub returns-then-counts-owner : goal.returns-then-counts-owner
returns-then-counts-owner c =
    rw (← c.block_of-number-items.ensures)
    (mark_fails _ _ _ _ _ _ _ _ c.loop-number.invariant c.loop-number-test.true refl
    (owner-past _ _ _ _ _ refl c.if-counts-entry.false c.if-counts-owner.true))

pub returns : goal.returns
returns c = rw (← c.block_of-number-items.ensures) (mark-end _ _ _ _ _ _ _ c.loop-number.invariant (omega arith) refl)
