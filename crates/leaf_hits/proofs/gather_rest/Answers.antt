use Rattle.leaf_hits.specs.Gathering.{gather_start, gather_next, gather_fails, entry_past, owner-past, entry-held}
use Rattle.lists.specs.Parts.{length_part}
use Rattle.std.proofs.Common.{◌≡◌, refl, arith, length, rules}
use Rattle.leaf_hits.proofs.gather_rest.Goals as goal

pub loop-number-init : goal.loop-number-init
loop-number-init c = record {
  gathering = gather_start _ _ _ _ _ _ _ (omega (arith, c.requires.few));
  few = omega arith;
}

pub loop-number-preserved : goal.loop-number-preserved
loop-number-preserved c =
    let i = c.loop-number.invariant in
    let count : length c.block_of-number-items.result.now ≡ c.args.block.count = rw c.block_of-number-items.ensures (length_part _ _ _ c.requires.block) in
    record {
      gathering = gather_next _ _ _ _ _ _ _ _ _ _ _ _ _ i.gathering c.loop-number-test.true (omega (arith, i.few, i.gathering.size, c.requires.few, c.requires.room)) refl
          (entry-held _ _ _ _ _ refl c.if-counts-entry.false c.if-counts-numbers.false) refl (search rules) (grind (arith, i.few, c.requires.few));
      few = search rules;
    }

pub returns-then-counts-entry : goal.returns-then-counts-entry
returns-then-counts-entry c =
    rw (← c.block_of-number-items.ensures)
    (gather_fails _ _ _ _ _ _ _ _ _ _ _ c.loop-number.invariant.gathering c.loop-number-test.true refl (entry_past _ _ _ _ c.if-counts-entry.true))

pub returns-then-counts-numbers : goal.returns-then-counts-numbers
returns-then-counts-numbers c =
    rw (← c.block_of-number-items.ensures)
    (gather_fails _ _ _ _ _ _ _ _ _ _ _ c.loop-number.invariant.gathering c.loop-number-test.true refl
    (owner-past _ _ _ _ _ refl c.if-counts-entry.false c.if-counts-numbers.true))
