use Rattle.std.proofs.Common.{◌≡◌, refl, ◌∙◌, true, ◌<◌, arith, get_or}
use Rattle.walk.specs.Wanted.{number_held}
use Rattle.walk.specs.StoreView.{entries_in}
use Rattle.walk.proofs.Damage.{is_damage}
use Rattle.wanted_hits.proofs.BothLabels.{owners-none, owners-own, owners_other, number-held, owner-held, listed-held}
use Rattle.wanted_hits.proofs.Written.{mark-next, mark-skip, mark_fails, mark-end}
use Rattle.wanted_hits.proofs.both.mark_owners.Goals.{In-loop-number, then-branch, else-branch}
use Rattle.wanted_hits.proofs.both.mark_owners.Goals as goal

-- the number read is held, and so is its owner
held : (r : In-loop-number) → let a = r.args in
    number_held a.counts (entries_in a.shape a.lists.numbers.now a.lists.hashes.now a.lists.text.now) (get_or r.block_of-number-items.result.now r.loop-number.number-index 0) ≡ true
held r = listed-held _ _ r.block_of-number-items.result.now _ _ (rw r.block_of-number-items.ensures r.requires.held) r.loop-number-test.true refl

low : (r : In-loop-number) → get_or r.block_of-number-items.result.now r.loop-number.number-index 0 < r.args.counts.entries
low r = number-held _ _ _ (held r)

pub compare_label-requires : goal.compare_label-requires
compare_label-requires c = record {
  within = c.requires.within;
  numbers_enough = c.requires.numbers_enough;
  hashes_enough = c.requires.hashes_enough;
  text_size = c.requires.text_size;
  held = low ((goal.at.compare_label-requires c).In-loop-number);
}

pub bounds-numbers-owners_at : goal.bounds-numbers-owners_at
bounds-numbers-owners_at c =
    let h = low ((goal.at.bounds-numbers-owners_at c).In-loop-number) in
    omega (arith, h, c.owners_at-owners_at.ensures, c.requires.within.entries, c.requires.numbers_enough)

pub bounds-marks-owner : goal.bounds-marks-owner
bounds-marks-owner c =
    let h = owner-held _ _ _ (held ((goal.at.bounds-marks-owner c).In-loop-number)) in
    rw c.owners_at-owners_at.ensures (omega (arith, h, c.loop-number.invariant.size, c.requires.marks_held))

pub loop-number-preserved : goal.loop-number-preserved
loop-number-preserved c =
    let i = c.loop-number.invariant in
    let is = c.in_ok-compare_label.ensures in
    elim c.if-branch.branch [
      | then-branch w ↦
          rw (w.marks-is, c.owners_at-owners_at.ensures)
          (mark-next _ _ _ _ _ _ _ _ _ i c.loop-number-test.true refl is.0 (owners-own _ _ _ _ _ (is.1 ∙ w.if-branch.true)))
      | else-branch w ↦
          rw w.marks-is (mark-skip _ _ _ _ _ _ _ _ i c.loop-number-test.true refl is.0 (owners_other _ _ _ _ _ (is.1 ∙ w.if-branch.false)))
    ]

pub returns-in_err-compare_label : goal.returns-in_err-compare_label
returns-in_err-compare_label c =
    rw (is_damage c.from_residual.result c.from_residual.ensures.0, ← c.block_of-number-items.ensures)
    (mark_fails _ _ _ _ _ _ _ _ c.loop-number.invariant c.loop-number-test.true refl c.in_err-compare_label.ensures)

pub returns : goal.returns
returns c = rw (← c.block_of-number-items.ensures) (mark-end _ _ _ _ _ _ _ c.loop-number.invariant (omega arith) (owners-none _ _ _))
