use Rattle.std.proofs.Common.{ℕ, List, ◌≡◌, refl, sym, ap, ap₂, ◌∙◌, Bool, true, false, not, cond, ◌&&◌, eqb, ◌+◌, ◌<◌, arith, get_or, take, length-drop}
use Rattle.store.specs.Store.{owners_at}
use Rattle.walk.specs.Wanted.{name_of, number_held, is_labels}
use Rattle.walk.specs.StoreView.{entries_in}
use Rattle.walk.proofs.Damage.{is_damage}
use Rattle.leaf_hits.specs.Gathering.{gather_start, gather_next, gather_skip, gather_fails, gather_over, gather_end}
use Rattle.wanted_hits.proofs.BothLabels.{owners-kept, number-held, owner-held, listed-held}
use lib.Seq.{get_or-take, take-set-le, drop-set-add}
use borrow.Author.Tests.{eq-eqb, ne_eqb}
use Rattle.wanted_hits.proofs.both.take_marked.Goals.{In-loop-number, then-branch+then-hits-owner-ne0+else-total-counts, then-branch+else-hits-owner-ne0, else-branch}
use Rattle.wanted_hits.proofs.both.take_marked.Goals as goal

-- the number read is held, and so is its owner
held : (r : In-loop-number) → let a = r.args in
    number_held a.counts (entries_in a.shape a.lists.numbers.now a.lists.hashes.now a.lists.text.now) (get_or r.block_of-number-items.result.now r.loop-number.number-index 0) ≡ true
held r = listed-held _ _ r.block_of-number-items.result.now _ _ (rw r.block_of-number-items.ensures r.requires.mark_lent.held) r.loop-number-test.true refl

low : (r : In-loop-number) → get_or r.block_of-number-items.result.now r.loop-number.number-index 0 < r.args.counts.entries
low r = number-held _ _ _ (held r)

-- the mark of a vector stands as at entry
in_front : (n i : ℕ) (a b : List ℕ) → i < n → take n a ≡ take n b → get_or a i 0 ≡ get_or b i 0
in_front n i a b h e = sym (get_or-take n a i 0 h) ∙ ap (λ (l : List ℕ). get_or l i 0) e ∙ get_or-take n b i 0 h

-- the entry is not the label's
other : (label marked : Bool) → label ≡ false → (label && marked) ≡ false
other label marked e = ap (λ (b : Bool). b && marked) e

-- the entry is the label's; whether it is wanted is told by the mark
wanted : (r : In-loop-number) (b : Bool) → let a = r.args in let x = get_or r.block_of-number-items.result.now r.loop-number.number-index 0 in
    let labels = is_labels (entries_in a.shape a.lists.numbers.now a.lists.hashes.now a.lists.text.now) a.label.hash (name_of a.label) in
    labels x ≡ true → eqb (get_or r.loop-number.hits (get_or a.lists.numbers.now (r.owners_at-owners_at.result + x) 0) 0) 0 ≡ b
    → (labels x && not (eqb (get_or a.hits.now (get_or a.lists.numbers.now (owners_at a.shape + x) 0) 0) 0)) ≡ not b
wanted r b label e =
    let a = r.args in
    let h = owner-held _ _ _ (held r) in
    let same = in_front a.from (get_or a.lists.numbers.now (owners_at a.shape + get_or r.block_of-number-items.result.now r.loop-number.number-index 0) 0) r.loop-number.hits a.hits.now
    (omega (arith, h, r.requires.vectors_le_from)) r.loop-number.invariant.front in
    ap₂ ◌&&◌ label (ap not (ap (λ (n : ℕ). eqb n 0) (sym same) ∙ rw r.owners_at-owners_at.ensures at e))

pub loop-number-init : goal.loop-number-init
loop-number-init c = record {
  gathering = gather_start _ _ _ _ _ _ _ c.requires.before_le_entries;
  front = refl;
}

pub compare_label-requires : goal.compare_label-requires
compare_label-requires c = record {
  within = c.requires.mark_lent.within;
  numbers_enough = c.requires.mark_lent.numbers_enough;
  hashes_enough = c.requires.mark_lent.hashes_enough;
  text_size = c.requires.mark_lent.text_size;
  held = low ((goal.at.compare_label-requires c).In-loop-number);
}

pub bounds-numbers-owners_at : goal.bounds-numbers-owners_at
bounds-numbers-owners_at c =
    let h = low ((goal.at.bounds-numbers-owners_at c).In-loop-number) in
    omega (arith, h, c.owners_at-owners_at.ensures, c.requires.mark_lent.within.entries, c.requires.mark_lent.numbers_enough)

pub bounds-hits-owner : goal.bounds-hits-owner
bounds-hits-owner c =
    let h = owner-held _ _ _ (held ((goal.at.bounds-hits-owner c).In-loop-number)) in
    rw c.owners_at-owners_at.ensures (omega (arith, h, c.requires.mark_lent.marks_held))

pub loop-number-preserved : goal.loop-number-preserved
loop-number-preserved c =
    let r = (goal.at.loop-number-preserved c).In-loop-number in
    let i = c.loop-number.invariant in
    let is = c.in_ok-compare_label.ensures in
    elim c.if-branch.branch [
      | then-branch+then-hits-owner-ne0+else-total-counts w ↦
          let one = ap (λ (b : Bool). c.loop-number.total + cond b 1 0) (wanted r false (is.1 ∙ w.if-branch.true) (ne_eqb _ _ w.if-hits-owner-ne0.true)) in
          rw (w.hits-is, w.total-is, c.owners_at-owners_at.ensures) (record {
            gathering = rw drop-set-add (gather_next _ _ _ _ _ _ _ _ _ _ _ _ _ i.gathering c.loop-number-test.true
                (omega (arith, length-drop c.args.from c.loop-number.hits, i.gathering.so_far.few, c.requires.entries_in_bounds)) refl is.0 refl (sym one)
                (omega (arith, i.gathering.so_far.few, w.if-total-counts.false)));
            front = take-set-le c.args.from c.loop-number.hits (c.args.from + c.loop-number.total) _ (omega arith) ∙ i.front;
          })
      | then-branch+else-hits-owner-ne0 w ↦
          rw (w.hits-is, w.total-is) (record {
            gathering = gather_skip _ _ _ _ _ _ _ _ _ _ _ i.gathering c.loop-number-test.true refl is.0
                (wanted r true (is.1 ∙ w.if-branch.true) (eq-eqb _ _ w.if-hits-owner-ne0.false));
            front = i.front;
          })
      | else-branch w ↦
          rw (w.hits-is, w.total-is) (record {
            gathering = gather_skip _ _ _ _ _ _ _ _ _ _ _ i.gathering c.loop-number-test.true refl is.0 (other _ _ (is.1 ∙ w.if-branch.false));
            front = i.front;
          })
    ]

pub returns-in_err-compare_label : goal.returns-in_err-compare_label
returns-in_err-compare_label c =
    rw (is_damage c.from_residual.result c.from_residual.ensures.0, ← c.block_of-number-items.ensures, ← owners-kept)
    (gather_fails _ _ _ _ _ _ _ _ _ _ _ c.loop-number.invariant.gathering c.loop-number-test.true refl c.in_err-compare_label.ensures)

pub returns-then-total-counts : goal.returns-then-total-counts
returns-then-total-counts c =
    let r = (goal.at.returns-then-total-counts c).In-loop-number in
    let is = wanted r false (c.in_ok-compare_label.ensures.1 ∙ c.if-branch.true) (ne_eqb _ _ c.if-hits-owner-ne0.true) in
    let one = ap {B = ℕ} (λ (b : Bool). cond b 1 0) is in
    rw (← c.block_of-number-items.ensures, ← owners-kept)
    (gather_over _ _ _ _ _ _ _ _ _ _ _ c.loop-number.invariant.gathering c.loop-number-test.true refl (omega (arith, c.if-total-counts.true, one)))

pub returns : goal.returns
returns c =
    rw (← c.block_of-number-items.ensures, ← owners-kept) (gather_end _ _ _ _ _ _ _ _ _ _ c.loop-number.invariant.gathering (omega arith))
