-- `add_both` meets its contract: the owners of the list are held and their marks cleared, those of the other label are marked, and what is taken is what the
-- list gives. Assumes nothing.
use Rattle.std.specs.Prelude.{Ok, Err}
use Rattle.std.proofs.Common.{map, ◌≡◌, true, ap, ◌∙◌, arith, length-drop, subst}
use Rattle.lists.specs.Lists.{part}
use Rattle.lists.specs.Tests.{all_pass}
use Rattle.walk.specs.Wanted.{name_of, number_held, owners_of}
use Rattle.walk.specs.StoreView.{entries_in}
use Rattle.walk.proofs.Damage.{is_damage}
use Rattle.wanted_hits.specs.Promises.{written, TakesMarked}
use Rattle.wanted_hits.proofs.BothLabels.{held-cleared, held_fails, others_fail, both-taken}
use Rattle.wanted_hits.proofs.both.add_both.Goals.{In_ok-clear_owners}
use Rattle.wanted_hits.proofs.both.add_both.Goals as goal

-- the owners are held, and their marks cleared
clears : (k : In_ok-clear_owners) → let a = k.args in let read = entries_in a.shape a.lists.numbers.now a.lists.hashes.now a.lists.text.now in
    let l = part a.block.start a.block.count a.lists.numbers.now in
    (all_pass (number_held a.counts read) l ≡ true) × (k.clear_owners.new.marks ≡ written 0 (map read.owner l) a.hits.now)
clears k =
    let a = k.args in
    held-cleared a.shape a.counts a.lists.numbers.now a.lists.hashes.now a.lists.text.now a.label.hash (name_of a.label) a.other.hash (name_of a.other) _ a.hits.now (Ok tt) _
    (rw k.owners_at.ensures at k.in_ok-clear_owners.ensures)

pub returns-in_err-clear_owners : goal.returns-in_err-clear_owners
returns-in_err-clear_owners c =
    let a = c.args in
    rw (is_damage c.from_residual.result c.from_residual.ensures.0)
    (held_fails a.shape a.counts a.lists.numbers.now a.lists.hashes.now a.lists.text.now a.label.hash (name_of a.label) a.other.hash (name_of a.other) _ a.before
    (held-cleared a.shape a.counts a.lists.numbers.now a.lists.hashes.now a.lists.text.now a.label.hash (name_of a.label) a.other.hash (name_of a.other) _ a.hits.now (Err (record {}))
    c.clear_owners.new.marks (rw c.owners_at.ensures at c.in_err-clear_owners.ensures)))

pub mark_owners-requires : goal.mark_owners-requires
mark_owners-requires c =
    let lent = c.requires.lent in
    record {
      within = lent.within;
      numbers_enough = lent.numbers_enough;
      hashes_enough = lent.hashes_enough;
      text_size = lent.text_size;
      marks_held = omega (arith, lent.hits.room, length-drop c.args.from c.args.hits.now, c.requires.marks, c.clear_owners.auto.marks);
      block = lent.hits.block;
      held = (clears ((goal.at.mark_owners-requires c).In_ok-clear_owners)).0;
    }

pub returns-in_err-mark_owners : goal.returns-in_err-mark_owners
returns-in_err-mark_owners c =
    let a = c.args in
    rw (is_damage c.from_residual-in_err-mark_owners.result c.from_residual-in_err-mark_owners.ensures.0)
    (others_fail a.shape a.counts a.lists.numbers.now a.lists.hashes.now a.lists.text.now a.label.hash (name_of a.label) a.other.hash (name_of a.other) _ a.before
    c.in_err-mark_owners.ensures)

pub take_marked-requires-clause-mark_lent : goal.take_marked-requires-clause-mark_lent
take_marked-requires-clause-mark_lent c =
    let lent = c.requires.lent in
    record {
      within = lent.within;
      numbers_enough = lent.numbers_enough;
      hashes_enough = lent.hashes_enough;
      text_size = lent.text_size;
      marks_held = omega (arith, lent.hits.room, length-drop c.args.from c.args.hits.now, c.requires.marks, c.clear_owners.auto.marks, c.mark_owners.auto.marks);
      block = lent.hits.block;
      held = (clears ((goal.at.take_marked-requires-clause-mark_lent c).In_ok-clear_owners)).0;
    }

pub returns : goal.returns
returns c =
    let a = c.args in
    let l = part a.block.start a.block.count a.lists.numbers.now in
    let read = entries_in a.shape a.lists.numbers.now a.lists.hashes.now a.lists.text.now in
    let k = clears ((goal.at.returns c).In_ok-clear_owners) in
    let theirs = c.in_ok-mark_owners.ensures in
    both-taken a.shape a.counts a.lists.numbers.now a.lists.hashes.now a.lists.text.now a.label.hash (name_of a.label) a.other.hash (name_of a.other) l k.0 a.hits.now
    (omega (arith, c.requires.lent.hits.room, length-drop a.from a.hits.now, c.requires.marks)) a.from a.before c.take_marked.result c.take_marked.new.hits c.requires.marks theirs.0
    (subst (λ h. TakesMarked a.shape a.counts a.lists.numbers.now a.lists.hashes.now a.lists.text.now a.label.hash (name_of a.label) l a.from a.before h c.take_marked.result c.take_marked.new.hits)
    (theirs.1 ∙ ap (written 1 (owners_of read a.other.hash (name_of a.other) l)) k.1) c.take_marked.ensures)
