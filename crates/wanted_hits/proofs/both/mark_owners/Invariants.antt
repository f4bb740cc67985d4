-- `mark_owners` meets its contract: the loop keeps that what is still to be marked is what is due, and each way out is one of its ends. Assumes nothing.
use Rattle.walk.specs.Wanted.{name_of, text_held, owners_of}
use Rattle.walk.specs.StoreView.{entries_in, end_in}
use Rattle.wanted_hits.proofs.Written.{Marking}
use Rattle.wanted_hits.proofs.both.mark_owners.Given as goal

abbrev pub invariant-loop-number : goal.invariant-loop-number
invariant-loop-number l =
    let read = entries_in l.shape l.lists.numbers.now l.lists.hashes.now l.lists.text.now in
    Marking (text_held l.counts read (end_in l.shape l.lists.numbers.now) l.label.hash) (owners_of read l.label.hash (name_of l.label)) 1
    l.number-items l.fn.marks l.number-index l.marks
