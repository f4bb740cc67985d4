-- Invariant: the starts and lengths that are still to be written from here make the list that is due, and the names left end where all of them do. The
-- starts end before the lengths begin, so that neither store meets what the other has to write.
use Rattle.label.proofs.Steps.{placed}
use Rattle.lists.specs.Lists.{total}
use Rattle.label.specs.Names.{summed_pairs}
use Rattle.std.proofs.Common.{◌≡◌, ◌+◌, ◌*◌, drop}
use Rattle.label.proofs.names.write_places.Given as goal

abbrev pub invariant-loop-i : goal.invariant-loop-i
invariant-loop-i l =
    (l.start + total (drop (2 * l.i) l.lengths) ≡ l.held + total l.lengths)
    × (placed l.numbers (l.starts + l.i) (l.sizes + l.i) l.start (summed_pairs (drop (2 * l.i) l.lengths)) ≡ placed l.initial.numbers l.starts l.sizes l.held (summed_pairs l.lengths))
