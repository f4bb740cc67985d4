-- Invariant: what is still to be written from here makes the list that is due.
use Rattle.label.specs.Names.{whole_lengths}
use lib.Seq.{sets}
use Rattle.std.proofs.Common.{◌≡◌, ◌*◌, drop}
use Rattle.label.proofs.names.whole_lengths.Given as goal

abbrev pub invariant-loop-i : goal.invariant-loop-i
invariant-loop-i l =
    sets l.pairs (2 * l.i) (whole_lengths (drop l.i l.lengths)) ≡ whole_lengths l.lengths
