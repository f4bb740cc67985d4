-- Invariant: the hashes and the bytes that are still to be written from here make the lists that are due, and the names left fill the bytes left. There are
-- two lengths a name, so that after the last name no byte is left.
use Rattle.lists.specs.Lists.{total}
use Rattle.label.specs.Names.{names_of, hashes_of_labels}
use lib.Seq.{sets}
use Rattle.std.proofs.Common.{◌≡◌, ◌+◌, ◌*◌, length, drop}
use Rattle.label.proofs.names.write_hashes.Given as goal

abbrev pub invariant-loop-i : goal.invariant-loop-i
invariant-loop-i l =
    (l.start + total (drop (2 * l.i) l.lengths) ≡ length l.bytes)
    × (sets l.hashes (l.place + l.i) (hashes_of_labels (names_of (drop (2 * l.i) l.lengths) (drop l.start l.bytes))) ≡ sets l.initial.hashes l.place (hashes_of_labels (names_of l.lengths l.bytes)))
    × (sets l.text (l.held + l.start) (drop l.start l.bytes) ≡ sets l.initial.text l.held l.bytes)
