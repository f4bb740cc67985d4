-- Invariant: what is still to be hashed, from the hash so far, gives the hash of the name, and what is still to be copied makes the text that is due.
use Rattle.label.specs.Fnv.{fnv_from, fnv}
use Rattle.lists.specs.Lists.{part}
use lib.Seq.{sets}
use Rattle.std.proofs.Common.{◌≡◌, ◌+◌, ◌-◌}
use Rattle.label.proofs.names.copy_and_hash.Given as goal

abbrev pub invariant-loop-i : goal.invariant-loop-i
invariant-loop-i l =
    (fnv_from l.hash (part l.i (l.end - l.i) l.bytes) ≡ fnv (part l.start (l.end - l.start) l.bytes))
    × (sets l.text (l.place + l.i) (part l.i (l.end - l.i) l.bytes) ≡ sets l.initial.text (l.place + l.start) (part l.start (l.end - l.start) l.bytes))
