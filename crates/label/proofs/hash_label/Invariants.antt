-- What is still to be hashed, from the hash so far, gives the hash of the whole.
use Rattle.std.proofs.Common.{◌≡◌, drop}
use Rattle.label.specs.Fnv.{fnv_from}
use Rattle.label.proofs.hash_label.Given as goal

abbrev pub invariant-loop-byte : goal.invariant-loop-byte
invariant-loop-byte l = fnv_from l.hash (drop l.byte-index l.bytes) ≡ fnv_from l.start l.bytes
