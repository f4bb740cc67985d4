-- Invariant: what is left, with the lengths passed, is the sum asked for.
use Rattle.std.proofs.Common.{◌≡◌, ◌+◌, drop}
use Rattle.lists.specs.Lists.{total}
use Rattle.label.proofs.names.sums_to.Given as goal

abbrev pub invariant-loop-byte : goal.invariant-loop-byte
invariant-loop-byte l = total (drop l.byte-index l.lengths) + l.sum ≡ total l.lengths + l.left
