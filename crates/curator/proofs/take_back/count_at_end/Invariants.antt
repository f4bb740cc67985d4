-- Invariant: every owner from the place reached on is the one asked for. Where one is another, what stands behind it is the longest suffix; where none is, all are.
use Rattle.std.proofs.Common.{◌≡◌, true, drop}
use Rattle.lists.specs.Suffix.{all_are}
use Rattle.curator.proofs.take_back.count_at_end.Given as goal

abbrev pub invariant-loop-i : goal.invariant-loop-i
invariant-loop-i l = all_are l.owner (drop l.i l.owners) ≡ true
