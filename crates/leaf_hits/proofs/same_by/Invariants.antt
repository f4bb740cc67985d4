-- The bytes before a place are equal. The measure is what is left of the name.
use Rattle.std.proofs.Common.{◌≡◌, ◌-◌, ◌≤◌, length, take}
use Rattle.leaf_hits.proofs.same_by.Given as goal

abbrev pub invariant-loop-at : goal.invariant-loop-at
invariant-loop-at g l = record {
  held : l.at ≤ length l.name;
  equal : take l.at l.bytes ≡ take l.at l.name;
}

abbrev pub decreases-loop-at : goal.decreases-loop-at
decreases-loop-at g l = length l.name - l.at
