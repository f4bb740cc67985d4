-- `lanes::sums_of` meets its contract. Invariant: what each lane is to be is what is due of its column from component i on, begun at the sum so far.
use Prim.Native.Nat.{ℕ, ◌+◌, ◌<◌}
use mathlib.Core.Path.{◌≡◌}
use lib.ListN.{length, get_or, drop}
use lib.Ieee.{nan}
use Rattle.vector.specs.Vector.{dot, dot_from}
use Rattle.centre_blocks.specs.Blocks.{lanes, column}
use Rattle.centre_blocks.proofs.lanes.sums_of.Given as goal

abbrev pub invariant-loop-i : goal.invariant-loop-i
invariant-loop-i l =
    (k : ℕ) → k < 16
    → dot l.vector (column (length l.vector) l.blocks (l.at + k)) ≡ dot_from (get_or (lanes l.sums) k nan) (drop l.i l.vector) (drop l.i (column (length l.vector) l.blocks (l.at + k)))
