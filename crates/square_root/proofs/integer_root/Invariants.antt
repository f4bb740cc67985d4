-- `integer_root` meets its contract. The invariant: s is not below the root, which holds after a step from any guess. The measure is s, which a step
-- from above the root makes less.
use Prim.Native.Nat.{◌+◌, ◌*◌, ◌^◌, ◌<◌, ◌≤◌}
use Rattle.square_root.proofs.integer_root.Given as goal

abbrev pub invariant-loop-s : goal.invariant-loop-s
invariant-loop-s l = (l.s ≤ 2 ^ 26) × (l.n < (l.s + 1) * (l.s + 1))

abbrev pub decreases-loop-s : goal.decreases-loop-s
decreases-loop-s l = l.s
