-- `build_tree` meets its contract. Invariant: `Standing`, what is made and what waits is the defined tree. The measure is the nodes that are left.
use Rattle.std.proofs.Common.{◌-◌, ◌≤◌}
use Rattle.build_tree.proofs.Standing.{Standing}
use Rattle.build_tree.proofs.build_tree.Given as goal

abbrev pub invariant-loop-done : goal.invariant-loop-done
invariant-loop-done l =
    (l.made ≤ l.shape.nodes)
    × Standing l.shape l.leaf_size l.n l.initial.floats l.initial.numbers l.initial.work l.made l.done l.floats l.numbers l.work

abbrev pub decreases-loop-done : goal.decreases-loop-done
decreases-loop-done l = l.shape.nodes - l.made
