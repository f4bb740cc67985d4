-- `push_children` meets its contract: the loop keeps the first j nodes, four more a turn or one. The measure is the nodes left. Assumes nothing.
use Rattle.std.proofs.Common.{◌-◌, ◌≤◌}
use Rattle.lists.specs.Lists.{part}
use Rattle.waiting_nodes.specs.Promises.{waiting_records, PushedNodes}
use Rattle.waiting_nodes.proofs.push_children.Given as goal

abbrev pub invariant-loop-j : goal.invariant-loop-j
invariant-loop-j l = record {
  within : l.j ≤ l.count;
  pushed : PushedNodes l.shape l.fn.work l.waiting (waiting_records l.shape l.floats l.query (part l.start l.j l.numbers)) l.work;
}

abbrev pub decreases-loop-j : goal.decreases-loop-j
decreases-loop-j l = l.count - l.j
