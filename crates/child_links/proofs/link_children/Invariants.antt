-- The nodes from i on are linked (`Linking`); a turn links node i - 1, whose children are on the stack (`turn`).
-- Assumes nothing.
use Rattle.node_table.specs.Table.{cells}
use Rattle.child_links.proofs.Linking.{Linking}
use Rattle.child_links.proofs.link_children.Given as goal

abbrev pub invariant-loop-i : goal.invariant-loop-i
invariant-loop-i l = Linking (cells l.at l.nodes l.initial.numbers) l.initial.numbers l.initial.work l.links l.numbers l.work l.top l.end l.i
