-- What is still to be made from here is what was due: the filters of the nodes below i.
-- Assumes nothing.
use Rattle.std.proofs.Common.{◌≡◌}
use Rattle.node_filters.specs.Filters.{filters_made}
use Rattle.node_filters.proofs.make_filters.Given as goal

abbrev pub invariant-loop-i : goal.invariant-loop-i
invariant-loop-i l = filters_made l.places l.numbers l.i l.hashes ≡ filters_made l.places l.numbers l.nodes l.initial.hashes
