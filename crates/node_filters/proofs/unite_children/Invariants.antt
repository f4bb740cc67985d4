-- The filters of the first children are added; those of the others stand after the filter and stay.
-- Assumes nothing.
use Rattle.std.proofs.Common.{◌≡◌, length}
use Rattle.std.proofs.lemmas.List.Edits.{sets}
use Rattle.node_filters.proofs.Filtering.{united}
use Rattle.node_filters.proofs.unite_children.Given as goal

abbrev pub invariant-loop-child : goal.invariant-loop-child
invariant-loop-child l =
    (l.hashes ≡ sets l.initial.hashes l.at (united l.initial.hashes l.filters l.at l.children l.child-index))
    × (length (united l.initial.hashes l.filters l.at l.children l.child-index) ≡ 4)
