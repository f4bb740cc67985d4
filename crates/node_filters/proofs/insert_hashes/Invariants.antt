-- The hashes of the first entries are inserted; the hashes before the filter stay.
-- Assumes nothing.
use Rattle.std.proofs.Common.{◌≡◌}
use Rattle.std.proofs.lemmas.List.Edits.{sets}
use Rattle.node_filters.proofs.Filtering.{inserted}
use Rattle.node_filters.proofs.insert_hashes.Given as goal

abbrev pub invariant-loop-entry : goal.invariant-loop-entry
invariant-loop-entry l = l.hashes ≡ sets l.initial.hashes l.at (inserted l.initial.hashes l.at l.entries l.entry-index)
