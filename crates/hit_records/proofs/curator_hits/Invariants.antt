-- `hit_records::curator_hits` meets its contract.
-- In each turn the record of place i is stored at place i: so between turns the list has its first i records stored (`so_far`).
-- Assumes nothing.
use Rattle.std.proofs.Common.{◌≡◌}
use Rattle.hit_records.proofs.HitsLaws.{so_far}
use Rattle.hit_records.proofs.curator_hits.Given as goal

abbrev pub invariant-loop-i : goal.invariant-loop-i
invariant-loop-i l = l.hits ≡ so_far l.initial.hits l.ids l.distances l.i
