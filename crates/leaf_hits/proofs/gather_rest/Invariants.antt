-- `gather_rest` meets its contract: the loop keeps `Gathering`, and each way out is one of its ends. Assumes nothing.
use Rattle.std.proofs.Common.{◌+◌, ◌≤◌, get_or, ltb, eqb, ◌&&◌}
use Rattle.leaf_hits.specs.Gathering.{Gathering}
use Rattle.leaf_hits.proofs.gather_rest.Given as goal

abbrev pub invariant-loop-number : goal.invariant-loop-number
invariant-loop-number l = record {
  gathering : Gathering (λ x. ltb x l.counts.entries && ltb (get_or l.numbers (l.owners_at + x) 0) l.counts.vectors) (λ x. eqb (get_or l.hashes x 0) l.hash)
      (λ x. x) (l.counts.entries + 1) l.number-items l.before l.fn.found l.number-index l.total l.found;
  few : l.total ≤ l.before + l.number-index;
}
