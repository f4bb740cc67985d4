-- `gather_entries` meets its contract: the loop keeps that the numbers read so far were gathered, and each way out adds what came of the next ones. The
-- measure is the numbers left. Assumes nothing.
use Rattle.std.proofs.Common.{◌+◌, ◌-◌, ◌≤◌, get_or, ltb, eqb, ◌&&◌}
use Rattle.lists.specs.Lists.{part}
use Rattle.leaf_hits.specs.Promises.{GatheredBy}
use Rattle.leaf_hits.proofs.gather_entries.Given as goal

abbrev pub invariant-loop-read : goal.invariant-loop-read
invariant-loop-read l = record {
  within : l.read ≤ l.block.count;
  gathered : GatheredBy (λ x. ltb x l.counts.entries && ltb (get_or l.lists.numbers.now (l.owners_at + x) 0) l.counts.vectors)
      (λ x. eqb (get_or l.lists.hashes.now x 0) l.hash) (λ x. x) (l.counts.entries + 1) (part l.block.start l.read l.lists.numbers.now) l.before l.fn.found l.total l.found;
}

abbrev pub decreases-loop-read : goal.decreases-loop-read
decreases-loop-read l = l.block.count - l.read
