-- `add_entries` meets its contract: the loop keeps that what the numbers read so far give was added, and each way out adds what came of the next chunk.
-- The measure is the numbers left: a chunk has one at least, since there is room for one number more than there can be hits. Assumes nothing.
use Rattle.std.specs.Prelude.{Ok}
use Rattle.std.proofs.Common.{◌-◌, ◌≤◌}
use Rattle.lists.specs.Lists.{part}
use Rattle.walk.specs.Wanted.{name_of}
use Rattle.leaf_hits.specs.Promises.{AddedEntries}
use Rattle.leaf_hits.proofs.add_entries.Given as goal

abbrev pub invariant-loop-read : goal.invariant-loop-read
invariant-loop-read l = record {
  within : l.read ≤ l.block.count;
  added : AddedEntries l.shape l.counts l.lists.numbers.now l.lists.hashes.now l.lists.text.now l.label.hash (name_of l.label)
      (part l.block.start l.read l.lists.numbers.now) l.before l.fn.found (Ok l.total) l.found;
}

abbrev pub decreases-loop-read : goal.decreases-loop-read
decreases-loop-read l = l.block.count - l.read
