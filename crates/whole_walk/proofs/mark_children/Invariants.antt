-- `mark_children` meets its contract: the loop keeps `Marks`, whatever was found, and each way out is one of its ends. Assumes nothing.
use Rattle.std.specs.Prelude.{ℕ}
use Rattle.lists.specs.Lists.{part}
use Rattle.whole_walk.proofs.Marking.{Marks}
use Rattle.whole_walk.proofs.mark_children.Given as goal

abbrev pub invariant-loop-number : goal.invariant-loop-number
invariant-loop-number l =
    (found : ℕ) → Marks l.fn.shape l.fn.counts found l.parent (part l.fn.children.start l.fn.children.count l.numbers) l.initial.work l.number-index l.work
