-- `mark_root` meets its contract: cleared marks, and the root marked. Assumes nothing.
use Rattle.best_first_walk.specs.MarkLaws.{root_is}
use Rattle.std.proofs.Common.{refl, ◌+◌}
use Rattle.best_first_walk.proofs.mark_root.Goals as goal

pub returns : goal.returns
returns c =
    root_is c.args.shape c.args.counts c.args.work.now c.fill.new.self c.marks_at-start.result (c.marks_at-start.result + c.args.counts.nodes) c.requires.within.nodes c.requires.work_enough c.marks_at-start.ensures refl
    (c.fill.ensures.after (λ y e. e))
