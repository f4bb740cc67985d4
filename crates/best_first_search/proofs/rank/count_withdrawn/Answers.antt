use Rattle.best_first_search.proofs.Struck.{counted_part, number-marked, passed_start, passed-next, passed-all}
use Rattle.best_first_search.specs.Ranks.{withdrawn}
use Rattle.lists.specs.Lists.{keep}
use Rattle.lists.specs.Parts.{lent-run}
use Rattle.std.proofs.Common.{ℕ, List, length, ap, ◌∙◌}
use Rattle.best_first_search.proofs.rank.count_withdrawn.Goals as goal

pub loop-vector-init : goal.loop-vector-init
loop-vector-init c = passed_start (withdrawn c.args.marks.now) (counted_part c.args.from c.args.found c.args.list.now)

pub bounds-marks-vector : goal.bounds-marks-vector
bounds-marks-vector c =
    let a = c.args in
    number-marked a.marks.now a.list.now (counted_part a.from a.found a.list.now) a.from a.found c.loop-vector.vector-index c.requires (lent-run a.from a.found a.list.now) c.loop-vector-test.true

pub loop-vector-preserved : goal.loop-vector-preserved
loop-vector-preserved c =
    let a = c.args in
    passed-next (withdrawn a.marks.now) (counted_part a.from a.found a.list.now) c.loop-vector.count c.loop-vector.vector-index c.loop-vector-test.true c.loop-vector.invariant

pub returns : goal.returns
returns c =
    let a = c.args in
    passed-all (withdrawn a.marks.now) (counted_part a.from a.found a.list.now) c.loop-vector.count c.loop-vector.vector-index c.loop-vector-test.false c.loop-vector.invariant
    ∙ ap (λ (l : List ℕ). length (keep (withdrawn a.marks.now) l)) (lent-run a.from a.found a.list.now)
