use Rattle.std.proofs.Common.{ℕ, ◌+◌, ◌≤◌, List, arith, sym, subst, length, get_or, true, false, set}
use Rattle.lists.specs.Lists.{part}
use Rattle.lists.specs.Parts.{lent-run}
use Rattle.best_first_walk.specs.ChildLaws.{block_part, next_read, fresh-is}
use Rattle.whole_walk.proofs.Marking.{Marks, marks-none, marks-all, marks-damage, marks-next}
use Rattle.whole_walk.proofs.mark_children.Goals as goal

pub loop-number-init : goal.loop-number-init
loop-number-init c =
    λ found. marks-none c.args.shape c.args.counts found c.args.parent (part c.args.children.start c.args.children.count c.args.numbers.now) c.args.work.now

pub fresh_child-requires : goal.fresh_child-requires
fresh_child-requires c =
    omega (arith, c.marks_at-marks_at.ensures, c.requires.within.nodes, c.requires.work_enough, (c.loop-number.invariant 0).works.size)

pub loop-number-preserved : goal.loop-number-preserved
loop-number-preserved c =
    let a = c.args in
    let l : List ℕ = part a.children.start a.children.count a.numbers.now in
    let j = c.loop-number.number-index in
    let marked = c.loop-number.work in
    let child = get_or (block_part a.numbers.now a.children.start a.children.count) j 0 in
    λ found.
    subst (λ (at : ℕ). Marks a.shape a.counts found a.parent l a.work.now (j + 1) (set marked (at + child) 1)) (sym c.marks_at-marks_at.ensures)
    (marks-next a.shape a.counts found a.parent l a.work.now c.requires.within c.requires.work_enough j marked (c.loop-number.invariant found) child
    (next_read a.numbers.now a.children.start a.children.count j c.loop-number-test.true)
    (fresh-is a.shape a.counts marked a.parent child c.marks_at-marks_at.result c.fresh_child.result true c.marks_at-marks_at.ensures c.fresh_child.ensures c.if-not-fresh_child.false))

pub returns-then-not-fresh_child : goal.returns-then-not-fresh_child
returns-then-not-fresh_child c =
    let a = c.args in
    let l : List ℕ = part a.children.start a.children.count a.numbers.now in
    let j = c.loop-number.number-index in
    let marked = c.loop-number.work in
    let child = get_or (block_part a.numbers.now a.children.start a.children.count) j 0 in
    record {
      gives = λ hit view store p found n.
          marks-damage a.shape a.counts found a.parent l a.work.now c.requires.within c.requires.work_enough j marked (c.loop-number.invariant found) child
          (next_read a.numbers.now a.children.start a.children.count j c.loop-number-test.true)
          (fresh-is a.shape a.counts marked a.parent child c.marks_at-marks_at.result c.fresh_child.result false c.marks_at-marks_at.ensures c.fresh_child.ensures c.if-not-fresh_child.true)
          hit view store p n;
      works = (c.loop-number.invariant 0).works;
    }

pub returns : goal.returns
returns c =
    let a = c.args in
    let l : List ℕ = part a.children.start a.children.count a.numbers.now in
    let all : length l ≤ c.loop-number.number-index = subst (λ (t : List ℕ). length t ≤ c.loop-number.number-index) (lent-run a.children.start a.children.count a.numbers.now) (omega arith) in
    record {
      gives = λ hit view store p found n.
          marks-all a.shape a.counts found a.parent l a.work.now c.requires.within c.requires.work_enough c.loop-number.number-index c.loop-number.work (c.loop-number.invariant found) all hit view store p n;
      works = (c.loop-number.invariant 0).works;
    }
