use native.Mathlib.Omega.{arith}
use Rattle.kmeans.proofs.Gathering.{gather_none, gather_room, gather_hit, gather_miss, gather_end}
use Rattle.kmeans.proofs.marks.gather.Goals as goal
use Rattle.kmeans.proofs.marks.gather.Goals.{then-work-i, else-work-i}

pub loop-i-init : goal.loop-i-init
loop-i-init c = gather_none _ _ _ _ c.requires.ids_len_bound c.requires.ids_in_bounds

pub bounds-work-at : goal.bounds-work-at
bounds-work-at c =
    let free = gather_room _ _ _ _ c.requires.ids_len_bound c.requires.ids_in_bounds c.loop-i.work c.loop-i.found c.loop-i.i c.loop-i.invariant c.loop-i-test.true c.loop-i.auto.work c.if-work-i.true in
    omega (arith, free)

pub loop-i-preserved : goal.loop-i-preserved
loop-i-preserved c =
    elim c.if-work-i.branch [
      | then-work-i w ↦
          rw (w.work-is, w.found-is)
          (gather_hit _ _ _ _ c.requires.ids_len_bound c.requires.ids_in_bounds _ _ _ c.loop-i.invariant c.loop-i-test.true w.if-work-i.true)
      | else-work-i w ↦
          rw (w.work-is, w.found-is)
          (gather_miss _ _ _ _ c.requires.ids_len_bound c.requires.ids_in_bounds _ _ _ c.loop-i.invariant c.loop-i-test.true w.if-work-i.false)
    ]

pub returns : goal.returns
returns c =
    let e = gather_end _ _ _ _ c.requires.ids_len_bound c.requires.ids_in_bounds _ _ _ c.loop-i.invariant c.loop-i-test.false in
    record { value = e.0; work_after = e.1 }
