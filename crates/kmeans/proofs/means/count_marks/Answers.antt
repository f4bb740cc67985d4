use Prim.Native.Nat.{◌<◌}
use native.Mathlib.Omega.{arith}
use lib.ListN.{length, get_or}
use Rattle.kmeans.proofs.Averaging.{counting_none, counting_fits, counting_next, counting_all}
use Rattle.kmeans.proofs.means.count_marks.Goals as goal

pub loop-mark-init : goal.loop-mark-init
loop-mark-init c = counting_none _ _ c.requires.by_index_2

pub overflow_add-counts : goal.overflow_add-counts
overflow_add-counts c =
    let l = c.loop-mark in
    -- the mark of a turn has a count
    let low : get_or c.args.marks.now l.mark-index 0 < length l.counts = omega (arith, c.requires.by_index l.mark-index c.loop-mark-test.true, l.auto.counts) in
    let few = counting_fits c.args.marks.now l.counts l.mark-index l.invariant c.loop-mark-test.true low in
    omega (arith, few, c.requires.marks_len_bound)

pub loop-mark-preserved : goal.loop-mark-preserved
loop-mark-preserved c =
    let l = c.loop-mark in
    let low : get_or c.args.marks.now l.mark-index 0 < length l.counts = omega (arith, c.requires.by_index l.mark-index c.loop-mark-test.true, l.auto.counts) in
    counting_next c.args.marks.now l.counts l.mark-index l.invariant c.loop-mark-test.true low

pub returns : goal.returns
returns c = λ j h.
    let p = c.args in
    let l = c.loop-mark in
    counting_all p.marks.now l.counts l.mark-index l.invariant c.loop-mark-test.false j (omega (arith, l.auto.counts))
