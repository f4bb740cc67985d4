use Rattle.hit_queue.proofs.Measuring.{measured_none, measured_next}
use Rattle.hit_queue.specs.QueueLaws.{measure-front, measure-rest}
use Rattle.hit_queue.specs.Promises.{Measure, Measured}
use Rattle.walk.specs.StoreView.{hit_at}
use Rattle.lists.specs.Lists.{part}
use Rattle.lists.specs.Parts.{part-zero, length_part}
use lib.ListN.{length, length-map}
use mathlib.Core.List.{List, map}
use mathlib.Core.Path.{◌≡◌, sym, subst, ◌∙◌}
use native.Mathlib.Omega.{arith}
use Prim.Native.Nat.{ℕ, ◌+◌, ◌-◌, ◌≤◌}
use Rattle.hit_queue.proofs.queue.measure.Goals.{At-loop-j}
use Rattle.hit_queue.proofs.queue.measure.Goals as goal

abbrev Turn : Type 0
Turn = At-loop-j

abbrev hit : Turn → ℕ → ℕ
hit e = hit_at e.args.shape e.args.floats.now e.args.numbers.now e.args.query.now

-- the hits so far are as many as the numbers read
many : (t : Turn) → length (map (hit t) (part t.args.from t.loop-j.j t.args.heap.now)) ≡ t.loop-j.j
many t =
    let a = t.args in
    length-map (part a.from t.loop-j.j a.heap.now) (hit t)
    ∙ length_part a.from t.loop-j.j a.heap.now (let r : a.from + t.loop-j.j ≤ length a.heap.now = omega (arith, t.requires.measure.inside, t.loop-j.invariant.within) in r)

-- what the next numbers want
next : (t : Turn) (m : ℕ) → t.loop-j.j + m ≤ t.args.found → Measure t.args.counts t.loop-j.heap t.loop-j.queued (t.args.from + t.loop-j.j) m
next t m h =
    let e = t in
    let a = e.args in
    measure-front a.counts t.loop-j.heap t.loop-j.queued (a.from + t.loop-j.j) (a.found - t.loop-j.j) m (omega (arith, h))
    (measure-rest a.counts a.bound a.count t.loop-j.queued a.from a.found t.loop-j.j a.heap.now t.loop-j.heap _ e.requires.measure (many t) t.loop-j.invariant.within t.loop-j.invariant.measured)

-- and what their hits add
grown : (t : Turn) (m total : ℕ) (heap : List ℕ) → t.loop-j.j + m ≤ t.args.found
    → Measured t.args.bound (map (hit t) (part (t.args.from + t.loop-j.j) m t.loop-j.heap)) t.loop-j.queued t.loop-j.heap total heap
    → Measured t.args.bound (map (hit t) (part t.args.from (t.loop-j.j + m) t.args.heap.now)) t.args.count t.args.heap.now total heap
grown t m total heap h d =
    let e = t in
    let a = e.args in
    measured_next a.counts (hit e) a.bound a.count t.loop-j.queued total a.from a.found t.loop-j.j m a.heap.now t.loop-j.heap heap e.requires.measure h t.loop-j.invariant.measured d

pub loop-j-init : goal.loop-j-init
loop-j-init c =
    let a = c.args in
    record {
      within = omega arith;
      measured = subst (λ (l : List ℕ). Measured a.bound (map (hit_at a.shape a.floats.now a.numbers.now a.query.now) l) a.count a.heap.now a.count a.heap.now) (sym (part-zero a.from a.heap.now))
          (measured_none a.bound a.count a.heap.now c.requires.measure.queue);
    }

pub measure_eight-queued-requires : goal.measure_eight-queued-requires
measure_eight-queued-requires c =
    record { lent = c.requires.lent; measure = next ((goal.at.measure_eight-queued-requires c).At-loop-j) 8 (omega arith) }

pub loop-j-preserved-then-left-ge8 : goal.loop-j-preserved-then-left-ge8
loop-j-preserved-then-left-ge8 c =
    let eight = c.measure_eight-queued in
    let more : c.loop-j.j + 8 ≤ c.args.found = omega arith in
    record { within = more; measured = grown ((goal.at.loop-j-preserved-then-left-ge8 c).At-loop-j) 8 eight.result _ more eight.ensures }

pub measure_four-queued-requires : goal.measure_four-queued-requires
measure_four-queued-requires c =
    record { lent = c.requires.lent; measure = next ((goal.at.measure_four-queued-requires c).At-loop-j) 4 (omega arith) }

pub loop-j-preserved-then-left-ge4 : goal.loop-j-preserved-then-left-ge4
loop-j-preserved-then-left-ge4 c =
    let four = c.measure_four-queued in
    let more : c.loop-j.j + 4 ≤ c.args.found = omega arith in
    record { within = more; measured = grown ((goal.at.loop-j-preserved-then-left-ge4 c).At-loop-j) 4 four.result _ more four.ensures }

pub measure_few-queued-requires : goal.measure_few-queued-requires
measure_few-queued-requires c =
    record {
      some = omega arith;
      most = omega arith;
      vectors = record { lent = c.requires.lent; measure = next ((goal.at.measure_few-queued-requires c).At-loop-j) (c.args.found - c.loop-j.j) (omega arith) };
    }

pub loop-j-preserved : goal.loop-j-preserved
loop-j-preserved c =
    let few = c.measure_few-queued in
    let more : c.loop-j.j + (c.args.found - c.loop-j.j) ≤ c.args.found = omega arith in
    record { within = more; measured = grown ((goal.at.loop-j-preserved c).At-loop-j) (c.args.found - c.loop-j.j) few.result _ more few.ensures }

pub returns : goal.returns
returns c =
    let a = c.args in
    let all : c.loop-j.j ≡ a.found = omega arith in
    subst (λ (n : ℕ). Measured a.bound (map (hit_at a.shape a.floats.now a.numbers.now a.query.now) (part a.from n a.heap.now)) a.count a.heap.now c.loop-j.queued c.loop-j.heap) all c.loop-j.invariant.measured
