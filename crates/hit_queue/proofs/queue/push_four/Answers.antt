-- `push_four` meets its contract: two hits after two others, or none of them. Assumes nothing.
use Rattle.hit_queue.proofs.Measuring.{measured_append, past-four}
use Rattle.record_queue.specs.Records.{value}
use mathlib.Core.List.{[], ◌∷◌}
use native.Mathlib.Omega.{arith}
use Rattle.hit_queue.proofs.queue.push_four.Goals as goal

pub returns-then-bound-a : goal.returns-then-bound-a
returns-then-bound-a c =
    let a = c.args in
    past-four a.bound a.count a.heap.now a.a a.b a.c a.d (omega arith, omega arith) (omega arith, omega arith) (omega arith, omega arith) (omega arith, omega arith) c.if-bound-a.true c.requires.queue

pub returns : goal.returns
returns c =
    let a = c.args in
    let first = c.push_two-two in
    let second = c.push_two in
    measured_append a.bound a.count first.result second.result a.heap.now first.new.heap second.new.heap (value a.a ∷ value a.b ∷ []) (value a.c ∷ value a.d ∷ [])
    first.ensures second.ensures
