-- `push_two` meets its contract: one hit after the other. Assumes nothing.
use Rattle.hit_queue.proofs.Measuring.{measured_append}
use Rattle.record_queue.specs.Records.{value}
use mathlib.Core.List.{[], ◌∷◌}
use Rattle.hit_queue.proofs.queue.push_two.Goals as goal

pub returns : goal.returns
returns c =
    let a = c.args in
    let first = c.push_within-one in
    let second = c.push_within in
    measured_append a.bound a.count first.result second.result a.heap.now first.new.heap second.new.heap (value a.a ∷ []) (value a.b ∷ []) first.ensures second.ensures
