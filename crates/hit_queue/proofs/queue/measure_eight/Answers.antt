-- `measure_eight` meets its contract: the hits of the back four after those of the front four, whose numbers are those of the part. Assumes nothing.
-- ---- the places that needs go back to
use Rattle.hit_queue.proofs.Measuring.{number_at, measured_append}
use Rattle.hit_queue.specs.Promises.{Measured}
use Rattle.walk.specs.StoreView.{hit_at}
use Rattle.lists.specs.Lists.{part}
use Rattle.lists.specs.Parts.{part-append-parts}
use mathlib.Core.List.{List, ◌++◌, map, map-append}
use mathlib.Core.Path.{sym, ap, ap₂, ◌∙◌, subst}
use native.Mathlib.Omega.{arith}
use Prim.Native.Nat.{ℕ, ◌+◌, ◌-◌}
use Rattle.hit_queue.proofs.queue.measure_eight.Goals as goal

pub eight_hits-eight-requires : goal.eight_hits-eight-requires
eight_hits-eight-requires c =
    let a = c.args in
    record {
      lent = c.requires.lent;
      inside = c.requires.measure.inside;
      held = λ p low high. (number_at a.counts a.heap.now a.count a.at 8 c.requires.measure (p - a.at) p (omega (arith, low, high)) (omega (arith, low))).held;
    }

pub returns : goal.returns
returns c =
    let a = c.args in
    let l = a.heap.now in
    let hit = hit_at a.shape a.floats.now a.numbers.now a.query.now in
    let first = c.push_four-queued in
    let second = c.push_four in
    let both = c.eight_hits-eight.ensures in
    subst (λ (hits : List ℕ). Measured a.bound hits a.count l second.result second.new.heap)
    (ap₂ (λ (xs ys : List ℕ). xs ++ ys) both.d_value both.d_value_2 ∙ sym (map-append hit (part a.at 4 l) (part (a.at + 4) 4 l)) ∙ ap (map hit) (part-append-parts a.at 4 4 l))
    (measured_append a.bound a.count first.result second.result l first.new.heap second.new.heap _ _ first.ensures second.ensures)
