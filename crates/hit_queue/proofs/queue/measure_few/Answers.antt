-- `measure_few` meets its contract: the numbers at the first few of the four places are those of the part. Assumes nothing.
-- ---- the places that needs go back to
use Rattle.hit_queue.proofs.Measuring.{number_at, few_mapped}
use Rattle.hit_queue.specs.Promises.{Measured, NumberAt}
use Rattle.walk.specs.StoreView.{hit_at}
use mathlib.Core.List.{List}
use mathlib.Core.Path.{subst}
use native.Mathlib.Omega.{arith}
use Prim.Native.Nat.{ℕ, ◌+◌, ◌-◌, ◌/◌}
use Rattle.hit_queue.proofs.queue.measure_few.Goals as goal

pub four_hits-four-requires : goal.four_hits-four-requires
four_hits-four-requires c =
    let a = c.args in
    let at = number_at a.counts a.heap.now a.count a.at a.few c.requires.vectors.measure in
    let last : NumberAt a.counts a.heap.now (a.at + a.few - 1) = at (a.few - 1) (a.at + a.few - 1) (omega (arith, c.requires.some)) (omega (arith, c.requires.some)) in
    record {
      lent = c.requires.vectors.lent;
      first = at 0 a.at (omega (arith, c.requires.some)) (omega arith);
      second = at (a.few / 2) (a.at + a.few / 2) (omega (arith, c.requires.some)) (omega arith);
      third = last;
      fourth = last;
    }

pub returns : goal.returns
returns c =
    let a = c.args in
    let four = c.four_hits-four.ensures in
    subst (λ (hits : List ℕ). Measured a.bound hits a.count a.heap.now c.push_few.result c.push_few.new.heap)
    (few_mapped (hit_at a.shape a.floats.now a.numbers.now a.query.now) a.heap.now a.at a.few _ _ _ c.requires.some c.requires.most c.requires.vectors.measure.inside
    four.a_value four.b_value four.c_value)
    c.push_few.ensures
