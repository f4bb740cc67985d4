-- `measure_four` meets its contract: the numbers at the four places are those of the part. Assumes nothing.
-- ---- the places that needs go back to
use Rattle.hit_queue.proofs.Measuring.{number_at}
use Rattle.lists.specs.Parts.{four_mapped}
use Rattle.hit_queue.specs.Promises.{Measured}
use Rattle.walk.specs.StoreView.{hit_at}
use mathlib.Core.List.{List}
use mathlib.Core.Path.{refl, subst}
use native.Mathlib.Omega.{arith}
use Prim.Native.Nat.{ℕ}
use Rattle.hit_queue.proofs.queue.measure_four.Goals as goal

pub four_hits-four-requires : goal.four_hits-four-requires
four_hits-four-requires c =
    let a = c.args in
    let at = number_at a.counts a.heap.now a.count a.at 4 c.requires.measure in
    record {
      lent = c.requires.lent;
      first = at 0 a.at (omega arith) (omega arith);
      second = at 1 _ (omega arith) refl;
      third = at 2 _ (omega arith) refl;
      fourth = at 3 _ (omega arith) refl;
    }

pub returns : goal.returns
returns c =
    let a = c.args in
    let four = c.four_hits-four.ensures in
    subst (λ (hits : List ℕ). Measured a.bound hits a.count a.heap.now c.push_four.result c.push_four.new.heap)
    (four_mapped (hit_at a.shape a.floats.now a.numbers.now a.query.now) a.heap.now a.at 0 _ _ _ _ c.requires.measure.inside four.a_value four.b_value four.c_value four.d_value)
    c.push_four.ensures
