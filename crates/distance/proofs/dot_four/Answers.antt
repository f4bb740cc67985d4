use mathlib.Core.Path.{refl}
use native.Mathlib.Omega.{arith}
use Rattle.vector.specs.Vector.{dot, zero32}
use Rattle.distance.proofs.Fours.{dues_turn, dots}
use Rattle.distance.proofs.dot_four.Goals as goal

pub loop-i-init : goal.loop-i-init
unfolding dot zero32
loop-i-init c = (
  omega arith,
  record { a_value = (omega arith, refl); b_value = (omega arith, refl); c_value = (omega arith, refl); d_value = (omega arith, refl) },
)

pub loop-i-preserved : goal.loop-i-preserved
loop-i-preserved c =
    let s = c.args in
    let at = c.loop-i in
    let more = c.loop-i-test.true in (
      omega (arith, more, at.invariant.0),
      dues_turn s.q.now s.a.now s.b.now s.c.now s.d.now _ _ _ _ _ at.i at.invariant.1 more
          c.step_four-sums.ensures c.step_four-sums-in-loop-i.ensures c.step_four-sums-in-loop-i-2.ensures c.step_four-sums-in-loop-i-3.ensures,
    )

pub returns : goal.returns
returns c = dots _ _ _ _ _ _ _ c.loop-i.i c.loop-i.invariant.1 c.rest_four.ensures
