use mathlib.Core.Path.{refl}
use native.Mathlib.Omega.{arith}
use Rattle.vector.specs.Vector.{dot, zero32}
use Rattle.distance.proofs.Fours.{eight, dues_turn, dots}
use Rattle.distance.proofs.dot_eight.Goals as goal

pub loop-i-init : goal.loop-i-init
unfolding dot zero32
loop-i-init c = (
  omega arith,
  record { a_value = (omega arith, refl); b_value = (omega arith, refl); c_value = (omega arith, refl); d_value = (omega arith, refl) },
  record { a_value = (omega arith, refl); b_value = (omega arith, refl); c_value = (omega arith, refl); d_value = (omega arith, refl) },
)

pub loop-i-preserved : goal.loop-i-preserved
loop-i-preserved c =
    let s = c.args in
    let at = c.loop-i in
    let more = c.loop-i-test.true in (
      omega (arith, more, at.invariant.0),
      dues_turn s.q.now s.a.now s.b.now s.c.now s.d.now _ _ _ _ _ at.i at.invariant.1 more
          c.step_four-front.ensures c.step_four-front-in-loop-i.ensures c.step_four-front-in-loop-i-2.ensures c.step_four-front-in-loop-i-3.ensures,
      dues_turn s.q.now s.e.now s.f.now s.g.now s.h.now _ _ _ _ _ at.i at.invariant.2 more
          c.step_four-back.ensures c.step_four-back-in-loop-i.ensures c.step_four-back-in-loop-i-2.ensures c.step_four-back-in-loop-i-3.ensures,
    )

pub returns : goal.returns
returns c =
    let at = c.loop-i in
    eight (dots _ _ _ _ _ at.front c.rest_four.result at.i at.invariant.1 c.rest_four.ensures)
    (dots _ _ _ _ _ at.back c.rest_four-2.result at.i at.invariant.2 c.rest_four-2.ensures)
