use mathlib.Core.Path.{refl}
use Rattle.distance.proofs.Steps.{due-step, due-end}
use Rattle.distance.proofs.rest_four.Goals as goal

pub loop-i-preserved : goal.loop-i-preserved
loop-i-preserved c =
    let due = c.loop-i.invariant in
    let more = c.loop-i-test.true in
    let step = c.step_four-sums.ensures in (
      due-step _ _ _ _ _ _ _ due.0 more step.a_value refl,
      due-step _ _ _ _ _ _ _ due.1 more step.b_value refl,
      due-step _ _ _ _ _ _ _ due.2 more step.c_value refl,
      due-step _ _ _ _ _ _ _ due.3 more step.d_value refl,
    )

pub returns : goal.returns
returns c =
    let due = c.loop-i.invariant in
    let over = c.loop-i-test.false in record {
      a_value = due-end _ _ _ _ _ due.0 over;
      b_value = due-end _ _ _ _ _ due.1 over;
      c_value = due-end _ _ _ _ _ due.2 over;
      d_value = due-end _ _ _ _ _ due.3 over;
    }
