-- By the tests of the definition, in its order.
use borrow.Author.Tests.{lt-ltb, le-ltb, eq-eqb, ne_eqb}
use Rattle.curator_c.specs.State.{state_in}
use Rattle.curator_c.proofs.state.state_in.Goals as goal

pub returns-then-state-lt-STATE : goal.returns-then-state-lt-STATE
unfolding state_in
returns-then-state-lt-STATE c = simp (lt-ltb _ _ c.if-state-lt-STATE.true)

pub returns-then-state-eq0 : goal.returns-then-state-eq0
unfolding state_in
returns-then-state-eq0 c = simp (c.state_of.ensures, le-ltb _ _ c.if-state-lt-STATE.false, eq-eqb _ _ c.if-state-eq0.true)

pub returns-then-state-eq1 : goal.returns-then-state-eq1
unfolding state_in
returns-then-state-eq1 c =
    simp (c.state_of-then-state-eq1.ensures, le-ltb _ _ c.if-state-lt-STATE.false, ne_eqb _ _ c.if-state-eq0.false, eq-eqb _ _ c.if-state-eq1.true)

pub returns : goal.returns
unfolding state_in
returns c =
    simp (le-ltb _ _ c.if-state-lt-STATE.false, ne_eqb _ _ c.if-state-eq0.false, ne_eqb _ _ c.if-state-eq1.false)
