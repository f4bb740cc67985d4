-- By the case of the answer and by the room in the list.
use Rattle.curator_c.proofs.Laws.{returns_refused, returns-short, returns-kept}
use Rattle.curator_c.proofs.keep.Goals as goal

pub returns-then-state-lt-STATE : goal.returns-then-state-lt-STATE
returns-then-state-lt-STATE c = returns-short _ _ _ c.in-Ok.is c.if-state-lt-STATE.true

pub returns-in-Err : goal.returns-in-Err
returns-in-Err c = returns_refused _ _ _ _ c.in-Err.is c.number.ensures

pub returns-else-state-lt-STATE : goal.returns-else-state-lt-STATE
returns-else-state-lt-STATE c = returns-kept _ _ _ _ c.in-Ok.is c.if-state-lt-STATE.false c.write_state.ensures
