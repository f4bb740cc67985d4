-- By what the list holds: nothing, or a state, whose taking back is kept.
use Rattle.std.proofs.Common.{sym, ◌∙◌}
use Rattle.curator_c.proofs.Laws.{take_back_nothing, take_back_held}
use Rattle.curator_c.proofs.curator_take_back.Goals as goal

pub returns-in-None : goal.returns-in-None
returns-in-None c = take_back_nothing _ _ (sym c.state_in.ensures ∙ c.in-None.is)

pub returns-in-Some : goal.returns-in-Some
returns-in-Some c = take_back_held _ _ _ _ _ _ (sym c.state_in.ensures ∙ c.in-Some.is) c.take_back.ensures c.keep.ensures
