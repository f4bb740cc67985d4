-- By what the list holds: nothing, or a state, whose withdrawal returns its number.
use Rattle.std.proofs.Common.{sym, ◌∙◌}
use Rattle.curator_c.proofs.Laws.{withdraw-nothing, withdraw-held}
use Rattle.curator_c.proofs.curator_withdraw.Goals as goal

pub returns-in-None : goal.returns-in-None
returns-in-None c = withdraw-nothing _ _ _ (sym c.state_in.ensures ∙ c.in-None.is)

pub returns-in-Some : goal.returns-in-Some
returns-in-Some c = withdraw-held _ _ _ _ _ _ _ (sym c.state_in.ensures ∙ c.in-Some.is) c.withdraw.ensures c.returned.ensures
