-- By what the list holds: nothing, or a state, whose add is kept.
use Rattle.std.proofs.Common.{sym, ◌∙◌}
use Rattle.curator_c.proofs.Laws.{add_nothing, add-held}
use Rattle.curator_c.proofs.curator_add.Goals as goal

pub returns-in-None : goal.returns-in-None
returns-in-None c = add_nothing _ _ _ (sym c.state_in.ensures ∙ c.in-None.is)

pub returns-in-Some : goal.returns-in-Some
returns-in-Some c = add-held _ _ _ _ _ _ _ _ (sym c.state_in.ensures ∙ c.in-Some.is) c.add.ensures c.keep.ensures
