-- By what the list holds: nothing, or a state, whose build is kept.
use Rattle.std.proofs.Common.{sym, ◌∙◌}
use Rattle.curator_c.proofs.Laws.{build-nothing, build-held}
use Rattle.curator_c.proofs.curator_build.Goals as goal

pub returns-in-None : goal.returns-in-None
returns-in-None c = build-nothing _ _ _ (sym c.state_in.ensures ∙ c.in-None.is)

pub returns-in-Some : goal.returns-in-Some
returns-in-Some c = build-held _ _ _ _ _ _ _ _ _ (sym c.state_in.ensures ∙ c.in-Some.is) c.build.ensures c.keep.ensures
