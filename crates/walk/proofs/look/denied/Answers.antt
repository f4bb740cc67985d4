-- `look::denied` meets its contract: everything is denied nowhere, a label where the filter lacks one of its hash's bits, two where either is. Assumes nothing.
use Rattle.walk.specs.Wanted.{denies}
use Rattle.walk.proofs.look.denied.Goals as goal

pub returns-in-Everything : goal.returns-in-Everything
unfolding denies
returns-in-Everything c = λ name other. rw c.in-Everything.is

pub returns-in-Label : goal.returns-in-Label
unfolding denies
returns-in-Label c = λ name other. rw (c.in-Label.is, c.admits.ensures)

pub returns-in-Both : goal.returns-in-Both
unfolding denies
returns-in-Both c = λ name other. rw (c.in-Both.is, c.admits-one.ensures, c.admits-two.ensures)
