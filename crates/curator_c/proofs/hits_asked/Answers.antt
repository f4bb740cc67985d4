-- By the test of the definition.
use borrow.Author.Tests.{lt-ltb, le-ltb}
use Rattle.curator_c.proofs.hits_asked.Goals as goal

pub returns-then-answer-lt3 : goal.returns-then-answer-lt3
returns-then-answer-lt3 c = simp (lt-ltb _ _ c.if-answer-lt3.true)

pub returns-else-answer-lt3 : goal.returns-else-answer-lt3
returns-else-answer-lt3 c = simp (le-ltb _ _ c.if-answer-lt3.false)
