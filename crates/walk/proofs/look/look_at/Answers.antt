-- `look::look_at` meets its contract: a denied node shows an empty list, another what stands in it. Assumes nothing.
use Rattle.walk.proofs.Looks.{looks_denied, looks_passed}
use Rattle.walk.specs.Wanted.{sought}
use mathlib.Core.Path.{sym, ◌∙◌}
use Rattle.walk.proofs.look.look_at.Goals as goal

pub returns-then-denied : goal.returns-then-denied
returns-then-denied c =
    let a = c.args in
    λ name other. looks_denied a.shape a.counts a.numbers.now a.hashes.now (sought a.wanted name other) a.i
    (sym (c.denied.ensures name other) ∙ c.if-denied.true)

pub returns : goal.returns
returns c =
    let a = c.args in
    λ name other. looks_passed a.shape a.counts a.numbers.now a.hashes.now (sought a.wanted name other) a.i
    (sym (c.denied.ensures name other) ∙ c.if-denied.false) c.node_at.result (c.node_at.ensures name other)
