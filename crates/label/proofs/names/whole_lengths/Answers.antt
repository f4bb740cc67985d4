use Rattle.std.proofs.Common.{sym, ◌∙◌}
use Rattle.label.proofs.Steps.{whole-step, whole-end, whole-all}
use Rattle.label.proofs.names.whole_lengths.Goals as goal

pub loop-i-init : goal.loop-i-init
loop-i-init c = whole-all c.args.pairs.now c.args.lengths.now c.requires

pub loop-i-preserved : goal.loop-i-preserved
loop-i-preserved c = sym (whole-step _ _ _ c.loop-i-test.true) ∙ c.loop-i.invariant

pub returns : goal.returns
returns c = sym (whole-end _ _ _ c.loop-i-test.false) ∙ c.loop-i.invariant
