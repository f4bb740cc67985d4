use mathlib.Core.Path.{sym}
use lib.ListN.{length-map}
use lib.Ieee.{nan, binary32, div}
use Rattle.lists.specs.Maps.{get_d_map}
use Rattle.lists.specs.Writes.{writing_none, whole-next, whole-all}
use Rattle.vector.proofs.divide_into.Goals as goal

pub loop-i-init : goal.loop-i-init
loop-i-init c = writing_none _ _ _ _ (length-map c.args.v.now (λ x. div binary32 x c.args.n))

pub loop-i-preserved : goal.loop-i-preserved
loop-i-preserved c =
    let args = c.args in
    whole-next nan c.loop-i.invariant c.loop-i-test.true
    (sym (get_d_map (λ x. div binary32 x args.n) args.v.now _ nan nan c.loop-i-test.true))

pub returns : goal.returns
returns c = whole-all c.loop-i.invariant c.requires c.loop-i-test.false
