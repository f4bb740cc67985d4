use Prim.Native.Nat.{◌<◌}
use mathlib.Core.Path.{sym}
use native.Mathlib.Omega.{arith}
use lib.Arith.{lt_of_le-ne}
use Rattle.build_tree.proofs.Building.{loop_begins, loop_lent, loop_waits, loop_step, loop_whole, loop_overfull}
use Rattle.build_tree.proofs.build_tree.Goals as goal

pub loop-done-init : goal.loop-done-init
loop-done-init c = (omega arith, loop_begins c.requires c.order_at.ensures c.begin.ensures)

pub returns-then-made-shape : goal.returns-then-made-shape
returns-then-made-shape c =
    loop_overfull c.requires c.order_at.ensures c.begin.ensures c.loop-done.invariant.1 c.loop-done-test.true (sym c.if-made-shape.true)

pub make_node-done-requires : goal.make_node-done-requires
make_node-done-requires c =
    let more : c.loop-done.made < c.args.shape.nodes = lt_of_le-ne c.loop-done.invariant.0 c.if-made-shape.false in
    record {
      tree_lent = loop_lent c.requires c.order_at.ensures c.begin.ensures c.loop-done.invariant.1;
      waits = loop_waits c.requires c.order_at.ensures c.begin.ensures c.loop-done.invariant.1 c.loop-done-test.true more;
    }

pub loop-done-preserved : goal.loop-done-preserved
loop-done-preserved c =
    let more : c.loop-done.made < c.args.shape.nodes = lt_of_le-ne c.loop-done.invariant.0 c.if-made-shape.false in
    let m = c.make_node-done in
    let kept = m.auto in
    (omega arith, loop_step c.requires c.order_at.ensures c.begin.ensures c.loop-done.invariant.1 c.loop-done-test.true more m.ensures kept.floats kept.numbers kept.work)

pub returns : goal.returns
returns c =
    loop_whole c.requires c.order_at.ensures c.begin.ensures c.loop-done.invariant.1 c.loop-done-test.false c.loop-done.invariant.0
