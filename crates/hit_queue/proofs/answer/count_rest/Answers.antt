use Rattle.hit_queue.proofs.Taking.{due-same, due-struck, counting_start, counting_skip, counting_other, counted}
use Rattle.walk.specs.Answer.{is_live}
use Rattle.std.proofs.Common.{sym, ◌∙◌, arith}
use Rattle.hit_queue.proofs.answer.count_rest.Goals as goal

pub loop-left-init : goal.loop-left-init
loop-left-init c =
    counting_start (is_live c.args.marks.now) c.args.heap.now c.args.count c.args.after c.requires.queue

pub pop-least-requires : goal.pop-least-requires
pop-least-requires c =
    let loop = c.loop-left in
    record {
      narrow = omega arith;
      wide = omega arith;
      some = c.loop-left-test.true;
      room = omega (arith, loop.invariant.few, loop.invariant.size, c.requires.room);
      heap = loop.invariant.queue;
    }

pub loop-left-preserved-then-live : goal.loop-left-preserved-then-live
loop-left-preserved-then-live c =
    let a = c.args in
    let loop = c.loop-left in
    counting_other (is_live a.marks.now) a.heap.now a.count a.after loop.heap _ loop.total loop.left loop.last c.pop-least.result loop.invariant
    c.loop-left-test.true c.pop-least.ensures (omega arith) c.if-id-last.true (sym c.live.ensures ∙ c.if-live.true)

pub loop-left-preserved-else-live : goal.loop-left-preserved-else-live
loop-left-preserved-else-live c =
    let a = c.args in
    let loop = c.loop-left in
    counting_skip (is_live a.marks.now) a.heap.now a.count a.after loop.heap _ loop.total loop.left loop.last _ c.pop-least.result loop.invariant c.pop-least.ensures
    (due-struck (is_live a.marks.now) loop.heap _ loop.left loop.last c.pop-least.result c.pop-least.ensures (omega arith) c.if-id-last.true (sym c.live.ensures ∙ c.if-live.false))

pub loop-left-preserved : goal.loop-left-preserved
loop-left-preserved c =
    let a = c.args in
    let loop = c.loop-left in
    counting_skip (is_live a.marks.now) a.heap.now a.count a.after loop.heap _ loop.total loop.left loop.last _ c.pop-least.result loop.invariant c.pop-least.ensures
    (due-same (is_live a.marks.now) loop.heap _ loop.left loop.last c.pop-least.result c.pop-least.ensures (omega arith) c.if-id-last.false)

pub returns : goal.returns
returns c =
    let a = c.args in
    let loop = c.loop-left in
    counted (is_live a.marks.now) a.heap.now a.count a.after loop.heap loop.total loop.left loop.last c.loop-left-test.false loop.invariant
