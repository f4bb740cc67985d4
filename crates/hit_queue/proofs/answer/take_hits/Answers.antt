use Rattle.hit_queue.proofs.Taking.{due-same, due-struck, taking_start, taking_skip, taking_other, taken-all}
use Rattle.walk.specs.Answer.{is_live}
use Rattle.std.proofs.Common.{sym, ◌∙◌, arith}
use Rattle.hit_queue.proofs.answer.take_hits.Goals as goal

pub loop-hits-init : goal.loop-hits-init
loop-hits-init c =
    taking_start (is_live c.args.marks.now) c.args.heap.now c.args.count c.args.k c.args.ids.now c.args.distances.now c.requires.queue

pub pop-least-requires : goal.pop-least-requires
pop-least-requires c =
    record {
      narrow = omega arith;
      wide = omega arith;
      some = c.if-left-gt0.true;
      room = omega (arith, c.loop-hits.invariant.few, c.loop-hits.invariant.size, c.requires.room);
      heap = c.loop-hits.invariant.queue;
    }

pub loop-hits-preserved-then-live : goal.loop-hits-preserved-then-live
loop-hits-preserved-then-live c =
    let loop = c.loop-hits in
    let a = c.args in
    taking_other (is_live a.marks.now) a.heap.now a.count a.k a.ids.now a.distances.now loop.heap _ loop.ids loop.distances loop.hits loop.left loop.last
    c.pop-least.result _ loop.invariant c.pop-least.ensures (omega arith) c.if-document-last.true (sym c.live.ensures ∙ c.if-live.true) (omega arith)
    c.from_key.ensures

pub loop-hits-preserved-else-live : goal.loop-hits-preserved-else-live
loop-hits-preserved-else-live c =
    let loop = c.loop-hits in
    let a = c.args in
    taking_skip (is_live a.marks.now) a.heap.now a.count a.k a.ids.now a.distances.now loop.heap _ loop.ids loop.distances loop.hits loop.left loop.last _
    c.pop-least.result loop.invariant c.pop-least.ensures
    (due-struck (is_live a.marks.now) loop.heap _ loop.left loop.last c.pop-least.result c.pop-least.ensures (omega arith) c.if-document-last.true (sym c.live.ensures ∙ c.if-live.false))

pub loop-hits-preserved : goal.loop-hits-preserved
loop-hits-preserved c =
    let loop = c.loop-hits in
    let a = c.args in
    taking_skip (is_live a.marks.now) a.heap.now a.count a.k a.ids.now a.distances.now loop.heap _ loop.ids loop.distances loop.hits loop.left loop.last _
    c.pop-least.result loop.invariant c.pop-least.ensures
    (due-same (is_live a.marks.now) loop.heap _ loop.left loop.last c.pop-least.result c.pop-least.ensures (omega arith) c.if-document-last.false)

pub returns-else-left-gt0 : goal.returns-else-left-gt0
returns-else-left-gt0 c =
    let loop = c.loop-hits in
    let a = c.args in
    taken-all (is_live a.marks.now) a.heap.now a.count a.k a.ids.now a.distances.now loop.heap loop.ids loop.distances loop.hits loop.left
    loop.last (omega arith) loop.invariant
