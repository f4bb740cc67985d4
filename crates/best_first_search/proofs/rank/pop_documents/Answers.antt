use Rattle.best_first_search.proofs.Ranking.{popping_start, popping_same, popping_other, pops_enough, pops_all}
use Rattle.std.proofs.Common.{arith}
use Rattle.best_first_search.proofs.rank.pop_documents.Goals as goal

pub loop-hits-init : goal.loop-hits-init
loop-hits-init c = popping_start c.args.heap.now c.args.count c.args.k c.requires.queue

pub pop_behind-least-requires : goal.pop_behind-least-requires
pop_behind-least-requires c =
    let loop = c.loop-hits in
    record { some = omega (arith, c.if-left-eq0.false); room = omega (arith, loop.invariant.few, loop.invariant.size, c.requires.room); queue = loop.invariant.queue }

pub loop-hits-preserved-then-document-last : goal.loop-hits-preserved-then-document-last
loop-hits-preserved-then-document-last c =
    let a = c.args in
    let loop = c.loop-hits in
    popping_other a.heap.now a.count a.k loop.heap _ loop.hits loop.left loop.last loop.key c.pop_behind-least.result loop.invariant c.pop_behind-least.ensures
    (omega (arith, c.if-left-eq0.false)) (omega arith) c.if-document-last.true c.loop-hits-test.true

pub loop-hits-preserved : goal.loop-hits-preserved
loop-hits-preserved c =
    let a = c.args in
    let loop = c.loop-hits in
    popping_same a.heap.now a.count a.k loop.heap _ loop.hits loop.left loop.last loop.key c.pop_behind-least.result loop.invariant c.pop_behind-least.ensures
    (omega (arith, c.if-left-eq0.false)) (omega arith) c.if-document-last.false

pub returns : goal.returns
returns c =
    let a = c.args in
    let loop = c.loop-hits in
    pops_enough a.heap.now a.count a.k loop.heap loop.hits loop.left loop.last loop.key loop.invariant c.loop-hits-test.false

pub returns-then-left-eq0 : goal.returns-then-left-eq0
returns-then-left-eq0 c =
    let a = c.args in
    let loop = c.loop-hits in
    pops_all a.heap.now a.count a.k loop.heap loop.hits loop.left loop.last loop.key loop.invariant c.if-left-eq0.true
