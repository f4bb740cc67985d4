use Rattle.best_first_search.proofs.Ranking.{ranking_start, next-room, ranking_next, ranked}
use Rattle.hit_queue.specs.QueueLaws.{measure-front}
use Rattle.hit_queue.specs.Promises.{hits_of}
use Rattle.walk.specs.StoreView.{hit_at}
use Rattle.lists.specs.Lists.{part}
use Rattle.std.proofs.Common.{ℕ, ◌*◌, ◌≤◌, List, refl, arith}
use Rattle.best_first_search.proofs.rank.rank.Goals as goal
use Rattle.best_first_search.proofs.rank.rank.Goals.{After-first_chunk-chunk}

abbrev hit : After-first_chunk-chunk → ℕ → ℕ
hit e = hit_at e.args.shape e.args.floats.now e.args.numbers.now e.args.query.now

abbrev hits : After-first_chunk-chunk → List ℕ
hits e = hits_of e.args.shape e.args.floats.now e.args.numbers.now e.args.query.now (part e.args.from e.args.found e.args.heap.now)

pub loop-chunk-init : goal.loop-chunk-init
loop-chunk-init c =
    let e = (goal.at.loop-chunk-init c).After-first_chunk-chunk in
    ranking_start c.args.counts (hit e) c.args.k c.args.found c.args.from c.first_chunk-chunk.result c.args.heap.now c.first_chunk-chunk.ensures c.requires.measure

pub measure-queued-requires : goal.measure-queued-requires
measure-queued-requires c =
    let l = c.loop-chunk in
    record { lent = c.requires.lent; measure = measure-front c.args.counts l.heap l.queued l.at l.left l.chunk (omega (arith, c.loop-chunk-test.true)) l.invariant.measure }

pub keep_first-kept-requires : goal.keep_first-kept-requires
keep_first-kept-requires c =
    let e = (goal.at.keep_first-kept-requires c).After-first_chunk-chunk in
    let l = c.loop-chunk in
    record {
      room = next-room c.args.counts (hit e) c.args.k c.args.found (hits e) c.args.heap.now l.heap _ l.chunk l.queued l.bound l.at l.left l.chunk c.measure-queued.result l.invariant
          (omega (arith, c.loop-chunk-test.true)) c.measure-queued.ensures;
      queue = c.measure-queued.ensures.queue;
    }

pub loop-chunk-smaller : goal.loop-chunk-smaller
loop-chunk-smaller c =
    let some : 1 ≤ c.loop-chunk.chunk = omega (arith, c.loop-chunk-test.true, c.loop-chunk.invariant.some, c.loop-chunk.invariant.few) in
    omega (arith, c.loop-chunk-test.true)

pub loop-chunk-preserved : goal.loop-chunk-preserved
loop-chunk-preserved c =
    let e = (goal.at.loop-chunk-preserved c).After-first_chunk-chunk in
    let l = c.loop-chunk in
    let some : 1 ≤ l.chunk = omega (arith, c.loop-chunk-test.true, l.invariant.some, l.invariant.few) in
    ranking_next c.args.counts (hit e) c.args.k c.args.found (hits e) c.args.heap.now l.heap _ l.chunk l.queued l.bound l.at l.left l.chunk c.measure-queued.result l.invariant
    (omega (arith, c.loop-chunk-test.true)) c.measure-queued.ensures (l.chunk * 2) c.keep_first-kept.result _ (omega arith) c.loop-chunk-test.true c.keep_first-kept.ensures

pub measure-requires : goal.measure-requires
measure-requires c = record { lent = c.requires.lent; measure = c.loop-chunk.invariant.measure }

pub returns : goal.returns
returns c =
    let e = (goal.at.returns c).After-first_chunk-chunk in
    let l = c.loop-chunk in
    ranked c.args.counts (hit e) c.args.k c.args.found (hits e) c.args.heap.now l.heap _ l.chunk l.queued l.bound l.at l.left l.left c.measure.result l.invariant
    (omega arith) c.measure.ensures refl
