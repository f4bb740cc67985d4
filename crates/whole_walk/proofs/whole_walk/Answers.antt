use Rattle.std.proofs.Common.{ℕ, ◌+◌, ◌^◌, ◌≤◌, ◌<◌, ◌≡◌, List, [], Float, length, get_or, arith, ap}
use Rattle.store.specs.Lent.{store_of}
use Rattle.store.specs.Store.{Store, marks_at, work_size}
use Rattle.walk.proofs.LentLaws.{works_refl, works_trans}
use Rattle.walk.specs.StoreView.{hit_at, store_view}
use Rattle.walk.proofs.StoreViewLaws.{store-children, store-children-below}
use Rattle.walk.specs.Walk.{View}
use Rattle.walk.proofs.Damage.{is_damage}
use Rattle.walk.specs.Wanted.{Sought, about}
use Rattle.walk.proofs.DifferentLaws.{ChildrenBelow}
use Rattle.walk.specs.Promises.{Works}
use Rattle.best_first_walk.specs.GatherLaws.{most-is}
use Rattle.whole_walk.proofs.Passing.{root-works, root-notes, unkeyed, ChildrenAbove, passes-start, passes-few, passes-skip, passes-next, passes-damage, ends-whole, ends-damaged}
use Rattle.whole_walk.proofs.whole_walk.Goals as goal
use Rattle.whole_walk.proofs.whole_walk.Goals.{After-mark_root}

-- ---- once the root is marked: what the search is about, and a query and vectors that were not lent

abbrev wants : After-mark_root → Sought
wants m = about m.args.wanted

abbrev hit : After-mark_root → List Float → List Float → ℕ → ℕ
hit m floats query = hit_at m.args.shape floats m.args.lists.numbers.now query

abbrev store : After-mark_root → List Float → Store
store m floats = store_of floats m.args.lists.numbers.now m.args.lists.hashes.now m.args.lists.text.now

abbrev view : After-mark_root → List Float → List Float → View
view m floats query = store_view m.args.shape m.args.counts (store m floats) query (wants m)

above : (m : After-mark_root) (floats query : List Float) → ChildrenAbove (view m floats query) m.args.counts.nodes
above m floats query = store-children m.args.shape m.args.counts (store m floats) query (wants m)

below : (m : After-mark_root) (floats query : List Float) → ChildrenBelow (view m floats query) m.args.counts.nodes
below m floats query = store-children-below m.args.shape m.args.counts (store m floats) query (wants m)

nodes_fit : (m : After-mark_root) → m.args.counts.nodes ≤ 2 ^ 64
nodes_fit m = omega (arith, m.requires.within.nodes, m.requires.within.limits.nodes_high)

-- nothing but the work part changes
root : (m : After-mark_root) → Works m.args.shape m.args.work.now m.mark_root.new.work
root m = root-works m.args.shape m.args.counts m.args.work.now m.mark_root.new.work m.requires.within.nodes m.requires.some m.mark_root.ensures

works : (m : After-mark_root) (now : List ℕ) → Works m.args.shape m.mark_root.new.work now → Works m.args.shape m.args.work.now now
works m now w = works_trans m.args.shape m.args.work.now m.mark_root.new.work now (root m) w

room : (m : After-mark_root) (now : List ℕ) → Works m.args.shape m.mark_root.new.work now → work_size m.args.shape ≤ length now
room m now w = omega (arith, m.requires.work_enough, (works m now w).size)

-- the mark of a node
mark-is : (m : After-mark_root) (work : List ℕ) (i : ℕ) → get_or work (m.marks_at-marks_at.result + i) 0 ≡ get_or work (marks_at m.args.shape + i) 0
mark-is m work i = ap (λ (at : ℕ). get_or work (at + i) 0) m.marks_at-marks_at.ensures

pub loop-i-init : goal.loop-i-init
loop-i-init c =
    let m = (goal.at.loop-i-init c).After-mark_root in (
      omega arith,
      works_refl c.args.shape c.mark_root.new.work,
      λ floats query.
          passes-start c.args.shape c.args.counts (hit m floats query) (view m floats query) c.mark_root.new.work c.requires.some
          (root-notes c.args.shape c.args.counts c.args.work.now c.mark_root.new.work c.requires.within.nodes c.requires.some c.mark_root.ensures (hit m floats query) (unkeyed (view m floats query)) c.requires.work_enough),
    )

pub loop-i-preserved-then-work-marks_at-eq0 : goal.loop-i-preserved-then-work-marks_at-eq0
loop-i-preserved-then-work-marks_at-eq0 c =
    let m = (goal.at.loop-i-preserved-then-work-marks_at-eq0 c).After-mark_root in
    let more : c.loop-i.i < c.args.counts.nodes = omega arith in (
      omega (arith, c.loop-i.invariant.0),
      c.loop-i.invariant.1,
      λ floats query.
          passes-skip c.args.shape c.args.counts (hit m floats query) (view m floats query) c.loop-i.work c.loop-i.i c.loop-i.hits c.loop-i.opened more _ (mark-is m c.loop-i.work c.loop-i.i)
          c.if-work-marks_at-eq0.true (c.loop-i.invariant.2 floats query),
    )

pub open_node-requires : goal.open_node-requires
open_node-requires c =
    let m = (goal.at.open_node-requires c).After-mark_root in
    record {
      within = c.requires.within;
      numbers_enough = c.requires.numbers_enough;
      hashes_enough = c.requires.hashes_enough;
      text_size = c.requires.text_size;
      work_enough = room m c.loop-i.work c.loop-i.invariant.1;
      node = omega arith;
      few = omega (arith, most-is c.args.shape c.args.counts (store m []) [] (wants m), passes-few c.args.shape c.args.counts (hit m [] []) (view m [] []) c.loop-i.work c.loop-i.i c.loop-i.hits c.loop-i.opened (c.loop-i.invariant.2 [] []));
    }

pub loop-i-preserved : goal.loop-i-preserved
loop-i-preserved c =
    let m = (goal.at.loop-i-preserved c).After-mark_root in
    let more : c.loop-i.i < c.args.counts.nodes = omega arith in (
      omega (arith, c.loop-i.invariant.0),
      works_trans c.args.shape c.mark_root.new.work c.loop-i.work c.open_node.new.work c.loop-i.invariant.1 c.in_ok-hits.ensures.works,
      λ floats query.
          let p = c.loop-i.invariant.2 floats query in
          passes-next c.args.shape c.args.counts (hit m floats query) (view m floats query) c.loop-i.work c.loop-i.i c.loop-i.hits c.loop-i.opened more _ (mark-is m c.loop-i.work c.loop-i.i)
          (nodes_fit m) (above m floats query) c.if-work-marks_at-eq0.false p.0 p.1 c.open_node.new.work c.in_ok-hits.hits (c.in_ok-hits.ensures.gives floats query (λ j. 0)),
    )

pub returns : goal.returns
returns c =
    let m = (goal.at.returns c).After-mark_root in
    λ floats query ef enough. record {
      ends = ends-whole c.args.shape c.args.counts (hit m floats query) (view m floats query) (nodes_fit m) c.requires.some (below m floats query) ef enough c.loop-i.work c.loop-i.i c.loop-i.hits c.loop-i.opened (omega arith) c.loop-i.invariant.0 (c.loop-i.invariant.2 floats query);
      works = works m c.loop-i.work c.loop-i.invariant.1;
    }

pub returns-in_err-hits : goal.returns-in_err-hits
returns-in_err-hits c =
    let m = (goal.at.returns-in_err-hits c).After-mark_root in
    let more : c.loop-i.i < c.args.counts.nodes = omega arith in
    rw (is_damage c.from_residual.result c.from_residual.ensures.0)
    (λ floats query ef enough.
    let p = c.loop-i.invariant.2 floats query in
    record {
      ends = ends-damaged c.args.shape c.args.counts (hit m floats query) (view m floats query) (nodes_fit m) c.requires.some (below m floats query) ef enough c.open_node.new.work (c.loop-i.opened + 1) (omega (arith, more, c.loop-i.invariant.0, enough))
          (passes-damage c.args.shape c.args.counts (hit m floats query) (view m floats query) c.loop-i.work c.loop-i.i c.loop-i.hits c.loop-i.opened more _ (mark-is m c.loop-i.work c.loop-i.i)
          (nodes_fit m) (above m floats query) c.if-work-marks_at-eq0.false p.0 p.1 c.open_node.new.work (c.in_err-hits.ensures.gives floats query (λ j. 0)));
      works = works m c.open_node.new.work (works_trans c.args.shape c.mark_root.new.work c.loop-i.work c.open_node.new.work c.loop-i.invariant.1 c.in_err-hits.ensures.works);
    })
