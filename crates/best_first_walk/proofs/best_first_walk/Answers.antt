use Rattle.std.proofs.Common.{◌≡◌, ℕ, ◌+◌, ◌-◌, ◌*◌, ◌≤◌, List, ◌++◌, length, take, drop, max, arith, sym, ap, subst, refl, ◌∙◌, Bool, true, false, ltb, get_or, set}
use Rattle.std.proofs.lemmas.List.Edits.{sets}
use Rattle.lists.specs.Lists.{part}
use Rattle.lists.specs.Parts.{length_part}
use Rattle.lists.specs.Tests.{all_pass}
use Rattle.store.specs.Store.{Store, hits_at, work_size}
use Rattle.store.specs.Lent.{stored}
use Rattle.walk.specs.Wanted.{Sought, EntryRead, about, passes, given, most}
use Rattle.walk.specs.Walk.{View}
use Rattle.walk.specs.StoreView.{hit_at, store_view, entries_in, end_in}
use Rattle.walk.proofs.StoreViewLaws.{store-children-below}
use Rattle.walk.proofs.DifferentLaws.{ChildrenBelow}
use Rattle.walk.proofs.LentLaws.{works_trans}
use Rattle.walk.specs.Promises.{Works}
use Rattle.leaf_hits.specs.Promises.{AddHits, Gathers}
use Rattle.leaf_hits.specs.LeafLaws.{list-shown}
use Rattle.std.specs.Prelude.{Result, Ok, Err}
use Rattle.walk.specs.declared.Damaged.{Damaged}
use Rattle.walk.specs.declared.look.Look.TheVariants as look
use Rattle.walk.proofs.Damage.{is_damage}
use Rattle.waiting_nodes.specs.Promises.{waiting_records}
use Rattle.waiting_nodes.specs.PushLaws.{nodes_wait}
use Rattle.best_first_walk.specs.Walks.{hits_part, found_in, found_part}
use Rattle.best_first_walk.specs.WalksLaws.{looks_about, few-hits, length_found, length-hits, marks-room}
use Rattle.best_first_walk.specs.MarkLaws.{works-found, hits-lent, found-lent, hits_back}
use Rattle.best_first_walk.specs.GatherLaws.{most-is, vectors-held}
use Rattle.best_first_walk.specs.ChildLaws.{children-shown, block_part, next_read, fresh-is}
use Rattle.best_first_walk.proofs.Walking.{Waits, few_wait, opens, opens-below, waits_from, waits_start, opens-damage, leaf_damage, leaf_hits_lem, ends-damaged, ends-whole, ends_cut}
use Rattle.best_first_walk.proofs.Marking.{Marks, marks-start, child_damage, child_marked, children-room, children-held, children-pushed}
use Rattle.best_first_walk.proofs.best_first_walk.Goals as goal
use Rattle.best_first_walk.proofs.best_first_walk.Goals.{After-begin}

-- ---- once the walk has begun: the store, what the search is about, and the work list with the root in it

abbrev hit : After-begin → ℕ → ℕ
hit b = hit_at b.args.shape b.args.lists.floats.now b.args.lists.numbers.now b.args.query.now

abbrev store : After-begin → Store
store b = stored b.args.lists

abbrev wants : After-begin → Sought
wants b = about b.args.wanted

abbrev view : After-begin → View
view b = store_view b.args.shape b.args.counts (store b) b.args.query.now (wants b)

below : (b : After-begin) → ChildrenBelow (view b) b.args.counts.nodes
below b = store-children-below b.args.shape b.args.counts (store b) b.args.query.now (wants b)

first-works : (b : After-begin) → Works b.args.shape b.args.work.now b.begin.new.work
first-works b = (b.begin.ensures (hit b) b.args.lists.numbers.now b.args.lists.hashes.now b.args.lists.text.now (wants b)).works

works-after : (b : After-begin) (now : List ℕ) → Works b.args.shape b.begin.new.work now → Works b.args.shape b.args.work.now now
works-after b now w = works_trans b.args.shape b.args.work.now b.begin.new.work now (first-works b) w

-- where in the hits' part the vectors found begin
abbrev from : After-begin → ℕ
from b = b.found_at.result - b.hits_at-hits_at.result

found-from : (b : After-begin) → from b ≡ found_in b.args.shape
found-from b = omega (arith, b.found_at.ensures, b.hits_at-hits_at.ensures)

few-found : (b : After-begin) → (view b).most ≡ most (wants b) b.args.counts
few-found b = most-is b.args.shape b.args.counts (store b) b.args.query.now (wants b)

-- whether all numbers of a list pass, and the vectors that it gives
abbrev read-entries : After-begin → EntryRead
read-entries b = entries_in b.args.shape b.args.lists.numbers.now b.args.lists.hashes.now b.args.lists.text.now

abbrev passed : After-begin → List ℕ → Bool
passed b l = all_pass (passes (wants b) b.args.counts (read-entries b) (end_in b.args.shape b.args.lists.numbers.now)) l

abbrev vectors : After-begin → List ℕ → List ℕ
vectors b l = given (wants b) (read-entries b) l

held : (b : After-begin) (l : List ℕ) → passed b l ≡ true → all_pass (λ x. ltb x b.args.counts.vectors) (vectors b l) ≡ true
held b l t = vectors-held (wants b) b.args.counts (read-entries b) (end_in b.args.shape b.args.lists.numbers.now) l t

-- ---- the hits' part of a work list, as it is lent, and as it comes back

abbrev lent-hits : After-begin → List ℕ → List ℕ
lent-hits b work = take (b.work_size-hits_end.result - b.hits_at-hits_at.result) (drop b.hits_at-hits_at.result work)

lent-is : (b : After-begin) (work : List ℕ) → lent-hits b work ≡ hits_part b.args.shape work
lent-is b work = hits-lent b.args.shape work b.hits_at-hits_at.result b.work_size-hits_end.result b.requires.within.limits b.hits_at-hits_at.ensures b.work_size-hits_end.ensures

lent-found : (b : After-begin) (work : List ℕ) → drop (from b) (lent-hits b work) ≡ found_part b.args.shape work
lent-found b work =
    found-lent b.args.shape work b.hits_at-hits_at.result b.work_size-hits_end.result b.requires.within.limits b.hits_at-hits_at.ensures b.work_size-hits_end.ensures (from b) (found-from b)

back-length : (b : After-begin) (work back : List ℕ) → work_size b.args.shape ≤ length work → length back ≡ length (lent-hits b work)
    → length back ≡ 3 * max b.args.shape.vectors b.args.shape.entries
back-length b work back size kept = kept ∙ ap length (lent-is b work) ∙ length-hits b.args.shape work size

abbrev after : After-begin → List ℕ → List ℕ → List ℕ
after b work back =
    take b.hits_at-hits_at.result work ++ (back ++ drop (b.work_size-hits_end.result - b.hits_at-hits_at.result) (drop b.hits_at-hits_at.result work))

after-is : (b : After-begin) (work back : List ℕ) → work_size b.args.shape ≤ length work → length back ≡ length (lent-hits b work)
    → after b work back ≡ sets work (hits_at b.args.shape) back
after-is b work back size kept =
    hits_back b.args.shape work b.hits_at-hits_at.result b.work_size-hits_end.result b.requires.within.limits b.hits_at-hits_at.ensures b.work_size-hits_end.ensures back size
    (back-length b work back size kept)

after-works : (b : After-begin) (work back : List ℕ) → work_size b.args.shape ≤ length work → length back ≡ length (lent-hits b work)
    → Works b.args.shape b.begin.new.work work → Works b.args.shape b.args.work.now (after b work back)
after-works b work back size kept w =
    works_trans b.args.shape b.args.work.now work (after b work back) (works-after b work w)
    (subst (Works b.args.shape work) (sym (after-is b work back size kept))
    (works-found b.args.shape b.args.counts (hit b) work back b.requires.within.limits size (back-length b work back size kept)))

-- what a leaf gave
abbrev Gave : After-begin → List ℕ → ℕ → ℕ → List ℕ → Result ℕ Damaged → List ℕ → Type 0
Gave b l before n heap r heap' = Gathers (passed b l) (vectors b l) n before heap r heap'

gave : (b : After-begin) (work back l : List ℕ) (before : ℕ) (r : Result ℕ Damaged) → Gave b l before (most (wants b) b.args.counts) (drop (from b) (lent-hits b work)) r (drop (from b) back)
    → Gave b l before (view b).most (found_part b.args.shape work) r (drop (found_in b.args.shape) back)
gave b work back l before r g =
    subst (λ (n : ℕ). Gave b l before (view b).most (found_part b.args.shape work) r (drop n back)) (found-from b)
    (subst (λ (heap : List ℕ). Gave b l before (view b).most heap r (drop (from b) back)) (lent-found b work)
    (subst (λ (n : ℕ). Gave b l before n (drop (from b) (lent-hits b work)) r (drop (from b) back)) (sym (few-found b)) g))

-- ---- the walk

pub walk-init : goal.walk-init
walk-init c =
    let b = (goal.at.walk-init c).After-begin in
    let s = c.args.shape in
    let n = c.args.counts in
    let ef = c.args.ef_search in
    let first = c.begin.new.work in
    let limits = c.requires.within.limits in
    let nodes = c.requires.within.nodes in
    let some = c.requires.some in
    waits_start s n (hit b) (view b) ef first limits nodes some (below b) c.args.work.now (c.begin.ensures (hit b) c.args.lists.numbers.now c.args.lists.hashes.now c.args.lists.text.now (wants b))

pub pop-least-requires : goal.pop-least-requires
pop-least-requires c =
    let b = (goal.at.pop-least-requires c).After-begin in
    let s = c.args.shape in
    let n = c.args.counts in
    let ef = c.args.ef_search in
    let first = c.begin.new.work in
    let limits = c.requires.within.limits in
    let nodes = c.requires.within.nodes in
    let some = c.requires.some in
    let few : c.walk.waiting ≤ c.args.shape.nodes = few_wait s n (hit b) (view b) ef first limits nodes some (below b) c.walk.work c.walk.waiting c.walk.hits c.walk.opened c.walk.invariant in
    record {
      narrow = omega arith;
      wide = omega arith;
      some = omega arith;
      room = omega (arith, c.walk.invariant.1.holds.size);
      heap = c.walk.invariant.1.holds.queue;
    }

pub look_at-requires : goal.look_at-requires
look_at-requires c =
    let b = (goal.at.look_at-requires c).After-begin in
    let s = c.args.shape in
    let n = c.args.counts in
    let ef = c.args.ef_search in
    let first = c.begin.new.work in
    let limits = c.requires.within.limits in
    let nodes = c.requires.within.nodes in
    let some = c.requires.some in
    record {
      within = c.requires.within;
      numbers_enough = c.requires.long.numbers;
      hashes_enough = c.requires.long.hashes;
      node = opens-below s n (hit b) (view b) ef first limits nodes some (below b) c.walk.work c.pop-least.new.heap c.walk.waiting c.walk.hits c.walk.opened c.pop-least.result c.walk.invariant c.pop-least.ensures;
    }

pub add_hits-requires : goal.add_hits-requires
add_hits-requires c =
    let b = (goal.at.add_hits-requires c).After-begin in
    let s = c.args.shape in
    let n = c.args.counts in
    let ef = c.args.ef_search in
    let first = c.begin.new.work in
    let limits = c.requires.within.limits in
    let nodes = c.requires.within.nodes in
    let some = c.requires.some in
    let node = c.pop-least.result.rest in
    let work = c.pop-least.new.heap in
    let waits = c.walk.waiting - 1 in
    let found = c.walk.hits in
    let more = c.walk.opened + 1 in
    let opened = opens s n (hit b) (view b) ef first limits nodes some (below b) c.walk.work work c.walk.waiting found c.walk.opened c.pop-least.result c.walk.invariant c.if-opened-ef_search.false c.pop-least.ensures in
    record {
      lent = record {
        within = c.requires.within;
        numbers_enough = c.requires.long.numbers;
        hashes_enough = c.requires.long.hashes;
        text_size = c.requires.long.text;
        hits =
            subst (λ (l : List ℕ). AddHits c.args.lists.numbers.now l found (most (wants b) n) c.in-Leaf.list.start c.in-Leaf.list.count) (sym (lent-found b work))
            (record {
              block = (looks_about s n c.args.lists.numbers.now c.args.lists.hashes.now c.args.wanted c.pop-least.result.rest (Ok c.in_ok-shown.shown) (Ok (look.Leaf c.in-Leaf.list)) c.in_ok-shown.ensures (ap Ok c.in-Leaf.is)).0;
              few = omega (arith, opened.1.few, opened.1.holds.finds.count, few-found b);
              room = omega (arith, few-hits s n (wants b) c.requires.within.vectors c.requires.within.entries, length_found s work limits opened.1.holds.size);
            });
      };
      marks = marks-room s n (from b) limits c.requires.within.vectors (found-from b);
    }

pub walk-preserved-in-Leaf : goal.walk-preserved-in-Leaf
walk-preserved-in-Leaf c =
    let b = (goal.at.walk-preserved-in-Leaf c).After-begin in
    let s = c.args.shape in
    let n = c.args.counts in
    let ef = c.args.ef_search in
    let first = c.begin.new.work in
    let limits = c.requires.within.limits in
    let nodes = c.requires.within.nodes in
    let some = c.requires.some in
    let node = c.pop-least.result.rest in
    let work = c.pop-least.new.heap in
    let waits = c.walk.waiting - 1 in
    let found = c.walk.hits in
    let more = c.walk.opened + 1 in
    let opened = opens s n (hit b) (view b) ef first limits nodes some (below b) c.walk.work work c.walk.waiting found c.walk.opened c.pop-least.result c.walk.invariant c.if-opened-ef_search.false c.pop-least.ensures in
    let l : List ℕ = part c.in-Leaf.list.start c.in-Leaf.list.count c.args.lists.numbers.now in
    let back = c.add_hits.new.hits in
    let size : work_size s ≤ length work = opened.1.holds.size in
    let kept : length back ≡ length (lent-hits b work) = c.add_hits.auto.hits in
    subst (λ (now : List ℕ). Waits s n (hit b) (view b) ef first now waits c.in_ok-hits-in-Leaf.hits more) (sym (after-is b work back size kept))
    (leaf_hits_lem s n (hit b) (view b) ef first limits nodes some (below b) node work back waits found more c.in_ok-hits-in-Leaf.hits (passed b l) (vectors b l) (omega (arith, few_wait s n (hit b) (view b) ef first limits nodes some (below b) c.walk.work c.walk.waiting c.walk.hits c.walk.opened c.walk.invariant)) (held b l) opened
    ((looks_about s n c.args.lists.numbers.now c.args.lists.hashes.now c.args.wanted c.pop-least.result.rest (Ok c.in_ok-shown.shown) (Ok (look.Leaf c.in-Leaf.list)) c.in_ok-shown.ensures (ap Ok c.in-Leaf.is)).1 c.args.lists.floats.now c.args.query.now c.args.lists.text.now
    ∙ list-shown s n c.args.lists.floats.now c.args.lists.numbers.now c.args.lists.hashes.now c.args.lists.text.now c.args.query.now (wants b) l)
    (back-length b work back size kept) (gave b work back l found (Ok c.in_ok-hits-in-Leaf.hits) c.in_ok-hits-in-Leaf.ensures))

pub overflow_add-end : goal.overflow_add-end
overflow_add-end c =
    let s = c.args.shape in
    let n = c.args.counts in
    let block = (looks_about s n c.args.lists.numbers.now c.args.lists.hashes.now c.args.wanted c.pop-least.result.rest (Ok c.in_ok-shown.shown) (Ok (look.Inner c.in-Inner.children)) c.in_ok-shown.ensures (ap Ok c.in-Inner.is)).0 in
    omega (arith, block)

pub offset_bounds-numbers-start : goal.offset_bounds-numbers-start
offset_bounds-numbers-start c =
    let s = c.args.shape in
    let n = c.args.counts in
    let block = (looks_about s n c.args.lists.numbers.now c.args.lists.hashes.now c.args.wanted c.pop-least.result.rest (Ok c.in_ok-shown.shown) (Ok (look.Inner c.in-Inner.children)) c.in_ok-shown.ensures (ap Ok c.in-Inner.is)).0 in
    omega (arith, block)

pub slice_bounds-number-items-end : goal.slice_bounds-number-items-end
slice_bounds-number-items-end c =
    let s = c.args.shape in
    let n = c.args.counts in
    let block = (looks_about s n c.args.lists.numbers.now c.args.lists.hashes.now c.args.wanted c.pop-least.result.rest (Ok c.in_ok-shown.shown) (Ok (look.Inner c.in-Inner.children)) c.in_ok-shown.ensures (ap Ok c.in-Inner.is)).0 in
    omega (arith, block)

pub loop-number-init : goal.loop-number-init
loop-number-init c =
    let b = (goal.at.loop-number-init c).After-begin in
    let s = c.args.shape in
    let n = c.args.counts in
    let ef = c.args.ef_search in
    let first = c.begin.new.work in
    let limits = c.requires.within.limits in
    let nodes = c.requires.within.nodes in
    let some = c.requires.some in
    let node = c.pop-least.result.rest in
    let work = c.pop-least.new.heap in
    let waits = c.walk.waiting - 1 in
    let found = c.walk.hits in
    let more = c.walk.opened + 1 in
    let opened = opens s n (hit b) (view b) ef first limits nodes some (below b) c.walk.work work c.walk.waiting found c.walk.opened c.pop-least.result c.walk.invariant c.if-opened-ef_search.false c.pop-least.ensures in
    let l : List ℕ = part c.in-Inner.children.start c.in-Inner.children.count c.args.lists.numbers.now in
    let shown = looks_about s n c.args.lists.numbers.now c.args.lists.hashes.now c.args.wanted c.pop-least.result.rest (Ok c.in_ok-shown.shown) (Ok (look.Inner c.in-Inner.children)) c.in_ok-shown.ensures (ap Ok c.in-Inner.is) in
    marks-start s n (hit b) (view b) ef first limits nodes some (below b) node work waits found more l opened (shown.1 c.args.lists.floats.now c.args.query.now c.args.lists.text.now ∙ children-shown s n (store b) node l)

pub fresh_child-requires : goal.fresh_child-requires
fresh_child-requires c =
    let b = (goal.at.fresh_child-requires c).After-begin in
    let s = c.args.shape in
    let n = c.args.counts in
    let ef = c.args.ef_search in
    let first = c.begin.new.work in
    let limits = c.requires.within.limits in
    let nodes = c.requires.within.nodes in
    let some = c.requires.some in
    let node = c.pop-least.result.rest in
    let work = c.pop-least.new.heap in
    let waits = c.walk.waiting - 1 in
    let found = c.walk.hits in
    let more = c.walk.opened + 1 in
    let opened = opens s n (hit b) (view b) ef first limits nodes some (below b) c.walk.work work c.walk.waiting found c.walk.opened c.pop-least.result c.walk.invariant c.if-opened-ef_search.false c.pop-least.ensures in
    let l : List ℕ = part c.in-Inner.children.start c.in-Inner.children.count c.args.lists.numbers.now in
    let j = c.loop-number.number-index in
    let marked = c.loop-number.work in
    let kept = c.loop-number.invariant in
    omega (arith, c.marks_at-marks_at.ensures, nodes, kept.2.holds.size)

pub loop-number-preserved : goal.loop-number-preserved
loop-number-preserved c =
    let b = (goal.at.loop-number-preserved c).After-begin in
    let s = c.args.shape in
    let n = c.args.counts in
    let ef = c.args.ef_search in
    let first = c.begin.new.work in
    let limits = c.requires.within.limits in
    let nodes = c.requires.within.nodes in
    let some = c.requires.some in
    let node = c.pop-least.result.rest in
    let work = c.pop-least.new.heap in
    let waits = c.walk.waiting - 1 in
    let found = c.walk.hits in
    let more = c.walk.opened + 1 in
    let opened = opens s n (hit b) (view b) ef first limits nodes some (below b) c.walk.work work c.walk.waiting found c.walk.opened c.pop-least.result c.walk.invariant c.if-opened-ef_search.false c.pop-least.ensures in
    let l : List ℕ = part c.in-Inner.children.start c.in-Inner.children.count c.args.lists.numbers.now in
    let block = looks_about s n c.args.lists.numbers.now c.args.lists.hashes.now c.args.wanted c.pop-least.result.rest (Ok c.in_ok-shown.shown) (Ok (look.Inner c.in-Inner.children)) c.in_ok-shown.ensures (ap Ok c.in-Inner.is) in
    let j = c.loop-number.number-index in
    let marked = c.loop-number.work in
    let kept = c.loop-number.invariant in
    let child = get_or (block_part c.args.lists.numbers.now c.in-Inner.children.start c.in-Inner.children.count) c.loop-number.number-index 0 in
    subst (λ (at : ℕ). Marks s n (hit b) (view b) ef work node l (j + 1) (set marked (at + child) 1) waits found more) (sym c.marks_at-marks_at.ensures)
    (child_marked s n (hit b) (view b) ef work limits nodes some (below b) node l j child marked waits found more kept (next_read c.args.lists.numbers.now c.in-Inner.children.start c.in-Inner.children.count j c.loop-number-test.true)
    (fresh-is s n marked node child c.marks_at-marks_at.result c.fresh_child.result true c.marks_at-marks_at.ensures c.fresh_child.ensures c.if-not-fresh_child.false)
    (omega (arith, few_wait s n (hit b) (view b) ef first limits nodes some (below b) c.walk.work c.walk.waiting c.walk.hits c.walk.opened c.walk.invariant)))

pub push_children-requires : goal.push_children-requires
push_children-requires c =
    let b = (goal.at.push_children-requires c).After-begin in
    let s = c.args.shape in
    let n = c.args.counts in
    let ef = c.args.ef_search in
    let first = c.begin.new.work in
    let limits = c.requires.within.limits in
    let nodes = c.requires.within.nodes in
    let some = c.requires.some in
    let node = c.pop-least.result.rest in
    let work = c.pop-least.new.heap in
    let waits = c.walk.waiting - 1 in
    let found = c.walk.hits in
    let more = c.walk.opened + 1 in
    let opened = opens s n (hit b) (view b) ef first limits nodes some (below b) c.walk.work work c.walk.waiting found c.walk.opened c.pop-least.result c.walk.invariant c.if-opened-ef_search.false c.pop-least.ensures in
    let l : List ℕ = part c.in-Inner.children.start c.in-Inner.children.count c.args.lists.numbers.now in
    let block = looks_about s n c.args.lists.numbers.now c.args.lists.hashes.now c.args.wanted c.pop-least.result.rest (Ok c.in_ok-shown.shown) (Ok (look.Inner c.in-Inner.children)) c.in_ok-shown.ensures (ap Ok c.in-Inner.is) in
    let j = c.loop-number.number-index in
    let marked = c.loop-number.work in
    let kept = c.loop-number.invariant in
    let count : length l ≡ c.in-Inner.children.count = length_part c.in-Inner.children.start c.in-Inner.children.count c.args.lists.numbers.now block.0 in
    let all : length l ≤ j = omega (arith, c.loop-number-test.false) in
    record {
      floats_enough = c.requires.long.floats;
      nodes = record { size = kept.2.holds.size; limits = limits; room = omega (arith, children-room s n (hit b) (view b) ef work limits nodes some (below b) node l j marked waits found more kept all); queue = kept.2.holds.queue };
      children = record { inside = block.0; held = children-held s n (hit b) (view b) ef work limits nodes some (below b) node l j marked waits found more kept all };
    }

pub overflow_add-waiting : goal.overflow_add-waiting
overflow_add-waiting c =
    let b = (goal.at.overflow_add-waiting c).After-begin in
    let s = c.args.shape in
    let n = c.args.counts in
    let ef = c.args.ef_search in
    let first = c.begin.new.work in
    let limits = c.requires.within.limits in
    let nodes = c.requires.within.nodes in
    let some = c.requires.some in
    let node = c.pop-least.result.rest in
    let work = c.pop-least.new.heap in
    let waits = c.walk.waiting - 1 in
    let found = c.walk.hits in
    let more = c.walk.opened + 1 in
    let opened = opens s n (hit b) (view b) ef first limits nodes some (below b) c.walk.work work c.walk.waiting found c.walk.opened c.pop-least.result c.walk.invariant c.if-opened-ef_search.false c.pop-least.ensures in
    let l : List ℕ = part c.in-Inner.children.start c.in-Inner.children.count c.args.lists.numbers.now in
    let block = looks_about s n c.args.lists.numbers.now c.args.lists.hashes.now c.args.wanted c.pop-least.result.rest (Ok c.in_ok-shown.shown) (Ok (look.Inner c.in-Inner.children)) c.in_ok-shown.ensures (ap Ok c.in-Inner.is) in
    let j = c.loop-number.number-index in
    let marked = c.loop-number.work in
    let kept = c.loop-number.invariant in
    let count : length l ≡ c.in-Inner.children.count = length_part c.in-Inner.children.start c.in-Inner.children.count c.args.lists.numbers.now block.0 in
    let all : length l ≤ j = omega (arith, c.loop-number-test.false) in
    omega (arith, children-room s n (hit b) (view b) ef work limits nodes some (below b) node l j marked waits found more kept all, limits.nodes_high)

pub walk-preserved : goal.walk-preserved
walk-preserved c =
    let b = (goal.at.walk-preserved c).After-begin in
    let s = c.args.shape in
    let n = c.args.counts in
    let ef = c.args.ef_search in
    let first = c.begin.new.work in
    let limits = c.requires.within.limits in
    let nodes = c.requires.within.nodes in
    let some = c.requires.some in
    let node = c.pop-least.result.rest in
    let work = c.pop-least.new.heap in
    let waits = c.walk.waiting - 1 in
    let found = c.walk.hits in
    let more = c.walk.opened + 1 in
    let opened = opens s n (hit b) (view b) ef first limits nodes some (below b) c.walk.work work c.walk.waiting found c.walk.opened c.pop-least.result c.walk.invariant c.if-opened-ef_search.false c.pop-least.ensures in
    let l : List ℕ = part c.in-Inner.children.start c.in-Inner.children.count c.args.lists.numbers.now in
    let block = looks_about s n c.args.lists.numbers.now c.args.lists.hashes.now c.args.wanted c.pop-least.result.rest (Ok c.in_ok-shown.shown) (Ok (look.Inner c.in-Inner.children)) c.in_ok-shown.ensures (ap Ok c.in-Inner.is) in
    let j = c.loop-number.number-index in
    let marked = c.loop-number.work in
    let kept = c.loop-number.invariant in
    let count : length l ≡ c.in-Inner.children.count = length_part c.in-Inner.children.start c.in-Inner.children.count c.args.lists.numbers.now block.0 in
    let all : length l ≤ j = omega (arith, c.loop-number-test.false) in
    waits_from s n (hit b) (view b) ef first work c.push_children.new.work (waits + c.in-Inner.children.count) found more opened.1.works
    (children-pushed s n (hit b) (view b) ef work limits nodes some (below b) node l j marked waits found more kept all c.push_children.new.work (waiting_records s c.args.lists.floats.now c.args.query.now l) (waits + c.in-Inner.children.count)
    (nodes_wait s n c.args.lists.floats.now c.args.lists.numbers.now c.args.lists.hashes.now c.args.lists.text.now c.args.query.now (wants b) l) (omega arith) c.push_children.ensures)

pub returns-then-waiting-eq0 : goal.returns-then-waiting-eq0
returns-then-waiting-eq0 c =
    let b = (goal.at.returns-then-waiting-eq0 c).After-begin in
    let s = c.args.shape in
    let n = c.args.counts in
    let ef = c.args.ef_search in
    let first = c.begin.new.work in
    let limits = c.requires.within.limits in
    let nodes = c.requires.within.nodes in
    let some = c.requires.some in
    record {
      ends = ends-whole s n (hit b) (view b) ef first limits nodes some (below b) c.walk.work c.walk.waiting c.walk.hits c.walk.opened c.if-waiting-eq0.true c.walk.invariant;
      works = works-after b c.walk.work c.walk.invariant.1.works;
    }

pub returns-then-opened-ef_search : goal.returns-then-opened-ef_search
returns-then-opened-ef_search c =
    let b = (goal.at.returns-then-opened-ef_search c).After-begin in
    let s = c.args.shape in
    let n = c.args.counts in
    let ef = c.args.ef_search in
    let first = c.begin.new.work in
    let limits = c.requires.within.limits in
    let nodes = c.requires.within.nodes in
    let some = c.requires.some in
    record {
      ends = ends_cut s n (hit b) (view b) ef first limits nodes some (below b) c.walk.work c.walk.waiting c.walk.hits c.walk.opened c.if-waiting-eq0.false c.if-opened-ef_search.true c.walk.invariant;
      works = works-after b c.walk.work c.walk.invariant.1.works;
    }

pub returns-in_err-shown : goal.returns-in_err-shown
returns-in_err-shown c =
    let b = (goal.at.returns-in_err-shown c).After-begin in
    let s = c.args.shape in
    let n = c.args.counts in
    let ef = c.args.ef_search in
    let first = c.begin.new.work in
    let limits = c.requires.within.limits in
    let nodes = c.requires.within.nodes in
    let some = c.requires.some in
    let node = c.pop-least.result.rest in
    let work = c.pop-least.new.heap in
    let waits = c.walk.waiting - 1 in
    let found = c.walk.hits in
    let more = c.walk.opened + 1 in
    let opened = opens s n (hit b) (view b) ef first limits nodes some (below b) c.walk.work work c.walk.waiting found c.walk.opened c.pop-least.result c.walk.invariant c.if-opened-ef_search.false c.pop-least.ensures in
    rw (is_damage c.from_residual.result c.from_residual.ensures.0)
    (record {
      ends = ends-damaged s n (hit b) (view b) ef first limits nodes some (below b) work (opens-damage s n (hit b) (view b) ef first limits nodes some (below b) node work waits found more opened ((looks_about s n c.args.lists.numbers.now c.args.lists.hashes.now c.args.wanted c.pop-least.result.rest (Err (record {})) (Err (record {})) c.in_err-shown.ensures refl) c.args.lists.floats.now c.args.query.now c.args.lists.text.now));
      works = works-after b work opened.1.works;
    })

pub returns-in_err-hits-in-Leaf : goal.returns-in_err-hits-in-Leaf
returns-in_err-hits-in-Leaf c =
    let b = (goal.at.returns-in_err-hits-in-Leaf c).After-begin in
    let s = c.args.shape in
    let n = c.args.counts in
    let ef = c.args.ef_search in
    let first = c.begin.new.work in
    let limits = c.requires.within.limits in
    let nodes = c.requires.within.nodes in
    let some = c.requires.some in
    let node = c.pop-least.result.rest in
    let work = c.pop-least.new.heap in
    let waits = c.walk.waiting - 1 in
    let found = c.walk.hits in
    let more = c.walk.opened + 1 in
    let opened = opens s n (hit b) (view b) ef first limits nodes some (below b) c.walk.work work c.walk.waiting found c.walk.opened c.pop-least.result c.walk.invariant c.if-opened-ef_search.false c.pop-least.ensures in
    let l : List ℕ = part c.in-Leaf.list.start c.in-Leaf.list.count c.args.lists.numbers.now in
    let back = c.add_hits.new.hits in
    let size : work_size s ≤ length work = opened.1.holds.size in
    let kept : length back ≡ length (lent-hits b work) = c.add_hits.auto.hits in
    rw (is_damage c.from_residual-in_err-hits-in-Leaf.result c.from_residual-in_err-hits-in-Leaf.ensures.0)
    (record {
      ends = ends-damaged s n (hit b) (view b) ef first limits nodes some (below b) (after b work back) (leaf_damage s n (hit b) (view b) ef first limits nodes some (below b) node work waits found more (passed b l) (vectors b l) opened
          ((looks_about s n c.args.lists.numbers.now c.args.lists.hashes.now c.args.wanted c.pop-least.result.rest (Ok c.in_ok-shown.shown) (Ok (look.Leaf c.in-Leaf.list)) c.in_ok-shown.ensures (ap Ok c.in-Leaf.is)).1 c.args.lists.floats.now c.args.query.now c.args.lists.text.now
          ∙ list-shown s n c.args.lists.floats.now c.args.lists.numbers.now c.args.lists.hashes.now c.args.lists.text.now c.args.query.now (wants b) l) (gave b work back l found (Err (record {})) c.in_err-hits-in-Leaf.ensures));
      works = after-works b work back size kept opened.1.works;
    })

pub returns-then-not-fresh_child : goal.returns-then-not-fresh_child
returns-then-not-fresh_child c =
    let b = (goal.at.returns-then-not-fresh_child c).After-begin in
    let s = c.args.shape in
    let n = c.args.counts in
    let ef = c.args.ef_search in
    let first = c.begin.new.work in
    let limits = c.requires.within.limits in
    let nodes = c.requires.within.nodes in
    let some = c.requires.some in
    let node = c.pop-least.result.rest in
    let work = c.pop-least.new.heap in
    let waits = c.walk.waiting - 1 in
    let found = c.walk.hits in
    let more = c.walk.opened + 1 in
    let opened = opens s n (hit b) (view b) ef first limits nodes some (below b) c.walk.work work c.walk.waiting found c.walk.opened c.pop-least.result c.walk.invariant c.if-opened-ef_search.false c.pop-least.ensures in
    let l : List ℕ = part c.in-Inner.children.start c.in-Inner.children.count c.args.lists.numbers.now in
    let block = looks_about s n c.args.lists.numbers.now c.args.lists.hashes.now c.args.wanted c.pop-least.result.rest (Ok c.in_ok-shown.shown) (Ok (look.Inner c.in-Inner.children)) c.in_ok-shown.ensures (ap Ok c.in-Inner.is) in
    let j = c.loop-number.number-index in
    let marked = c.loop-number.work in
    let kept = c.loop-number.invariant in
    let child = get_or (block_part c.args.lists.numbers.now c.in-Inner.children.start c.in-Inner.children.count) c.loop-number.number-index 0 in
    record {
      ends = ends-damaged s n (hit b) (view b) ef first limits nodes some (below b) marked (child_damage s n (hit b) (view b) ef work limits nodes some (below b) node l j child marked waits found more kept (next_read c.args.lists.numbers.now c.in-Inner.children.start c.in-Inner.children.count j c.loop-number-test.true)
          (fresh-is s n marked node child c.marks_at-marks_at.result c.fresh_child.result false c.marks_at-marks_at.ensures c.fresh_child.ensures c.if-not-fresh_child.true));
      works = works-after b marked (works_trans s first work marked opened.1.works kept.2.works);
    }
