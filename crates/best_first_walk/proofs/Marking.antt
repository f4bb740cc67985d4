-- The children's loop: each child of an inner node is tested and marked, and then all of them wait. Assumes nothing.
use Prim.Native.Nat.{ℕ, ◌+◌, ◌-◌, ◌^◌, ◌≤◌, ◌<◌}
use native.Mathlib.Numerals.{add-one}
use native.Mathlib.Omega.{arith}
use mathlib.Core.Path.{◌≡◌, sym, ap, ap₂, ◌∙◌}
use mathlib.Core.Logic.{◌⊎◌, inl, inr}
use mathlib.Core.Bool.{Bool, true, false, ◌&&◌, cond}
use mathlib.Core.List.{List, [], ◌∷◌, ◌++◌, map, map-append}
use lib.Dec.{ltb, eqb}
use lib.ListN.{length, get_or, take, drop, set, length-map, drop_of_length-le}
use lib.Seq.{take-suc, take_all, drop-cons}
use borrow.Author.Tests.{lt-ltb, ltb-true}
use Rattle.lists.specs.Lists.{is_in}
use Rattle.lists.specs.Tests.{which, all_pass, and_left, and_right, all_pass-nil, all_pass-cons, all_pass-append, all_pass_weaken}
use Rattle.record_queue.specs.Sorted.{insert}
use Rattle.store.specs.declared.Shape.{Shape}
use Rattle.store.specs.Store.{Limits, marks_at}
use Rattle.store.specs.declared.Counts.{Counts}
use Rattle.walk.specs.Walk.{View, waiting_node, Progress, damaged, going, walk, walk_from, Shown, shown, give, children, damage}
use Rattle.walk.proofs.WalkLaws.{pushed_one}
use Rattle.walk.proofs.DifferentLaws.{Once, ChildrenBelow, once-push, different-below}
use Rattle.walk.specs.Promises.{Works}
use Rattle.waiting_nodes.specs.Promises.{insert_each, PushedNodes}
use Rattle.waiting_nodes.specs.PushLaws.{insert_each-nil, insert_each-one, insert_each-append, length-insert_each}
use Rattle.best_first_walk.specs.Walks.{Represents}
use Rattle.best_first_walk.specs.MarkLaws.{mark_tells, works-marked}
use Rattle.best_first_walk.specs.ChildLaws.{child_test, push_checked, checked_give, checked_nil, checked_fails, checked_again, checked_fresh}
use Rattle.walk.proofs.KeysLaws.{waiting-length}
use Rattle.best_first_walk.proofs.Steps.{represents_length, represents_marked, represents_pushed, with_waiting, works-pushed}
use Rattle.walk.proofs.LentLaws.{works_refl, works_trans}
use Rattle.best_first_walk.proofs.Walking.{Waits, Opens, nodes_fit, damage-ends}

-- ---- the loop

-- The first j children of a list are marked, but none of them waits: the progress in which they do, the nodes that wait, and what the work list holds
pub record Marking (s : Shape) (c : Counts) (hit : ℕ → ℕ) (view : View) (ef : ℕ) (work₀ : List ℕ) (p : Progress) (waits l : List ℕ) (j : ℕ) (work : List ℕ)
    (waiting found opened : ℕ) : Type 0 where
  pub holds : Represents s c hit (with_waiting waits p) work waiting found
  pub later : p.waiting ≡ insert_each (map (waiting_node view) (take j l)) waits
  pub held : all_pass (λ x. ltb x c.nodes) (take j l) ≡ true
  pub once : Once c.nodes p
  pub few : length p.found ≤ view.most
  pub nodes : length p.opened ≡ opened
  pub budget : opened ≤ ef
  pub works : Works s work₀ work

abbrev pub Marks : Shape → Counts → (ℕ → ℕ) → View → ℕ → List ℕ → ℕ → List ℕ → ℕ → List ℕ → ℕ → ℕ → ℕ → Type 0
Marks s c hit view ef work₀ node l j work waiting found opened =
    (p : Progress) × (waits : List ℕ) × Marking s c hit view ef work₀ p waits l j work waiting found opened
    × (walk view ef ≡ walk_from view (ef - opened) (push_checked view (child_test c node) (drop j l) (going p)))

module _ (s : Shape) (c : Counts) (hit : ℕ → ℕ) (view : View) (ef : ℕ) (work₀ : List ℕ) (limits : Limits s) (within : c.nodes ≤ s.nodes) (some : 1 ≤ c.nodes)
    (below : ChildrenBelow view c.nodes) where
  fits : c.nodes ≤ 2 ^ 64
  fits = nodes_fit s c limits within

  -- An inner node's children are to be marked
  pub marks-start : (node : ℕ) (work : List ℕ) (waiting found opened : ℕ) (l : List ℕ) → Opens s c hit view ef work₀ node work waiting found opened
      → shown view node ≡ cond (all_pass (child_test c node) l) (children l) damage → Marks s c hit view ef work node l 0 work waiting found opened
  marks-start node work waiting found opened l (p, w, e) sh = (
    p,
    p.waiting,
    record {
      holds = w.holds;
      later = sym (insert_each-nil p.waiting);
      held = all_pass-nil (λ x. ltb x c.nodes);
      once = w.once;
      few = w.few;
      nodes = w.nodes;
      budget = w.budget;
      works = works_refl s work;
    },
    e ∙ ap (walk_from view (ef - opened)) (ap (λ (x : Shown). give view x p) sh ∙ checked_give view (child_test c node) (all_pass (child_test c node) l) l p),
  )

  -- The next child of the list
  module _ (node : ℕ) (l : List ℕ) (j child : ℕ) (work : List ℕ) (waiting found opened : ℕ) (k : Marks s c hit view ef work₀ node l j work waiting found opened)
      (more : (j < length l) × (get_or l j 0 ≡ child)) where
    behind : List ℕ
    behind = drop (j + 1) l

    split : drop j l ≡ child ∷ drop (j + 1) l
    split = drop-cons l j 0 more.0 ∙ ap₂ (λ (y : ℕ) (t : List ℕ). y ∷ t) more.1 (ap (λ (n : ℕ). drop n l) (sym (add-one j)))

    due : walk view ef ≡ walk_from view (ef - opened) (push_checked view (child_test c node) (child ∷ drop (j + 1) l) (going k.0))
    due = k.3 ∙ ap (λ (t : List ℕ). walk_from view (ef - opened) (push_checked view (child_test c node) t (going k.0))) split

    -- that is not fresh is damage
    pub child_damage : (child_test c node child && eqb (get_or work (marks_at s + child) 0) 0) ≡ false → walk view ef ≡ damaged
    child_damage f = go (which (child_test c node child))
      where
        go : (child_test c node child ≡ true) ⊎ (child_test c node child ≡ false) → walk view ef ≡ damaged
        go (inr t) =
            damage-ends view ef (ef - opened) (push_checked view (child_test c node) (child ∷ drop (j + 1) l) (going k.0)) (checked_fails view (child_test c node) child (drop (j + 1) l) (going k.0) t) due
        go (inl t) =
            let low : child < c.nodes = ltb-true child c.nodes (and_right (ltb node child) (ltb child c.nodes) t) in
            let mark : eqb (get_or work (marks_at s + child) 0) 0 ≡ false = sym (ap (λ (b : Bool). b && eqb (get_or work (marks_at s + child) 0) 0) t) ∙ f in
            damage-ends view ef (ef - opened) (push_checked view (child_test c node) (child ∷ drop (j + 1) l) (going k.0))
            (checked_again view (child_test c node) child (drop (j + 1) l) k.0 (mark_tells child k.0.pushed (get_or work (marks_at s + child) 0) (k.2.holds.marks child low) false mark)) due

    -- that is fresh is marked
    module _ (fresh : (child_test c node child && eqb (get_or work (marks_at s + child) 0) 0) ≡ true) where
      test : child_test c node child ≡ true
      test = and_left (child_test c node child) (eqb (get_or work (marks_at s + child) 0) 0) fresh

      below-nodes : ltb child c.nodes ≡ true
      below-nodes = and_right (ltb node child) (ltb child c.nodes) test

      pub child_low : child < c.nodes
      child_low = ltb-true child c.nodes below-nodes

      unpushed : is_in child k.0.pushed ≡ false
      unpushed =
          mark_tells child k.0.pushed (get_or work (marks_at s + child) 0) (k.2.holds.marks child child_low) true
          (and_right (child_test c node child) (eqb (get_or work (marks_at s + child) 0) 0) fresh)

      grown : take (j + 1) l ≡ take j l ++ (child ∷ [])
      grown = ap (λ (n : ℕ). take n l) (add-one j) ∙ take-suc l j 0 more.0 ∙ ap (λ (x : ℕ). take j l ++ (x ∷ [])) more.1

      pub child_marked : waiting ≤ s.nodes → Marks s c hit view ef work₀ node l (j + 1) (set work (marks_at s + child) 1) waiting found opened
      child_marked few =
          let p = k.0 in
          let w = k.2 in
          let nodes' : List ℕ = map (waiting_node view) (take j l) in (
            pushed_one view child p,
            k.1,
            record {
              holds = represents_marked s c hit within (with_waiting k.1 p) work waiting found child child_low few w.holds;
              later = ap (insert (waiting_node view child)) w.later
                  ∙ sym (ap (λ (t : List ℕ). insert_each (map (waiting_node view) t) k.1) grown ∙ ap (λ (t : List ℕ). insert_each t k.1) (map-append (waiting_node view) (take j l) (child ∷ []))
                  ∙ insert_each-append nodes' (waiting_node view child ∷ []) k.1 ∙ insert_each-one (waiting_node view child) (insert_each nodes' k.1));
              held = ap (all_pass (λ x. ltb x c.nodes)) grown ∙ all_pass-append (λ x. ltb x c.nodes) (take j l) (child ∷ [])
                  ∙ ap₂ ◌&&◌ w.held (all_pass-cons (λ x. ltb x c.nodes) child [] ∙ ap₂ ◌&&◌ below-nodes (all_pass-nil (λ x. ltb x c.nodes)));
              once = once-push view c.nodes fits p child child_low unpushed w.once;
              few = w.few;
              nodes = w.nodes;
              budget = w.budget;
              works = works_trans s work₀ work (set work (marks_at s + child) 1) w.works (works-marked s work child (omega (arith, child_low, within)));
            },
            due ∙ ap (walk_from view (ef - opened)) (checked_fresh view (child_test c node) child (drop (j + 1) l) p test unpushed),
          )

  -- All children of a list are marked
  module _ (node : ℕ) (l : List ℕ) (j : ℕ) (work : List ℕ) (waiting found opened : ℕ) (k : Marks s c hit view ef work₀ node l j work waiting found opened) (all : length l ≤ j) where
    whole-list : take j l ≡ l
    whole-list = take_all j l all

    -- there is room for them
    pub children-room : waiting + length l ≤ s.nodes
    children-room =
        let p = k.0 in
        let m = k.2 in
        omega (
          arith,
          represents_length s c hit (with_waiting k.1 p) work waiting found m.holds,
          ap length m.later,
          length-insert_each (map (waiting_node view) (take j l)) k.1,
          length-map (take j l) (waiting_node view),
          ap length whole-list,
          waiting-length p c.nodes m.once,
          different-below c.nodes p.pushed m.once.different m.once.below,
          within,
        )

    pub children-held : all_pass (λ x. ltb x s.nodes) l ≡ true
    children-held = all_pass_weaken (λ x. ltb x c.nodes) (λ x. ltb x s.nodes) l
        (λ x h. lt-ltb x s.nodes (omega (arith, ltb-true x c.nodes h, within))) (ap (all_pass (λ x. ltb x c.nodes)) (sym whole-list) ∙ k.2.held)

    -- and then they wait
    pub children-pushed : (work' new : List ℕ) (total : ℕ) → new ≡ map (waiting_node view) l → total ≡ waiting + length l → PushedNodes s work waiting new work'
        → Waits s c hit view ef work₀ work' total found opened
    children-pushed work' new total is n q =
        let p = k.0 in
        let m = k.2 in
        let r = represents_pushed s c hit within (with_waiting k.1 p) work work' new waiting found total (omega (arith, n, ap length is, length-map l (waiting_node view))) m.holds q in
        let waits : p.waiting ≡ insert_each new k.1 = m.later ∙ ap (λ (t : List ℕ). insert_each (map (waiting_node view) t) k.1) whole-list ∙ ap (λ (t : List ℕ). insert_each t k.1) (sym is) in (
          p,
          record {
            holds = record { size = r.size; queue = r.queue; waits = r.waits ∙ sym waits; marks = r.marks; finds = r.finds };
            once = m.once;
            few = m.few;
            nodes = m.nodes;
            budget = m.budget;
            works = works_trans s work₀ work work' m.works (works-pushed s work work' new waiting q);
          },
          k.3 ∙ ap (λ (t : List ℕ). walk_from view (ef - opened) (push_checked view (child_test c node) t (going p))) (drop_of_length-le l all)
              ∙ ap (walk_from view (ef - opened)) (checked_nil view (child_test c node) (going p)),
        )
