-- The pass is the walk over the store's view with the key 0 for every node: what waits are then the marked nodes that the pass has not come to, by rising
-- number. With a budget of at least the node count this walk ends as the walk by distance does. Assumes nothing.
use Prim.Native.Nat.{ℕ, zero, suc, ◌+◌, ◌-◌, ◌*◌, ◌^◌, ◌≤◌, ◌<◌}
use native.Mathlib.Numerals.{add-one}
use native.Mathlib.Omega.{arith}
use mathlib.Core.Path.{◌≡◌, refl, sym, ap, ap₂, ◌∙◌, subst}
use mathlib.Core.Logic.{◌⊎◌, inl, inr, ◌≢◌}
use mathlib.Core.Bool.{Bool, true, false}
use mathlib.Core.List.Memᴰ
use mathlib.Core.List.{List, [], ◌∷◌, Memᴰ}
use lib.Dec.{leb, ltb}
use lib.ListN.{length, get_or}
use borrow.Author.Tests.{leb-true, leb-false, eq-eqb, ne_eqb}
use Rattle.lists.specs.Lists.{keep, count_from, is_in}
use Rattle.lists.specs.Counting.{keep-pass, keep_fail, keep-nil, keep-none, keep_congr, Memᴰ-keep, count_from-cons, Memᴰ-count_from, is_in-nil, is_in-here, is_in-later}
use Rattle.lists.specs.Tests.{which, all_pass-nil}
use Rattle.record_queue.specs.Sorted.{insert}
use Rattle.record_queue.specs.SortedLaws.{insert_gt, insert-least, mem_least, length-sort}
use Rattle.record_queue.specs.RecordsLaws.{same_or_not}
use Rattle.store.specs.declared.Shape.{Shape}
use Rattle.store.specs.declared.Counts.{Counts}
use Rattle.store.specs.Store.{marks_at, work_size}
use Rattle.walk.specs.Walk.{View, node_number, Progress, State, damaged, going, push_all, give, shown, step, walk, walk_from, Shown, children, hits, damage, none}
use Rattle.walk.proofs.WalkLaws.{opened_one, pushed_one, start_progress, push_all-nil, push_all-fresh, push_all_again, give-damage, give-children, give-hits, give_over, step_open, walk-zero, walk_is, nil-waiting, shown_children, Holds, found-most}
use Rattle.walk.specs.Promises.{Works}
use Rattle.walk.proofs.BudgetLaws.{walk_more, damaged_stays, none_stays}
use Rattle.walk.proofs.DifferentLaws.{ChildrenBelow}
use Rattle.walk.proofs.SameWalkLaws.{walk-last}
use Rattle.walk.proofs.KeysLaws.{keyed, shown-keyed, SameEnd, keys_free}
use Rattle.std.specs.Prelude.{Result, Ok, Err}
use Rattle.walk.specs.declared.Searched.{Searched}
use Rattle.walk.specs.declared.Damaged.{Damaged}
use Rattle.best_first_walk.specs.Walks.{WalkEnds, root_marked}
use Rattle.best_first_walk.specs.MarkLaws.{Marked, mark_tells, marked-root, works-root}
use Rattle.whole_walk.specs.Promises.{Notes, NotesState}

-- ---- the root alone is marked, as a walk over any view begins

module _ (s : Shape) (c : Counts) (work work' : List ℕ) (nodes : c.nodes ≤ s.nodes) (some : 1 ≤ c.nodes) (is : work' ≡ root_marked s c work) where
  pub root-works : Works s work work'
  root-works = subst (Works s work) (sym is) (works-root s c work nodes some)

  pub root-notes : (hit : ℕ → ℕ) (view : View) → work_size s ≤ length work → Notes s c hit (start_progress view) work' 0
  root-notes hit view size = record {
    size = omega (arith, root-works.size, size);
    marks = subst (Marked s c (0 ∷ [])) (sym is) (marked-root s c work nodes size some);
    finds = record { count = refl; held = all_pass-nil (λ x. ltb x c.vectors); are = refl };
  }

-- ---- the marked nodes by rising number

-- those of k numbers from m on
abbrev pub rising : List ℕ → ℕ → ℕ → List ℕ
rising pushed m k = keep (λ j. is_in j pushed) (count_from m k)

rising_none : (pushed : List ℕ) (m : ℕ) → rising pushed m 0 ≡ []
unfolding count_from
rising_none pushed m = keep-nil (λ j. is_in j pushed)

rising-here : (pushed : List ℕ) (m k : ℕ) → is_in m pushed ≡ true → rising pushed m (suc k) ≡ m ∷ rising pushed (suc m) k
rising-here pushed m k e = ap (keep (λ j. is_in j pushed)) (count_from-cons m k) ∙ keep-pass (λ j. is_in j pushed) m (count_from (suc m) k) e

rising-skip : (pushed : List ℕ) (m k : ℕ) → is_in m pushed ≡ false → rising pushed m (suc k) ≡ rising pushed (suc m) k
rising-skip pushed m k e = ap (keep (λ j. is_in j pushed)) (count_from-cons m k) ∙ keep_fail (λ j. is_in j pushed) m (count_from (suc m) k) e

-- one that is marked among them
rising-insert : (child : ℕ) (pushed : List ℕ) (m k : ℕ) → m ≤ child → child < m + k → is_in child pushed ≡ false
    → insert child (rising pushed m k) ≡ rising (child ∷ pushed) m k
rising-insert child pushed m zero low high f = absurd (omega arith)
rising-insert child pushed m (suc k) low high f = go (same_or_not child m) (rising-insert child pushed (suc m) k)
  where
    above : (a : ℕ) → Memᴰ a (count_from (suc m) k) → suc m ≤ a
    above a n = (Memᴰ-count_from a (suc m) k n).0

    first : child ≡ m → insert child (rising pushed m (suc k)) ≡ rising (child ∷ pushed) m (suc k)
    first e =
        let unmarked : is_in m pushed ≡ false = ap (λ (j : ℕ). is_in j pushed) (sym e) ∙ f in
        let marked : is_in m (child ∷ pushed) ≡ true = ap (λ (j : ℕ). is_in j (child ∷ pushed)) (sym e) ∙ is_in-here child pushed in
        ap (insert child) (rising-skip pushed m k unmarked)
        ∙ insert-least child (rising pushed (suc m) k)
        (mem_least child (rising pushed (suc m) k) (λ a n. let b : suc m ≤ a = above a (Memᴰ-keep (λ j. is_in j pushed) a (count_from (suc m) k) n).1 in omega arith))
        ∙ ap₂ (λ (j : ℕ) (l : List ℕ). j ∷ l) e
        (keep_congr (λ j. is_in j pushed) (λ j. is_in j (child ∷ pushed)) (count_from (suc m) k) (λ a n. sym (is_in-later a child pushed (λ s. let b : suc m ≤ a = above a n in omega arith))))
        ∙ sym (rising-here (child ∷ pushed) m k marked)

    later : child ≢ m → (suc m ≤ child → child < suc m + k → is_in child pushed ≡ false → insert child (rising pushed (suc m) k) ≡ rising (child ∷ pushed) (suc m) k)
        → (is_in m pushed ≡ true) ⊎ (is_in m pushed ≡ false) → insert child (rising pushed m (suc k)) ≡ rising (child ∷ pushed) m (suc k)
    later n more (inl t) =
        let behind : m < child = omega (arith, low, n) in
        ap (insert child) (rising-here pushed m k t) ∙ insert_gt child m (rising pushed (suc m) k) behind
        ∙ ap (λ (l : List ℕ). m ∷ l) (more behind (omega arith) f) ∙ sym (rising-here (child ∷ pushed) m k (is_in-later m child pushed (λ e. n (sym e)) ∙ t))
    later n more (inr t) =
        let behind : m < child = omega (arith, low, n) in
        ap (insert child) (rising-skip pushed m k t) ∙ more behind (omega arith) f
        ∙ sym (rising-skip (child ∷ pushed) m k (is_in-later m child pushed (λ e. n (sym e)) ∙ t))

    go : (child ≡ m) ⊎ (child ≢ m) → (suc m ≤ child → child < suc m + k → is_in child pushed ≡ false → insert child (rising pushed (suc m) k) ≡ rising (child ∷ pushed) (suc m) k)
        → insert child (rising pushed m (suc k)) ≡ rising (child ∷ pushed) m (suc k)
    go (inl e) more = first e
    go (inr n) more = later n more (which (is_in m pushed))

-- ---- a walk by rising number

-- the view with the key 0 for every node: a waiting node is its number
abbrev pub unkeyed : View → View
unkeyed view = keyed (λ i. 0) view

-- what waits rises, and these nodes are opened
record Rises (opened : List ℕ) (m k : ℕ) (p : Progress) : Type 0 where
  waits : p.waiting ≡ rising p.pushed m k
  opens : p.opened ≡ opened

module _ (view : View) (opened : List ℕ) (m k : ℕ) where
  rises_push : (p : Progress) (child : ℕ) → m ≤ child → child < m + k → is_in child p.pushed ≡ false → Rises opened m k p → Rises opened m k (pushed_one (unkeyed view) child p)
  rises_push p child low high f r = record {
    waits = ap₂ insert (let t : 0 * 2 ^ 64 + child ≡ child = omega arith in t) r.waits ∙ rising-insert child p.pushed m k low high f;
    opens = r.opens;
  }

  rises_all : (cs : List ℕ) → ((x : ℕ) → Memᴰ x cs → (m ≤ x) × (x < m + k)) → (p : Progress) → Rises opened m k p
      → Holds (Rises opened m k) (push_all (unkeyed view) cs (going p))
  rises_all [] h p r = subst (Holds (Rises opened m k)) (sym (push_all-nil (unkeyed view) (going p))) r
  rises_all (c ∷ cs) h p r = go (is_in c p.pushed) refl (rises_all cs (λ x n. h x (Memᴰ.tail n)) (pushed_one (unkeyed view) c p))
    where
      go : (b : Bool) → is_in c p.pushed ≡ b → (Rises opened m k (pushed_one (unkeyed view) c p) → Holds (Rises opened m k) (push_all (unkeyed view) cs (going (pushed_one (unkeyed view) c p))))
          → Holds (Rises opened m k) (push_all (unkeyed view) (c ∷ cs) (going p))
      go true f more = subst (Holds (Rises opened m k)) (sym (push_all_again (unkeyed view) c cs p f)) tt
      go false f more =
          let within = h c (Memᴰ.head refl) in
          subst (Holds (Rises opened m k)) (sym (push_all-fresh (unkeyed view) c cs p f)) (more (rises_push p c within.0 within.1 f r))

  rises_give : (sh : Shown) → ((x : ℕ) → Memᴰ x (shown_children sh) → (m ≤ x) × (x < m + k)) → (p : Progress) → Rises opened m k p
      → Holds (Rises opened m k) (give (unkeyed view) sh p)
  rises_give damage h p r = subst (Holds (Rises opened m k)) (sym (give-damage (unkeyed view) p)) tt
  rises_give (children cs) h p r = subst (Holds (Rises opened m k)) (sym (give-children (unkeyed view) cs p)) (rises_all cs h p r)
  rises_give (hits new) h p r = go (leb (length new + length p.found) view.most) refl
    where
      go : (b : Bool) → leb (length new + length p.found) view.most ≡ b → Holds (Rises opened m k) (give (unkeyed view) (hits new) p)
      go true f =
          subst (Holds (Rises opened m k)) (sym (give-hits (unkeyed view) new p (leb-true (length new + length p.found) view.most f)))
          (record { waits = r.waits; opens = r.opens })
      go false f = subst (Holds (Rises opened m k)) (sym (give_over (unkeyed view) new p (leb-false (length new + length p.found) view.most f))) tt

-- ---- the loop

-- The pass has come to node i: so far this is the walk, the work list holds it, and what waits is still to come
pub record Passing (s : Shape) (c : Counts) (hit : ℕ → ℕ) (view : View) (p : Progress) (work : List ℕ) (i found opened : ℕ) : Type 0 where
  pub notes : Notes s c hit p work found
  pub waits : p.waiting ≡ rising p.pushed i (c.nodes - i)
  pub nodes : length p.opened ≡ opened
  pub so_far : walk (unkeyed view) opened ≡ going p

abbrev pub Passes : Shape → Counts → (ℕ → ℕ) → View → List ℕ → ℕ → ℕ → ℕ → Type 0
Passes s c hit view work i found opened = (p : Progress) × Passing s c hit view p work i found opened

-- children that a view shows are above their parent and below a count
abbrev pub ChildrenAbove : View → ℕ → Type 0
ChildrenAbove view n = (i : ℕ) (numbers : List ℕ) (x : ℕ) → shown view i ≡ children numbers → Memᴰ x numbers → (i < x) × (x < n)

module _ (s : Shape) (c : Counts) (hit : ℕ → ℕ) (view : View) where
  pub passes-start : (work : List ℕ) → 1 ≤ c.nodes → Notes s c hit (start_progress (unkeyed view)) work 0 → Passes s c hit view work 0 0 0
  passes-start work some n = (
    start_progress (unkeyed view),
    record {
      notes = n;
      waits = ap (λ (j : ℕ). j ∷ []) (let t : 0 * 2 ^ 64 + 0 ≡ 0 = omega arith in t)
          ∙ sym (ap (rising (0 ∷ []) 0) (let t : c.nodes - 0 ≡ suc (c.nodes - 1) = omega arith in t) ∙ rising-here (0 ∷ []) 0 (c.nodes - 1) (is_in-here 0 [])
          ∙ ap (λ (l : List ℕ). 0 ∷ l) (keep-none (λ j. is_in j (0 ∷ [])) (count_from 1 (c.nodes - 1))
          (λ x m. is_in-later x 0 [] (λ e. let b : 1 ≤ x = (Memᴰ-count_from x 1 (c.nodes - 1) m).0 in omega arith) ∙ is_in-nil x)));
      nodes = refl;
      so_far = walk_is (unkeyed view) 0 ∙ walk-zero (unkeyed view) (going (start_progress (unkeyed view)));
    },
  )

  -- there are never more hits than there can be
  pub passes-few : (work : List ℕ) (i found opened : ℕ) → Passes s c hit view work i found opened → found ≤ view.most
  passes-few work i found opened (p, w) = omega (arith, w.notes.finds.count, found-most (unkeyed view) opened p w.so_far)

  module _ (work : List ℕ) (i found opened : ℕ) (low : i < c.nodes) (mark : ℕ) (is : mark ≡ get_or work (marks_at s + i) 0) where
    left : c.nodes - i ≡ suc (c.nodes - (i + 1))
    left = omega arith

    -- a node that is not marked
    pub passes-skip : mark ≡ 0 → Passes s c hit view work i found opened → Passes s c hit view work (i + 1) found opened
    passes-skip z (p, w) =
        let unmarked : is_in i p.pushed ≡ false = mark_tells i p.pushed mark (is ∙ w.notes.marks i low) true (eq-eqb mark 0 z) in (
          p,
          record {
            notes = w.notes;
            waits = w.waits ∙ ap (rising p.pushed i) left ∙ rising-skip p.pushed i (c.nodes - (i + 1)) unmarked
                ∙ ap (λ (m : ℕ). rising p.pushed m (c.nodes - (i + 1))) (sym (add-one i));
            nodes = w.nodes;
            so_far = w.so_far;
          },
        )

    -- a node that is marked is opened
    module _ (within : c.nodes ≤ 2 ^ 64) (above : ChildrenAbove view c.nodes) (some : mark ≡ 0 → ⊥) (p : Progress) (w : Passing s c hit view p work i found opened) where
      abbrev rest_at : List ℕ
      rest_at = rising p.pushed (i + 1) (c.nodes - (i + 1))

      taken : p.waiting ≡ i ∷ rest_at
      taken =
          w.waits ∙ ap (rising p.pushed i) left
          ∙ rising-here p.pushed i (c.nodes - (i + 1)) (mark_tells i p.pushed mark (is ∙ w.notes.marks i low) false (ne_eqb mark 0 some))
          ∙ ap (λ (m : ℕ). i ∷ rising p.pushed m (c.nodes - (i + 1))) (sym (add-one i))

      abbrev opened_at : Progress
      opened_at = opened_one i rest_at p

      opened-notes : Notes s c hit opened_at work found
      opened-notes = record { size = w.notes.size; marks = w.notes.marks; finds = w.notes.finds }

      opened-state : walk (unkeyed view) (opened + 1) ≡ give (unkeyed view) (shown view i) opened_at
      opened-state =
          ap (walk (unkeyed view)) (add-one opened) ∙ walk-last (unkeyed view) opened ∙ ap (step (unkeyed view)) w.so_far ∙ step_open (unkeyed view) p i rest_at taken
          ∙ ap (λ (j : ℕ). give (unkeyed view) (shown (unkeyed view) j) opened_at) (let t : node_number i ≡ i = omega arith in t)
          ∙ ap (λ (sh : Shown). give (unkeyed view) sh opened_at) (shown-keyed (λ j. 0) view i)

      opened_rises : Holds (Rises (node_number i ∷ p.opened) (i + 1) (c.nodes - (i + 1))) (give (unkeyed view) (shown view i) opened_at)
      opened_rises =
          rises_give view (node_number i ∷ p.opened) (i + 1) (c.nodes - (i + 1)) (shown view i) (λ x m. behind (shown view i) refl x m) opened_at
          (record { waits = refl; opens = refl })
        where
          behind : (sh : Shown) → shown view i ≡ sh → (x : ℕ) → Memᴰ x (shown_children sh) → (i + 1 ≤ x) × (x < i + 1 + (c.nodes - (i + 1)))
          behind damage e x m = absurd (Memᴰ.not-nil m)
          behind (children cs) e x m = let a = above i cs x e m in (omega (arith, a.0), omega (arith, a.1, low))
          behind (hits new) e x m = absurd (Memᴰ.not-nil m)

      -- and the pass goes on
      pub passes-next : (work' : List ℕ) (total : ℕ)
          → ((q : Progress) → Notes s c hit q work found → NotesState s c hit (give (unkeyed view) (shown view i) q) (Ok total) work')
          → Passes s c hit view work' (i + 1) total (opened + 1)
      passes-next work' total gives = go (give (unkeyed view) (shown view i) opened_at) opened-state opened_rises (gives opened_at opened-notes)
        where
          go : (st : State) → walk (unkeyed view) (opened + 1) ≡ st → Holds (Rises (node_number i ∷ p.opened) (i + 1) (c.nodes - (i + 1))) st
              → NotesState s c hit st (Ok total) work' → Passes s c hit view work' (i + 1) total (opened + 1)
          go damaged e r n = absurd n
          go (going q) e r n =
              (q, record { notes = n; waits = r.waits; nodes = ap length r.opens ∙ ap suc w.nodes ∙ sym (add-one opened); so_far = e })

      -- or ends in damage
      pub passes-damage : (work' : List ℕ)
          → ((q : Progress) → Notes s c hit q work found → NotesState s c hit (give (unkeyed view) (shown view i) q) (Err (record {})) work')
          → walk (unkeyed view) (opened + 1) ≡ damaged
      passes-damage work' gives = go (give (unkeyed view) (shown view i) opened_at) opened-state (gives opened_at opened-notes)
        where
          go : (st : State) → walk (unkeyed view) (opened + 1) ≡ st → NotesState s c hit st (Err (record {})) work' → walk (unkeyed view) (opened + 1) ≡ damaged
          go damaged e n = e
          go (going q) e n = absurd n

-- ---- how the pass ends

-- walks that end alike, as the work list holds them
ends_same : (s : Shape) (c : Counts) (hit : ℕ → ℕ) (work : List ℕ) (st st' : State) → SameEnd st st' → (r : Result Searched Damaged) → WalkEnds s c hit st' r work → WalkEnds s c hit st r work
ends_same s c hit work damaged damaged e r w = w
ends_same s c hit work damaged (going q) e r w = absurd e
ends_same s c hit work (going p) damaged e r w = absurd e
ends_same s c hit work (going p) (going q) e (Err _) w = w
ends_same s c hit work (going p) (going q) e (Ok r) w =
    let long : length q.found ≡ length p.found = sym (length-sort q.found) ∙ ap length (sym e.found) ∙ length-sort p.found in
    record {
      finds = record { count = w.finds.count ∙ long; held = w.finds.held; are = w.finds.are ∙ sym e.found };
      nodes = w.nodes ∙ sym e.opened;
      all = w.all ∙ e.whole_right ∙ sym e.whole_left;
    }

-- a larger budget goes on
walk-later : (view : View) (k b : ℕ) → k ≤ b → walk view b ≡ walk_from view (b - k) (walk view k)
walk-later view k b h =
    walk_is view b ∙ ap (λ (n : ℕ). walk_from view n (going (start_progress view))) (let t : b ≡ k + (b - k) = omega arith in t)
    ∙ walk_more view k (b - k) (going (start_progress view)) ∙ ap (walk_from view (b - k)) (sym (walk_is view k))

module _ (s : Shape) (c : Counts) (hit : ℕ → ℕ) (view : View) (fits : c.nodes ≤ 2 ^ 64) (some : 1 ≤ c.nodes) (below : ChildrenBelow view c.nodes) (ef : ℕ) (enough : c.nodes ≤ ef) where
  carried : (work : List ℕ) (r : Result Searched Damaged) → WalkEnds s c hit (walk (unkeyed view) ef) r work → WalkEnds s c hit (walk view ef) r work
  carried work r w =
      ends_same s c hit work (walk view ef) (walk (unkeyed view) ef)
      (keys_free view (unkeyed view) c.nodes fits some below refl (λ i h. sym (shown-keyed (λ j. 0) view i)) ef enough) r w

  -- every node was come to: whole
  pub ends-whole : (work : List ℕ) (i found opened : ℕ) → i ≡ c.nodes → opened ≤ i → Passes s c hit view work i found opened
      → WalkEnds s c hit (walk view ef) (Ok (record { hits = found; opened = opened; whole = true })) work
  ends-whole work i found opened all few (p, w) =
      let nothing : p.waiting ≡ [] = w.waits ∙ ap (rising p.pushed i) (let t : c.nodes - i ≡ 0 = omega arith in t) ∙ rising_none p.pushed i in
      let state : walk (unkeyed view) ef ≡ going p =
      walk-later (unkeyed view) opened ef (omega arith) ∙ ap (walk_from (unkeyed view) (ef - opened)) w.so_far ∙ none_stays (unkeyed view) (ef - opened) p nothing in
      carried work (Ok (record { hits = found; opened = opened; whole = true }))
      (subst (λ (st : State). WalkEnds s c hit st (Ok (record { hits = found; opened = opened; whole = true })) work) (sym state)
      (record { finds = w.notes.finds; nodes = sym w.nodes; all = sym (ap none nothing ∙ nil-waiting) }))

  -- damage stays
  pub ends-damaged : (work : List ℕ) (opened : ℕ) → opened ≤ ef → walk (unkeyed view) opened ≡ damaged → WalkEnds s c hit (walk view ef) (Err (record {})) work
  ends-damaged work opened few e =
      let state : walk (unkeyed view) ef ≡ damaged =
      walk-later (unkeyed view) opened ef few ∙ ap (walk_from (unkeyed view) (ef - opened)) e ∙ damaged_stays (unkeyed view) (ef - opened) in
      carried work (Err (record {})) (subst (λ (st : State). WalkEnds s c hit st (Err (record {})) work) (sym state) tt)
