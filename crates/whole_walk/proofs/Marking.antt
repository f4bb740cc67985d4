-- The children's loop: each child of an inner node is tested and marked. Assumes nothing.
use Prim.Native.Nat.{ℕ, ◌+◌, ◌≤◌, ◌<◌}
use native.Mathlib.Numerals.{add-one}
use native.Mathlib.Omega.{arith}
use mathlib.Core.Path.{◌≡◌, refl, sym, ap, ap₂, ◌∙◌, subst}
use mathlib.Core.Logic.{◌⊎◌, inl, inr}
use mathlib.Core.Bool.{Bool, true, false, ◌&&◌}
use mathlib.Core.List.{List, ◌∷◌}
use lib.Dec.{ltb, eqb}
use lib.ListN.{length, get_or, drop, set, length-set, drop_of_length-le}
use lib.Seq.{drop-cons}
use borrow.Author.Tests.{ltb-true}
use Rattle.lists.specs.Lists.{is_in}
use Rattle.lists.specs.Tests.{which, all_pass, and_left, and_right}
use Rattle.store.specs.declared.Shape.{Shape}
use Rattle.store.specs.declared.Counts.{Counts}
use Rattle.store.specs.Store.{Store, CountsWithin, marks_at, work_size}
use Rattle.walk.specs.Walk.{View, Progress, State, damaged, going, give, Shown}
use Rattle.walk.proofs.WalkLaws.{pushed_one}
use Rattle.walk.specs.StoreView.{children_shown}
use Rattle.walk.specs.Promises.{Works}
use Rattle.walk.proofs.LentLaws.{works_refl, works_trans}
use Rattle.std.specs.Prelude.{Ok, Err}
use Rattle.best_first_walk.specs.MarkLaws.{mark_tells, marked-one, works-marked, found_unmarked, finds-same}
use Rattle.best_first_walk.specs.ChildLaws.{child_test, children-shown, push_checked, checked_give, checked_nil, checked_fails, checked_again, checked_fresh}
use Rattle.whole_walk.specs.Promises.{Notes, NotesState}

-- The first j children of a list are marked, and they are pushed, whatever the keys
pub record Marks (s : Shape) (c : Counts) (found parent : ℕ) (l work₀ : List ℕ) (j : ℕ) (work : List ℕ) : Type 0 where
  pub gives : (hit : ℕ → ℕ) (view : View) (p : Progress) → Notes s c hit p work₀ found
      → (q : Progress) × Notes s c hit q work found
      × (push_checked view (child_test c parent) l (going p) ≡ push_checked view (child_test c parent) (drop j l) (going q))
  pub works : Works s work₀ work

pub marks-none : (s : Shape) (c : Counts) (found parent : ℕ) (l work : List ℕ) → Marks s c found parent l work 0 work
marks-none s c found parent l work = record { gives = λ hit view p n. (p, n, refl); works = works_refl s work }

module _ (s : Shape) (c : Counts) (found parent : ℕ) (l work₀ : List ℕ) (within : CountsWithin s c) (size : work_size s ≤ length work₀) (j : ℕ) (work : List ℕ)
    (m : Marks s c found parent l work₀ j work) where
  -- what an inner node gives is what is left to be pushed
  left_over : (hit : ℕ → ℕ) (view : View) (store : Store) (p : Progress) (n : Notes s c hit p work₀ found)
      → give view (children_shown s c store parent l) p ≡ push_checked view (child_test c parent) (drop j l) (going (m.gives hit view p n).0)
  left_over hit view store p n =
      ap (λ (sh : Shown). give view sh p) (children-shown s c store parent l)
      ∙ checked_give view (child_test c parent) (all_pass (child_test c parent) l) l p ∙ (m.gives hit view p n).2

  -- all of them
  pub marks-all : length l ≤ j → (hit : ℕ → ℕ) (view : View) (store : Store) (p : Progress) → Notes s c hit p work₀ found
      → NotesState s c hit (give view (children_shown s c store parent l) p) (Ok found) work
  marks-all all hit view store p n =
      let r = m.gives hit view p n in
      let state : give view (children_shown s c store parent l) p ≡ going r.0 =
      left_over hit view store p n ∙ ap (λ (t : List ℕ). push_checked view (child_test c parent) t (going r.0)) (drop_of_length-le l all)
      ∙ checked_nil view (child_test c parent) (going r.0) in
      subst (λ (st : State). NotesState s c hit st (Ok found) work) (sym state) r.1

  -- the next child
  module _ (child : ℕ) (more : (j < length l) × (get_or l j 0 ≡ child)) where
    split : drop j l ≡ child ∷ drop (j + 1) l
    split = drop-cons l j 0 more.0 ∙ ap₂ (λ (y : ℕ) (t : List ℕ). y ∷ t) more.1 (ap (λ (n : ℕ). drop n l) (sym (add-one j)))

    -- that is not fresh is damage
    pub marks-damage : (child_test c parent child && eqb (get_or work (marks_at s + child) 0) 0) ≡ false → (hit : ℕ → ℕ) (view : View) (store : Store) (p : Progress)
        → Notes s c hit p work₀ found → NotesState s c hit (give view (children_shown s c store parent l) p) (Err (record {})) work
    marks-damage f hit view store p n =
        let state : give view (children_shown s c store parent l) p ≡ damaged =
        left_over hit view store p n ∙ ap (λ (t : List ℕ). push_checked view (child_test c parent) t (going (m.gives hit view p n).0)) split
        ∙ go (which (child_test c parent child)) in
        subst (λ (st : State). NotesState s c hit st (Err (record {})) work) (sym state) tt
      where
        go : (child_test c parent child ≡ true) ⊎ (child_test c parent child ≡ false)
            → push_checked view (child_test c parent) (child ∷ drop (j + 1) l) (going (m.gives hit view p n).0) ≡ damaged
        go (inr t) = checked_fails view (child_test c parent) child (drop (j + 1) l) (going (m.gives hit view p n).0) t
        go (inl t) =
            let q = (m.gives hit view p n).0 in
            let low : child < c.nodes = ltb-true child c.nodes (and_right (ltb parent child) (ltb child c.nodes) t) in
            let mark : eqb (get_or work (marks_at s + child) 0) 0 ≡ false = sym (ap (λ (b : Bool). b && eqb (get_or work (marks_at s + child) 0) 0) t) ∙ f in
            checked_again view (child_test c parent) child (drop (j + 1) l) q
            (mark_tells child q.pushed (get_or work (marks_at s + child) 0) ((m.gives hit view p n).1.marks child low) false mark)

    -- that is fresh is marked
    module _ (fresh : (child_test c parent child && eqb (get_or work (marks_at s + child) 0) 0) ≡ true) where
      test : child_test c parent child ≡ true
      test = and_left (child_test c parent child) (eqb (get_or work (marks_at s + child) 0) 0) fresh

      pub child_low : child < c.nodes
      child_low = ltb-true child c.nodes (and_right (ltb parent child) (ltb child c.nodes) test)

      pub marks-next : Marks s c found parent l work₀ (j + 1) (set work (marks_at s + child) 1)
      marks-next =
          let room : work_size s ≤ length work = omega (arith, size, m.works.size) in
          let inside : child < s.nodes = omega (arith, child_low, within.nodes) in
          record {
            gives = λ hit view p n.
                let r = m.gives hit view p n in
                let q = r.0 in
                let unpushed : is_in child q.pushed ≡ false =
                mark_tells child q.pushed (get_or work (marks_at s + child) 0) (r.1.marks child child_low) true
                (and_right (child_test c parent child) (eqb (get_or work (marks_at s + child) 0) 0) fresh) in (
                  pushed_one view child q,
                  record {
                    size = omega (arith, room, length-set work (marks_at s + child) 1);
                    marks = marked-one s c q.pushed work child within.nodes room child_low r.1.marks;
                    finds = finds-same s c hit q.found work (set work (marks_at s + child) 1) found (found_unmarked s work child inside) r.1.finds;
                  },
                  r.2 ∙ ap (λ (t : List ℕ). push_checked view (child_test c parent) t (going q)) split ∙ checked_fresh view (child_test c parent) child (drop (j + 1) l) q test unpushed,
                );
            works = works_trans s work₀ work (set work (marks_at s + child) 1) m.works (works-marked s work child inside);
          }
