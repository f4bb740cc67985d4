-- The walk's loop: what holds of the work list and the walk's state at each turn, what a leaf does to them, and how each way out ends. Assumes nothing.
use Prim.Native.Nat.{ℕ, suc, ◌+◌, ◌-◌, ◌*◌, ◌^◌, ◌≤◌, ◌<◌, max}
use native.Mathlib.Numerals.{add-one}
use native.Mathlib.Omega.{arith}
use mathlib.Core.Path.{◌≡◌, refl, sym, ap, ◌∙◌, subst}
use mathlib.Core.Bool.{Bool, true, false, cond}
use mathlib.Core.List.{List, [], ◌∷◌, map}
use lib.Dec.{ltb}
use lib.ListN.{length, drop, length-append}
use lib.Arith.{lt_of_le-ne}
use lib.Seq.{sets}
use Rattle.lists.specs.Tests.{all_pass}
use Rattle.record_queue.specs.declared.Record.{Record}
use Rattle.record_queue.specs.Sorted.{sort}
use Rattle.record_queue.specs.Records.{value, records}
use Rattle.record_queue.specs.Queue.{Popped}
use Rattle.store.specs.declared.Shape.{Shape}
use Rattle.store.specs.Store.{Limits, hits_at}
use Rattle.store.specs.declared.Counts.{Counts}
use Rattle.walk.specs.Walk.{View, Progress, State, damaged, going, walk, walk_from, Shown, shown, give, hits, damage, none, whole}
use Rattle.walk.proofs.WalkLaws.{opened_one, added_hits, start_progress, walk_is, walk-suc, walk-zero, step_open, some-waiting, nil-waiting, give-damage}
use Rattle.walk.proofs.BudgetLaws.{none_stays, damaged_stays}
use Rattle.walk.proofs.DifferentLaws.{Once, ChildrenBelow, once-kept, once-start, different-below}
use Rattle.walk.specs.Promises.{Works}
use Rattle.leaf_hits.specs.Promises.{Gathered, GatherDamage}
use Rattle.best_first_walk.specs.Walks.{found_in, found_part, Represents, BeginsWalk, WalkEnds}
use Rattle.walk.proofs.KeysLaws.{waiting-length}
use Rattle.best_first_walk.specs.MarkLaws.{works-found}
use Rattle.best_first_walk.specs.GatherLaws.{gather_damages, gather_room, gather_adds}
use Rattle.best_first_walk.proofs.Steps.{represents_length, popped_waits, represents_opened, represents_hits, popped_number, least-below, works_popped}
use Rattle.walk.proofs.LentLaws.{works_refl, works_trans}
use Rattle.std.specs.Prelude.{Ok, Err}

pub record Walking (s : Shape) (c : Counts) (hit : ℕ → ℕ) (view : View) (ef : ℕ) (work₀ : List ℕ) (p : Progress) (work : List ℕ) (waiting found opened : ℕ) : Type 0 where
  pub holds : Represents s c hit p work waiting found
  pub once : Once c.nodes p
  pub few : length p.found ≤ view.most
  pub nodes : length p.opened ≡ opened
  pub budget : opened ≤ ef
  pub works : Works s work₀ work

-- at the head of the loop, and with a node opened
abbrev pub Waits : Shape → Counts → (ℕ → ℕ) → View → ℕ → List ℕ → List ℕ → ℕ → ℕ → ℕ → Type 0
Waits s c hit view ef work₀ work waiting found opened =
    (p : Progress) × Walking s c hit view ef work₀ p work waiting found opened × (walk view ef ≡ walk_from view (ef - opened) (going p))

abbrev pub Opens : Shape → Counts → (ℕ → ℕ) → View → ℕ → List ℕ → ℕ → List ℕ → ℕ → ℕ → ℕ → Type 0
Opens s c hit view ef work₀ node work waiting found opened =
    (p : Progress) × Walking s c hit view ef work₀ p work waiting found opened × (walk view ef ≡ walk_from view (ef - opened) (give view (shown view node) p))

-- the same from an earlier work list on
pub walking_from : (s : Shape) (c : Counts) (hit : ℕ → ℕ) (view : View) (ef : ℕ) (a b : List ℕ) (p : Progress) (work : List ℕ) (waiting found opened : ℕ) → Works s a b
    → Walking s c hit view ef b p work waiting found opened → Walking s c hit view ef a p work waiting found opened
walking_from s c hit view ef a b p work waiting found opened k w =
    record { holds = w.holds; once = w.once; few = w.few; nodes = w.nodes; budget = w.budget; works = works_trans s a b work k w.works }

pub waits_from : (s : Shape) (c : Counts) (hit : ℕ → ℕ) (view : View) (ef : ℕ) (a b : List ℕ) (work : List ℕ) (waiting found opened : ℕ) → Works s a b
    → Waits s c hit view ef b work waiting found opened → Waits s c hit view ef a work waiting found opened
waits_from s c hit view ef a b work waiting found opened k (p, w, e) = (p, walking_from s c hit view ef a b p work waiting found opened k w, e)

-- nodes have numbers that a waiting node can hold
pub nodes_fit : (s : Shape) (c : Counts) → Limits s → c.nodes ≤ s.nodes → c.nodes ≤ 2 ^ 64
nodes_fit s c limits within = omega (arith, limits.nodes_high)

-- Damage ends the walk
pub damage-ends : (view : View) (ef n : ℕ) (st : State) → st ≡ damaged → walk view ef ≡ walk_from view n st → walk view ef ≡ damaged
damage-ends view ef n st e f = f ∙ ap (walk_from view n) e ∙ damaged_stays view n

module _ (s : Shape) (c : Counts) (hit : ℕ → ℕ) (view : View) (ef : ℕ) (work₀ : List ℕ) (limits : Limits s) (within : c.nodes ≤ s.nodes) (some : 1 ≤ c.nodes)
    (below : ChildrenBelow view c.nodes) where
  fits : c.nodes ≤ 2 ^ 64
  fits = nodes_fit s c limits within

  pub waits_start : (entry : List ℕ) → BeginsWalk s c hit view entry work₀ → Waits s c hit view ef work₀ work₀ 1 0 0
  waits_start entry b = (
    start_progress view,
    record { holds = b.start; once = once-start view c.nodes fits below some; few = omega arith; nodes = refl; budget = omega arith; works = works_refl s work₀ },
    walk_is view ef ∙ ap (λ (n : ℕ). walk_from view n (going (start_progress view))) (let t : ef ≡ ef - 0 = omega arith in t),
  )

  -- no more wait than there are nodes
  pub few_wait : (work : List ℕ) (waiting found opened : ℕ) → Waits s c hit view ef work₀ work waiting found opened → waiting ≤ s.nodes
  few_wait work waiting found opened (p, w, e) =
      omega (
        arith,
        represents_length s c hit p work waiting found w.holds,
        waiting-length p c.nodes w.once,
        different-below c.nodes p.pushed w.once.different w.once.below,
        within,
      )

  -- The least node is taken and opened
  pub opens : (work work' : List ℕ) (waiting found opened : ℕ) (least : Record) → Waits s c hit view ef work₀ work waiting found opened
      → (opened ≡ ef → ⊥) → Popped 2 waiting work least work' → Opens s c hit view ef work₀ least.rest work' (waiting - 1) found (opened + 1)
  opens work work' waiting found opened least (p, w, e) more q =
      let rest : List ℕ = sort (records 2 (waiting - 1) work') in
      let taken : p.waiting ≡ value least ∷ rest = popped_waits s c hit p work waiting found w.holds work' least q in
      let few : waiting ≤ s.nodes = few_wait work waiting found opened (p, w, e) in
      let low : opened < ef = lt_of_le-ne w.budget more in (
        opened_one (value least) rest p,
        record {
          holds = represents_opened s c hit p work waiting found w.holds work' least within few q;
          once = (once-kept view c.nodes fits below).opens p (value least) rest taken w.once;
          few = w.few;
          nodes = ap suc w.nodes ∙ sym (add-one opened);
          budget = omega arith;
          works = works_trans s work₀ work work' w.works (works_popped s work work' waiting least few q);
        },
        e ∙ ap (λ (n : ℕ). walk_from view n (going p)) (let t : ef - opened ≡ suc (ef - (opened + 1)) = omega arith in t) ∙ walk-suc view (ef - (opened + 1)) (going p)
            ∙ ap (walk_from view (ef - (opened + 1))) (step_open view p (value least) rest taken
            ∙ ap (λ (i : ℕ). give view (shown view i) (opened_one (value least) rest p)) (popped_number least (q.fits refl))),
      )

  pub opens-below : (work work' : List ℕ) (waiting found opened : ℕ) (least : Record) → Waits s c hit view ef work₀ work waiting found opened
      → Popped 2 waiting work least work' → least.rest < c.nodes
  opens-below work work' waiting found opened least (p, w, e) q =
      subst (λ (i : ℕ). i < c.nodes) (popped_number least (q.fits refl))
      (least-below p c.nodes (value least) (sort (records 2 (waiting - 1) work')) w.once (popped_waits s c hit p work waiting found w.holds work' least q))

  pub opens-damage : (node : ℕ) (work : List ℕ) (waiting found opened : ℕ) → Opens s c hit view ef work₀ node work waiting found opened → shown view node ≡ damage
      → walk view ef ≡ damaged
  opens-damage node work waiting found opened (p, w, e) d =
      damage-ends view ef (ef - opened) (give view (shown view node) p) (ap (λ (sh : Shown). give view sh p) d ∙ give-damage view p) e

  -- A leaf whose list is not sound, or has one hit too many
  pub leaf_damage : (node : ℕ) (work : List ℕ) (waiting found opened : ℕ) (sound : Bool) (vectors : List ℕ)
      → Opens s c hit view ef work₀ node work waiting found opened → shown view node ≡ cond sound (hits (map hit vectors)) damage
      → GatherDamage sound vectors view.most found → walk view ef ≡ damaged
  leaf_damage node work waiting found opened sound vectors (p, w, e) sh g =
      damage-ends view ef (ef - opened) (give view (shown view node) p)
      (ap (λ (x : Shown). give view x p) sh ∙ gather_damages view hit p sound vectors found w.holds.finds.count g) e

  -- A leaf whose vectors were added
  pub leaf_hits_lem : (node : ℕ) (work ys : List ℕ) (waiting found opened total : ℕ) (sound : Bool) (vectors : List ℕ) → waiting ≤ s.nodes
      → (sound ≡ true → all_pass (λ x. ltb x c.vectors) vectors ≡ true)
      → Opens s c hit view ef work₀ node work waiting found opened → shown view node ≡ cond sound (hits (map hit vectors)) damage
      → length ys ≡ 3 * max s.vectors s.entries → Gathered sound vectors view.most found (found_part s work) total (drop (found_in s) ys)
      → Waits s c hit view ef work₀ (sets work (hits_at s) ys) waiting total opened
  leaf_hits_lem node work ys waiting found opened total sound vectors few held (p, w, e) sh long g =
      let new : List ℕ = map hit vectors in
      let room : length new + length p.found ≤ view.most = gather_room view hit p sound vectors found w.holds.finds.count (found_part s work) total (drop (found_in s) ys) g in (
        added_hits new p,
        record {
          holds = represents_hits s c hit p work ys waiting found w.holds limits long vectors total within few (held g.pass) g.count g.vectors;
          once = (once-kept view c.nodes fits below).adds p new room w.once;
          few = omega (arith, length-append new p.found, room);
          nodes = w.nodes;
          budget = w.budget;
          works = works_trans s work₀ work (sets work (hits_at s) ys) w.works (works-found s c hit work ys limits w.holds.size long);
        },
        e ∙ ap (walk_from view (ef - opened))
            (ap (λ (x : Shown). give view x p) sh ∙ gather_adds view hit p sound vectors found w.holds.finds.count (found_part s work) total (drop (found_in s) ys) g),
      )

  -- ---- how the walk ends

  pub ends-damaged : (work : List ℕ) → walk view ef ≡ damaged → WalkEnds s c hit (walk view ef) (Err (record {})) work
  ends-damaged work e = subst (λ (st : State). WalkEnds s c hit st (Err (record {})) work) (sym e) tt

  ended : (p : Progress) (work : List ℕ) (waiting found opened : ℕ) (complete : Bool) → Walking s c hit view ef work₀ p work waiting found opened
      → complete ≡ whole p → walk view ef ≡ going p → WalkEnds s c hit (walk view ef) (Ok (record { hits = found; opened = opened; whole = complete })) work
  ended p work waiting found opened complete w all e =
      subst (λ (st : State). WalkEnds s c hit st (Ok (record { hits = found; opened = opened; whole = complete })) work) (sym e)
      (record {
        finds = w.holds.finds;
        nodes = sym w.nodes;
        all = all;
      })

  -- None waits: whole
  pub ends-whole : (work : List ℕ) (waiting found opened : ℕ) → waiting ≡ 0 → Waits s c hit view ef work₀ work waiting found opened
      → WalkEnds s c hit (walk view ef) (Ok (record { hits = found; opened = opened; whole = true })) work
  ends-whole work waiting found opened z (p, w, e) =
      let nothing : p.waiting ≡ [] = empty p.waiting (represents_length s c hit p work waiting found w.holds ∙ z) in
      ended p work waiting found opened true w (sym (ap none nothing ∙ nil-waiting)) (e ∙ none_stays view (ef - opened) p nothing)
    where
      empty : (l : List ℕ) → length l ≡ 0 → l ≡ []
      empty [] z = refl
      empty (x ∷ xs) z = absurd (omega arith)

  -- The budget is spent and one waits: cut
  pub ends_cut : (work : List ℕ) (waiting found opened : ℕ) → (waiting ≡ 0 → ⊥) → opened ≡ ef → Waits s c hit view ef work₀ work waiting found opened
      → WalkEnds s c hit (walk view ef) (Ok (record { hits = found; opened = opened; whole = false })) work
  ends_cut work waiting found opened more spent (p, w, e) =
      ended p work waiting found opened false w (sym (some_left p.waiting (λ z. more (sym (represents_length s c hit p work waiting found w.holds) ∙ z))))
      (e ∙ ap (λ (n : ℕ). walk_from view n (going p)) (let t : ef - opened ≡ 0 = omega arith in t) ∙ walk-zero view (going p))
    where
      some_left : (l : List ℕ) → (length l ≡ 0 → ⊥) → none l ≡ false
      some_left [] n = absurd (n refl)
      some_left (x ∷ xs) n = some-waiting x xs
