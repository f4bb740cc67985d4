-- The walk over any view, damaged or not: its definitions case by case, and the rule by which most laws follow: a property that is kept by taking a node,
-- by pushing one child and by adding hits is kept by the walk. Assumes nothing.
use Rattle.std.specs.Prelude.{ℕ, zero, suc, ◌+◌, ◌≤◌, ◌<◌, ◌≡◌, Bool, true, false, leb}
use Rattle.std.proofs.Common.{arith, sym, ◌∙◌, subst, length-append, leb-true, leb-false, le-leb}
use Rattle.std.proofs.Math.Path.{refl, ap}
use Rattle.std.proofs.Math.Bool.{cond}
use Rattle.std.proofs.lemmas.Bool.{false≢true, lt-leb}
use mathlib.Core.List.{List, [], ◌∷◌, ◌++◌, Memᴰ}
use Rattle.std.proofs.Math.ListN.{length}
use Rattle.lists.specs.Lists.{is_in}
use Rattle.record_queue.specs.Sorted.{insert}
use Rattle.walk.specs.Walk.{Shown, children, hits, damage, View, waiting_node, node_number, Progress, State, damaged, going, push_one, push_all, add_hits, give, shown, open', step, walk_from, walk, none}

-- ---- the definitions, case by case

-- a progress with a node taken and opened, with a child pushed, with hits added
abbrev pub opened_one : ℕ → List ℕ → Progress → Progress
opened_one least rest p = record { waiting = rest; pushed = p.pushed; opened = node_number least ∷ p.opened; found = p.found }

abbrev pub pushed_one : View → ℕ → Progress → Progress
pushed_one view child p =
    record { waiting = insert (waiting_node view child) p.waiting; pushed = child ∷ p.pushed; opened = p.opened; found = p.found }

abbrev pub added_hits : List ℕ → Progress → Progress
added_hits new p = record { waiting = p.waiting; pushed = p.pushed; opened = p.opened; found = new ++ p.found }

-- the first progress of a walk
abbrev pub start_progress : View → Progress
start_progress view = record { waiting = waiting_node view 0 ∷ []; pushed = 0 ∷ []; opened = []; found = [] }

module _ (view : View) where
  pub push_all-nil : (s : State) → push_all view [] s ≡ s
  unfolding push_all
  push_all-nil s = refl

  pub push_all-damaged : (cs : List ℕ) → push_all view cs damaged ≡ damaged
  unfolding push_all
  push_all-damaged [] = refl
  push_all-damaged (c ∷ cs) = refl

  pub push_all-fresh : (c : ℕ) (cs : List ℕ) (p : Progress) → is_in c p.pushed ≡ false
      → push_all view (c ∷ cs) (going p) ≡ push_all view cs (going (pushed_one view c p))
  unfolding push_all
  push_all-fresh c cs p e = ap (λ (b : Bool). push_all view cs (push_one view b c p)) e

  pub push_all_again : (c : ℕ) (cs : List ℕ) (p : Progress) → is_in c p.pushed ≡ true → push_all view (c ∷ cs) (going p) ≡ damaged
  unfolding push_all
  push_all_again c cs p e = ap (λ (b : Bool). push_all view cs (push_one view b c p)) e ∙ push_all-damaged cs

  pub give-damage : (p : Progress) → give view damage p ≡ damaged
  unfolding give
  give-damage p = refl

  pub give-children : (cs : List ℕ) (p : Progress) → give view (children cs) p ≡ push_all view cs (going p)
  unfolding give
  give-children cs p = refl

  pub give-hits : (new : List ℕ) (p : Progress) → length new + length p.found ≤ view.most → give view (hits new) p ≡ going (added_hits new p)
  unfolding give
  give-hits new p h = ap (λ (b : Bool). add_hits b new p) (le-leb (length new + length p.found) view.most h)

  pub give_over : (new : List ℕ) (p : Progress) → view.most < length new + length p.found → give view (hits new) p ≡ damaged
  unfolding give
  give_over new p h = ap (λ (b : Bool). add_hits b new p) (lt-leb (length new + length p.found) view.most h)

  pub step-damaged : step view damaged ≡ damaged
  unfolding step
  step-damaged = refl

  pub step-none : (p : Progress) → p.waiting ≡ [] → step view (going p) ≡ going p
  unfolding step
  step-none p e = ap (λ (w : List ℕ). open' view w p) e

  pub step_open : (p : Progress) (least : ℕ) (rest : List ℕ) → p.waiting ≡ least ∷ rest
      → step view (going p) ≡ give view (shown view (node_number least)) (opened_one least rest p)
  unfolding step
  step_open p least rest e = ap (λ (w : List ℕ). open' view w p) e

  pub walk-zero : (s : State) → walk_from view 0 s ≡ s
  unfolding walk_from
  walk-zero s = refl

  pub walk-suc : (b : ℕ) (s : State) → walk_from view (suc b) s ≡ walk_from view b (step view s)
  unfolding walk_from
  walk-suc b s = refl

  pub walk_is : (b : ℕ) → walk view b ≡ walk_from view b (going (start_progress view))
  unfolding walk
  walk_is b = refl

  pub shown-denied : (i : ℕ) → view.denied i ≡ true → shown view i ≡ hits []
  unfolding shown
  shown-denied i e = ap (λ (b : Bool). cond b (hits []) (view.shows i)) e

  pub shown-passed : (i : ℕ) → view.denied i ≡ false → shown view i ≡ view.shows i
  unfolding shown
  shown-passed i e = ap (λ (b : Bool). cond b (hits []) (view.shows i)) e

-- whether any waits
pub none-waiting : (w : List ℕ) → none w ≡ true → w ≡ []
unfolding none
none-waiting [] e = refl
none-waiting (x ∷ xs) e = absurd (false≢true e)

pub some-waiting : (x : ℕ) (w : List ℕ) → none (x ∷ w) ≡ false
unfolding none
some-waiting x w = refl

pub nil-waiting : none [] ≡ true
unfolding none
nil-waiting = refl

-- what a node shows as children
abbrev pub shown_children : Shown → List ℕ
shown_children damage = []
shown_children (children cs) = cs
shown_children (hits new) = []

-- ---- the rule

-- a property of a state: of its progress, unless it is damaged
abbrev pub Holds : (Progress → Type 0) → State → Type 0
Holds P damaged = Unit {0}
Holds P (going p) = P p

pub holds-map : {P Q : Progress → Type 0} → ((p : Progress) → P p → Q p) → (s : State) → Holds P s → Holds Q s
holds-map f damaged h = tt
holds-map f (going p) h = f p h

pub holds_at : (P : Progress → Type 0) (s : State) (p : Progress) → s ≡ going p → Holds P s → P p
holds_at P s p e h = subst (Holds P) e h

module _ (view : View) (P : Progress → Type 0) where
  -- what is kept by each opening is kept by the walk
  abbrev pub Stepped : Type 0
  Stepped =
      (p : Progress) (least : ℕ) (rest : List ℕ) → p.waiting ≡ least ∷ rest → P p
      → Holds P (give view (shown view (node_number least)) (opened_one least rest p))

  stepped-at : Stepped → (p : Progress) (w : List ℕ) → p.waiting ≡ w → P p → Holds P (step view (going p))
  stepped-at k p [] e h = subst (Holds P) (sym (step-none view p e)) h
  stepped-at k p (least ∷ rest) e h = subst (Holds P) (sym (step_open view p least rest e)) (k p least rest e h)

  stepped-once : Stepped → (s : State) → Holds P s → Holds P (step view s)
  stepped-once k damaged h = subst (Holds P) (sym (step-damaged view)) tt
  stepped-once k (going p) h = stepped-at k p p.waiting refl h

  pub stepped : Stepped → (b : ℕ) (s : State) → Holds P s → Holds P (walk_from view b s)
  stepped k zero s h = subst (Holds P) (sym (walk-zero view s)) h
  stepped k (suc b) s h = subst (Holds P) (sym (walk-suc view b s)) (stepped k b (step view s) (stepped-once k s h))

  -- what is kept by taking a node, by pushing a child that a node shows and by adding hits is kept by the walk
  pub record Kept : Type 0 where
    pub opens : (p : Progress) (least : ℕ) (rest : List ℕ) → p.waiting ≡ least ∷ rest → P p → P (opened_one least rest p)
    pub pushes : (p : Progress) (i : ℕ) (numbers : List ℕ) (child : ℕ) → shown view i ≡ children numbers → Memᴰ child numbers
        → is_in child p.pushed ≡ false → P p → P (pushed_one view child p)
    pub adds : (p : Progress) (new : List ℕ) → length new + length p.found ≤ view.most → P p → P (added_hits new p)

  kept_push : Kept → (i : ℕ) (numbers : List ℕ) → shown view i ≡ children numbers → (cs : List ℕ) → ((c : ℕ) → Memᴰ c cs → Memᴰ c numbers)
      → (p : Progress) → P p → Holds P (push_all view cs (going p))
  kept_push k i numbers e [] m p h = subst (Holds P) (sym (push_all-nil view (going p))) h
  kept_push k i numbers e (c ∷ cs) m p h = go (is_in c p.pushed) refl (kept_push k i numbers e cs (λ d n. m d (Memᴰ.tail n)))
    where
      go : (b : Bool) → is_in c p.pushed ≡ b → ((q : Progress) → P q → Holds P (push_all view cs (going q))) → Holds P (push_all view (c ∷ cs) (going p))
      go true f more = subst (Holds P) (sym (push_all_again view c cs p f)) tt
      go false f more =
          subst (Holds P) (sym (push_all-fresh view c cs p f))
          (more (pushed_one view c p) (k.pushes p i numbers c e (m c (Memᴰ.head refl)) f h))

  kept-give : Kept → (i : ℕ) (sh : Shown) → shown view i ≡ sh → (p : Progress) → P p → Holds P (give view sh p)
  kept-give k i damage e p h = subst (Holds P) (sym (give-damage view p)) tt
  kept-give k i (children cs) e p h = subst (Holds P) (sym (give-children view cs p)) (kept_push k i cs e cs (λ c m. m) p h)
  kept-give k i (hits new) e p h = go (leb (length new + length p.found) view.most) refl
    where
      go : (b : Bool) → leb (length new + length p.found) view.most ≡ b → Holds P (give view (hits new) p)
      go true f =
          let fits : length new + length p.found ≤ view.most = leb-true (length new + length p.found) view.most f in
          subst (Holds P) (sym (give-hits view new p fits)) (k.adds p new fits h)
      go false f = subst (Holds P) (sym (give_over view new p (leb-false (length new + length p.found) view.most f))) tt

  pub kept : Kept → (b : ℕ) (s : State) → Holds P s → Holds P (walk_from view b s)
  kept k = stepped (λ p least rest e h. kept-give k (node_number least) (shown view (node_number least)) refl (opened_one least rest p) (k.opens p least rest e h))

  -- of the walk from the root
  pub kept-walk : Kept → P (start_progress view) → (b : ℕ) (p : Progress) → walk view b ≡ going p → P p
  kept-walk k h b p e = holds_at P (walk view b) p e (subst (Holds P) (sym (walk_is view b)) (kept k b (going (start_progress view)) h))

-- There are never more hits than there can be
pub found-most : (view : View) (b : ℕ) (p : Progress) → walk view b ≡ going p → length p.found ≤ view.most
found-most view b p e =
    kept-walk view (λ q. length q.found ≤ view.most)
    (record {
      opens = λ q least rest w h. h;
      pushes = λ q i numbers child s m f h. h;
      adds = λ q new fits h. subst (λ (n : ℕ). n ≤ view.most) (sym (length-append new q.found)) fits;
    })
    (let t : 0 ≤ view.most = omega arith in t) b p e
