-- Laws of budgets: a larger one goes on where a smaller one stops and loses nothing, and how many nodes are opened. Assumes nothing.
use Rattle.std.specs.Prelude.{ℕ, zero, suc, ◌+◌, ◌≤◌, ◌≡◌, refl, Bool, true, false, List, [], ◌∷◌, ◌++◌, leb, length}
use Rattle.std.proofs.Common.{zero-add, suc-add, arith, sym, ap, ◌∙◌, subst, append_assoc, leb-true, leb-false}
use Rattle.std.proofs.lemmas.Bool.{false≢true}
use Rattle.lists.specs.Lists.{is_in}
use Rattle.walk.specs.Walk.{Shown, children, hits, damage, View, node_number, Progress, State, damaged, going, push_all, give, shown, step, walk_from, walk, none, whole}
use Rattle.walk.proofs.WalkLaws.{opened_one, pushed_one, start_progress, push_all-nil, push_all-fresh, push_all_again, give-damage, give-children, give-hits, give_over, step-damaged, step-none, step_open, walk-zero, walk-suc, walk_is, nil-waiting, Holds, holds-map, holds_at, kept}

-- ---- smaller and larger budgets

module _ (view : View) where
  -- A larger budget goes on where a smaller one stops
  pub walk_more : (b d : ℕ) (s : State) → walk_from view (b + d) s ≡ walk_from view d (walk_from view b s)
  walk_more zero d s = rw (zero-add, walk-zero view s)
  walk_more (suc b) d s = rw (suc-add, walk-suc view (b + d) s, walk-suc view b s) (walk_more b d (step view s))

  -- A damaged walk stays damaged
  pub damaged_stays : (b : ℕ) → walk_from view b damaged ≡ damaged
  damaged_stays zero = walk-zero view damaged
  damaged_stays (suc b) = walk-suc view b damaged ∙ ap (walk_from view b) (step-damaged view) ∙ damaged_stays b

  -- With none waiting nothing happens
  pub none_stays : (b : ℕ) (p : Progress) → p.waiting ≡ [] → walk_from view b (going p) ≡ going p
  none_stays zero p e = walk-zero view (going p)
  none_stays (suc b) p e = walk-suc view b (going p) ∙ ap (walk_from view b) (step-none view p e) ∙ none_stays b p e

-- a list begun with another: what is kept last first grows in front
abbrev pub Grows : List ℕ → List ℕ → Type 0
Grows old new = (more : List ℕ) × (new ≡ more ++ old)

grows_refl : (l : List ℕ) → Grows l l
grows_refl l = ([], refl)

grows_by : (xs l m : List ℕ) → Grows l m → Grows l (xs ++ m)
grows_by xs l m g = (xs ++ g.0, ap (λ (t : List ℕ). xs ++ t) g.1 ∙ sym (append_assoc xs g.0 l))

-- a later progress of the same walk: nothing opened, found or pushed is lost
pub record Later (p q : Progress) : Type 0 where
  pub opened : Grows p.opened q.opened
  pub found : Grows p.found q.found
  pub pushed : Grows p.pushed q.pushed

module _ (view : View) where
  pub later : (p : Progress) (d : ℕ) (q : Progress) → walk_from view d (going p) ≡ going q → Later p q
  later p d q e =
      holds_at (Later p) (walk_from view d (going p)) q e
      (kept view (Later p)
      (record {
        opens = λ q least rest w h.
            record { opened = grows_by (node_number least ∷ []) p.opened q.opened h.opened; found = h.found; pushed = h.pushed };
        pushes = λ q i numbers child sh m f h.
            record { opened = h.opened; found = h.found; pushed = grows_by (child ∷ []) p.pushed q.pushed h.pushed };
        adds = λ q new fits h. record { opened = h.opened; found = grows_by new p.found q.found h.found; pushed = h.pushed };
      })
      d (going p)
      (record { opened = grows_refl p.opened; found = grows_refl p.found; pushed = grows_refl p.pushed }))

  -- what both walks found and opened
  pub larger-later : (b d : ℕ) (p q : Progress) → walk view b ≡ going p → walk view (b + d) ≡ going q → Later p q
  larger-later b d p q e f =
      later p d q
      (ap (walk_from view d) (sym e ∙ walk_is view b) ∙ sym (walk_more view b d (going (start_progress view))) ∙ sym (walk_is view (b + d)) ∙ f)

-- ---- how many are opened

-- the opened nodes are at most the budget; where one still waits they are the budget
pub record Budget (b : ℕ) (p q : Progress) : Type 0 where
  pub most : length q.opened ≤ b + length p.opened
  pub all : (none q.waiting ≡ false) → length q.opened ≡ b + length p.opened

-- what a node gives leaves the opened nodes
abbrev SameOpened : Progress → Progress → Type 0
SameOpened p q = q.opened ≡ p.opened

module _ (view : View) where
  push_all-opened : (cs : List ℕ) (p : Progress) → Holds (SameOpened p) (push_all view cs (going p))
  push_all-opened [] p = subst (Holds (SameOpened p)) (sym (push_all-nil view (going p))) refl
  push_all-opened (c ∷ cs) p = go (is_in c p.pushed) refl (push_all-opened cs (pushed_one view c p))
    where
      go : (b : Bool) → is_in c p.pushed ≡ b → Holds (SameOpened p) (push_all view cs (going (pushed_one view c p)))
          → Holds (SameOpened p) (push_all view (c ∷ cs) (going p))
      go true f more = subst (Holds (SameOpened p)) (sym (push_all_again view c cs p f)) tt
      go false f more = subst (Holds (SameOpened p)) (sym (push_all-fresh view c cs p f)) more

  give-opened : (sh : Shown) (p : Progress) → Holds (SameOpened p) (give view sh p)
  give-opened damage p = subst (Holds (SameOpened p)) (sym (give-damage view p)) tt
  give-opened (children cs) p = subst (Holds (SameOpened p)) (sym (give-children view cs p)) (push_all-opened cs p)
  give-opened (hits new) p = go (leb (length new + length p.found) view.most) refl
    where
      go : (b : Bool) → leb (length new + length p.found) view.most ≡ b → Holds (SameOpened p) (give view (hits new) p)
      go true f =
          subst (Holds (SameOpened p)) (sym (give-hits view new p (leb-true (length new + length p.found) view.most f))) refl
      go false f =
          subst (Holds (SameOpened p)) (sym (give_over view new p (leb-false (length new + length p.found) view.most f))) tt

  -- The opened nodes are at most the budget. Where one still waits, they are the budget: 'cut' is after exactly `ef_search` nodes
  pub budget : (b : ℕ) (p : Progress) → Holds (Budget b p) (walk_from view b (going p))
  budget zero p =
      subst (Holds (Budget zero p)) (sym (walk-zero view (going p)))
      (record { most = omega arith; all = λ w. omega arith })
  budget (suc b) p = go p.waiting refl (λ q. budget b q)
    where
      more : (least : ℕ) (rest : List ℕ) → p.waiting ≡ least ∷ rest → ((q : Progress) → Holds (Budget b q) (walk_from view b (going q)))
          → (s : State) → Holds (SameOpened (opened_one least rest p)) s → Holds (Budget (suc b) p) (walk_from view b s)
      more least rest e f damaged h = subst (Holds (Budget (suc b) p)) (sym (damaged_stays view b)) tt
      more least rest e f (going q) h =
          let long : length q.opened ≡ suc (length p.opened) = ap length h in
          holds-map (λ r g. record { most = omega (arith, g.most, long); all = λ w. g.all w ∙ (let t : b + length q.opened ≡ suc b + length p.opened = omega arith in t) })
          (walk_from view b (going q)) (f q)

      go : (w : List ℕ) → p.waiting ≡ w → ((q : Progress) → Holds (Budget b q) (walk_from view b (going q))) → Holds (Budget (suc b) p) (walk_from view (suc b) (going p))
      go [] e f =
          subst (Holds (Budget (suc b) p)) (sym (none_stays view (suc b) p e))
          (record { most = omega arith; all = λ w. absurd (false≢true (sym w ∙ ap none e ∙ nil-waiting)) })
      go (least ∷ rest) e f =
          subst (Holds (Budget (suc b) p)) (sym (walk-suc view b (going p) ∙ ap (walk_from view b) (step_open view p least rest e)))
          (more least rest e f (give view (shown view (node_number least)) (opened_one least rest p)) (give-opened (shown view (node_number least)) (opened_one least rest p)))

  pub opened_cut : (b : ℕ) (p : Progress) → walk view b ≡ going p → whole p ≡ false → length p.opened ≡ b
  opened_cut b p e w =
      let h : length p.opened ≡ b + 0 = (holds_at (Budget b (start_progress view)) (walk_from view b (going (start_progress view))) p (sym (walk_is view b) ∙ e) (budget b (start_progress view))).all w in
      omega arith
