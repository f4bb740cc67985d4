-- Views that show the same at the nodes that are opened give the same walk. Assumes nothing.
use Rattle.std.specs.Prelude.{ℕ, zero, suc, ◌+◌, ◌*◌, ◌^◌, ◌≤◌, ◌<◌, ◌≡◌, ◌⊎◌, Bool, true, false, leb}
use Rattle.std.proofs.Common.{le_refl, add-one, arith, sym, ◌∙◌, inl, inr}
use Rattle.std.proofs.Math.Path.{refl, ap}
use mathlib.Core.List.Memᴰ
use mathlib.Core.List.{List, [], ◌∷◌, Memᴰ}
use Rattle.std.proofs.Math.ListN.{length}
use Rattle.lists.specs.Lists.{is_in}
use Rattle.lists.specs.Tests.{which}
use Rattle.lists.specs.Partition.{hit, count, hit_same, count-cons, count-Memᴰ}
use Rattle.record_queue.specs.Sorted.{insert}
use Rattle.walk.specs.Walk.{Shown, children, hits, damage, View, node_number, Progress, State, damaged, going, push_all, add_hits, give, shown, step, walk_from, walk}
use Rattle.walk.proofs.WalkLaws.{opened_one, pushed_one, start_progress, push_all-nil, push_all-damaged, push_all-fresh, push_all_again, step-damaged, step-none, step_open, walk-zero, walk-suc, walk_is, shown-denied, shown-passed, shown_children}
use Rattle.walk.proofs.BudgetLaws.{walk_more}
use Rattle.walk.proofs.DifferentLaws.{node_numbers, ChildrenBelow, once}

-- two views that show the same at a node, and the same keys of its children
pub record AlikeAt (v w : View) (i : ℕ) : Type 0 where
  pub shows : shown v i ≡ shown w i
  pub keys : (c : ℕ) → Memᴰ c (shown_children (shown v i)) → v.key c ≡ w.key c

module _ (v w : View) (most-same : v.most ≡ w.most) where
  push_all-same : (cs : List ℕ) → ((c : ℕ) → Memᴰ c cs → v.key c ≡ w.key c) → (s : State) → push_all v cs s ≡ push_all w cs s
  push_all-same [] k s = push_all-nil v s ∙ sym (push_all-nil w s)
  push_all-same (c ∷ cs) k damaged = push_all-damaged v (c ∷ cs) ∙ sym (push_all-damaged w (c ∷ cs))
  push_all-same (c ∷ cs) k (going p) = go (is_in c p.pushed) refl (push_all-same cs (λ d m. k d (Memᴰ.tail m)))
    where
      go : (b : Bool) → is_in c p.pushed ≡ b → ((s : State) → push_all v cs s ≡ push_all w cs s) → push_all v (c ∷ cs) (going p) ≡ push_all w (c ∷ cs) (going p)
      go true f more = push_all_again v c cs p f ∙ sym (push_all_again w c cs p f)
      go false f more =
          push_all-fresh v c cs p f ∙ more (going (pushed_one v c p))
          ∙ ap (λ (key : ℕ). push_all w cs (going (record { waiting = insert (key * 2 ^ 64 + c) p.waiting; pushed = c ∷ p.pushed; opened = p.opened; found = p.found }))) (k c (Memᴰ.head refl))
          ∙ sym (push_all-fresh w c cs p f)

  give-same : (sh : Shown) → ((c : ℕ) → Memᴰ c (shown_children sh) → v.key c ≡ w.key c) → (p : Progress) → give v sh p ≡ give w sh p
  unfolding give
  give-same damage k p = refl
  give-same (children cs) k p = push_all-same cs k (going p)
  give-same (hits new) k p = ap (λ (most : ℕ). add_hits (leb (length new + length p.found) most) new p) most-same

  step_same : (p : Progress) (waiting : List ℕ) → p.waiting ≡ waiting
      → ((least : ℕ) (rest : List ℕ) → waiting ≡ least ∷ rest → AlikeAt v w (node_number least)) → step v (going p) ≡ step w (going p)
  step_same p [] e f = step-none v p e ∙ sym (step-none w p e)
  step_same p (least ∷ rest) e f =
      let a = f least rest refl in
      step_open v p least rest e ∙ give-same (shown v (node_number least)) a.keys (opened_one least rest p)
      ∙ ap (λ (sh : Shown). give w sh (opened_one least rest p)) a.shows ∙ sym (step_open w p least rest e)

  step-same-at : (s : State) → ((p : Progress) (least : ℕ) (rest : List ℕ) → s ≡ going p → p.waiting ≡ least ∷ rest → AlikeAt v w (node_number least)) → step v s ≡ step w s
  step-same-at damaged f = step-damaged v ∙ sym (step-damaged w)
  step-same-at (going p) f = step_same p p.waiting refl (λ least rest e. f p least rest refl e)

-- the last opening of a walk
pub walk-last : (view : View) (b : ℕ) → walk view (suc b) ≡ step view (walk view b)
walk-last view b =
    walk_is view (suc b) ∙ ap (λ (d : ℕ). walk_from view d (going (start_progress view))) (sym (add-one b)) ∙ walk_more view b 1 (going (start_progress view))
    ∙ walk-suc view 0 (walk_from view b (going (start_progress view))) ∙ walk-zero view (step view (walk_from view b (going (start_progress view))))
    ∙ ap (step view) (sym (walk_is view b))

-- Node i is opened by a walk over a view with a budget: fewer nodes are opened, and it is the least of those that wait
pub record Opens (view : View) (budget i : ℕ) : Type 0 where
  pub opened : ℕ
  pub fewer : opened < budget
  pub progress : Progress
  pub so_far : walk view opened ≡ going progress
  pub least : ℕ
  pub rest : List ℕ
  pub waits : progress.waiting ≡ least ∷ rest
  pub is : node_number least ≡ i

-- Two views that show the same at each node that the first walk opens, and the same keys of the nodes that it pushes, give the same walk: what stands
-- in a node that is denied, or not opened, or in a list that is not read, changes nothing
pub same-walk : (v w : View) → v.most ≡ w.most → v.key 0 ≡ w.key 0 → (b : ℕ) → ((i : ℕ) → Opens v b i → AlikeAt v w i) → walk v b ≡ walk w b
same-walk v w most first zero f =
    walk_is v 0 ∙ walk-zero v (going (start_progress v))
    ∙ ap (λ (key : ℕ). going (record { waiting = (key * 2 ^ 64 + 0) ∷ []; pushed = 0 ∷ []; opened = []; found = [] })) first
    ∙ sym (walk_is w 0 ∙ walk-zero w (going (start_progress w)))
same-walk v w most first (suc b) f =
    walk-last v b
    ∙ step-same-at v w most (walk v b)
    (λ p least rest e g. f (node_number least) (record { opened = b; fewer = le_refl (suc b); progress = p; so_far = e; least = least; rest = rest; waits = g; is = refl }))
    ∙ ap (step w) (same-walk v w most first b (λ i o. f i (more i o))) ∙ sym (walk-last w b)
  where
    more : (i : ℕ) → Opens v b i → Opens v (suc b) i
    more i o = record {
      opened = o.opened;
      fewer = let t : o.opened < suc b = omega (arith, o.fewer) in t;
      progress = o.progress;
      so_far = o.so_far;
      least = o.least;
      rest = o.rest;
      waits = o.waits;
      is = o.is;
    }

-- A node that is opened is below a count that no shown child leaves
pub opens-below : (v : View) (n : ℕ) → n ≤ 2 ^ 64 → 0 < n → ChildrenBelow v n → (b i : ℕ) → Opens v b i → i < n
opens-below v n fits pos below b i h =
    let o = once v n fits below pos h.opened h.progress h.so_far in
    let waits : count i (node_numbers h.progress.waiting) ≡ hit i i + count i (node_numbers h.rest) =
    ap (λ (l : List ℕ). count i (node_numbers l)) h.waits ∙ ap (λ (j : ℕ). count i (j ∷ node_numbers h.rest)) h.is ∙ count-cons i i (node_numbers h.rest) in
    o.below i (count-Memᴰ i h.progress.pushed (omega (arith, o.counted i, waits, hit_same i i refl)))

-- Views that agree at every node below a count that no shown child leaves
pub same-below : (v w : View) (n : ℕ) → n ≤ 2 ^ 64 → 0 < n → ChildrenBelow v n → v.most ≡ w.most → ((i : ℕ) → i < n → v.key i ≡ w.key i)
    → ((i : ℕ) → i < n → shown v i ≡ shown w i) → (b : ℕ) → walk v b ≡ walk w b
same-below v w n fits pos below most keys shows b =
    same-walk v w most (keys 0 pos) b
    (λ i o. record { shows = shows i (opens-below v n fits pos below b i o); keys = λ c m. keys c (in_children i (shown v i) refl c m) })
  where
    in_children : (i : ℕ) (sh : Shown) → shown v i ≡ sh → (c : ℕ) → Memᴰ c (shown_children sh) → c < n
    in_children i damage e c m = absurd (Memᴰ.not-nil m)
    in_children i (children cs) e c m = below i cs c e m
    in_children i (hits new) e c m = absurd (Memᴰ.not-nil m)

-- Equal views give equal walks
pub same_views : (v w : View) → v.most ≡ w.most → ((i : ℕ) → v.key i ≡ w.key i) → ((i : ℕ) → shown v i ≡ shown w i) → (b : ℕ) → walk v b ≡ walk w b
same_views v w most keys shows b =
    same-walk v w most (keys 0) b (λ i o. record { shows = shows i; keys = λ c m. keys c })

-- What a denied node would show changes nothing
pub denied_ignored : (v w : View) → v.most ≡ w.most → ((i : ℕ) → v.key i ≡ w.key i) → ((i : ℕ) → v.denied i ≡ w.denied i)
    → ((i : ℕ) → v.denied i ≡ false → v.shows i ≡ w.shows i) → (b : ℕ) → walk v b ≡ walk w b
denied_ignored v w most keys denies shows b = same_views v w most keys (λ i. go i (which (v.denied i))) b
  where
    go : (i : ℕ) → (v.denied i ≡ true) ⊎ (v.denied i ≡ false) → shown v i ≡ shown w i
    go i (inl e) = shown-denied v i e ∙ sym (shown-denied w i (sym (denies i) ∙ e))
    go i (inr e) = shown-passed v i e ∙ shows i e ∙ sym (shown-passed w i (sym (denies i) ∙ e))
