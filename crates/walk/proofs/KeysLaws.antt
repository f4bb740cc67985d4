-- Where the budget is at least the node count, the order of a walk does not matter: walks over views that differ in keys alone end alike, both damaged,
-- or both whole, with as many nodes opened and the same hits, each as often. Assumes nothing.
--
-- The nodes opened by a walk that ended with none waiting are closed: each is there once, they are the root and the children of all of them, none is
-- damage, and their hits are not too many. A walk over other keys opens different nodes among them; so what it has pushed, the root and the children of
-- these, is among the closed nodes, where every node is once: no child is pushed twice, and there is no hit too many. It ends with closed nodes too,
-- and each of two closed lists is then within the other.
use Rattle.std.specs.Prelude.{ℕ, zero, suc, ◌+◌, ◌^◌, ◌≤◌, ◌<◌, ◌≡◌, refl, ◌⊎◌, Bool, true, false, leb, length}
use Rattle.std.proofs.Common.{arith, sym, ap, ◌∙◌, subst, inl, inr, length-append, leb-true, leb-false}
use mathlib.Core.List.Memᴰ
use mathlib.Core.List.{List, [], ◌∷◌, ◌++◌, Memᴰ}
use Rattle.std.proofs.lemmas.List.{length-map}
use Rattle.lists.specs.Lists.{is_in}
use Rattle.lists.specs.Counting.{sum_of, sum_of-append, is_in-Memᴰ}
use Rattle.lists.specs.Tests.{which, either}
use Rattle.lists.specs.Partition.{List-as-Permᴰ, List·Permᴰ·cons, List·Permᴰ·trans, Permᴰ·refl, Permᴰ·symm, Permᴰ·middle, perm_of_eq, perm_length, perm_sum_of, hit, hit_same, count, count-nil, count-cons, count-append, count_perm, count-Memᴰ, Memᴰ-count, Memᴰ-split, Different}
use Rattle.record_queue.specs.Sorted.{sort}
use Rattle.walk.specs.Walk.{Shown, children, hits, damage, View, node_number, Progress, State, damaged, going, push_all, give, shown, step, walk, whole, none}
use Rattle.walk.proofs.WalkLaws.{opened_one, pushed_one, added_hits, start_progress, push_all-nil, push_all-fresh, push_all_again, give-damage, give-children, give-hits, give_over, step-none, step_open, walk-zero, walk_is, nil-waiting, some-waiting, shown_children, Holds, holds-map, holds_at, stepped, found-most}
use Rattle.walk.proofs.BudgetLaws.{opened_cut}
use Rattle.walk.proofs.DifferentLaws.{node_numbers, ChildrenBelow, Once, once, different-below}
use Rattle.walk.proofs.SameWalkLaws.{same-below, walk-last}
use Rattle.walk.proofs.SoundWalk.{Goes, sums_sort, sum_of-nil, sum_of-cons, sum_of_ones}

-- ---- a list within another, each number at most as often

abbrev Within : List ℕ → List ℕ → Type 0
Within xs ys = (x : ℕ) → count x xs ≤ count x ys

without : (x : ℕ) (xs ys pre post : List ℕ) (z : ℕ) → count z (x ∷ xs) ≤ count z ys → ys ≡ pre ++ (x ∷ post) → count z xs ≤ count z (pre ++ post)
without x xs ys pre post z h e =
    omega (arith, h, count-cons z x xs, ap (count z) e, count-append z pre (x ∷ post), count-cons z x post, count-append z pre post)

-- what the longer list has beside
within-rest : (xs ys : List ℕ) → Within xs ys → (rest : List ℕ) × List-as-Permᴰ (xs ++ rest) ys
within-rest [] ys h = (ys, Permᴰ·refl ys)
within-rest (x ∷ xs) ys h =
    let one : 0 < count x (x ∷ xs) = Memᴰ-count (Memᴰ.head refl) in
    let s = Memᴰ-split (count-Memᴰ x ys (omega (arith, h x, one))) in
    let r = within-rest xs (s.0 ++ s.1) (λ z. without x xs ys s.0 s.1 z (h z) s.2) in
    (r.0, List·Permᴰ·trans (List·Permᴰ·cons refl r.1) (List·Permᴰ·trans (Permᴰ·symm (Permᴰ·middle x s.0 s.1)) (perm_of_eq (sym s.2))))

within_sums : (xs ys : List ℕ) → Within xs ys → (f : ℕ → ℕ) → sum_of f xs ≤ sum_of f ys
within_sums xs ys h f = let r = within-rest xs ys h in omega (arith, sum_of-append f xs r.0, perm_sum_of f r.1)

-- ---- the nodes pushed

-- they are those that wait and those opened
pub waiting-length : (p : Progress) (n : ℕ) → Once n p → length p.waiting + length p.opened ≡ length p.pushed
waiting-length p n o =
    let all = perm_length (count_perm (p.opened ++ node_numbers p.waiting) p.pushed (λ x. count-append x p.opened (node_numbers p.waiting) ∙ o.counted x)) in
    omega (arith, all, length-append p.opened (node_numbers p.waiting), length-map p.waiting node_number)

-- ---- what a node gives

-- the hits that a node shows
abbrev shown_hits : Shown → List ℕ
shown_hits damage = []
shown_hits (children cs) = []
shown_hits (hits new) = new

-- from a progress to the next: what is shown was no damage, its children are pushed and its hits are found
record Given (sh : Shown) (p q : Progress) : Type 0 where
  sound : sh ≡ damage → ⊥
  pushed : (x : ℕ) → count x q.pushed ≡ count x (shown_children sh) + count x p.pushed
  opened : q.opened ≡ p.opened
  found : (f : ℕ → ℕ) → sum_of f q.found ≡ sum_of f (shown_hits sh) + sum_of f p.found

module _ (view : View) where
  all-pushed : (cs : List ℕ) (p : Progress) → Holds (Given (children cs) p) (push_all view cs (going p))
  all-pushed [] p =
      subst (Holds (Given (children []) p)) (sym (push_all-nil view (going p)))
      (record {
        sound = λ e. let z : ◌≡◌ {A = ℕ} 0 1 = cc in omega arith;
        pushed = λ x. omega (arith, count-nil x);
        opened = refl;
        found = λ f. omega (arith, sum_of-nil f);
      })
  all-pushed (c ∷ cs) p = go (is_in c p.pushed) refl (all-pushed cs (pushed_one view c p))
    where
      go : (b : Bool) → is_in c p.pushed ≡ b → Holds (Given (children cs) (pushed_one view c p)) (push_all view cs (going (pushed_one view c p)))
          → Holds (Given (children (c ∷ cs)) p) (push_all view (c ∷ cs) (going p))
      go true f more = subst (Holds (Given (children (c ∷ cs)) p)) (sym (push_all_again view c cs p f)) tt
      go false f more =
          subst (Holds (Given (children (c ∷ cs)) p)) (sym (push_all-fresh view c cs p f))
          (holds-map (λ q g. record {
            sound = λ e. let z : ◌≡◌ {A = ℕ} 0 1 = cc in omega arith;
            pushed = λ x. omega (arith, g.pushed x, count-cons x c cs, count-cons x c p.pushed);
            opened = g.opened;
            found = g.found;
          }) (push_all view cs (going (pushed_one view c p))) more)

  gives : (sh : Shown) (p : Progress) → Holds (Given sh p) (give view sh p)
  gives damage p = subst (Holds (Given damage p)) (sym (give-damage view p)) tt
  gives (children cs) p = subst (Holds (Given (children cs) p)) (sym (give-children view cs p)) (all-pushed cs p)
  gives (hits new) p = go (leb (length new + length p.found) view.most) refl
    where
      go : (b : Bool) → leb (length new + length p.found) view.most ≡ b → Holds (Given (hits new) p) (give view (hits new) p)
      go true f =
          subst (Holds (Given (hits new) p)) (sym (give-hits view new p (leb-true (length new + length p.found) view.most f)))
          (record {
            sound = λ e. let z : ◌≡◌ {A = ℕ} 0 1 = cc in omega arith;
            pushed = λ x. omega (arith, count-nil x);
            opened = refl;
            found = λ f. sum_of-append f new p.found;
          })
      go false f = subst (Holds (Given (hits new) p)) (sym (give_over view new p (leb-false (length new + length p.found) view.most f))) tt

  -- children that are different and were not pushed before are pushed
  pushes : (cs : List ℕ) (p : Progress) → ((x : ℕ) → count x cs + count x p.pushed ≤ 1) → (q : Progress) × (push_all view cs (going p) ≡ going q)
  pushes [] p h = (p, push_all-nil view (going p))
  pushes (c ∷ cs) p h =
      let r = pushes cs (pushed_one view c p) (λ x. omega (arith, h x, count-cons x c cs, count-cons x c p.pushed)) in
      (r.0, push_all-fresh view c cs p (fresh (which (is_in c p.pushed))) ∙ r.1)
    where
      fresh : (is_in c p.pushed ≡ true) ⊎ (is_in c p.pushed ≡ false) → is_in c p.pushed ≡ false
      fresh (inl e) =
          absurd (let some : 0 < count c p.pushed = Memᴰ-count (is_in-Memᴰ c p.pushed e) in omega (arith, h c, count-cons c c cs, hit_same c c refl, some))
      fresh (inr e) = e

  goes_on_lem : (sh : Shown) (p : Progress) → (sh ≡ damage → ⊥) → ((x : ℕ) → count x (shown_children sh) + count x p.pushed ≤ 1)
      → length (shown_hits sh) + length p.found ≤ view.most → (q : Progress) × (give view sh p ≡ going q)
  goes_on_lem damage p s h m = absurd (s refl)
  goes_on_lem (children cs) p s h m = let r = pushes cs p h in (r.0, give-children view cs p ∙ r.1)
  goes_on_lem (hits new) p s h m = (added_hits new p, give-hits view new p m)

-- ---- what a walk has pushed and found, by the nodes opened

abbrev children_of : (ℕ → Shown) → ℕ → ℕ → ℕ
children_of sh x i = count x (shown_children (sh i))

abbrev hits_of : (ℕ → Shown) → (ℕ → ℕ) → ℕ → ℕ
hits_of sh f i = sum_of f (shown_hits (sh i))

-- the root and the children of the nodes opened are pushed, their hits are found, and none of them is damage
record Accounts (sh : ℕ → Shown) (p : Progress) : Type 0 where
  sound : (i : ℕ) → Memᴰ i p.opened → sh i ≡ damage → ⊥
  pushed : (x : ℕ) → count x p.pushed ≡ hit x 0 + sum_of (children_of sh x) p.opened
  found : (f : ℕ → ℕ) → sum_of f p.found ≡ sum_of (hits_of sh f) p.opened

accounts_next : (sh : ℕ → Shown) (least : ℕ) (rest : List ℕ) (p q : Progress) → Accounts sh p → Given (sh (node_number least)) (opened_one least rest p) q → Accounts sh q
accounts_next sh least rest p q a g =
    let i : ℕ = node_number least in
    let sums : (f : ℕ → ℕ) → sum_of f q.opened ≡ f i + sum_of f p.opened = λ f. ap (sum_of f) g.opened ∙ sum_of-cons f i p.opened in
    record {
      sound = λ j m. either (Memᴰ.cases_cons (subst (Memᴰ j) g.opened m)) (λ same d. g.sound (ap sh (sym same) ∙ d)) (λ k. a.sound j k);
      pushed = λ x. omega (arith, g.pushed x, a.pushed x, sums (children_of sh x));
      found = λ f. omega (arith, g.found f, a.found f, sums (hits_of sh f));
    }

-- a view that shows what a function gives, children below a count
record Shows (sh : ℕ → Shown) (most n : ℕ) (view : View) : Type 0 where
  shows : (i : ℕ) → shown view i ≡ sh i
  room : view.most ≡ most
  below : ChildrenBelow view n

-- ---- closed nodes

-- different nodes that are the root and the children of all of them, none of them damage, with no hit too many
record Closed (sh : ℕ → Shown) (most : ℕ) (nodes : List ℕ) : Type 0 where
  different : Different nodes
  all : (x : ℕ) → count x nodes ≡ hit x 0 + sum_of (children_of sh x) nodes
  sound : (i : ℕ) → Memᴰ i nodes → sh i ≡ damage → ⊥
  few : sum_of (hits_of sh (λ x. 1)) nodes ≤ most

module _ (sh : ℕ → Shown) (most n : ℕ) (fits : n ≤ 2 ^ 64) (pos : 0 < n) (view : View) (is : Shows sh most n view) where
  accounts : (b : ℕ) (p : Progress) → walk view b ≡ going p → Accounts sh p
  accounts b p e =
      holds_at (Accounts sh) (walk view b) p e
      (subst (Holds (Accounts sh)) (sym (walk_is view b))
      (stepped view (Accounts sh)
      (λ q least rest w a.
      subst (λ (s : Shown). Holds (Accounts sh) (give view s (opened_one least rest q))) (sym (is.shows (node_number least)))
      (holds-map (λ r g. accounts_next sh least rest q r a g) (give view (sh (node_number least)) (opened_one least rest q)) (gives view (sh (node_number least)) (opened_one least rest q))))
      b (going (start_progress view))
      (record {
        sound = λ i m. absurd (Memᴰ.not-nil m);
        pushed = λ x. omega (arith, count-cons x 0 [], count-nil x, sum_of-nil (children_of sh x));
        found = λ f. omega (arith, sum_of-nil f, sum_of-nil (hits_of sh f));
      })))

  -- with a budget of at least the count none waits
  ended : (b : ℕ) → n ≤ b → (p : Progress) → walk view b ≡ going p → (w : List ℕ) → p.waiting ≡ w → w ≡ []
  ended b h p e [] q = refl
  ended b h p e (least ∷ rest) q =
      let o = once view n fits is.below pos b p e in
      absurd (omega (
        arith,
        h,
        waiting-length p n o,
        ap length q,
        different-below n p.pushed o.different o.below,
        opened_cut view b p e (ap none q ∙ some-waiting least rest),
      ))

  -- and the nodes opened are those pushed
  all-opened : (b : ℕ) → n ≤ b → (p : Progress) → walk view b ≡ going p → (x : ℕ) → count x p.opened ≡ count x p.pushed
  all-opened b h p e x =
      let none-waits : p.waiting ≡ [] = ended b h p e p.waiting refl in
      omega (arith, (once view n fits is.below pos b p e).counted x, ap (λ (l : List ℕ). count x (node_numbers l)) none-waits, count-nil x)

  -- they are closed
  closed : (b : ℕ) → n ≤ b → (p : Progress) → walk view b ≡ going p → Closed sh most p.opened
  closed b h p e =
      let a = accounts b p e in
      record {
        different = λ x. omega (arith, all-opened b h p e x, (once view n fits is.below pos b p e).different x);
        all = λ x. all-opened b h p e x ∙ a.pushed x;
        sound = a.sound;
        few = omega (arith, a.found (λ x. 1), sum_of_ones p.found, found-most view b p e, is.room);
      }

  -- ---- a walk against closed nodes: it goes on, and pushes none but them

  module _ (nodes : List ℕ) (c : Closed sh most nodes) where
    module _ (b : ℕ) (p : Progress) (e : walk view b ≡ going p) (within : Within p.pushed nodes) (least : ℕ) (rest : List ℕ) (w : p.waiting ≡ least ∷ rest) where
      -- the node taken and those opened are among them
      opens-within : Within (node_number least ∷ p.opened) nodes
      opens-within x =
          omega (
            arith,
            within x,
            (once view n fits is.below pos b p e).counted x,
            count-cons x (node_number least) p.opened,
            ap (λ (l : List ℕ). count x (node_numbers l)) w,
            count-cons x (node_number least) (node_numbers rest),
          )

      pushes_within : (x : ℕ) → count x (shown_children (sh (node_number least))) + count x p.pushed ≤ count x nodes
      pushes_within x =
          omega (
            arith,
            within_sums (node_number least ∷ p.opened) nodes opens-within (children_of sh x),
            sum_of-cons (children_of sh x) (node_number least) p.opened,
            (accounts b p e).pushed x,
            c.all x,
          )

      few-found : length (shown_hits (sh (node_number least))) + length p.found ≤ view.most
      few-found =
          omega (
            arith,
            within_sums (node_number least ∷ p.opened) nodes opens-within (hits_of sh (λ x. 1)),
            sum_of-cons (hits_of sh (λ x. 1)) (node_number least) p.opened,
            sum_of_ones (shown_hits (sh (node_number least))),
            sum_of_ones p.found,
            (accounts b p e).found (λ x. 1),
            c.few,
            is.room,
          )

      in_nodes : Memᴰ (node_number least) nodes
      in_nodes =
          count-Memᴰ (node_number least) nodes
          (omega (arith, opens-within (node_number least), count-cons (node_number least) (node_number least) p.opened, hit_same (node_number least) (node_number least) refl))

      opens_one : Goes (λ q. Within q.pushed nodes) (step view (going p))
      opens_one =
          let o : Progress = opened_one least rest p in
          let s : Shown = sh (node_number least) in
          let r = goes_on_lem view s o (c.sound (node_number least) in_nodes) (λ x. omega (arith, pushes_within x, c.different x)) few-found in
          let g = holds_at (Given s o) (give view s o) r.0 r.1 (gives view s o) in
          (r.0, step_open view p least rest w ∙ ap (λ (t : Shown). give view t o) (is.shows (node_number least)) ∙ r.1, λ x. omega (arith, g.pushed x, pushes_within x))

    opens-next : (b : ℕ) (p : Progress) → walk view b ≡ going p → Within p.pushed nodes → (w : List ℕ) → p.waiting ≡ w → Goes (λ q. Within q.pushed nodes) (step view (going p))
    opens-next b p e within [] w = (p, step-none view p w, within)
    opens-next b p e within (least ∷ rest) w = opens_one b p e within least rest w

    closed_goes : (b : ℕ) → Goes (λ q. Within q.pushed nodes) (walk view b)
    closed_goes zero =
        (start_progress view, walk_is view 0 ∙ walk-zero view (going (start_progress view)), λ x. omega (arith, count-cons x 0 [], count-nil x, c.all x))
    closed_goes (suc b) =
        let r = closed_goes b in
        let q = opens-next b r.0 r.1 r.2 r.0.waiting refl in
        (q.0, walk-last view b ∙ ap (step view) r.1 ∙ q.1, q.2)

-- ---- two walks

-- both ended, with none waiting: as many nodes are opened, and the same hits are found, each as often
pub record SameEnds (p q : Progress) : Type 0 where
  pub opened : length p.opened ≡ length q.opened
  pub found : sort p.found ≡ sort q.found
  pub whole_left : whole p ≡ true
  pub whole_right : whole q ≡ true

-- both damaged, or both ended so
abbrev pub SameEnd : State → State → Type 0
SameEnd damaged damaged = Unit {0}
SameEnd damaged (going q) = ⊥
SameEnd (going p) damaged = ⊥
SameEnd (going p) (going q) = SameEnds p q

module _ (sh : ℕ → Shown) (most n : ℕ) (fits : n ≤ 2 ^ 64) (pos : 0 < n) (b : ℕ) (enough : n ≤ b) where
  -- where one walk goes on, the other is not damaged
  not_damaged : (v w : View) → Shows sh most n v → Shows sh most n w → (p : Progress) → walk v b ≡ going p → walk w b ≡ damaged → ⊥
  not_damaged v w is-v is-w p e f =
      let r = closed_goes sh most n fits pos w is-w p.opened (closed sh most n fits pos v is-v b enough p e) b in
      let t : going r.0 ≡ damaged = sym r.1 ∙ f in
      let z : ◌≡◌ {A = ℕ} 0 1 = cc in
      omega arith

  -- the nodes that it pushes are among those that the other opened
  among : (v w : View) → Shows sh most n v → Shows sh most n w → (p q : Progress) → walk v b ≡ going p → walk w b ≡ going q → Within q.pushed p.opened
  among v w is-v is-w p q e f =
      let r = closed_goes sh most n fits pos w is-w p.opened (closed sh most n fits pos v is-v b enough p e) b in
      let t : going r.0 ≡ going q = sym r.1 ∙ f in
      let same : r.0 ≡ q = cc in
      subst (λ (o : Progress). Within o.pushed p.opened) same r.2

  both_end : (v w : View) → Shows sh most n v → Shows sh most n w → (p q : Progress) → walk v b ≡ going p → walk w b ≡ going q → SameEnds p q
  both_end v w is-v is-w p q e f =
      let same = count_perm p.opened q.opened
      (λ x. omega (
        arith,
        among v w is-v is-w p q e f x,
        among w v is-w is-v q p f e x,
        all-opened sh most n fits pos v is-v b enough p e x,
        all-opened sh most n fits pos w is-w b enough q f x,
      )) in
      record {
        opened = perm_length same;
        found = sums_sort p.found q.found
            (λ g. (accounts sh most n fits pos v is-v b p e).found g ∙ perm_sum_of (hits_of sh g) same ∙ sym ((accounts sh most n fits pos w is-w b q f).found g));
        whole_left = ap none (ended sh most n fits pos v is-v b enough p e p.waiting refl) ∙ nil-waiting;
        whole_right = ap none (ended sh most n fits pos w is-w b enough q f q.waiting refl) ∙ nil-waiting;
      }

  end-alike : (v w : View) → Shows sh most n v → Shows sh most n w → (s t : State) → walk v b ≡ s → walk w b ≡ t → SameEnd s t
  end-alike v w is-v is-w damaged damaged e f = tt
  end-alike v w is-v is-w damaged (going q) e f = not_damaged w v is-w is-v q f e
  end-alike v w is-v is-w (going p) damaged e f = not_damaged v w is-v is-w p e f
  end-alike v w is-v is-w (going p) (going q) e f = both_end v w is-v is-w p q e f

-- a view with other keys
abbrev pub keyed : (ℕ → ℕ) → View → View
keyed key view = record { key = key; denied = view.denied; shows = view.shows; most = view.most }

pub shown-keyed : (key : ℕ → ℕ) (view : View) (i : ℕ) → shown (keyed key view) i ≡ shown view i
unfolding shown
shown-keyed key view i = refl

-- Views that agree but for their keys, at every node below a count that no shown child leaves, end alike with a budget of at least that count
pub keys_free : (v w : View) (n : ℕ) → n ≤ 2 ^ 64 → 0 < n → ChildrenBelow v n → v.most ≡ w.most → ((i : ℕ) → i < n → shown v i ≡ shown w i)
    → (b : ℕ) → n ≤ b → SameEnd (walk v b) (walk w b)
keys_free v w n fits pos below most shows b enough =
    let u : View = keyed w.key v in
    let below-u : ChildrenBelow u n = λ i numbers child e m. below i numbers child (sym (shown-keyed w.key v i) ∙ e) m in
    subst (SameEnd (walk v b)) (same-below u w n fits pos below-u most (λ i h. refl) (λ i h. shown-keyed w.key v i ∙ shows i h) b)
    (end-alike (shown v) v.most n fits pos b enough v u (record { shows = λ i. refl; room = refl; below = below })
    (record { shows = shown-keyed w.key v; room = refl; below = below-u }) (walk v b) (walk u b) refl refl)
