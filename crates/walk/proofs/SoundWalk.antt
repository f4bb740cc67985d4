-- The walk over a sound tree: it is never damaged, it ends with none waiting once the budget is at least the number of nodes, and then it has found
-- exactly what is due. A tree is given by functions of a node's number: `below`, the hits due at and below it, and `size`, how many nodes its subtree
-- has. Nodes are numbered parent first, so the subtree of node i has the numbers from i up to i + size i. Assumes nothing.
use Rattle.std.specs.Prelude.{ℕ, zero, suc, ◌+◌, ◌^◌, ◌≤◌, ◌<◌, ◌≡◌, refl, ◌⊎◌, Bool, true, false, ◌&&◌, cond, leb, ltb, length}
use Rattle.std.proofs.Common.{arith, sym, ap, ◌∙◌, subst, inl, inr, le-leb, lt-ltb, le-ltb}
use mathlib.Core.List.Memᴰ
use mathlib.Core.List.{List, [], ◌∷◌, Memᴰ}
use Rattle.std.proofs.lemmas.Bool.{lt-leb}
use Rattle.lists.specs.Lists.{joined, is_in}
use Rattle.lists.specs.Counting.{sum_of, sum_of-append, sum_of-joined, is_in-Memᴰ}
use Rattle.lists.specs.Tests.{which, either}
use Rattle.lists.specs.Partition.{List-as-Permᴰ, Permᴰ·symm, hit, count, hit_same, hit_other, count-nil, count-cons, perm_sum_of, perm_Memᴰ, count_perm, Memᴰ-count}
use Rattle.record_queue.specs.Sorted.{insert, sort}
use Rattle.record_queue.specs.SortedLaws.{le_or_lt, sort_to_perm, perm_sort}
use Rattle.walk.specs.Walk.{Shown, children, hits, damage, View, waiting_node, node_number, Progress, State, going, push_all, give, shown, step, walk_from, walk, none, whole}
use Rattle.walk.proofs.WalkLaws.{opened_one, pushed_one, added_hits, start_progress, push_all-nil, push_all-fresh, give-children, give-hits, step-none, step_open, walk-zero, walk-suc, walk_is, none-waiting, nil-waiting}
use Rattle.walk.proofs.BudgetLaws.{opened_cut}
use Rattle.walk.proofs.DifferentLaws.{node_numbers, number_of, numbers-insert}

-- 1 for a number from `from` up to `to`, 0 for others
unfoldable pub between : ℕ → ℕ → ℕ → ℕ
between from to x = cond (leb from x && ltb x to) 1 0

between_in : (from to x : ℕ) → from ≤ x → x < to → between from to x ≡ 1
unfolding between
between_in from to x a b = rw (le-leb from x a, lt-ltb x to b)

between-before : (from to x : ℕ) → x < from → between from to x ≡ 0
unfolding between
between-before from to x a = rw (lt-leb from x a)

between-behind : (from to x : ℕ) → to ≤ x → between from to x ≡ 0
unfolding between
between-behind from to x b = rw (le-ltb x to b) (go (leb from x))
  where
    go : (c : Bool) → ◌≡◌ {A = ℕ} (cond (c && false) 1 0) 0
    go true = refl
    go false = refl

-- whether x is strictly below node n
abbrev inside : (ℕ → ℕ) → ℕ → ℕ → ℕ
inside size x n = between (suc n) (n + size n) x

-- Subtrees one behind the other, from a number up to another: each child's subtree starts no earlier than the one before it ends
abbrev pub Tiled : (ℕ → ℕ) → ℕ → ℕ → List ℕ → Type 0
Tiled size from to [] = from ≤ to
Tiled size from to (c ∷ cs) = (from ≤ c) × Tiled size (c + size c) to cs

-- what an inner node shows: children whose subtrees stand one behind the other behind it, and who have its hits among them
pub record Inner (below : ℕ → List ℕ) (size : ℕ → ℕ) (Valid : ℕ → Type 0) (i : ℕ) (cs : List ℕ) : Type 0 where
  pub tiled : Tiled size (suc i) (i + size i) cs
  pub valid : (c : ℕ) → Memᴰ c cs → Valid c
  pub gives : sort (joined below cs) ≡ sort (below i)

-- what a node shows: no damage; a leaf its hits; a denied node shows no hits, so none may be due below it
abbrev pub Local : (ℕ → List ℕ) → (ℕ → ℕ) → (ℕ → Type 0) → ℕ → Shown → Type 0
Local below size Valid i damage = ⊥
Local below size Valid i (hits new) = sort new ≡ sort (below i)
Local below size Valid i (children cs) = Inner below size Valid i cs

-- a sound tree: what its valid nodes show, and no more hits due than there can be
pub record SoundView (view : View) (below : ℕ → List ℕ) (size : ℕ → ℕ) (Valid : ℕ → Type 0) : Type 0 where
  pub first : Valid 0
  pub sized : (i : ℕ) → Valid i → 1 ≤ size i
  pub numbered : (i : ℕ) → Valid i → i < 2 ^ 64
  pub shows : (i : ℕ) → Valid i → Local below size Valid i (shown view i)
  pub room : length (below 0) ≤ view.most

pub sum_of-nil : (f : ℕ → ℕ) → sum_of f [] ≡ 0
unfolding sum_of
sum_of-nil f = refl

pub sum_of-cons : (f : ℕ → ℕ) (x : ℕ) (xs : List ℕ) → sum_of f (x ∷ xs) ≡ f x + sum_of f xs
unfolding sum_of
sum_of-cons f x xs = refl

pub sum_of_ones : (l : List ℕ) → sum_of (λ x. 1) l ≡ length l
sum_of_ones [] = sum_of-nil (λ x. 1)
sum_of_ones (x ∷ xs) = omega (arith, sum_of-cons (λ x. 1) x xs, sum_of_ones xs)

count_is : (x : ℕ) (l : List ℕ) → count x l ≡ sum_of (hit x) l
unfolding count
count_is x l = refl

-- lists over which every function sums to the same are permutations
pub sums_sort : (xs ys : List ℕ) → ((f : ℕ → ℕ) → sum_of f xs ≡ sum_of f ys) → sort xs ≡ sort ys
sums_sort xs ys h = perm_sort (count_perm xs ys (λ x. count_is x xs ∙ h (hit x) ∙ sym (count_is x ys)))

-- the sizes of subtrees one behind the other
tiled-sizes : (size : ℕ → ℕ) (from to : ℕ) (cs : List ℕ) → Tiled size from to cs → from + sum_of size cs ≤ to
tiled-sizes size from to [] t = omega (arith, t, sum_of-nil size)
tiled-sizes size from to (c ∷ cs) t = omega (arith, t.0, tiled-sizes size (c + size c) to cs t.1, sum_of-cons size c cs)

-- each number is at most once among children, or strictly below one, and then it is in the interval
tiled-inside : (size : ℕ → ℕ) (x from to : ℕ) (cs : List ℕ) → ((c : ℕ) → Memᴰ c cs → 1 ≤ size c) → Tiled size from to cs
    → count x cs + sum_of (inside size x) cs ≤ between from to x
tiled-inside size x from to [] s t = omega (arith, count-nil x, sum_of-nil (inside size x))
tiled-inside size x from to (c ∷ cs) s t =
    let later : count x cs + sum_of (inside size x) cs ≤ between (c + size c) to x = tiled-inside size x (c + size c) to cs (λ d m. s d (Memᴰ.tail m)) t.1 in
    let here : hit x c + inside size x c + between (c + size c) to x ≤ between from to x = one (tiled-sizes size (c + size c) to cs t.1) t.0 (s c (Memᴰ.head refl)) in
    omega (arith, later, here, count-cons x c cs, sum_of-cons (inside size x) c cs)
  where
    one : c + size c + sum_of size cs ≤ to → from ≤ c → 1 ≤ size c → hit x c + inside size x c + between (c + size c) to x ≤ between from to x
    one end a b = either (le_or_lt (c + size c) x)
        (λ behind. let n : hit x c ≡ 0 = hit_other x c (λ e. let z : x ≡ c = e in omega arith) in
        let m : inside size x c ≡ 0 = between-behind (suc c) (c + size c) x behind in
        either (le_or_lt to x)
        (λ out. omega (arith, n, m, between-behind (c + size c) to x out))
        (λ in'. let f : from ≤ x = omega arith in omega (arith, n, m, between_in (c + size c) to x behind in', between_in from to x f in')))
        (λ before. let r : between (c + size c) to x ≡ 0 = between-before (c + size c) to x before in
        let last : x < to = omega arith in
        either (le_or_lt x c)
        (λ low. either (le_or_lt c x)
        (λ same. let e : x ≡ c = omega arith in
        let n : hit x c ≡ 1 = hit_same x c e in
        let m : inside size x c ≡ 0 = between-before (suc c) (c + size c) x (let t : x < suc c = omega arith in t) in
        omega (arith, r, n, m, between_in from to x (let t : from ≤ x = omega arith in t) last))
        (λ less. let n : hit x c ≡ 0 = hit_other x c (λ e. let z : x ≡ c = e in omega arith) in
        let m : inside size x c ≡ 0 = between-before (suc c) (c + size c) x (let t : x < suc c = omega arith in t) in
        omega (arith, r, n, m)))
        (λ high. let n : hit x c ≡ 0 = hit_other x c (λ e. let z : x ≡ c = e in omega arith) in
        let m : inside size x c ≡ 1 = between_in (suc c) (c + size c) x high before in
        omega (arith, r, n, m, between_in from to x (let t : from ≤ x = omega arith in t) last)))

-- ---- the walk's account

-- Of a progress, with children `rest` that are still to be pushed: what was found with what is due below the nodes that wait, or will, is what is due in
-- all; the nodes opened with the sizes of those are at most the tree's; every number is pushed, or to be pushed, or strictly below such a node at most
-- once
pub record Account (below : ℕ → List ℕ) (size : ℕ → ℕ) (Valid : ℕ → Type 0) (rest : List ℕ) (p : Progress) : Type 0 where
  pub due : (f : ℕ → ℕ) → sum_of f p.found + (sum_of (λ n. sum_of f (below n)) (node_numbers p.waiting) + sum_of (λ n. sum_of f (below n)) rest) ≡ sum_of f (below 0)
  pub sizes : length p.opened + (sum_of size (node_numbers p.waiting) + sum_of size rest) ≤ size 0
  pub different : (x : ℕ) → count x p.pushed + (sum_of (inside size x) (node_numbers p.waiting) + (count x rest + sum_of (inside size x) rest)) ≤ 1
  pub valid : (n : ℕ) → Memᴰ n (node_numbers p.waiting) → Valid n
  pub coming : (n : ℕ) → Memᴰ n rest → Valid n

-- a state that goes on, to a progress with a property
abbrev pub Goes : (Progress → Type 0) → State → Type 0
Goes P s = (q : Progress) × (s ≡ going q) × P q

module _ (view : View) (below : ℕ → List ℕ) (size : ℕ → ℕ) (Valid : ℕ → Type 0) (tree : SoundView view below size Valid) where
  -- a child that is to be pushed was not pushed before
  fresh : (c : ℕ) (cs : List ℕ) (p : Progress) → Account below size Valid (c ∷ cs) p → is_in c p.pushed ≡ false
  fresh c cs p a = go (which (is_in c p.pushed))
    where
      go : (is_in c p.pushed ≡ true) ⊎ (is_in c p.pushed ≡ false) → is_in c p.pushed ≡ false
      go (inl e) =
          absurd (let some : 0 < count c p.pushed = Memᴰ-count (is_in-Memᴰ c p.pushed e) in
          omega (arith, a.different c, count-cons c c cs, hit_same c c refl, some))
      go (inr e) = e

  account_push : (c : ℕ) (cs : List ℕ) (p : Progress) → Account below size Valid (c ∷ cs) p → Account below size Valid cs (pushed_one view c p)
  account_push c cs p a =
      let ok : Valid c = a.coming c (Memᴰ.head refl) in
      let perm : List-as-Permᴰ (c ∷ node_numbers p.waiting) (node_numbers (insert (waiting_node view c) p.waiting)) = numbers-insert view c p.waiting (tree.numbered c ok) in
      let w : List ℕ = node_numbers p.waiting in
      record {
        due = λ f. omega (arith, a.due f, perm_sum_of (λ n. sum_of f (below n)) perm, sum_of-cons (λ n. sum_of f (below n)) c w, sum_of-cons (λ n. sum_of f (below n)) c cs);
        sizes = omega (arith, a.sizes, perm_sum_of size perm, sum_of-cons size c w, sum_of-cons size c cs);
        different = λ x. omega (
          arith,
          a.different x,
          perm_sum_of (inside size x) perm,
          sum_of-cons (inside size x) c w,
          sum_of-cons (inside size x) c cs,
          count-cons x c cs,
          count-cons x c p.pushed,
        );
        valid = λ n m. either (Memᴰ.cases_cons (perm_Memᴰ (Permᴰ·symm perm) m)) (λ e. subst Valid (sym e) ok) (λ k. a.valid n k);
        coming = λ n m. a.coming n (Memᴰ.tail m);
      }

  account_all : (cs : List ℕ) (p : Progress) → Account below size Valid cs p → Goes (Account below size Valid []) (push_all view cs (going p))
  account_all [] p a = (p, push_all-nil view (going p), a)
  account_all (c ∷ cs) p a =
      let r = account_all cs (pushed_one view c p) (account_push c cs p a) in
      (r.0, push_all-fresh view c cs p (fresh c cs p a) ∙ r.1, r.2)

  -- the node that is taken leaves the others
  taken : (g : ℕ → ℕ) (least : ℕ) (rest : List ℕ) (p : Progress) → p.waiting ≡ least ∷ rest
      → sum_of g (node_numbers p.waiting) ≡ g (node_number least) + sum_of g (node_numbers rest)
  taken g least rest p e = ap (λ (w : List ℕ). sum_of g (node_numbers w)) e ∙ sum_of-cons g (node_number least) (node_numbers rest)

  waits : (least : ℕ) (rest : List ℕ) (p : Progress) → p.waiting ≡ least ∷ rest → (n : ℕ) → Memᴰ n (node_number least ∷ node_numbers rest) → Memᴰ n (node_numbers p.waiting)
  waits least rest p e n m = subst (λ (w : List ℕ). Memᴰ n (node_numbers w)) (sym e) m

  account_hits : (least : ℕ) (rest : List ℕ) (p : Progress) (new : List ℕ) → p.waiting ≡ least ∷ rest → Valid (node_number least)
      → sort new ≡ sort (below (node_number least)) → Account below size Valid [] p → Account below size Valid [] (added_hits new (opened_one least rest p))
  account_hits least rest p new e ok same a =
      let i : ℕ = node_number least in
      record {
        due = λ f. omega (
          arith,
          a.due f,
          taken (λ n. sum_of f (below n)) least rest p e,
          sum_of-append f new p.found,
          perm_sum_of f (sort_to_perm new (below i) same),
        );
        sizes = omega (arith, a.sizes, taken size least rest p e, tree.sized i ok);
        different = λ x. omega (arith, a.different x, taken (inside size x) least rest p e);
        valid = λ n m. a.valid n (waits least rest p e n (Memᴰ.tail m));
        coming = a.coming;
      }

  account_children : (least : ℕ) (rest : List ℕ) (p : Progress) (cs : List ℕ) → p.waiting ≡ least ∷ rest
      → Inner below size Valid (node_number least) cs → Account below size Valid [] p → Account below size Valid cs (opened_one least rest p)
  account_children least rest p cs e l a =
      let i : ℕ = node_number least in
      record {
        due = λ f. omega (
          arith,
          a.due f,
          taken (λ n. sum_of f (below n)) least rest p e,
          sum_of-nil (λ n. sum_of f (below n)),
          perm_sum_of f (sort_to_perm (joined below cs) (below i) l.gives),
          sum_of-joined f below cs,
        );
        sizes = omega (arith, a.sizes, taken size least rest p e, sum_of-nil size, tiled-sizes size (suc i) (i + size i) cs l.tiled);
        different = λ x. omega (
          arith,
          a.different x,
          taken (inside size x) least rest p e,
          sum_of-nil (inside size x),
          count-nil x,
          tiled-inside size x (suc i) (i + size i) cs (λ c m. tree.sized c (l.valid c m)) l.tiled,
        );
        valid = λ n m. a.valid n (waits least rest p e n (Memᴰ.tail m));
        coming = l.valid;
      }

  -- never one hit too many
  fits : (least : ℕ) (rest : List ℕ) (p : Progress) (new : List ℕ) → p.waiting ≡ least ∷ rest
      → sort new ≡ sort (below (node_number least)) → Account below size Valid [] p → length new + length p.found ≤ view.most
  fits least rest p new e same a =
      let ones : ℕ → ℕ = λ x. 1 in
      omega (
        arith,
        a.due ones,
        taken (λ n. sum_of ones (below n)) least rest p e,
        sum_of_ones p.found,
        sum_of_ones (below 0),
        sum_of_ones new,
        perm_sum_of ones (sort_to_perm new (below (node_number least)) same),
        tree.room,
      )

  -- what an opened node gives
  account_give : (least : ℕ) (rest : List ℕ) (p : Progress) (sh : Shown) → p.waiting ≡ least ∷ rest → Valid (node_number least)
      → Local below size Valid (node_number least) sh → Account below size Valid [] p → Goes (Account below size Valid []) (give view sh (opened_one least rest p))
  account_give least rest p damage e ok l a = absurd l
  account_give least rest p (hits new) e ok l a =
      (added_hits new (opened_one least rest p), give-hits view new (opened_one least rest p) (fits least rest p new e l a), account_hits least rest p new e ok l a)
  account_give least rest p (children cs) e ok l a =
      let r = account_all cs (opened_one least rest p) (account_children least rest p cs e l a) in
      (r.0, give-children view cs (opened_one least rest p) ∙ r.1, r.2)

  account_step : (p : Progress) (w : List ℕ) → p.waiting ≡ w → Account below size Valid [] p → Goes (Account below size Valid []) (step view (going p))
  account_step p [] e a = (p, step-none view p e, a)
  account_step p (least ∷ rest) e a =
      let ok : Valid (node_number least) = a.valid (node_number least) (waits least rest p e (node_number least) (Memᴰ.head refl)) in
      let r = account_give least rest p (shown view (node_number least)) e ok (tree.shows (node_number least) ok) a in
      (r.0, step_open view p least rest e ∙ r.1, r.2)

  account_walk : (b : ℕ) (p : Progress) → Account below size Valid [] p → Goes (Account below size Valid []) (walk_from view b (going p))
  account_walk zero p a = (p, walk-zero view (going p), a)
  account_walk (suc b) p a =
      let q = account_step p p.waiting refl a in
      let r = account_walk b q.0 q.2 in
      (r.0, walk-suc view b (going p) ∙ ap (walk_from view b) q.1 ∙ r.1, r.2)

  account_start : Account below size Valid [] (start_progress view)
  account_start =
      let z : node_number (waiting_node view 0) ≡ 0 = number_of view 0 (let t : 0 < 2 ^ 64 = omega arith in t) in
      let one : (g : ℕ → ℕ) → sum_of g (node_numbers (waiting_node view 0 ∷ [])) ≡ g 0 + 0 = λ g. sum_of-cons g (node_number (waiting_node view 0)) [] ∙ ap (λ (n : ℕ). g n + sum_of g []) z ∙ ap (λ (n : ℕ). g 0 + n) (sum_of-nil g) in
      record {
        due = λ f. omega (arith, one (λ n. sum_of f (below n)), sum_of-nil f, sum_of-nil (λ n. sum_of f (below n)));
        sizes = omega (arith, one size, sum_of-nil size);
        different = λ x. omega (arith, one (inside size x), sum_of-nil (inside size x), count-cons x 0 [], count-nil x, root-once x);
        valid = λ n m. either (Memᴰ.cases_cons m) (λ e. subst Valid (sym (e ∙ z)) tree.first) (λ k. absurd (Memᴰ.not-nil k));
        coming = λ n m. absurd (Memᴰ.not-nil m);
      }
    where
      root-once : (x : ℕ) → hit x 0 + inside size x 0 ≤ 1
      root-once zero = omega (arith, hit_same 0 0 refl, between-before 1 (0 + size 0) 0 (let t : 0 < 1 = omega arith in t))
      root-once (suc x) =
          either (le_or_lt (0 + size 0) (suc x))
          (λ h. omega (arith, hit_other (suc x) 0 (λ e. omega arith), between-behind 1 (0 + size 0) (suc x) h))
          (λ h. omega (arith, hit_other (suc x) 0 (λ e. omega arith), between_in 1 (0 + size 0) (suc x) (let t : 1 ≤ suc x = omega arith in t) h))

  -- ---- the three laws

  -- The walk of a sound tree is never damaged
  pub sound-goes : (b : ℕ) → Goes (Account below size Valid []) (walk view b)
  sound-goes b = let r = account_walk b (start_progress view) account_start in (r.0, walk_is view b ∙ r.1, r.2)

  account : (b : ℕ) (p : Progress) → walk view b ≡ going p → Account below size Valid [] p
  account b p e =
      let r = sound-goes b in
      let same : going r.0 ≡ going p = sym r.1 ∙ e in
      let s : r.0 ≡ p = cc in
      subst (Account below size Valid []) s r.2

  -- What was found is due, each hit at most as often, by any function of hits
  pub sound-part : (b : ℕ) (p : Progress) → walk view b ≡ going p → (f : ℕ → ℕ) → sum_of f p.found ≤ sum_of f (below 0)
  sound-part b p e f = omega (arith, (account b p e).due f)

  -- Where none waits, what was found is all that is due
  pub sound-whole : (b : ℕ) (p : Progress) → walk view b ≡ going p → whole p ≡ true → sort p.found ≡ sort (below 0)
  sound-whole b p e w =
      sums_sort p.found (below 0)
      (λ f. omega (
        arith,
        (account b p e).due f,
        sum_of-nil (λ n. sum_of f (below n)),
        ap (λ (l : List ℕ). sum_of (λ n. sum_of f (below n)) (node_numbers l)) (none-waiting p.waiting w),
      ))

  -- With a budget of at least the number of nodes none waits
  pub sound-enough : (b : ℕ) (p : Progress) → size 0 ≤ b → walk view b ≡ going p → whole p ≡ true
  sound-enough b p h e = go (which (whole p)) p.waiting refl
    where
      a : Account below size Valid [] p
      a = account b p e

      go : (whole p ≡ true) ⊎ (whole p ≡ false) → (w : List ℕ) → p.waiting ≡ w → whole p ≡ true
      go (inl t) w q = t
      go (inr f) [] q = ap none q ∙ nil-waiting
      go (inr f) (least ∷ rest) q =
          let ok : Valid (node_number least) = a.valid (node_number least) (waits least rest p q (node_number least) (Memᴰ.head refl)) in
          absurd (omega (arith, a.sizes, taken size least rest p q, tree.sized (node_number least) ok, opened_cut view b p e f, h))
