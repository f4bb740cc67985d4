-- What a lent store shows, case by case: its children are below the node count, whatever numbers stand in it. Assumes nothing.
use Prim.Native.Nat.{ℕ, zero, suc, ◌+◌, ◌≤◌, ◌<◌}
use Rattle.std.proofs.Common.{arith, ◌∙◌, inl, inr}
use Rattle.std.specs.Prelude.{◌≡◌, ◌⊎◌, false, ◌&&◌, cond, leb, eqb, Float}
use Rattle.std.proofs.Math.Path.{refl, sym, subst}
use Rattle.std.proofs.Math.Bool.{Bool, true}
use mathlib.Core.List.{List, [], map, Memᴰ}
use Rattle.std.proofs.Math.Dec.{ltb}
use borrow.Author.Tests.{leb-true, ltb-true, eqb-false}
use Rattle.lists.specs.Lists.{part}
use Rattle.store.specs.declared.Shape.{Shape}
use Rattle.store.specs.Store.{Store, node_field, child_links, node_filter}
use Rattle.lists.specs.Tests.{either, all_pass}
use Rattle.lists.specs.Tests.{and_left, and_right, all_pass-Memᴰ, cond_cases}
use Rattle.store.specs.declared.Counts.{Counts}
use Rattle.walk.specs.Walk.{Shown, children, hits, damage, shown}
use Rattle.walk.proofs.DifferentLaws.{ChildrenBelow}
use Rattle.walk.specs.Wanted.{Sought, list_read, held_in, denies, passes, given}
use Rattle.walk.specs.StoreView.{block_held, field_of, part_of, hit_at, children_shown, end_in, entry_read, list_shown, leaf_shown, node_shown, store_view}

-- ---- blocks

pub block_empty : (start held : ℕ) → block_held start 0 held ≡ true
unfolding block_held
block_empty start held = refl

pub block-some : (start count held : ℕ) → block_held start (suc count) held ≡ leb (start + suc count) held
unfolding block_held
block-some start count held = refl

-- a block that is held is empty or ends within what is held
pub block_within : (start count held : ℕ) → block_held start count held ≡ true → (count ≡ 0) ⊎ (start + count ≤ held)
block_within start zero held e = inl refl
block_within start (suc count) held e = inr (leb-true (start + suc count) held (sym (block-some start count held) ∙ e))

-- ---- the children that a store shows

-- neither hits nor damage are children
abbrev Childless : Shown → Type 0
Childless sh = (numbers : List ℕ) → sh ≡ children numbers → ⊥

childless_hits : (l : List ℕ) → Childless (hits l)
childless_hits l numbers e = let z : ◌≡◌ {A = ℕ} 0 1 = cc in omega arith

childless_damage : Childless damage
childless_damage numbers e = let z : ◌≡◌ {A = ℕ} 0 1 = cc in omega arith

childless_cond : (b : Bool) (x y : Shown) → Childless x → Childless y → Childless (cond b x y)
childless_cond true x y f g = f
childless_cond false x y f g = g

module _ (s : Shape) (c : Counts) (store : Store) where
  childless_list : (query : List Float) (wanted : Sought) (l : List ℕ) → Childless (list_shown s c store query wanted l)
  unfolding list_shown
  childless_list query wanted l =
      let found : List ℕ = map (hit_at s store.floats store.numbers query) (given wanted (entry_read s c store) l) in
      childless_cond (all_pass (passes wanted c (entry_read s c store) (end_in s store.numbers)) l) (hits found) damage (childless_hits found) childless_damage

  childless_leaf : (query : List Float) (wanted : Sought) (i : ℕ) → Childless (leaf_shown s c store query wanted i)
  unfolding leaf_shown
  childless_leaf query wanted i =
      let list = list_read wanted in
      let start = node_field s store.numbers i (field_of list) in
      let count = node_field s store.numbers i (field_of list + 1) in
      let l : List ℕ = part (part_of s (list_read wanted) + start) count store.numbers in
      childless_cond (block_held start count (held_in list c)) (list_shown s c store query wanted l) damage (childless_list query wanted l) childless_damage

  -- what is shown as children was listed and tested
  children_shown-below : (parent : ℕ) (numbers shownAs : List ℕ) → children_shown s c store parent numbers ≡ children shownAs
      → (x : ℕ) → Memᴰ x shownAs → Memᴰ x numbers × (parent < x) × (x < c.nodes)
  unfolding children_shown
  children_shown-below parent numbers shownAs e x m =
      either (cond_cases (all_pass (λ child. ltb parent child && ltb child c.nodes) numbers) (children numbers) damage)
      (λ p. let same : children numbers ≡ children shownAs = sym p.1 ∙ e in
      let l : numbers ≡ shownAs = cc in
      let listed : Memᴰ x numbers = subst (Memᴰ x) (sym l) m in
      let both : (ltb parent x && ltb x c.nodes) ≡ true = all_pass-Memᴰ (λ child. ltb parent child && ltb child c.nodes) numbers p.0 x listed in
      (listed, ltb-true parent x (and_left (ltb parent x) (ltb x c.nodes) both), ltb-true x c.nodes (and_right (ltb parent x) (ltb x c.nodes) both)))
      (λ p. absurd (childless_damage shownAs (sym p.1 ∙ e)))

  -- A child x that node i shows: the node has children, all within what is held, and x is one of them, above its parent and below the node count
  pub record ShownChild (i x : ℕ) : Type 0 where
    pub inner : node_field s store.numbers i 1 ≡ 0 → ⊥
    pub held : block_held (node_field s store.numbers i 0) (node_field s store.numbers i 1) c.nodes ≡ true
    pub listed : Memᴰ x (child_links s store.numbers i)
    pub above : i < x
    pub below : x < c.nodes

  node_shown_child : (query : List Float) (wanted : Sought) (i : ℕ) (numbers : List ℕ) → node_shown s c store query wanted i ≡ children numbers
      → (x : ℕ) → Memᴰ x numbers → ShownChild i x
  unfolding node_shown
  node_shown_child query wanted i numbers e x m =
      let list : List ℕ = child_links s store.numbers i in
      let held : Bool = block_held (node_field s store.numbers i 0) (node_field s store.numbers i 1) c.nodes in
      either (cond_cases (eqb (node_field s store.numbers i 1) 0) (leaf_shown s c store query wanted i) (cond held (children_shown s c store i list) damage))
      (λ p. absurd (childless_leaf query wanted i numbers (sym p.1 ∙ e)))
      (λ p. either (cond_cases held (children_shown s c store i list) damage)
      (λ q. let child = children_shown-below i list numbers (sym q.1 ∙ sym p.1 ∙ e) x m in
      record { inner = eqb-false (node_field s store.numbers i 1) 0 p.0; held = q.0; listed = child.0; above = child.1; below = child.2 })
      (λ q. absurd (childless_damage numbers (sym q.1 ∙ sym p.1 ∙ e))))

  pub store-shown : (query : List Float) (wanted : Sought) (i : ℕ)
      → shown (store_view s c store query wanted) i ≡ cond (denies wanted (node_filter s store.hashes i)) (hits []) (node_shown s c store query wanted i)
  unfolding shown store_view
  store-shown query wanted i = refl

  -- The children that a store shows, by a node that its filter does not deny
  pub store_child : (query : List Float) (wanted : Sought) (i : ℕ) (numbers : List ℕ) (x : ℕ) → shown (store_view s c store query wanted) i ≡ children numbers
      → Memᴰ x numbers → (denies wanted (node_filter s store.hashes i) ≡ false) × ShownChild i x
  store_child query wanted i numbers x e m =
      either (cond_cases (denies wanted (node_filter s store.hashes i)) (hits []) (node_shown s c store query wanted i))
      (λ p. absurd (childless_hits [] numbers (sym p.1 ∙ sym (store-shown query wanted i) ∙ e)))
      (λ p. (p.0, node_shown_child query wanted i numbers (sym p.1 ∙ sym (store-shown query wanted i) ∙ e) x m))

  -- They are above their parent and below the node count
  pub store-children : (query : List Float) (wanted : Sought) (i : ℕ) (numbers : List ℕ) (x : ℕ) → shown (store_view s c store query wanted) i ≡ children numbers
      → Memᴰ x numbers → (i < x) × (x < c.nodes)
  store-children query wanted i numbers x e m = let child = (store_child query wanted i numbers x e m).1 in (child.above, child.below)

  pub store-children-below : (query : List Float) (wanted : Sought) → ChildrenBelow (store_view s c store query wanted) c.nodes
  store-children-below query wanted i numbers x e m = (store-children query wanted i numbers x e m).1
