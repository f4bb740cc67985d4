-- What a node of a lent store shows, from what was read of it: its filter, its count of children, and its list's block. Assumes nothing.
use Prim.Native.Nat.{ℕ, zero, suc, ◌+◌, ◌*◌, ◌≤◌, ◌<◌}
use native.Mathlib.Nat.{add-zero}
use native.Mathlib.Omega.{arith}
use mathlib.Core.Path.{◌≡◌, refl, sym, ap, ap₂, ◌∙◌}
use mathlib.Core.Bool.{Bool, true, false, cond}
use mathlib.Core.List.{List, [], map}
use lib.Ieee.{Float}
use lib.ListN.{get_or}
use borrow.Author.Tests.{eq-eqb, ne_eqb, le-leb, lt-leb}
use Rattle.std.specs.Prelude.{Result, Ok, Err}
use Rattle.walk.specs.declared.Damaged.{Damaged}
use Rattle.walk.specs.declared.look.Block.{Block}
use Rattle.lists.specs.Lists.{part}
use Rattle.lists.specs.Tests.{all_pass-nil}
use Rattle.store.specs.Lent.{store_of}
use Rattle.store.specs.declared.Shape.{Shape}
use Rattle.store.specs.Store.{nodes_at, links_at, filters_at}
use Rattle.store.specs.declared.Counts.{Counts}
use Rattle.walk.specs.declared.look.Look.{Look}
use Rattle.walk.specs.Walk.{Shown, hits, damage, shown}
use Rattle.walk.specs.Wanted.{Sought, list_read, held_in, denies, passes}
use Rattle.walk.proofs.WantedLaws.{given-nil}
use Rattle.walk.specs.StoreView.{block_held, field_of, part_of, hit_at, children_shown, end_in, entry_read, list_shown, leaf_shown, node_shown, store_view}
use Rattle.walk.proofs.StoreViewLaws.{block_empty, block-some, store-shown}
use Rattle.walk.specs.Promises.{Placing, LeafPlacing, ShowsFor, LooksFor}
use Rattle.walk.specs.declared.look.Look.TheVariants as look

-- blocks
pub block_out : (start count held : ℕ) → (count ≡ 0 → ⊥) → held < start + count → block_held start count held ≡ false
block_out start zero held n h = absurd (n refl)
block_out start (suc count) held n h = block-some start count held ∙ lt-leb (start + suc count) held h

pub block_in : (start count held : ℕ) → start + count ≤ held → block_held start count held ≡ true
block_in start zero held h = block_empty start held
block_in start (suc count) held h = block-some start count held ∙ le-leb (start + suc count) held h

-- a leaf's empty list shows no hits
nothing : (s : Shape) (c : Counts) (floats : List Float) (numbers hashes text : List ℕ) (query : List Float) (wanted : Sought)
    → list_shown s c (store_of floats numbers hashes text) query wanted [] ≡ hits []
unfolding list_shown
nothing s c floats numbers hashes text query wanted =
    let store = store_of floats numbers hashes text in
    ap₂ (λ (b : Bool) (l : List ℕ). cond b (hits (map (hit_at s store.floats store.numbers query) l)) damage) (all_pass-nil (passes wanted c (entry_read s c store) (end_in s store.numbers)))
    (given-nil wanted (entry_read s c store))

-- what a block shows
abbrev placed_shown : (List ℕ → Shown) → List ℕ → Result Block Damaged → Shown
placed_shown f numbers (Err _) = damage
placed_shown f numbers (Ok b) = f (part b.start b.count numbers)

placed-shown : (numbers : List ℕ) (at next base held : ℕ) (f : List ℕ → Shown) (r : Result Block Damaged) → next ≡ at + 1 → Placing numbers at base held r
    → cond (block_held (get_or numbers at 0) (get_or numbers next 0) held) (f (part (base + get_or numbers at 0) (get_or numbers next 0) numbers)) damage ≡ placed_shown f numbers r
placed-shown numbers at next base held f (Err _) e h = rw (e, h)
placed-shown numbers at next base held f (Ok b) e h = rw (e, h.0) (ap f (sym h.1.is))

-- what is shown of a leaf and of an inner node
abbrev pub leaf_look : Result Block Damaged → Result Look Damaged
leaf_look (Err e) = Err e
leaf_look (Ok b) = Ok (look.Leaf b)

abbrev pub inner_look : Result Block Damaged → Result Look Damaged
inner_look (Err e) = Err e
inner_look (Ok b) = Ok (look.Inner b)

leaf_shown_lem : (s : Shape) (c : Counts) (floats : List Float) (numbers hashes text : List ℕ) (query : List Float) (wanted : Sought) (i : ℕ) (r : Result Block Damaged)
    → LeafPlacing s c numbers wanted (nodes_at s + i * 6) r
    → leaf_shown s c (store_of floats numbers hashes text) query wanted i ≡ placed_shown (list_shown s c (store_of floats numbers hashes text) query wanted) numbers r
unfolding leaf_shown
leaf_shown_lem s c floats numbers hashes text query wanted i r h =
    let l = list_read wanted in
    placed-shown numbers (nodes_at s + i * 6 + field_of l) (nodes_at s + i * 6 + (field_of l + 1)) (part_of s l) (held_in l c)
    (list_shown s c (store_of floats numbers hashes text) query wanted) r (let t : nodes_at s + i * 6 + (field_of (list_read wanted) + 1) ≡ nodes_at s + i * 6 + field_of (list_read wanted) + 1 = omega arith in t) h

module _ (s : Shape) (c : Counts) (numbers : List ℕ) (wanted : Sought) (i : ℕ) where
  node_leaf : (floats query : List Float) (hashes text : List ℕ) → get_or numbers (nodes_at s + i * 6 + 1) 0 ≡ 0
      → node_shown s c (store_of floats numbers hashes text) query wanted i ≡ leaf_shown s c (store_of floats numbers hashes text) query wanted i
  unfolding node_shown
  node_leaf floats query hashes text z = rw (eq-eqb (get_or numbers (nodes_at s + i * 6 + 1) 0) 0 z)

  node_inner : (floats query : List Float) (hashes text : List ℕ) (r : Result Block Damaged) → (get_or numbers (nodes_at s + i * 6 + 1) 0 ≡ 0 → ⊥)
      → Placing numbers (nodes_at s + i * 6) (links_at s) c.nodes r
      → node_shown s c (store_of floats numbers hashes text) query wanted i ≡ placed_shown (children_shown s c (store_of floats numbers hashes text) i) numbers r
  unfolding node_shown
  node_inner floats query hashes text r n h =
      rw (ne_eqb (get_or numbers (nodes_at s + i * 6 + 1) 0) 0 n, add-zero (nodes_at s + i * 6))
      (placed-shown numbers (nodes_at s + i * 6) (nodes_at s + i * 6 + 1) (links_at s) c.nodes (children_shown s c (store_of floats numbers hashes text) i) r refl h)

  pub shows_leaf : get_or numbers (nodes_at s + i * 6 + 1) 0 ≡ 0 → (r : Result Block Damaged) → LeafPlacing s c numbers wanted (nodes_at s + i * 6) r
      → ShowsFor s c numbers wanted i (leaf_look r)
  shows_leaf z (Err d) h = λ floats query hashes text. node_leaf floats query hashes text z ∙ leaf_shown_lem s c floats numbers hashes text query wanted i (Err d) h
  shows_leaf z (Ok b) h = (
    h.1.room,
    λ floats query hashes text. node_leaf floats query hashes text z ∙ leaf_shown_lem s c floats numbers hashes text query wanted i (Ok b) h,
  )

  pub shows_inner : (get_or numbers (nodes_at s + i * 6 + 1) 0 ≡ 0 → ⊥) → (r : Result Block Damaged) → Placing numbers (nodes_at s + i * 6) (links_at s) c.nodes r
      → ShowsFor s c numbers wanted i (inner_look r)
  shows_inner z (Err d) h = λ floats query hashes text. node_inner floats query hashes text (Err d) z h
  shows_inner z (Ok b) h = (h.1.room, λ floats query hashes text. node_inner floats query hashes text (Ok b) z h)

module _ (s : Shape) (c : Counts) (numbers hashes : List ℕ) (wanted : Sought) (i : ℕ) where
  passed : (floats query : List Float) (text : List ℕ) → denies wanted (part (filters_at s + i * 4) 4 hashes) ≡ false
      → shown (store_view s c (store_of floats numbers hashes text) query wanted) i ≡ node_shown s c (store_of floats numbers hashes text) query wanted i
  passed floats query text e =
      store-shown s c (store_of floats numbers hashes text) query wanted i
      ∙ ap (λ (b : Bool). cond b (hits []) (node_shown s c (store_of floats numbers hashes text) query wanted i)) e

  -- a denied node, and one that passes
  pub looks_denied : denies wanted (part (filters_at s + i * 4) 4 hashes) ≡ true → LooksFor s c numbers hashes wanted i (Ok (look.Leaf (record { start = 0; count = 0 })))
  looks_denied e = (
    omega arith,
    λ floats query text. store-shown s c (store_of floats numbers hashes text) query wanted i
        ∙ ap (λ (b : Bool). cond b (hits []) (node_shown s c (store_of floats numbers hashes text) query wanted i)) e
        ∙ sym (nothing s c floats numbers hashes text query wanted),
  )

  pub looks_passed : denies wanted (part (filters_at s + i * 4) 4 hashes) ≡ false → (r : Result Look Damaged) → ShowsFor s c numbers wanted i r → LooksFor s c numbers hashes wanted i r
  looks_passed e (Err _) h = λ floats query text. passed floats query text e ∙ h floats query hashes text
  looks_passed e (Ok (look.Leaf b)) h = (h.0, λ floats query text. passed floats query text e ∙ h.1 floats query hashes text)
  looks_passed e (Ok (look.Inner b)) h = (h.0, λ floats query text. passed floats query text e ∙ h.1 floats query hashes text)
