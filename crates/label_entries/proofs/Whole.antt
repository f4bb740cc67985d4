-- The four steps of the entry function, each with what it asks of the lists as they are then, and what they leave together. `p` has the starts of the
-- parts as the program holds them.
use Prim.Native.Nat.{ℕ, ◌+◌, ◌*◌, ◌≤◌, ◌<◌, ◌^◌}
use mathlib.Core.Path.{◌≡◌, refl, sym, ap, ap₂, ◌∙◌, subst}
use mathlib.Core.List.{List, [], ◌∷◌}
use native.Mathlib.Omega.{arith}
use lib.ListN.{length, get_or, drop}
use lib.Seq.{sets, length-sets}
use Rattle.lists.specs.Lists.{part}
use Rattle.lists.specs.Partition.{count}
use Rattle.lists.specs.Frame.{Freed, freed_front}
use Rattle.store.specs.declared.Shape.{Shape}
use Rattle.store.specs.Store.{nodes_at, links_at, work_size}
use Rattle.tree.specs.Layout.{numbers_of, hashes_of}
use Rattle.tree.specs.Links.{link_up}
use Rattle.node_table.specs.declared.Places.{Places}
use Rattle.node_table.specs.Table.{written, cell_at, cell, cells, column, sum_to, block_start, places_of}
use Rattle.child_links.specs.Promises.{ChildCounts}
use Rattle.entry_leaves.specs.Leaves.{leaves_marked}
use Rattle.entry_order.specs.EntryOrder.{class_start, class_place}
use Rattle.node_filters.specs.Filters.{filters_made}
use Rattle.node_filters.specs.Promises.{RowFits}
use Rattle.label_entries.specs.Promises.{held, Room, AllMade, nodes_made}
use Rattle.node_table.specs.TableLaws.{length-written}
use Rattle.label_entries.proofs.Finishing.{fit, owners-count, counts_ok, linked, ids-sum, places-below, owner-below, after, leaves, length-leaves, leaves-below, numbers_final, work_final, drop-later}
use Rattle.label_entries.proofs.FilterRows.{rows_fit, filters_final}

-- what the nodes' links are written over, and what each later step asks
abbrev pub linked_at : ℕ → List ℕ → Places → List ℕ
linked_at rows numbers p =
    sets (column p.table rows (block_start p.table numbers) numbers) p.links (link_up 0 (cells (p.table + 1) rows numbers)).links

pub record LeavesAsk (at e rows size : ℕ) (p : Places) (l : List ℕ) : Type 0 where
  pub entries_in_bounds : at + e ≤ size
  pub nodes_in_bounds : p.table + 3 + 6 * rows ≤ length l + 5
  pub nodes_bound : rows < 2 ^ 32
  pub nodes_in_bounds_2 : p.vectors + sum_to (cell (p.table + 3) l) rows ≤ length l
  pub by_index : (k : ℕ) → k < sum_to (cell (p.table + 3) l) rows → get_or l (p.vectors + k) 0 < at
  pub entries_in_bounds_2 : p.owners + e ≤ length l
  pub by_index_2 : (k : ℕ) → k < e → get_or l (p.owners + k) 0 < at

abbrev pub sorted_at : ℕ → List ℕ → List ℕ → Places → List ℕ
sorted_at rows leaves l p =
    written (λ k. p.order + class_place leaves k) (λ k. k) (length leaves)
    (column (p.table + 5) rows (λ i. count i leaves) (column (p.table + 4) rows (class_start leaves) l))

-- what the entry function is given, and the starts of the parts as it computes them
pub record Given : Type 0 where
  pub shape : Shape
  pub count : ℕ
  pub entries : ℕ
  pub rows : ℕ
  pub numbers : List ℕ
  pub hashes : List ℕ
  pub work : List ℕ
  pub room : Room shape count entries rows numbers hashes work
  pub places : Places
  pub places_are : places ≡ places_of shape

-- the parts are within the lists
pub record PlacesFit (p : Places) (e rows size size' work : ℕ) : Type 0 where
  pub table_small : p.table < 2 ^ 32
  pub table_links : p.table + 6 * rows ≤ p.links
  pub links_end : p.links + rows ≤ size
  pub rows_work : rows ≤ work
  pub rows_small : rows < 2 ^ 32
  pub table_order : p.table + 6 * rows ≤ p.order
  pub order_end : p.order + e ≤ size
  pub entries_small : e < 2 ^ 32
  pub filters_end : p.filters + 4 * rows ≤ size'

module _ (g : Given) where
  abbrev s : Shape
  s = g.shape

  abbrev n : ℕ
  n = g.count

  abbrev e : ℕ
  e = g.entries

  abbrev rows : ℕ
  rows = g.rows

  abbrev numbers : List ℕ
  numbers = g.numbers

  abbrev hashes : List ℕ
  hashes = g.hashes

  abbrev work : List ℕ
  work = g.work

  abbrev room : Room s n e rows numbers hashes work
  room = g.room

  abbrev p : Places
  p = g.places

  abbrev is : p ≡ places_of s
  is = g.places_are

  pub places-fit : PlacesFit p e rows (length numbers) (length hashes) (length work)
  places-fit =
      let limits = room.limits in
      let a = room.numbers_long in
      let b = room.hashes_long in
      let c = room.work_long in
      let d = room.nodes_fit in
      let f = room.entries_fit in
      let base : PlacesFit (places_of s) e rows (length numbers) (length hashes) (length work) =
      record {
        table_small = omega (arith, limits.vectors_high, limits.entries_high);
        table_links = omega arith;
        links_end = omega arith;
        rows_work = omega arith;
        rows_small = omega (arith, limits.nodes_high);
        table_order = omega arith;
        order_end = omega arith;
        entries_small = omega (arith, limits.entries_high);
        filters_end = omega arith;
      }
      in
      subst (λ (q : Places). PlacesFit q e rows (length numbers) (length hashes) (length work)) (sym is) base

  module _ (made : AllMade s n e rows numbers hashes) where
    -- the child counts
    pub counts_at : ChildCounts (cells (p.table + 1) rows numbers)
    counts_at = subst (λ (q : Places). ChildCounts (cells (q.table + 1) rows numbers)) (sym is) (counts_ok s n e rows numbers hashes work room made)

    module _ (numbers₁ work₁ : List ℕ) (is₁ : numbers₁ ≡ linked_at rows numbers p) (size₁ : length work₁ ≡ length work) where
      numbers-linked : numbers₁ ≡ linked s n e rows numbers hashes work room made
      numbers-linked = is₁ ∙ ap (linked_at rows numbers) is

      long : s.vectors + e ≤ length work₁
      long = let a = room.work_long in let b = room.entries_fit in omega arith

      length-linked : length (linked s n e rows numbers hashes work room made) ≡ length numbers
      length-linked =
          length-sets (column (nodes_at s) rows (block_start (nodes_at s) numbers) numbers) (links_at s) (link_up 0 (cells (nodes_at s + 1) rows numbers)).links
          ∙ length-written (cell_at (nodes_at s)) (block_start (nodes_at s) numbers) rows numbers

      pub leaves_ask : LeavesAsk s.vectors e rows (length work₁) p numbers₁
      leaves_ask =
          let l = linked s n e rows numbers hashes work room made in
          let size = length-linked in
          let a = room.numbers_long in
          let b = room.nodes_fit in
          let c = room.entries_fit in
          let d = room.vectors_fit in
          let f = room.limits.nodes_high in
          let g = ids-sum s n e rows numbers hashes work room made in
          let h = long in
          let base : LeavesAsk s.vectors e rows (length work₁) (places_of s) l =
          record {
            entries_in_bounds = omega arith;
            nodes_in_bounds = omega arith;
            nodes_bound = omega arith;
            nodes_in_bounds_2 = omega arith;
            by_index = places-below s n e rows numbers hashes work room made;
            entries_in_bounds_2 = omega arith;
            by_index_2 = owner-below s n e rows numbers hashes work room made;
          }
          in
          subst (λ (r : List ℕ). LeavesAsk s.vectors e rows (length work₁) p r) (sym numbers-linked)
          (subst (λ (q : Places). LeavesAsk s.vectors e rows (length work₁) q l) (sym is) base)

      module _ (work₂ leaves₂ : List ℕ) (is₂ : work₂ ≡ leaves_marked s.vectors numbers₁ (p.table + 3) rows p.vectors p.owners e work₁)
          (part₂ : leaves₂ ≡ part s.vectors e work₂) where
        work-marked : work₂ ≡ after s n e rows numbers hashes work room made work₁ long
        work-marked = is₂ ∙ ap₂ (λ (q : Places) (r : List ℕ). leaves_marked s.vectors r (q.table + 3) rows q.vectors q.owners e work₁) is numbers-linked

        leaves-found : leaves₂ ≡ leaves s n e rows numbers hashes work room made work₁ long
        leaves-found = part₂ ∙ ap (part s.vectors e) work-marked

        pub leaves-count : length leaves₂ ≡ e
        leaves-count = ap (λ (l : List ℕ). length l) leaves-found ∙ length-leaves s n e rows numbers hashes work room made work₁ long

        pub leaves_lt : (k : ℕ) → k < length leaves₂ → get_or leaves₂ k 0 < rows
        leaves_lt =
            subst (λ (l : List ℕ). (k : ℕ) → k < length l → get_or l k 0 < rows) (sym leaves-found) (leaves-below s n e rows numbers hashes work room made work₁ long)

        module _ (numbers₂ : List ℕ) (is₃ : numbers₂ ≡ sorted_at rows leaves₂ numbers₁ p) where
          pub numbers-laid : numbers₂ ≡ numbers_of s (nodes_made s n e rows numbers hashes made) numbers
          numbers-laid =
              is₃
              ∙ ap (sorted_at rows leaves₂ numbers₁) is
              ∙ ap₂ (λ (x r : List ℕ). sorted_at rows x r (places_of s)) leaves-found numbers-linked
              ∙ numbers_final s n e rows numbers hashes work room made work₁ long

          pub rows_ask : (i : ℕ) → i < rows → RowFits p numbers₂ rows i
          rows_ask i h =
              let nodes = nodes_made s n e rows numbers hashes made in
              let c = made.count_of_nodes in
              let o = owners-count s n e rows numbers hashes work room made in
              let f = room.entries_fit in
              let g : i < length nodes = omega arith in
              let base : RowFits (places_of s) (numbers_of s nodes numbers) (length nodes) i =
              rows_fit s made.splitting made.vectors (held s e numbers hashes) made.branching numbers hashes (fit s n e rows numbers hashes work room made)
              room.numbers_long room.hashes_long (omega arith) e f o refl i g in
              subst (λ (q : Places). RowFits q numbers₂ rows i) (sym is)
              (subst (λ (l : List ℕ). RowFits (places_of s) l rows i) (sym numbers-laid) (subst (λ (m : ℕ). RowFits (places_of s) (numbers_of s nodes numbers) m i) c base))

          pub hashes-laid : (hashes₂ : List ℕ) → hashes₂ ≡ filters_made p numbers₂ rows hashes → hashes₂ ≡ hashes_of s (nodes_made s n e rows numbers hashes made) hashes
          hashes-laid hashes₂ is₄ =
              let nodes = nodes_made s n e rows numbers hashes made in
              let c = made.count_of_nodes in
              let o = owners-count s n e rows numbers hashes work room made in
              let f = room.entries_fit in
              is₄
              ∙ ap₂ (λ (q : Places) (l : List ℕ). filters_made q l rows hashes) is numbers-laid
              ∙ ap (λ (m : ℕ). filters_made (places_of s) (numbers_of s nodes numbers) m hashes) (sym c)
              ∙ filters_final s made.splitting made.vectors (held s e numbers hashes) made.branching numbers hashes (fit s n e rows numbers hashes work room made)
              room.numbers_long room.hashes_long (omega arith) e f o refl

        pub work-kept : length work₂ ≡ length work → drop rows work₁ ≡ drop rows work → Freed (record { start = 0; count = work_size s } ∷ []) work work₂
        work-kept size₂ d =
            let a = room.nodes_fit in
            freed_front (work_size s) work work₂ room.work_long size₂
            (ap (drop (work_size s)) work-marked ∙ work_final s n e rows numbers hashes work room made work₁ long
            ∙ drop-later work₁ work rows (work_size s) (omega arith) d)
