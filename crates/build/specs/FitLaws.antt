-- An accepted build of an unbuilt index: what it relied on was there, and the nodes of what is held are within the capacities.
use Rattle.std.specs.Prelude.{ℕ, ◌≤◌, ◌<◌, Bool, false, not, ◌&&◌, List, [], ◌∷◌, ◌++◌, ◌≡◌, length, get_or}
use Rattle.std.proofs.Common.{sym, ap, ◌∙◌}
use native.Mathlib.Omega.{arith}
use borrow.Author.Tests.{ltb-false}
use Rattle.lists.specs.Parts.{length_part, get_d_part}
use Rattle.lists.specs.Tests.{and_false}
use Rattle.store.specs.Store.{Store, owners_at}
use Rattle.store.specs.Lent.{lengths_of}
use Rattle.cluster.specs.VectorsLaws.{length-vectors_in}
use Rattle.tree.specs.Tree.{tree_of, size}
use Rattle.tree.proofs.LayoutLaws.{NodesFit, nodes_of-fit}
use Rattle.std.specs.Prelude.{Ok}
use Rattle.curator.specs.declared.CuratorIndex.{CuratorIndex}
use Rattle.curator.specs.Limits.{index_shape}
use Rattle.curator.specs.Calls.{held_vectors, held_entries, splitting_of}
use Rattle.curator.specs.Changes.{too_many_nodes, build_check, held_nodes}
use Rattle.curator.specs.Rows.{Row}
use Rattle.curator.proofs.RowLaws.{NoneHolds, none_fine, fine_none}
use Rattle.build.specs.Asked.{BuildReady}
use Rattle.build.specs.CheckLaws.{early_build_rows, full_row, check-rows, checked_rows, ready}
use Rattle.build.specs.WrittenLaws.{held-vectors-are}

module _ (index : CuratorIndex) (store : Store) (work : List ℕ) (f : build_check index store work ≡ (Ok tt)) (u : index.built ≡ false) where
  abbrev early : List Row
  early = early_build_rows index (lengths_of store) (length work) store.numbers

  -- no row's case held
  none-held : NoneHolds (early ++ (full_row index (too_many_nodes index store) ∷ []))
  none-held = fine_none (early ++ (full_row index (too_many_nodes index store) ∷ [])) (sym (check-rows index store work) ∙ f)

  -- it was ready
  pub fine_ready : BuildReady index store work
  fine_ready =
      let (a, (b, (c, (d, _)))) = none-held in
      ready index store work
      (checked_rows index (lengths_of store) (length work) store.numbers
      ∙ none_fine (early ++ (full_row index false ∷ [])) (a, (b, (c, (d, (and_false (not index.built), tt))))))
      u

  -- not too many nodes
  pub fine_few : too_many_nodes index store ≡ false
  fine_few =
      let (_, (_, (_, (_, (full, _))))) = none-held in
      ap (λ (t : Bool). not t && too_many_nodes index store) (sym u) ∙ full

-- ---- what is held

pub vectors-length : (index : CuratorIndex) (store : Store) → length (held_vectors index store) ≡ index.counts.vectors
vectors-length index store = ap length (held-vectors-are index store) ∙ length-vectors_in index.dimension index.counts.vectors store.floats

module _ (index : CuratorIndex) (store : Store) (work : List ℕ) (r : BuildReady index store work) where
  pub owners-length : length (held_entries index store).owners ≡ index.counts.entries
  unfolding held_entries
  owners-length =
      length_part (owners_at (index_shape index)) index.counts.entries store.numbers (let e = r.sound.entries in omega (arith, r.long.numbers))

  pub owners-below : (k : ℕ) → k < length (held_entries index store).owners → get_or (held_entries index store).owners k 0 < length (held_vectors index store)
  unfolding held_entries
  owners-below k h =
      let e = owners-length in
      let b : k < index.counts.entries = omega arith in
      let o = get_d_part (owners_at (index_shape index)) index.counts.entries store.numbers k 0 b in
      let n = vectors-length index store in
      let below = r.owned k b in
      omega arith

  pub nodes_fit : too_many_nodes index store ≡ false → NodesFit (index_shape index) (held_nodes index store)
  unfolding held_nodes too_many_nodes
  nodes_fit full =
      let few : size (tree_of (splitting_of index.dimension index.params) (held_vectors index store)) ≤ index.capacities.nodes = ltb-false _ _ full in
      nodes_of-fit (index_shape index) (splitting_of index.dimension index.params) (held_vectors index store) (held_entries index store)
      r.sound.limits.branching_low owners-below (omega (arith, vectors-length index store, r.sound.vectors))
      (omega (arith, owners-length, r.sound.entries)) few
