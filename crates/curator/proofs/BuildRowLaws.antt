-- Document 01, 'Build 4, 3; a built index then succeeds unchanged; then 12, 15, 13': each number of a build is returned exactly if its row's case
-- holds and no earlier row's does. By place in the order, then number by number, in plain facts.
use Prim.Native.Nat.{ℕ, ◌<◌}
use Rattle.std.specs.Prelude.{Bool, ◌&&◌, List, [], ◌∷◌, ◌↔◌, ◌≡◌, ltb, get_or, length}
use Rattle.std.proofs.Math.Bool.{true, false, not}
use Rattle.std.proofs.Math.Logic.Iff
use Rattle.std.proofs.Math.Path.{refl, ap, subst}
use Rattle.std.proofs.Common.{sym, ◌∙◌, arith}
use borrow.Author.Tests.{eqb-true, eqb-false, eq-eqb, ne_eqb, ltb-true, lt-ltb}
use Rattle.std.proofs.Math.Dec.{eqb}
use Rattle.store.specs.Store.{Store}
use Rattle.tree.specs.Tree.{tree_of, size}
use Rattle.std.specs.Prelude.{Result, Ok, Err, ⊤}
use Rattle.settings.specs.declared.refusal.Refusal.{Refusal}
use Rattle.curator.specs.declared.CuratorIndex.{CuratorIndex}
use Rattle.curator.specs.Calls.{facts_of, held_vectors, splitting_of}
use Rattle.store.specs.Lent.{lengths_of, lists_short}
use Rattle.curator.specs.Changes.{owners_damaged, too_many_nodes, build_check, BuildsFine, BuildsBy, Builds}
use Rattle.curator.specs.Limits.{state_sound, index_shape}
use Rattle.curator.specs.Outcome.{changed_number, Succeeded}
use Rattle.settings.specs.Refusals.{check_number}
use Rattle.curator.proofs.RowLaws.{NoneHolds, FirstAt, numbers_of_rows, different, none_fine, fine_none, zero_fine, returned_exactly, test_failed, test-passed}
use Rattle.curator.specs.Rows.{Row, first_of, state_row, build_rows}

abbrev pub rows_of_build : CuratorIndex → Store → List ℕ → List Row
rows_of_build index store work =
    state_row (state_sound index) ∷ build_rows (facts_of index) (lengths_of store) (length work) (owners_damaged index store) (too_many_nodes index store)

abbrev pub build_numbers : List ℕ
build_numbers = 4 ∷ 3 ∷ 12 ∷ 15 ∷ 13 ∷ []

build-order : (index : CuratorIndex) (store : Store) (work : List ℕ) → numbers_of_rows (rows_of_build index store work) ≡ build_numbers
unfolding build_rows
build-order index store work = refl

build-check-rows : (index : CuratorIndex) (store : Store) (work : List ℕ) → build_check index store work ≡ first_of (rows_of_build index store work)
unfolding build_check
build-check-rows index store work = refl

-- ---- tests of a build as facts

-- a case that is asked of an unbuilt index alone
unbuilt_case : (built case : Bool) → (not built && case ≡ true) ↔ ((built ≡ false) × (case ≡ true))
unbuilt_case built case = (to built, from built)
  where
    to : (b : Bool) → not b && case ≡ true → (b ≡ false) × (case ≡ true)
    to true e = let z : ◌≡◌ {A = ℕ} 0 1 = cc in absurd (omega arith)
    to false e = (refl, e)

    from : (b : Bool) → (b ≡ false) × (case ≡ true) → not b && case ≡ true
    from b (u, e) = ap (λ (t : Bool). not t && case) u ∙ e

-- of an unbuilt index it is the case itself
unbuilt-passes : (built case : Bool) → built ≡ false → (not built && case ≡ false) ↔ (case ≡ false)
unbuilt-passes built case u = (λ e. sym same ∙ e, λ e. same ∙ e)
  where
    same : not built && case ≡ case
    same = ap (λ (t : Bool). not t && case) u

module _ (index : CuratorIndex) (store : Store) (work : List ℕ) (answer : Result CuratorIndex Refusal) (store' : Store) (work' : List ℕ)
    (builds : Builds index store work answer store' work') where
  builds-number : changed_number answer ≡ check_number (first_of (rows_of_build index store work))
  unfolding Builds BuildsBy BuildsFine
  builds-number = by (build_check index store work) builds ∙ ap check_number (build-check-rows index store work)
    where
      fine : (built : Bool) → BuildsFine built index store work answer store' work' → changed_number answer ≡ 0
      fine true (e, same, lent) = e.number_is
      fine false (e, laid) = e.number_is

      by : (check : Result ⊤ Refusal) → BuildsBy check index store work answer store' work' → changed_number answer ≡ check_number check
      by (Ok _) h = fine index.built h
      by (Err r) (e, left) = e.number_is

  -- each of the numbers exactly if its row's case holds and no earlier row's does
  pub build_returned : (i : ℕ) → i < 5 → (changed_number answer ≡ get_or build_numbers i 0) ↔ FirstAt (rows_of_build index store work) i
  unfolding different
  build_returned i h = returned_exactly (rows_of_build index store work) build_numbers (build-order index store work) refl _ builds-number i h

  -- accepted exactly if no row's case holds
  pub build-accepted : (changed_number answer ≡ 0) ↔ NoneHolds (rows_of_build index store work)
  build-accepted = (
    λ e. fine_none (rows_of_build index store work) (zero_fine _ (sym builds-number ∙ e)),
    λ h. builds-number ∙ ap check_number (none_fine (rows_of_build index store work) h),
  )

  -- ---- number by number

  -- 4 and 3 do not hold, and more
  abbrev BuildAsked : Type 0 → Type 0
  BuildAsked more = (state_sound index ≡ true) × ((lists_short (index_shape index) (lengths_of store) (length work) ≡ false) × more)

  -- and the index is not built and holds a vector
  abbrev Some : Type 0 → Type 0
  Some more = BuildAsked ((index.built ≡ false) × (0 < index.counts.vectors) × more)

  pub build_4 : (changed_number answer ≡ 4) ↔ (state_sound index ≡ false)
  build_4 = Iff.trans (build_returned 0 (omega arith)) (test_failed (state_sound index))

  pub build_3 : (changed_number answer ≡ 3) ↔ ((state_sound index ≡ true) × (lists_short (index_shape index) (lengths_of store) (length work) ≡ true))
  unfolding build_rows
  build_3 = Iff.trans (build_returned 1 (omega arith)) (Iff.and (test-passed (state_sound index)) Iff.rfl)

  -- 'build: n = 0'
  pub build_12 : (changed_number answer ≡ 12) ↔ BuildAsked ((index.built ≡ false) × (index.counts.vectors ≡ 0))
  unfolding build_rows
  build_12 =
      Iff.trans (build_returned 2 (omega arith))
      (Iff.and (test-passed (state_sound index)) (Iff.and Iff.rfl
      (Iff.trans (unbuilt_case index.built (eqb index.counts.vectors 0))
      (Iff.and Iff.rfl (eqb-true index.counts.vectors 0, eq-eqb index.counts.vectors 0)))))

  -- n is not 0
  some : (eqb index.counts.vectors 0 ≡ false) ↔ (0 < index.counts.vectors)
  some = (λ e. let n = eqb-false index.counts.vectors 0 e in omega arith, λ h. ne_eqb index.counts.vectors 0 (λ e. omega arith))

  -- 'an owner not below n'
  pub build_15 : (changed_number answer ≡ 15) ↔ Some (owners_damaged index store ≡ true)
  unfolding build_rows
  build_15 =
      Iff.trans (build_returned 3 (omega arith)) (Iff.and (test-passed (state_sound index)) (Iff.and Iff.rfl (to, from)))
    where
      to : (not index.built && eqb index.counts.vectors 0 ≡ false) × (not index.built && owners_damaged index store ≡ true)
          → (index.built ≡ false) × (0 < index.counts.vectors) × (owners_damaged index store ≡ true)
      to (empty, damaged) =
          let (u, d) = (unbuilt_case index.built (owners_damaged index store)).0 damaged in
          (u, some.0 ((unbuilt-passes index.built _ u).0 empty), d)

      from : (index.built ≡ false) × (0 < index.counts.vectors) × (owners_damaged index store ≡ true)
          → (not index.built && eqb index.counts.vectors 0 ≡ false) × (not index.built && owners_damaged index store ≡ true)
      from (u, n, d) = ((unbuilt-passes index.built _ u).1 (some.1 n), (unbuilt_case index.built (owners_damaged index store)).1 (u, d))

  -- 'the defined tree has more than M nodes'
  pub build_13 : (changed_number answer ≡ 13)
      ↔ Some ((owners_damaged index store ≡ false)
      × (index.capacities.nodes < size (tree_of (splitting_of index.dimension index.params) (held_vectors index store))))
  unfolding build_rows too_many_nodes
  build_13 = Iff.trans (build_returned 4 (omega arith)) (Iff.and (test-passed (state_sound index)) (Iff.and Iff.rfl (to, from)))
    where
      nodes : ℕ
      nodes = size (tree_of (splitting_of index.dimension index.params) (held_vectors index store))

      to : (not index.built && eqb index.counts.vectors 0 ≡ false)
          × ((not index.built && owners_damaged index store ≡ false) × (not index.built && ltb index.capacities.nodes nodes ≡ true))
          → (index.built ≡ false) × (0 < index.counts.vectors) × ((owners_damaged index store ≡ false) × (index.capacities.nodes < nodes))
      to (empty, (damaged, full)) =
          let (u, m) = (unbuilt_case index.built (ltb index.capacities.nodes nodes)).0 full in (
            u,
            some.0 ((unbuilt-passes index.built _ u).0 empty),
            ((unbuilt-passes index.built _ u).0 damaged, ltb-true index.capacities.nodes nodes m),
          )

      from : (index.built ≡ false) × (0 < index.counts.vectors) × ((owners_damaged index store ≡ false) × (index.capacities.nodes < nodes))
          → (not index.built && eqb index.counts.vectors 0 ≡ false)
          × ((not index.built && owners_damaged index store ≡ false) × (not index.built && ltb index.capacities.nodes nodes ≡ true))
      from (u, n, (d, m)) = (
        (unbuilt-passes index.built _ u).1 (some.1 n),
        (
          (unbuilt-passes index.built _ u).1 d,
          (unbuilt_case index.built (ltb index.capacities.nodes nodes)).1 (u, lt-ltb index.capacities.nodes nodes m),
        ),
      )

  -- 'a built index then succeeds unchanged'
  pub build-built : BuildAsked (index.built ≡ true) → Succeeded index answer × (store' ≡ store) × (work' ≡ work)
  unfolding Builds BuildsBy BuildsFine build_rows
  build-built (sound, (long, built)) =
      subst (λ (b : Bool). BuildsFine b index store work answer store' work') built
      (subst (λ (c : Result ⊤ Refusal). BuildsBy c index store work answer store' work')
      (build-check-rows index store work
      ∙ none_fine (rows_of_build index store work) ((test-passed _).1 sound, (long, (passes _, (passes _, (passes _, tt))))))
      builds)
    where
      passes : (case : Bool) → not index.built && case ≡ false
      passes case = ap (λ (t : Bool). not t && case) built
