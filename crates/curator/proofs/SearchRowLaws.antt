-- Document 01, 'Search 4, 3, 6, 7, 8, 14, 15': each number of a search is returned exactly if its row's case holds and no earlier row's does. The
-- case of 15 is that the walk over what the store shows comes to damage. By place in the order, then number by number, in plain facts.
use Rattle.std.specs.Prelude.{ℕ, ◌≤◌, ◌<◌, Bool, true, false, not, ◌||◌, List, [], ◌∷◌, ◌++◌, ◌↔◌, ◌⊎◌, ◌≡◌, eqb, ltb, Float, length, get_or}
use Rattle.std.proofs.Math.Logic.Iff
use Rattle.std.proofs.Common.{inl, inr, sym, ap, ◌∙◌, arith, eqb-true, eq-eqb, ne_eqb, ltb-true, ltb-false, lt-ltb, le-ltb}
use Rattle.std.proofs.Math.Path.{refl}
use Rattle.std.proofs.lemmas.Bool.{eqb-false}
use Rattle.vector.specs.Normalized.{normalized, normalized-is}
use Rattle.vector.specs.Vector.{all_finite}
use Rattle.store.specs.Store.{Store}
use Rattle.walk.specs.StoreView.{live_in, store_view}
use Rattle.walk.specs.Walk.{State, damaged, going, walk}
use Rattle.std.specs.Prelude.{Result, Ok, Err, ⊤}
use Rattle.settings.specs.declared.refusal.Refusal.{Refusal}
use Rattle.curator.specs.declared.CuratorIndex.{CuratorIndex}
use Rattle.settings.specs.declared.refusal.Refusal.TheVariants as Refusal'
use Rattle.settings.specs.declared.refusal.StoreRefusal.TheVariants as StoreRefusal'
use Rattle.curator.specs.Calls.{facts_of}
use Rattle.store.specs.Lent.{lengths_of, lists_short}
use Rattle.curator.specs.Limits.{state_sound, index_shape}
use Rattle.curator.specs.Outcome.{found_number}
use Rattle.settings.specs.Refusals.{check_number}
use Rattle.curator.proofs.RowLaws.{NoneHolds, FirstAt, numbers_of_rows, different, none_fine, fine_none, zero_fine, row-stops, row-passes, no_rows, returned_exactly, rows_then, test_failed, test-passed}
use Rattle.curator.specs.Rows.{Row, row, first_of, state_row, search_rows}
use Rattle.curator.specs.Searches.{SearchEnd, wanted_of, search_check, WalkedTo, SearchesBy, Searches}
use Rattle.curator.specs.Arguments.{SearchCall, asking_of}

-- the walk of a search over what the store shows, for a normalised query
abbrev pub walk_for : CuratorIndex → Store → SearchCall → List Float → State
walk_for index store call query =
    walk (store_view (index_shape index) index.counts store query (wanted_of call.question.asked)) index.params.ef_search

abbrev pub walk_of : CuratorIndex → Store → SearchCall → State
walk_of index store call = walk_for index store call (normalized call.question.query)

-- whether a walk came to damage
abbrev pub is_damaged : State → Bool
is_damaged damaged = true
is_damaged (going p) = false

abbrev pub damaged_row : CuratorIndex → Store → SearchCall → Row
damaged_row index store call = row (is_damaged (walk_of index store call)) (Refusal'.Store StoreRefusal'.Damaged)

-- the rows that are asked before the walk, and that of the walk
abbrev pub early_search_rows : CuratorIndex → Store → List ℕ → SearchCall → List Row
early_search_rows index store work call =
    state_row (state_sound index)
    ∷ search_rows (facts_of index) (lengths_of store) (length work) (asking_of call)

abbrev pub rows_of_search : CuratorIndex → Store → List ℕ → SearchCall → List Row
rows_of_search index store work call = early_search_rows index store work call ++ (damaged_row index store call ∷ [])

abbrev pub search_numbers : List ℕ
search_numbers = 4 ∷ 3 ∷ 6 ∷ 7 ∷ 8 ∷ 14 ∷ 15 ∷ []

search-order : (index : CuratorIndex) (store : Store) (work : List ℕ) (call : SearchCall)
    → numbers_of_rows (rows_of_search index store work call) ≡ search_numbers
unfolding search_rows
search-order index store work call = refl

pub search-check-rows : (index : CuratorIndex) (store : Store) (work : List ℕ) (call : SearchCall)
    → search_check index store work call ≡ first_of (early_search_rows index store work call)
unfolding search_check
search-check-rows index store work call = refl

-- ---- tests of a search as facts

-- one of two lists is shorter than k
one-short : (a b k : ℕ) → (ltb a k || ltb b k ≡ true) ↔ ((a < k) ⊎ (b < k))
one-short a b k = (to (ltb a k) refl, from)
  where
    to : (t : Bool) → ltb a k ≡ t → t || ltb b k ≡ true → (a < k) ⊎ (b < k)
    to true e h = inl (ltb-true a k e)
    to false e h = inr (ltb-true b k h)

    from : (a < k) ⊎ (b < k) → ltb a k || ltb b k ≡ true
    from (inl h) = ap (λ (t : Bool). t || ltb b k) (lt-ltb a k h)
    from (inr h) = either_true (ltb a k) (lt-ltb b k h)
      where
        either_true : (t : Bool) {u : Bool} → u ≡ true → t || u ≡ true
        either_true true e = refl
        either_true false e = e

-- both are long enough
both_long : (a b k : ℕ) → (ltb a k || ltb b k ≡ false) ↔ ((k ≤ a) × (k ≤ b))
both_long a b k = (to (ltb a k) refl, from)
  where
    to : (t : Bool) → ltb a k ≡ t → t || ltb b k ≡ false → (k ≤ a) × (k ≤ b)
    to true e h = let z : ◌≡◌ {A = ℕ} 0 1 = cc in absurd (omega arith)
    to false e h = (ltb-false a k e, ltb-false b k h)

    from : (k ≤ a) × (k ≤ b) → ltb a k || ltb b k ≡ false
    from (h, g) = ap (λ (t : Bool). t || ltb b k) (le-ltb a k h) ∙ le-ltb b k g

damaged-is : (state : State) → (is_damaged state ≡ true) ↔ (state ≡ damaged)
damaged-is state = (to state, λ e. ap is_damaged e)
  where
    to : (s : State) → is_damaged s ≡ true → s ≡ damaged
    to damaged e = refl
    to (going p) e = let z : ◌≡◌ {A = ℕ} 0 1 = cc in absurd (omega arith)

module _ (index : CuratorIndex) (store : Store) (work : List ℕ) (call : SearchCall) (end : SearchEnd)
    (searches : Searches index store work call end) where
  searches-number : found_number end.answer ≡ check_number (first_of (rows_of_search index store work call))
  unfolding Searches SearchesBy WalkedTo
  searches-number = by (search_check index store work call) (sym (search-check-rows index store work call)) searches
    where
      last : Row
      last = damaged_row index store call

      walked : (state : State) → walk_of index store call ≡ state → WalkedTo state (live_in (index_shape index) index.counts store) index work call end
          → found_number end.answer ≡ check_number (first_of (last ∷ []))
      walked damaged e w = w.answer.number_is ∙ ap check_number (sym (row-stops last [] (ap is_damaged e)))
      walked (going p) e w = w.answer.number_is ∙ ap check_number (sym (row-passes last [] (ap is_damaged e) ∙ no_rows))

      by : (check : Result ⊤ Refusal) → first_of (early_search_rows index store work call) ≡ check → SearchesBy check index store work call end
          → found_number end.answer ≡ check_number (first_of (rows_of_search index store work call))
      by (Ok _) e w =
          let same = ap (λ (query : List Float). walk_for index store call query) (normalized-is call.question.query w.query w.normalized) in
          walked (walk_for index store call w.query) (sym same) w.walked
          ∙ ap check_number (sym (rows_then (early_search_rows index store work call) (last ∷ []) (Ok tt) e))
      by (Err r) e u = u.answer.number_is ∙ ap check_number (sym (rows_then (early_search_rows index store work call) (last ∷ []) (Err r) e))

  -- each of the numbers exactly if its row's case holds and no earlier row's does
  pub search_returned : (i : ℕ) → i < 7 → (found_number end.answer ≡ get_or search_numbers i 0) ↔ FirstAt (rows_of_search index store work call) i
  unfolding different
  search_returned i h =
      returned_exactly (rows_of_search index store work call) search_numbers (search-order index store work call) refl _ searches-number i h

  -- answered exactly if no row's case holds
  pub search-answered : (found_number end.answer ≡ 0) ↔ NoneHolds (rows_of_search index store work call)
  search-answered = (
    λ e. fine_none (rows_of_search index store work call) (zero_fine _ (sym searches-number ∙ e)),
    λ h. searches-number ∙ ap check_number (none_fine (rows_of_search index store work call) h),
  )

  -- ---- number by number

  -- what holds where the rows up to a number do not, and more
  abbrev Past4 : Type 0 → Type 0
  Past4 more = (state_sound index ≡ true) × more

  abbrev Past3 : Type 0 → Type 0
  Past3 more = Past4 ((lists_short (index_shape index) (lengths_of store) (length work) ≡ false) × more)

  abbrev Past6 : Type 0 → Type 0
  Past6 more = Past3 ((index.built ≡ true) × more)

  abbrev Past7 : Type 0 → Type 0
  Past7 more = Past6 ((length call.question.query ≡ index.dimension) × more)

  abbrev Past8 : Type 0 → Type 0
  Past8 more = Past7 ((all_finite call.question.query ≡ true) × more)

  abbrev Past14 : Type 0 → Type 0
  Past14 more = Past8 (((call.k ≤ length call.ids) × (call.k ≤ length call.distances)) × more)

  pub search_4 : (found_number end.answer ≡ 4) ↔ (state_sound index ≡ false)
  search_4 = Iff.trans (search_returned 0 (omega arith)) (test_failed (state_sound index))

  pub search_3 : (found_number end.answer ≡ 3) ↔ Past4 (lists_short (index_shape index) (lengths_of store) (length work) ≡ true)
  unfolding search_rows
  search_3 = Iff.trans (search_returned 1 (omega arith)) (Iff.and (test-passed _) Iff.rfl)

  -- 'search: not built'
  pub search_6 : (found_number end.answer ≡ 6) ↔ Past3 (index.built ≡ false)
  unfolding search_rows
  search_6 = Iff.trans (search_returned 2 (omega arith)) (Iff.and (test-passed _) (Iff.and Iff.rfl (test_failed _)))

  -- the query's length is D, and it is not
  is-dimension : (not (eqb (length call.question.query) index.dimension) ≡ false) ↔ (length call.question.query ≡ index.dimension)
  is-dimension = Iff.trans (test-passed _) (eqb-true (length call.question.query) index.dimension, eq-eqb (length call.question.query) index.dimension)

  not_dimension : (not (eqb (length call.question.query) index.dimension) ≡ true) ↔ (length call.question.query ≡ index.dimension → ⊥)
  not_dimension = Iff.trans (test_failed _) (eqb-false (length call.question.query) index.dimension, ne_eqb (length call.question.query) index.dimension)

  -- 'vector or query length is not D'
  pub search_7 : (found_number end.answer ≡ 7) ↔ Past6 (length call.question.query ≡ index.dimension → ⊥)
  unfolding search_rows
  search_7 =
      Iff.trans (search_returned 3 (omega arith))
      (Iff.and (test-passed _) (Iff.and Iff.rfl (Iff.and (test-passed _) not_dimension)))

  -- 'a component infinite or NaN'
  pub search_8 : (found_number end.answer ≡ 8) ↔ Past7 (all_finite call.question.query ≡ false)
  unfolding search_rows
  search_8 =
      Iff.trans (search_returned 4 (omega arith))
      (Iff.and (test-passed _) (Iff.and Iff.rfl (Iff.and (test-passed _) (Iff.and is-dimension (test_failed _)))))

  -- 'an answer list shorter than k'
  pub search_14 : (found_number end.answer ≡ 14) ↔ Past8 ((length call.ids < call.k) ⊎ (length call.distances < call.k))
  unfolding search_rows
  search_14 =
      Iff.trans (search_returned 5 (omega arith))
      (Iff.and (test-passed _) (Iff.and Iff.rfl (Iff.and (test-passed _) (Iff.and is-dimension (Iff.and (test-passed _)
      (one-short (length call.ids) (length call.distances) call.k))))))

  -- 'damaged store': the walk comes to damage
  pub search_15 : (found_number end.answer ≡ 15) ↔ Past14 (walk_of index store call ≡ damaged)
  unfolding search_rows
  search_15 =
      Iff.trans (search_returned 6 (omega arith))
      (Iff.and (test-passed _) (Iff.and Iff.rfl (Iff.and (test-passed _) (Iff.and is-dimension (Iff.and (test-passed _)
      (Iff.and (both_long (length call.ids) (length call.distances) call.k) (damaged-is (walk_of index store call))))))))
