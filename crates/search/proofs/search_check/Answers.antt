-- Row by row: what each test asked is its row's case. `after-k` says that the first k rows pass, so that what is left decides.
use Rattle.std.proofs.Common.{not, ◌≡◌, sym, ap, ◌∙◌, subst, ℕ, Bool, true, false, ltb, ◌||◌, length, List, ◌∷◌, eq-eqb, ne_eqb, drop}
use Rattle.vector.specs.Vector.{all_finite}
use Rattle.store.specs.declared.Shape.{Shape}
use Rattle.store.specs.declared.Lengths.{Lengths}
use Rattle.store.specs.Store.{Limits}
use Rattle.store.specs.Lent.{lists_short}
use Rattle.curator.specs.declared.CuratorIndex.{CuratorIndex}
use Rattle.std.specs.Prelude.{Ok}
use Rattle.curator.specs.Arguments.{Asking}
use Rattle.curator.specs.Calls.{facts_of}
use Rattle.curator.specs.Limits.{state_sound, index_shape}
use Rattle.curator.proofs.RowLaws.{no_rows, row-stops, row-passes, squares_by}
use Rattle.curator.specs.Rows.{Row, first_of, state_row, search_rows}
use Rattle.curator.proofs.StateLaws.{sound_facts}
use Rattle.search.specs.Lent.{asking_with}
use Rattle.search.proofs.search_check.Goals as goal

-- what the second row asks, by the shape that was made
short : (index : CuratorIndex) (lent : Lengths) (work : ℕ) (s : Shape) (r : Bool) → s ≡ index_shape index → r ≡ lists_short s lent work → r ≡ lists_short (index_shape index) lent work
short index lent work s r e is = is ∙ ap (λ (s : Shape). lists_short s lent work) e

abbrev rows : CuratorIndex → Lengths → ℕ → Asking → List Row
rows index lent work asked = state_row (state_sound index) ∷ search_rows (facts_of index) lent work asked

module _ (index : CuratorIndex) (lent : Lengths) (work : ℕ) (asked : Asking) (sound : state_sound index ≡ true) where
  after-1 : first_of (rows index lent work asked) ≡ first_of (drop 1 (rows index lent work asked))
  unfolding search_rows
  after-1 = row-passes _ _ (ap not sound)

  module _ (long : lists_short (index_shape index) lent work ≡ false) where
    after-2 : first_of (rows index lent work asked) ≡ first_of (drop 2 (rows index lent work asked))
    unfolding search_rows
    after-2 = after-1 ∙ row-passes _ _ long

    module _ (built : not index.built ≡ false) where
      after-3 : first_of (rows index lent work asked) ≡ first_of (drop 3 (rows index lent work asked))
      unfolding search_rows
      after-3 = after-2 ∙ row-passes _ _ built

      module _ (dimension : length asked.query ≡ index.dimension) where
        after-4 : first_of (rows index lent work asked) ≡ first_of (drop 4 (rows index lent work asked))
        unfolding search_rows
        after-4 = after-3 ∙ row-passes _ _ (ap not (eq-eqb _ _ dimension))

        module _ (finite : not (all_finite asked.query) ≡ false) where
          after-5 : first_of (rows index lent work asked) ≡ first_of (drop 5 (rows index lent work asked))
          unfolding search_rows
          after-5 = after-4 ∙ row-passes _ _ finite

          after-6 : (ltb asked.ids asked.k || ltb asked.distances asked.k) ≡ false → first_of (rows index lent work asked) ≡ first_of (drop 6 (rows index lent work asked))
          unfolding search_rows
          after-6 answers = after-5 ∙ row-passes _ _ answers

pub returns-then-not-state_sound : goal.returns-then-not-state_sound
unfolding search_rows
returns-then-not-state_sound c = squares_by _ _ (row-stops _ _ (ap not (sym c.state_sound.ensures ∙ c.if-not-state_sound.true)))

pub lists_short-requires : goal.lists_short-requires
lists_short-requires c = subst Limits (sym c.shape_of.ensures) (sound_facts c.args.index (sym c.state_sound.ensures ∙ c.if-not-state_sound.false)).limits

pub returns-then-lists_short : goal.returns-then-lists_short
unfolding search_rows
returns-then-lists_short c =
    squares_by _ _ (after-1 c.args.index c.args.lent c.args.work (asking_with c.args.query c.args.k c.args.ids c.args.distances) (sym c.state_sound.ensures ∙ c.if-not-state_sound.false)
    ∙ row-stops _ _ (sym (short c.args.index _ _ _ _ c.shape_of.ensures c.lists_short.ensures) ∙ c.if-lists_short.true))

pub returns-then-not-index : goal.returns-then-not-index
unfolding search_rows
returns-then-not-index c =
    squares_by _ _ (after-2 c.args.index c.args.lent c.args.work (asking_with c.args.query c.args.k c.args.ids c.args.distances) (sym c.state_sound.ensures ∙ c.if-not-state_sound.false) (sym (short c.args.index _ _ _ _ c.shape_of.ensures c.lists_short.ensures) ∙ c.if-lists_short.false)
    ∙ row-stops _ _ c.if-not-index.true)

pub returns-then-query-index : goal.returns-then-query-index
unfolding search_rows
returns-then-query-index c =
    squares_by _ _ (after-3 c.args.index c.args.lent c.args.work (asking_with c.args.query c.args.k c.args.ids c.args.distances) (sym c.state_sound.ensures ∙ c.if-not-state_sound.false) (sym (short c.args.index _ _ _ _ c.shape_of.ensures c.lists_short.ensures) ∙ c.if-lists_short.false) c.if-not-index.false
    ∙ row-stops _ _ (ap not (ne_eqb _ _ c.if-query-index.true)))

pub returns-then-not-scanned : goal.returns-then-not-scanned
unfolding search_rows
returns-then-not-scanned c =
    squares_by _ _ (after-4 c.args.index c.args.lent c.args.work (asking_with c.args.query c.args.k c.args.ids c.args.distances) (sym c.state_sound.ensures ∙ c.if-not-state_sound.false) (sym (short c.args.index _ _ _ _ c.shape_of.ensures c.lists_short.ensures) ∙ c.if-lists_short.false) c.if-not-index.false c.if-query-index.false
    ∙ row-stops _ _ (ap not (sym c.scan-scanned.ensures.finite_value) ∙ c.if-not-scanned.true))

pub returns-then-ids-k : goal.returns-then-ids-k
unfolding search_rows
returns-then-ids-k c =
    squares_by _ _ (after-5 c.args.index c.args.lent c.args.work (asking_with c.args.query c.args.k c.args.ids c.args.distances) (sym c.state_sound.ensures ∙ c.if-not-state_sound.false) (sym (short c.args.index _ _ _ _ c.shape_of.ensures c.lists_short.ensures) ∙ c.if-lists_short.false) c.if-not-index.false c.if-query-index.false (ap not (sym c.scan-scanned.ensures.finite_value) ∙ c.if-not-scanned.false)
    ∙ row-stops _ _ c.if-ids-k.true)

pub returns : goal.returns
unfolding search_rows
returns c =
    ap Ok c.scan-scanned.ensures.squares_value ∙ squares_by _ _ (after-6 c.args.index c.args.lent c.args.work (asking_with c.args.query c.args.k c.args.ids c.args.distances) (sym c.state_sound.ensures ∙ c.if-not-state_sound.false) (sym (short c.args.index _ _ _ _ c.shape_of.ensures c.lists_short.ensures) ∙ c.if-lists_short.false) c.if-not-index.false c.if-query-index.false (ap not (sym c.scan-scanned.ensures.finite_value) ∙ c.if-not-scanned.false) c.if-ids-k.false
    ∙ no_rows)
