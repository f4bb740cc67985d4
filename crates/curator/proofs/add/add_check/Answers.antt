-- The first three rows are `unbuilt_check`'s. Then row by row: what each test asked is its row's case. `after-k` says that the first k rows pass, so that what is
-- left decides.
use Rattle.std.proofs.Common.{rules, ◌≡◌, ℕ, ◌+◌, ◌/◌, true, false, not, List, ◌∷◌, Float, length, drop, ltb, sym, ap, ◌∙◌, ◌≤◌, arith}
use Rattle.std.proofs.lemmas.Bool.{not-false}
use borrow.Author.Tests.{eq-eqb, ne_eqb, lt-ltb, le-ltb}
use Rattle.label.specs.Names.{names_of, bytes_of_names, lengths_fit}
use Rattle.label.specs.NameLaws.{length-names}
use Rattle.label.specs.TextLaws.{length-joined-bytes}
use Rattle.vector.specs.Vector.{all_finite}
use Rattle.store.specs.declared.Lengths.{Lengths}
use Rattle.std.specs.Prelude.{Result, Ok, Err, ⊤}
use Rattle.settings.specs.declared.refusal.Refusal.{Refusal}
use Rattle.curator.specs.declared.CuratorIndex.{CuratorIndex}
use Rattle.curator.specs.Arguments.{add_of}
use Rattle.curator.specs.Calls.{facts_of}
use Rattle.curator.specs.Lent.{early_rows}
use Rattle.curator.specs.Limits.{state_sound}
use Rattle.curator.proofs.RowLaws.{no_rows, row-stops, row-passes, check_then, rows_then, fine_none, squares_by}
use Rattle.curator.proofs.StateLaws.{sound_facts}
use Rattle.curator.specs.Rows.{Row, first_of, state_row, add_rows}
use Rattle.curator.proofs.add.add_check.Goals as goal

module _ (index : CuratorIndex) (lent : Lengths) (vector : List Float) (lengths bytes : List ℕ) where
  abbrev rows : List Row
  rows = state_row (state_sound index) ∷ add_rows (facts_of index) lent (add_of 0 vector lengths bytes)

  -- what they come to, by what the first three come to
  early : (check : Result ⊤ Refusal) → first_of (early_rows index lent) ≡ check → first_of rows ≡ check_then check (first_of (drop 3 rows))
  unfolding add_rows
  early check e = rows_then (early_rows index lent) (drop 3 rows) check e

  module _ (fine : first_of (early_rows index lent) ≡ (Ok tt)) where
    after-3 : first_of rows ≡ first_of (drop 3 rows)
    after-3 = early (Ok tt) fine

    module _ (dimension : length vector ≡ index.dimension) where
      after-4 : first_of rows ≡ first_of (drop 4 rows)
      unfolding add_rows
      after-4 = after-3 ∙ row-passes _ _ (ap not (eq-eqb _ _ dimension))

      module _ (finite : all_finite vector ≡ true) where
        after-5 : first_of rows ≡ first_of (drop 5 rows)
        unfolding add_rows
        after-5 = after-4 ∙ row-passes _ _ (ap not finite)

        module _ (fit : lengths_fit lengths (length bytes) ≡ true) where
          after-6 : first_of rows ≡ first_of (drop 6 rows)
          unfolding add_rows
          after-6 = after-5 ∙ row-passes _ _ (ap not fit)

          module _ (free : index.counts.vectors ≡ index.capacities.vectors → ⊥) where
            after-7 : first_of rows ≡ first_of (drop 7 rows)
            unfolding add_rows
            after-7 = after-6 ∙ row-passes _ _ (ne_eqb _ _ free)

            module _ (room : ltb index.capacities.entries (index.counts.entries + length (names_of lengths bytes)) ≡ false) where
              after-8 : first_of rows ≡ first_of (drop 8 rows)
              unfolding add_rows
              after-8 = after-7 ∙ row-passes _ _ room

              after-9 : ltb index.capacities.text (index.counts.bytes + length (bytes_of_names (names_of lengths bytes))) ≡ false
                  → first_of rows ≡ first_of (drop 9 rows)
              unfolding add_rows
              after-9 text = after-8 ∙ row-passes _ _ text

-- the labels counted are the names
room : (capacity held count : ℕ) (lengths bytes : List ℕ) → count ≡ length lengths / 2
    → ltb capacity (held + count) ≡ ltb capacity (held + length (names_of lengths bytes))
room capacity held count lengths bytes e = ap (λ (labels : ℕ). ltb capacity (held + labels)) (e ∙ sym (length-names lengths bytes))

-- the label bytes are those of the names
filled : (capacity held : ℕ) (lengths bytes : List ℕ) → lengths_fit lengths (length bytes) ≡ true
    → ltb capacity (held + length bytes) ≡ ltb capacity (held + length (bytes_of_names (names_of lengths bytes)))
filled capacity held lengths bytes fit = ap (λ (n : ℕ). ltb capacity (held + n)) (length-joined-bytes lengths bytes fit)

-- what an index with a sound state holds fits
held : (index : CuratorIndex) (lent : Lengths) → first_of (early_rows index lent) ≡ (Ok tt) → (index.counts.entries ≤ 16384) × (index.counts.bytes ≤ 4177920)
held index lent e =
    let s = sound_facts index (not-false _ (fine_none _ e).0) in
    (omega (arith, s.entries, s.limits.entries_high), omega (arith, s.bytes, s.limits.text_high))

pub overflow_add-index : goal.overflow_add-index
overflow_add-index c = let h = held c.args.index c.args.lent (sym c.unbuilt_check.ensures ∙ c.in_ok-unbuilt_check.was) in omega (arith, h)

pub overflow_add-index-2 : goal.overflow_add-index-2
overflow_add-index-2 c = let h = held c.args.index c.args.lent (sym c.unbuilt_check.ensures ∙ c.in_ok-unbuilt_check.was) in omega (arith, h)

pub returns-in_err-unbuilt_check : goal.returns-in_err-unbuilt_check
returns-in_err-unbuilt_check c =
    let a = c.args in
    let e : c.from_residual.result ≡ Err c.in_err-unbuilt_check.field-0.0 = search rules in
    e ∙ squares_by _ _ (early a.index a.lent a.vector.now a.lengths.now a.bytes.now (Err _) (sym c.unbuilt_check.ensures ∙ c.in_err-unbuilt_check.was))

pub returns-then-vector-index : goal.returns-then-vector-index
unfolding add_rows
returns-then-vector-index c =
    let a = c.args in
    squares_by _ _
    (after-3 a.index a.lent a.vector.now a.lengths.now a.bytes.now (sym c.unbuilt_check.ensures ∙ c.in_ok-unbuilt_check.was)
    ∙ row-stops _ _ (ap not (ne_eqb _ _ c.if-vector-index.true)))

pub returns-then-not-scanned : goal.returns-then-not-scanned
unfolding add_rows
returns-then-not-scanned c =
    let a = c.args in
    squares_by _ _
    (after-4 a.index a.lent a.vector.now a.lengths.now a.bytes.now (sym c.unbuilt_check.ensures ∙ c.in_ok-unbuilt_check.was) c.if-vector-index.false
    ∙ row-stops _ _ (ap not (sym c.scan-scanned.ensures.finite_value) ∙ c.if-not-scanned.true))

pub returns-then-not-lengths_fit : goal.returns-then-not-lengths_fit
unfolding add_rows
returns-then-not-lengths_fit c =
    let a = c.args in
    squares_by _ _
    (after-5 a.index a.lent a.vector.now a.lengths.now a.bytes.now (sym c.unbuilt_check.ensures ∙ c.in_ok-unbuilt_check.was) c.if-vector-index.false
    (sym c.scan-scanned.ensures.finite_value ∙ not-false _ c.if-not-scanned.false)
    ∙ row-stops _ _ (ap not (sym c.lengths_fit.ensures ∙ c.if-not-lengths_fit.true)))

pub returns-then-index : goal.returns-then-index
unfolding add_rows
returns-then-index c =
    let a = c.args in
    squares_by _ _
    (after-6 a.index a.lent a.vector.now a.lengths.now a.bytes.now (sym c.unbuilt_check.ensures ∙ c.in_ok-unbuilt_check.was) c.if-vector-index.false
    (sym c.scan-scanned.ensures.finite_value ∙ not-false _ c.if-not-scanned.false)
    (sym c.lengths_fit.ensures ∙ c.if-not-lengths_fit.false)
    ∙ row-stops _ _ (eq-eqb _ _ c.if-index.true))

pub returns-then-index-label_count : goal.returns-then-index-label_count
unfolding add_rows
returns-then-index-label_count c =
    let a = c.args in
    let same = room a.index.capacities.entries a.index.counts.entries c.label_count.result a.lengths.now a.bytes.now c.label_count.ensures in
    squares_by _ _
    (after-7 a.index a.lent a.vector.now a.lengths.now a.bytes.now (sym c.unbuilt_check.ensures ∙ c.in_ok-unbuilt_check.was) c.if-vector-index.false
    (sym c.scan-scanned.ensures.finite_value ∙ not-false _ c.if-not-scanned.false)
    (sym c.lengths_fit.ensures ∙ c.if-not-lengths_fit.false) c.if-index.false
    ∙ row-stops _ _ (sym same ∙ lt-ltb _ _ c.if-index-label_count.true))

pub returns-then-index-bytes : goal.returns-then-index-bytes
unfolding add_rows
returns-then-index-bytes c =
    let a = c.args in
    let same = room a.index.capacities.entries a.index.counts.entries c.label_count.result a.lengths.now a.bytes.now c.label_count.ensures in
    let fit = sym c.lengths_fit.ensures ∙ c.if-not-lengths_fit.false in
    squares_by _ _
    (after-8 a.index a.lent a.vector.now a.lengths.now a.bytes.now (sym c.unbuilt_check.ensures ∙ c.in_ok-unbuilt_check.was) c.if-vector-index.false
    (sym c.scan-scanned.ensures.finite_value ∙ not-false _ c.if-not-scanned.false) fit c.if-index.false (sym same ∙ le-ltb _ _ c.if-index-label_count.false)
    ∙ row-stops _ _ (sym (filled a.index.capacities.text a.index.counts.bytes a.lengths.now a.bytes.now fit) ∙ lt-ltb _ _ c.if-index-bytes.true))

pub returns : goal.returns
unfolding add_rows
returns c =
    let a = c.args in
    let same = room a.index.capacities.entries a.index.counts.entries c.label_count.result a.lengths.now a.bytes.now c.label_count.ensures in
    let fit = sym c.lengths_fit.ensures ∙ c.if-not-lengths_fit.false in
    ap Ok c.scan-scanned.ensures.squares_value
    ∙ squares_by _ _
    (after-9 a.index a.lent a.vector.now a.lengths.now a.bytes.now (sym c.unbuilt_check.ensures ∙ c.in_ok-unbuilt_check.was) c.if-vector-index.false
    (sym c.scan-scanned.ensures.finite_value ∙ not-false _ c.if-not-scanned.false) fit c.if-index.false (sym same ∙ le-ltb _ _ c.if-index-label_count.false)
    (sym (filled a.index.capacities.text a.index.counts.bytes a.lengths.now a.bytes.now fit) ∙ le-ltb _ _ c.if-index-bytes.false)
    ∙ no_rows)
