-- By the case of the check: its first refusal, or what `write_add` leaves; that no row's case holds gives what the writing relies on.
use Rattle.std.proofs.Common.{rules, ◌≡◌, ℕ, List, Float, refl, sym, ap, ap₂, ◌∙◌, arith}
use Rattle.label.specs.NameLaws.{length-names}
use Rattle.label.specs.TextLaws.{length-joined-bytes}
use Rattle.store.specs.Store.{Store}
use Rattle.store.specs.Lent.{lengths_of, store_of}
use Rattle.curator.specs.declared.CuratorIndex.{CuratorIndex}
use Rattle.std.specs.Prelude.{Ok, Err}
use Rattle.vector.specs.Vector.{dot}
use Rattle.curator.proofs.RowLaws.{squares_fine, squares_refused}
use Rattle.curator.proofs.AddLaws.{Accepted, add_facts, adds_by}
use Rattle.curator.specs.Calls.{with_counts, counts_more}
use Rattle.curator.specs.Changes.{AddsBy, add_check}
use Rattle.curator.specs.Arguments.{add_of}
use Rattle.curator.specs.Lent.{add_checked}
use Rattle.curator.specs.OutcomeLaws.{is_refused, is_carried}
use Rattle.curator.proofs.CuratorIndex.add.Goals as goal

module _ (index : CuratorIndex) (store : Store) (document : ℕ) (vector : List Float) (lengths bytes : List ℕ) (squares : Float)
    (e : add_checked index (lengths_of store) (add_of 0 vector lengths bytes) ≡ Ok squares) where
  -- no row's case holds, and what was carried is the sum of squares; no row looks at the document
  fine : (add_check index store (add_of document vector lengths bytes) ≡ (Ok tt)) × (squares ≡ dot vector vector)
  unfolding add_check
  fine = squares_fine _ _ _ e

  facts : Accepted index store (add_of document vector lengths bytes)
  facts = add_facts _ _ _ fine.0

pub write_add-requires : goal.write_add-requires
write_add-requires c =
    let a = c.args in
    let store = store_of a.floats.now a.numbers.now a.hashes.now a.text.now in
    let e = sym c.add_check.ensures ∙ c.in_ok-squares.was in
    record {
      add_room = (facts a.self store a.doc_id a.vector.now a.lengths.now a.bytes.now _ e).room;
      squares_value = (fine a.self store a.doc_id a.vector.now a.lengths.now a.bytes.now _ e).1;
    }

pub grown-requires : goal.grown-requires
grown-requires c =
    let a = c.args in
    let store = store_of a.floats.now a.numbers.now a.hashes.now a.text.now in
    let r = (facts a.self store a.doc_id a.vector.now a.lengths.now a.bytes.now _ (sym c.add_check.ensures ∙ c.in_ok-squares.was)).room in
    let many = c.label_count.ensures ∙ sym (length-names a.lengths.now a.bytes.now) in
    let long = length-joined-bytes a.lengths.now a.bytes.now r.labels in
    (omega (arith, r.vectors, r.limits.vectors_high), omega (arith, r.entries, r.limits.entries_high, many), omega (arith, r.text, r.limits.text_high, long))

pub returns-in_err-squares : goal.returns-in_err-squares
unfolding AddsBy add_check
returns-in_err-squares c =
    let e : c.from_residual.result ≡ Err c.in_err-squares.field-0.0 = search rules in
    adds_by _ _ _ _ _ _ (squares_refused _ _ _ (sym c.add_check.ensures ∙ c.in_err-squares.was)) (is_refused _ _ e, refl)

pub returns : goal.returns
unfolding AddsBy
returns c =
    let a = c.args in
    let index = a.self in
    let store = store_of a.floats.now a.numbers.now a.hashes.now a.text.now in
    let e = sym c.add_check.ensures ∙ c.in_ok-squares.was in
    let many = c.label_count.ensures ∙ sym (length-names a.lengths.now a.bytes.now) in
    let long = length-joined-bytes a.lengths.now a.bytes.now (facts index store a.doc_id a.vector.now a.lengths.now a.bytes.now _ e).room.labels in
    adds_by _ _ _ _ _ _ (fine index store a.doc_id a.vector.now a.lengths.now a.bytes.now _ e).0 (
      is_carried _ _
          (ap Ok (c.grown.ensures ∙ ap₂ (λ (labels bytes : ℕ). with_counts index (counts_more index.counts labels bytes) index.built) many long)),
      c.write_add.ensures,
    )
