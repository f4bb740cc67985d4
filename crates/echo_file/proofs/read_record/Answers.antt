-- Two bytes are skipped and read as the mark; the body's reading is then the record's. Another mark, or an end inside it, begins no record.
use Prim.Native.Nat.{ℕ, suc}
use mathlib.Core.Path.{ap, ◌∙◌}
use native.Mathlib.Omega.{arith}
use lib.ListN.{drop}
use Rattle.std.specs.Prelude.{Option, None}
use Rattle.echo_file.specs.declared.Located.{Located}
use Rattle.echo_file.specs.Decode.{decode_after}
use Rattle.echo_file.specs.Places.{mark_number, Shows}
use Rattle.echo_file.specs.Reads.{Reads}
use Rattle.echo_file.specs.ReadsLaws.{bytes_of, reads as reads_as}
use Rattle.echo_file.proofs.Skips.{went, stopped_anywhere, skip-end}
use Rattle.echo_file.proofs.Bodies.{bad, marked, mark_cut, no_mark}
use Rattle.echo_file.proofs.read_record.Goals as goal
use Rattle.echo_file.proofs.read_record.Goals.{In_ok-mark_of}

-- what is read after the mark is read of the record
by-mark : (c : In_ok-mark_of) (r : Option Located)
    → Shows c.args.known c.args.file.now c.in_ok-start.start
    (decode_after c.args.known (mark_number c.in_ok-mark_of.field-0) (drop c.in_ok-start.start c.args.file.now)) r
    → Reads c.args.known c.args.file.now c.args.at r
by-mark c r s =
    let a = c.args in
    let two = went a.file.now a.at 2 c.in_ok-start.ensures in
    let mark = ap (λ (m : ℕ). decode_after a.known m (drop c.in_ok-start.start a.file.now)) c.in_ok-mark_of.ensures in
    reads_as a.known a.file.now a.at c.in_ok-start.start r (bytes_of a.file.now (λ i. omega (arith, c.type_inv.file i))) (omega (arith, two.place))
    (record { same = marked a.known a.file.now a.at two c.u16_at.ensures ∙ mark ∙ s.same; placed = s.placed })

pub returns-in_err-start : goal.returns-in_err-start
returns-in_err-start c =
    let a = c.args in
    let cut = stopped_anywhere a.file.now a.at 1 c.in_err-start.ensures in
    rw c.from_residual.ensures
    (reads_as a.known a.file.now a.at (suc a.at) None (bytes_of a.file.now (λ i. omega (arith, c.type_inv.file i)))
    (omega arith) (bad a.known a.file.now (suc a.at) (mark_cut a.known a.file.now a.at cut)))

pub u16_at-requires : goal.u16_at-requires
u16_at-requires c = omega (arith, (went c.args.file.now c.args.at 2 c.in_ok-start.ensures).inside)

pub returns-in_err-mark_of : goal.returns-in_err-mark_of
returns-in_err-mark_of c =
    let a = c.args in
    let two = went a.file.now a.at 2 c.in_ok-start.ensures in
    rw c.from_residual-in_err-mark_of.ensures
    (reads_as a.known a.file.now a.at c.in_ok-start.start None (bytes_of a.file.now (λ i. omega (arith, c.type_inv.file i))) (omega (arith, two.place))
    (bad a.known a.file.now c.in_ok-start.start (no_mark a.known a.file.now a.at two c.u16_at.ensures c.in_err-mark_of.ensures)))

pub read_settings-requires : goal.read_settings-requires
read_settings-requires c = skip-end (went c.args.file.now c.args.at 2 c.in_ok-start.ensures)

pub returns-in-Settings : goal.returns-in-Settings
unfolding decode_after
returns-in-Settings c = by-mark ((goal.at.returns-in-Settings c).In_ok-mark_of) c.read_settings.result (rw c.in-Settings.is (c.read_settings.ensures c.args.known))

pub read_vector-requires : goal.read_vector-requires
read_vector-requires c = skip-end (went c.args.file.now c.args.at 2 c.in_ok-start.ensures)

pub returns-in-Vector : goal.returns-in-Vector
unfolding decode_after
returns-in-Vector c = by-mark ((goal.at.returns-in-Vector c).In_ok-mark_of) c.read_vector.result (rw c.in-Vector.is c.read_vector.ensures)

pub read_filtered-requires : goal.read_filtered-requires
read_filtered-requires c = skip-end (went c.args.file.now c.args.at 2 c.in_ok-start.ensures)

pub returns-in-Filtered : goal.returns-in-Filtered
unfolding decode_after
returns-in-Filtered c = by-mark ((goal.at.returns-in-Filtered c).In_ok-mark_of) c.read_filtered.result (rw c.in-Filtered.is c.read_filtered.ensures)

pub read_search-requires : goal.read_search-requires
read_search-requires c = skip-end (went c.args.file.now c.args.at 2 c.in_ok-start.ensures)

pub returns-in-Search : goal.returns-in-Search
unfolding decode_after
returns-in-Search c = by-mark ((goal.at.returns-in-Search c).In_ok-mark_of) c.read_search.result (rw c.in-Search.is c.read_search.ensures)
