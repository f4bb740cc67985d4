-- The document id is skipped, then the length bytes by their count, the label bytes by the sum of the lengths, and the floats;
-- or the file ends inside one of them.
use Prim.Native.Nat.{◌*◌}
use native.Mathlib.Omega.{arith}
use Rattle.echo_file.proofs.Skips.{went, stopped, skip-end}
use Rattle.echo_file.proofs.Bodies.{bad, vector_cut, vector_cut_lengths, vector_cut_labels, vector_cut_floats, vector-shows}
use Rattle.echo_file.proofs.body.read_vector.Goals as goal

pub returns-in_err-count_at : goal.returns-in_err-count_at
returns-in_err-count_at c =
    let a = c.args in
    rw c.from_residual.ensures
    (bad a.known a.file.now a.at (vector_cut a.known a.file.now a.at (stopped a.file.now a.at 4 c.requires c.in_err-count_at.ensures)))

pub read_counted-requires : goal.read_counted-requires
read_counted-requires c = skip-end (went c.args.file.now c.args.at 4 c.in_ok-count_at.ensures)

pub returns-in_err-lengths_at : goal.returns-in_err-lengths_at
returns-in_err-lengths_at c =
    let a = c.args in
    rw c.from_residual-in_err-lengths_at.ensures
    (bad a.known a.file.now a.at
    (vector_cut_lengths a.known a.file.now a.at (went a.file.now a.at 4 c.in_ok-count_at.ensures) c.in_err-lengths_at.ensures))

pub returns-in_err-floats_at : goal.returns-in_err-floats_at
returns-in_err-floats_at c =
    let a = c.args in
    let lengths = c.in_ok-lengths_at.ensures in
    rw c.from_residual-in_err-floats_at.ensures
    (bad a.known a.file.now a.at
    (vector_cut_labels a.known a.file.now a.at (went a.file.now a.at 4 c.in_ok-count_at.ensures) lengths c.total-total.ensures
    (stopped a.file.now _ c.total-total.result lengths.placed.2 c.in_err-floats_at.ensures)))

pub returns-in_err-next : goal.returns-in_err-next
returns-in_err-next c =
    let a = c.args in
    let labels = went a.file.now _ c.total-total.result c.in_ok-floats_at.ensures in
    rw c.from_residual-in_err-next.ensures
    (bad a.known a.file.now a.at
    (vector_cut_floats a.known a.file.now a.at (went a.file.now a.at 4 c.in_ok-count_at.ensures) c.in_ok-lengths_at.ensures c.total-total.ensures labels
    (stopped a.file.now _ (4 * a.known.dimension) (skip-end labels) c.in_err-next.ensures)))

pub u32_at-requires : goal.u32_at-requires
u32_at-requires c = omega (arith, (went c.args.file.now c.args.at 4 c.in_ok-count_at.ensures).inside)

pub returns : goal.returns
returns c =
    let a = c.args in
    vector-shows a.known a.file.now a.at (went a.file.now a.at 4 c.in_ok-count_at.ensures) c.in_ok-lengths_at.ensures c.total-total.ensures
    (went a.file.now _ c.total-total.result c.in_ok-floats_at.ensures) (went a.file.now _ (4 * a.known.dimension) c.in_ok-next.ensures) c.u32_at.ensures
