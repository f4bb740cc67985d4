-- k is skipped, then the label by its length, then the floats; or the file ends inside one of them.
use Prim.Native.Nat.{◌*◌}
use native.Mathlib.Omega.{arith}
use Rattle.echo_file.proofs.Skips.{went, stopped, skip-end}
use Rattle.echo_file.proofs.Bodies.{bad, filtered_cut, filtered_cut_label, filtered_cut_floats, filtered-shows}
use Rattle.echo_file.proofs.body.read_filtered.Goals as goal

pub returns-in_err-length_at : goal.returns-in_err-length_at
returns-in_err-length_at c =
    let a = c.args in
    rw c.from_residual.ensures
    (bad a.known a.file.now a.at (filtered_cut a.known a.file.now a.at (stopped a.file.now a.at 2 c.requires c.in_err-length_at.ensures)))

pub read_counted-requires : goal.read_counted-requires
read_counted-requires c = skip-end (went c.args.file.now c.args.at 2 c.in_ok-length_at.ensures)

pub returns-in_err-label_at : goal.returns-in_err-label_at
returns-in_err-label_at c =
    let a = c.args in
    rw c.from_residual-in_err-label_at.ensures
    (bad a.known a.file.now a.at
    (filtered_cut_label a.known a.file.now a.at (went a.file.now a.at 2 c.in_ok-length_at.ensures) c.in_err-label_at.ensures))

pub returns-in_err-next : goal.returns-in_err-next
returns-in_err-next c =
    let a = c.args in
    let label = c.in_ok-label_at.ensures in
    rw c.from_residual-in_err-next.ensures
    (bad a.known a.file.now a.at
    (filtered_cut_floats a.known a.file.now a.at (went a.file.now a.at 2 c.in_ok-length_at.ensures) label
    (stopped a.file.now _ (4 * a.known.dimension) label.placed.2 c.in_err-next.ensures)))

pub u16_at-requires : goal.u16_at-requires
u16_at-requires c = omega (arith, (went c.args.file.now c.args.at 2 c.in_ok-length_at.ensures).inside)

pub returns : goal.returns
returns c =
    let a = c.args in
    filtered-shows a.known a.file.now a.at (went a.file.now a.at 2 c.in_ok-length_at.ensures) c.in_ok-label_at.ensures
    (went a.file.now _ (4 * a.known.dimension) c.in_ok-next.ensures) c.u16_at.ensures
