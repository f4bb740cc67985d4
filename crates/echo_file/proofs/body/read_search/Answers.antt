-- Two bytes are skipped, then the floats; or the file ends inside one of them.
use Prim.Native.Nat.{◌*◌}
use native.Mathlib.Omega.{arith}
use Rattle.echo_file.proofs.Skips.{went, stopped, skip-end}
use Rattle.echo_file.proofs.Bodies.{bad, search_cut, search_cut_floats, search-shows}
use Rattle.echo_file.proofs.body.read_search.Goals as goal

pub returns-in_err-floats_at : goal.returns-in_err-floats_at
returns-in_err-floats_at c =
    let a = c.args in
    rw c.from_residual.ensures
    (bad a.known a.file.now a.at (search_cut a.known a.file.now a.at (stopped a.file.now a.at 2 c.requires c.in_err-floats_at.ensures)))

pub returns-in_err-next : goal.returns-in_err-next
returns-in_err-next c =
    let a = c.args in
    let k = went a.file.now a.at 2 c.in_ok-floats_at.ensures in
    rw c.from_residual-in_err-next.ensures
    (bad a.known a.file.now a.at
    (search_cut_floats a.known a.file.now a.at k
    (stopped a.file.now _ (4 * a.known.dimension) (skip-end k) c.in_err-next.ensures)))

pub u16_at-requires : goal.u16_at-requires
u16_at-requires c = omega (arith, (went c.args.file.now c.args.at 2 c.in_ok-floats_at.ensures).inside)

pub returns : goal.returns
returns c =
    let a = c.args in
    search-shows a.known a.file.now a.at (went a.file.now a.at 2 c.in_ok-floats_at.ensures)
    (went a.file.now _ (4 * a.known.dimension) c.in_ok-next.ensures) c.u16_at.ensures
