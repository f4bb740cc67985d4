-- The count is skipped and read, then its bytes; or the file ends inside one of them.
use native.Mathlib.Omega.{arith}
use Rattle.echo_file.proofs.Skips.{went, stopped, skip-end}
use Rattle.echo_file.proofs.Bodies.{counted_cut_count, counted_cut, counted-bytes}
use Rattle.echo_file.proofs.counted.read_counted.Goals as goal

pub returns-in_err-start : goal.returns-in_err-start
returns-in_err-start c = rw c.from_residual.ensures (counted_cut_count (stopped c.args.file.now c.args.at 1 c.requires c.in_err-start.ensures))

pub u8_at-count-requires : goal.u8_at-count-requires
u8_at-count-requires c = omega (arith, (went c.args.file.now c.args.at 1 c.in_ok-start.ensures).inside)

pub returns-in_err-end : goal.returns-in_err-end
returns-in_err-end c =
    let one = went c.args.file.now c.args.at 1 c.in_ok-start.ensures in
    rw c.from_residual-in_err-end.ensures
    (counted_cut one c.u8_at-count.ensures (stopped c.args.file.now _ c.u8_at-count.result (skip-end one) c.in_err-end.ensures))

pub returns : goal.returns
returns c =
    let one = went c.args.file.now c.args.at 1 c.in_ok-start.ensures in
    counted-bytes one c.u8_at-count.ensures (went c.args.file.now _ c.u8_at-count.result c.in_ok-end.ensures)
