-- Twenty bytes are skipped, or the file ends inside them; the five numbers stand in them one after the other.
use native.Mathlib.Omega.{arith}
use Rattle.echo_file.proofs.Skips.{went, stopped}
use Rattle.echo_file.proofs.Bodies.{bad, settings_cut, settings-shows}
use Rattle.echo_file.proofs.body.read_settings.Goals as goal

pub returns-in_err-next : goal.returns-in_err-next
returns-in_err-next c known =
    let file = c.args.file.now in
    rw c.from_residual.ensures
    (bad known file c.args.at (settings_cut known file c.args.at (stopped file c.args.at 20 c.requires c.in_err-next.ensures)))

pub u32_at-requires : goal.u32_at-requires
u32_at-requires c = omega (arith, (went c.args.file.now c.args.at 20 c.in_ok-next.ensures).inside)

pub u32_at-requires-2 : goal.u32_at-requires-2
u32_at-requires-2 c = omega (arith, (went c.args.file.now c.args.at 20 c.in_ok-next.ensures).inside)

pub u32_at-requires-3 : goal.u32_at-requires-3
u32_at-requires-3 c = omega (arith, (went c.args.file.now c.args.at 20 c.in_ok-next.ensures).inside)

pub u32_at-requires-4 : goal.u32_at-requires-4
u32_at-requires-4 c = omega (arith, (went c.args.file.now c.args.at 20 c.in_ok-next.ensures).inside)

pub u32_at-requires-5 : goal.u32_at-requires-5
u32_at-requires-5 c = omega (arith, (went c.args.file.now c.args.at 20 c.in_ok-next.ensures).inside)

pub returns : goal.returns
returns c known =
    let a = c.args in
    settings-shows known a.file.now a.at (went a.file.now a.at 20 c.in_ok-next.ensures) c.u32_at.ensures c.u32_at-2.ensures
    c.u32_at-3.ensures c.u32_at-4.ensures c.u32_at-5.ensures
