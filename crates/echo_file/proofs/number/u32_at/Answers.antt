-- A low and a high part; the bound is that of both.
use native.Mathlib.Omega.{arith}
use Rattle.echo_file.proofs.Steps.{value-parts}
use Rattle.echo_file.proofs.number.u32_at.Goals as goal

pub returns : goal.returns
returns c =
    let args = c.args in
    let low = c.u16_at-low.ensures in
    let high = c.u16_at-high.ensures in
    let sum = value-parts args.at 2 2 args.file.now (omega arith) in
    record { is = omega (arith, low.is, high.is, sum); below = omega arith }
