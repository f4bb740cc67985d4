-- A low and a high part; the bound is that of both.
use native.Mathlib.Omega.{arith}
use Rattle.echo_file.proofs.Steps.{value-parts}
use Rattle.echo_file.proofs.number.u16_at.Goals as goal

pub returns : goal.returns
returns c =
    let args = c.args in
    let low = c.u8_at-low.ensures in
    let high = c.u8_at-high.ensures in
    let sum = value-parts args.at 1 1 args.file.now (omega arith) in
    record { is = omega (arith, low.is, high.is, sum); below = omega arith }
