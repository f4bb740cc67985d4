-- The number in one byte is the byte.
use mathlib.Core.Path.{sym, ◌∙◌}
use native.Mathlib.Omega.{arith}
use Rattle.echo_file.proofs.Steps.{value-one}
use Rattle.echo_file.proofs.number.u8_at.Goals as goal

pub returns : goal.returns
returns c =
    let args = c.args in
    record {
      is = c.from.ensures ∙ sym (value-one args.at args.file.now c.requires);
      below = omega (arith, c.type_inv.file args.at, c.from.ensures);
    }
