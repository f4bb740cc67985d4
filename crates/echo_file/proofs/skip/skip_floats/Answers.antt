-- More floats than a quarter of the size end past it.
use native.Mathlib.Omega.{arith}
use Prim.Native.Nat.{◌*◌}
use Rattle.echo_file.proofs.Skips.{cut_when}
use Rattle.echo_file.proofs.skip.skip_floats.Goals as goal

pub returns-then-len-count : goal.returns-then-len-count
returns-then-len-count c = let a = c.args in cut_when a.len a.at (4 * a.count) (omega arith)
