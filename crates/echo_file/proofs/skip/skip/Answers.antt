-- The tests say on which side of the size the place lies.
use native.Mathlib.Omega.{arith}
use Rattle.echo_file.proofs.Skips.{cut_when, to_when}
use Rattle.echo_file.proofs.skip.skip.Goals as goal

pub returns-then-len-at : goal.returns-then-len-at
returns-then-len-at c = let a = c.args in cut_when a.len a.at a.count (omega arith)

pub returns : goal.returns
returns c = let a = c.args in to_when a.len a.at a.count (omega arith)
