-- Invariant: the floats before i are written, and the list is otherwise as it was.
use mathlib.Core.Path.{◌≡◌}
use lib.ListN.{length}
use lib.Seq.{paste}
use Rattle.echo_file.proofs.Steps.{floats_at}
use Rattle.echo_file.proofs.floats.read_floats.Given as goal

abbrev pub invariant-loop-i : goal.invariant-loop-i
invariant-loop-i l = l.out ≡ paste l.initial.out 0 (floats_at l.file l.at (length l.initial.out)) l.i
