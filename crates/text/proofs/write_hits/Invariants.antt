-- The lines of the first i hits stand in the list, and have at most 20 bytes each.
use Rattle.text.specs.Lines.{hit_lines, Written}
use Prim.Native.Nat.{◌+◌, ◌*◌, ◌≤◌}
use Rattle.text.proofs.write_hits.Given as goal

abbrev pub invariant-loop-i : goal.invariant-loop-i
invariant-loop-i l = (l.place ≤ l.at + 20 * l.i) × Written l.initial.out l.at (hit_lines l.ids l.distances l.i) l.out l.place
