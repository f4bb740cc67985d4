-- Every text is the next part of what is printed of the file (specs/Due.antt), and each turn goes on behind the record that it read. A record has bytes and
-- prints at most the text list, so the count stays small.
use Rattle.std.proofs.Common.{◌*◌, ◌-◌, ◌≤◌, ◌≡◌, length}
use Rattle.load.specs.Code.{Narrow, lists}
use Rattle.load.specs.Theorem.{Sized}
use Rattle.printer.specs.Due.{Reached}
use Rattle.printer.proofs.print_file.Given as goal

abbrev pub invariant-loop-done : goal.invariant-loop-done
invariant-loop-done g l = record {
  sized : Sized (lists l.floats l.numbers l.hashes l.labels l.work l.ids l.distances);
  long : length l.text ≡ 5147;
  narrow : Narrow l.loading;
  reached : Reached l.file l.done l.at l.loading (lists l.floats l.numbers l.hashes l.labels l.work l.ids l.distances).store;
  few : l.done ≤ 5147 * l.at;
  inside : l.at ≤ 65536;
}

abbrev pub decreases-loop-done : goal.decreases-loop-done
decreases-loop-done g l = length l.file - l.at
