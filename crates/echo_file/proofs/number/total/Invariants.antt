-- Invariant: the sum so far, with that of the lengths left, is that of all; each length is at most 255.
use Prim.Native.Nat.{◌+◌, ◌*◌, ◌≤◌}
use mathlib.Core.Path.{◌≡◌}
use lib.ListN.{drop}
use Rattle.lists.specs.Lists.{total}
use Rattle.echo_file.proofs.number.total.Given as goal

abbrev pub invariant-loop-length : goal.invariant-loop-length
invariant-loop-length l = (total (drop l.length-index l.lengths) + l.sum ≡ total l.lengths) × (l.sum ≤ 255 * l.length-index)
