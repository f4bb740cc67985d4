-- `layout::lay_out` meets its contract. Invariant: the columns of the first c centres are the centres.
use Prim.Native.Nat.{ℕ, ◌+◌, ◌*◌, ◌<◌}
use mathlib.Core.Path.{◌≡◌}
use Rattle.lists.specs.Lists.{part}
use Rattle.centre_blocks.specs.Blocks.{column, column_at}
use Rattle.centre_blocks.proofs.layout.lay_out.Given as goal

abbrev pub invariant-loop-c : goal.invariant-loop-c
invariant-loop-c l =
    (j : ℕ) → j < l.c → column l.dimension l.blocks (column_at l.dimension j) ≡ part (l.centres_at + j * l.dimension) l.dimension l.floats
