-- The tests of the store and of the work list.
use Prim.Native.Nat.{ℕ}
use mathlib.Core.Bool.{not, ◌||◌}
use mathlib.Core.Path.{ap, ap₂}
use lib.Dec.{leb}
use Rattle.store.specs.Lent.{store_short, lists_short}
use Rattle.store.proofs.Shape.lists_short.Goals as goal

pub returns : goal.returns
unfolding lists_short store_short
returns c =
    ap₂ ◌||◌ c.store_short.ensures (ap (λ (n : ℕ). not (leb n c.args.work)) c.work_size.ensures)
