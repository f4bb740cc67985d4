-- The four tests of the definition, over the sizes that the methods give.
use Prim.Native.Nat.{ℕ}
use mathlib.Core.Bool.{not, ◌&&◌}
use mathlib.Core.Path.{refl, ap, ap₂}
use lib.Dec.{leb}
use Rattle.store.specs.Lent.{store_short}
use Rattle.store.proofs.Shape.store_short.Goals as goal

pub returns : goal.returns
unfolding store_short
returns c =
    ap not
    (ap₂ ◌&&◌ (ap (λ (n : ℕ). leb n c.args.lent.floats) c.floats_size-floats.ensures)
    (ap₂ ◌&&◌ (ap (λ (n : ℕ). leb n c.args.lent.numbers) c.numbers_size-numbers.ensures)
    (ap₂ ◌&&◌ (ap (λ (n : ℕ). leb n c.args.lent.hashes) c.hashes_size-hashes.ensures) refl)))
