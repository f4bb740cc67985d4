-- By cases on whether the block is empty.
-- Assumes nothing.
use Prim.Native.Nat.{ℕ, zero, suc}
use mathlib.Core.Path.{◌≡◌, refl, sym, ap}
use Rattle.node_table.specs.Table.{start_at}
use Rattle.node_table.proofs.start_of.Goals as goal

some-start : (at count : ℕ) → (count ≡ 0 → ⊥) → at ≡ start_at at count
unfolding start_at
some-start at zero h = absurd (h refl)
some-start at (suc count) h = refl

pub returns-then-count-eq0 : goal.returns-then-count-eq0
unfolding start_at
returns-then-count-eq0 c = sym (ap (start_at c.args.at) c.if-count-eq0.true)

pub returns-else-count-eq0 : goal.returns-else-count-eq0
returns-else-count-eq0 c = some-start c.args.at c.args.count c.if-count-eq0.false
