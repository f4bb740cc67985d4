-- The part that was lent came back as the six numbers.
use Prim.Native.Nat.{◌+◌}
use mathlib.Core.List.{[], ◌∷◌}
use native.Mathlib.Omega.{arith}
use Rattle.lists.specs.Parts.{lent-part}
use Rattle.node_table.proofs.write_six.Goals as goal

pub returns : goal.returns
returns c =
    let p = c.args in
    rw c.copy_from_slice.ensures.after
    (lent-part _ _ (p.at + 6) (0 ∷ p.children ∷ p.start ∷ p.size ∷ 0 ∷ 0 ∷ []) (omega arith) (omega arith) (omega arith))
