-- The part that was lent came back as zeros.
use Prim.Native.Nat.{◌+◌}
use mathlib.Core.Path.{◌≡◌, ap, ◌∙◌}
use native.Mathlib.Omega.{arith}
use lib.ListN.{length, replicate, length-replicate}
use Rattle.vector.specs.Vector.{zero32}
use Rattle.lists.specs.Parts.{length_part, lent-run, lent-part}
use Rattle.mean.proofs.part.zero.Goals as goal

pub returns : goal.returns
unfolding zero32
returns c =
    let p = c.args in
    let l = p.floats.now in
    let size = ap length (lent-run p.to p.dimension l) ∙ length_part p.to p.dimension l c.requires in
    let due : c.fill.new.self ≡ replicate p.dimension zero32 =
    c.fill.ensures.after (λ y e. e) ∙ ap (λ n. replicate n zero32) size in
    rw due (lent-part l p.to (p.to + p.dimension) (replicate p.dimension zero32) (omega arith) c.requires (omega (arith, length-replicate p.dimension zero32)))
