-- The part that was lent came back as quotients.
use Prim.Native.Nat.{◌+◌, ◌<◌}
use mathlib.Core.Path.{◌≡◌, ap, ◌∙◌}
use mathlib.Core.List.{map}
use native.Mathlib.Omega.{arith}
use lib.ListN.{get_or, set, length, length-map}
use lib.Ieee.{Float, nan, binary32, div}
use Rattle.std.proofs.lemmas.List.{get_or_default}
use Rattle.std.proofs.lemmas.List.Edits.{map_over_more}
use Rattle.lists.specs.Lists.{part}
use Rattle.lists.specs.Parts.{length_part, lent-run, lent-part}
use Rattle.mean.proofs.Components.{mapped}
use Rattle.mean.proofs.part.divide.Goals as goal

pub loop-x-preserved : goal.loop-x-preserved
loop-x-preserved c =
    let l = c.loop-x in
    let x = get_or l.x-items l.x-index nan in
    let within : l.x-index < length l.x-items = omega (arith, l.auto.x-items) in
    ap (set l.x-items l.x-index) c.canonical.ensures
    ∙ map_over_more (λ x. div binary32 x c.args.by) _ l.x-items l.x-index x c.loop-x-test.true l.invariant (get_or_default l.x-items l.x-index nan x within)

pub returns : goal.returns
returns c =
    let p = c.args in
    let l = p.floats.now in
    let own = part p.to p.dimension l in
    let f = λ (x : Float). div binary32 x p.by in
    let due : c.loop-x.x-items ≡ map f own =
    mapped f _ _ c.loop-x.x-index c.loop-x.invariant c.loop-x-test.false ∙ ap (map f) (lent-run p.to p.dimension l) in
    rw due (lent-part l p.to (p.to + p.dimension) (map f own) (omega arith) c.requires (omega (arith, length-map own f, length_part p.to p.dimension l c.requires)))
