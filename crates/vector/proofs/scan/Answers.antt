use Prim.Native.Nat.{◌+◌}
use mathlib.Core.Path.{refl, ap, ◌∙◌}
use mathlib.Core.Bool.{Bool, ◌&&◌}
use Rattle.vector.specs.Vector.{dot, dot_step, zero32}
use Rattle.vector.proofs.Steps.{finite_is, scanned_turn, scanned_four, scanned_end}
use Rattle.vector.proofs.scan.Goals as goal

pub loop-seen-init : goal.loop-seen-init
unfolding dot zero32
loop-seen-init c = (refl, refl)

pub loop-seen-preserved-then-v-seen-ge4 : goal.loop-seen-preserved-then-v-seen-ge4
loop-seen-preserved-then-v-seen-ge4 c =
    let loop = c.loop-seen in
    let v = c.args.v.now in
    scanned_four v loop.finite c.all_finite-finite.result loop.squares loop.seen loop.invariant c.if-v-seen-ge4.true c.all_finite-finite.ensures

pub loop-seen-preserved : goal.loop-seen-preserved
loop-seen-preserved c =
    let loop = c.loop-seen in
    let v = c.args.v.now in
    let more = c.loop-seen-test.true in
    scanned_turn v loop.finite (loop.finite && c.is_finite-finite.result) loop.squares (dot_step loop.squares v v loop.seen) loop.seen (loop.seen + 1) loop.invariant more
    (ap (λ (b : Bool). loop.finite && b) (c.is_finite-finite.ensures.value ∙ finite_is _)) refl refl

pub returns : goal.returns
returns c =
    let loop = c.loop-seen in
    let e = scanned_end c.args.v.now loop.finite loop.squares loop.seen loop.invariant c.loop-seen-test.false in
    record { finite_value = e.0; squares_value = e.1 }
