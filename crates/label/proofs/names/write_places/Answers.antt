use Rattle.std.proofs.Common.{◌≡◌, ◌+◌, ◌/◌, ◌<◌, ◌≤◌, length, sym, refl, ◌∙◌, arith}
use Rattle.label.specs.NameLaws.{total-drop-two}
use Rattle.label.proofs.Steps.{place-step, place_end}
use Rattle.label.proofs.names.write_places.Goals as goal

pub loop-i-init : goal.loop-i-init
loop-i-init c =
    let args = c.args in
    let at-start : args.starts + 0 ≡ args.starts = omega arith in
    let at_size : args.sizes + 0 ≡ args.sizes = omega arith in
    (omega arith, rw (at-start, at_size))

pub loop-i-preserved : goal.loop-i-preserved
loop-i-preserved c =
    let state = c.loop-i in
    let below : state.i < length c.args.lengths.now / 2 = omega (arith, c.loop-i-test.true, c.label_count-labels.ensures) in
    let left = total-drop-two c.args.lengths.now state.i below in (
      omega arith,
      sym (place-step _ _ _ _ _ _ _ below c.requires.0 refl) ∙ state.invariant.1,
    )

pub returns : goal.returns
returns c =
    let state = c.loop-i in
    let past : length c.args.lengths.now / 2 ≤ state.i = omega (arith, c.loop-i-test.false, c.label_count-labels.ensures) in
    sym (place_end _ _ _ _ _ _ past) ∙ state.invariant.1
