use Rattle.std.proofs.Common.{◌≡◌, ◌+◌, ◌*◌, ◌/◌, ◌<◌, ◌≤◌, length, get_or, sym, refl, ◌∙◌, arith}
use Rattle.label.specs.NameLaws.{total-drop-two}
use Rattle.label.proofs.Steps.{joined-hash, hash-step, hash-end, text-step, text-end}
use Rattle.label.proofs.names.write_hashes.Goals as goal

pub loop-i-init : goal.loop-i-init
loop-i-init c =
    let args = c.args in
    let at-hash : args.place + 0 ≡ args.place = omega arith in
    let at_byte : args.held + 0 ≡ args.held = omega arith in
    (omega arith, rw at-hash, rw at_byte)

pub copy_and_hash-requires : goal.copy_and_hash-requires
copy_and_hash-requires c =
    let below : c.loop-i.i < length c.args.lengths.now / 2 = omega (arith, c.loop-i-test.true, c.label_count-labels.ensures) in
    let left = total-drop-two c.args.lengths.now c.loop-i.i below in
    (omega arith, omega arith, omega arith)

pub loop-i-preserved : goal.loop-i-preserved
loop-i-preserved c =
    let state = c.loop-i in
    let args = c.args in
    let below : state.i < length args.lengths.now / 2 = omega (arith, c.loop-i-test.true, c.label_count-labels.ensures) in
    let left = total-drop-two args.lengths.now state.i below in
    let start = state.start in
    let middle = start + get_or args.lengths.now (2 * state.i) 0 in
    let end = middle + get_or args.lengths.now (2 * state.i + 1) 0 in
    let hash = joined-hash args.bytes.now start middle end _ (omega arith) (omega arith) c.copy_and_hash.ensures.0 in (
      omega arith,
      sym (hash-step _ _ _ _ _ _ _ _ _ below refl refl hash) ∙ state.invariant.1,
      sym (text-step state.text _ args.bytes.now args.held start end (omega arith) (omega arith) c.copy_and_hash.ensures.1)
          ∙ state.invariant.2,
    )

pub returns : goal.returns
returns c =
    let state = c.loop-i in
    let args = c.args in
    let past : length args.lengths.now / 2 ≤ state.i = omega (arith, c.loop-i-test.false, c.label_count-labels.ensures) in (
      sym (hash-end _ _ _ _ _ past) ∙ state.invariant.1,
      sym (text-end state.text args.lengths.now args.bytes.now args.held state.start state.i c.requires.lengths_len.0 state.invariant.0 past)
          ∙ state.invariant.2,
    )
