use Rattle.std.proofs.Common.{ℕ, ◌+◌, ◌-◌, sym, refl, ap, ◌∙◌}
use Rattle.lists.specs.Lists.{part}
use Rattle.label.specs.Fnv.{fnv_from, fnv}
use Rattle.label.proofs.Steps.{byte_hashed, byte_copied, hashed-all, copied_all}
use Rattle.label.proofs.names.copy_and_hash.Goals as goal

pub loop-i-init : goal.loop-i-init
unfolding fnv
loop-i-init c = (refl, refl)

pub loop-i-preserved : goal.loop-i-preserved
loop-i-preserved c =
    let state = c.loop-i in
    let bytes = c.args.bytes.now in
    let end = c.args.end in
    let more = c.loop-i-test.true in
    let within = c.requires.1 in (
      ap (λ (h : ℕ). fnv_from h (part (state.i + 1) (end - (state.i + 1)) bytes)) c.hash_byte-hash.ensures
          ∙ byte_hashed bytes state.hash state.i end more within
          ∙ state.invariant.0,
      byte_copied state.text bytes c.args.place state.i end more within ∙ state.invariant.1,
    )

pub returns : goal.returns
returns c =
    let state = c.loop-i in
    let args = c.args in
    let done = c.loop-i-test.false in (
      sym (hashed-all args.bytes.now state.hash state.i args.end done) ∙ state.invariant.0,
      sym (copied_all state.text args.bytes.now (args.place + state.i) state.i args.end done) ∙ state.invariant.1,
    )
