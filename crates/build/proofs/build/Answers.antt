-- By the case of the check: its refusal, a built index as it was, or what `make_index` leaves.
use Rattle.std.specs.Prelude.{Err}
use Rattle.std.proofs.Common.{rules, ◌≡◌, sym, ◌∙◌}
use Rattle.store.specs.Lent.{store_of}
use Rattle.build.specs.CheckLaws.{check-built, ready}
use Rattle.build.specs.MakeLaws.{builds-built, builds_refused}
use Rattle.build.proofs.build.Goals as goal

pub returns-then-index : goal.returns-then-index
returns-then-index c =
    let store = store_of c.args.floats.now c.args.numbers.now c.args.hashes.now c.args.text.now in
    let work = c.args.work.now in
    builds-built c.args.index store work (check-built c.args.index store work (sym c.build_check.ensures ∙ c.in_ok-build_check.was) c.if-index.true) c.if-index.true

pub make_index-requires : goal.make_index-requires
make_index-requires c =
    let store = store_of c.args.floats.now c.args.numbers.now c.args.hashes.now c.args.text.now in
    ready c.args.index store c.args.work.now (sym c.build_check.ensures ∙ c.in_ok-build_check.was) c.if-index.false

pub returns-in_err-build_check : goal.returns-in_err-build_check
returns-in_err-build_check c =
    let store = store_of c.args.floats.now c.args.numbers.now c.args.hashes.now c.args.text.now in
    let e : c.from_residual.result ≡ Err c.in_err-build_check.field-0.0 = search rules in
    rw e (builds_refused c.args.index store c.args.work.now _ (sym c.build_check.ensures ∙ c.in_err-build_check.was))
