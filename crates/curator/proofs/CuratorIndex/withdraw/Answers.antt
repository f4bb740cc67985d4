-- By what rows 4 and 3 come to, and then by what the pass over the vectors found: that one has the id, and its marks are written, or that none has, and nothing was.
use Rattle.std.proofs.Common.{rules, ◌≡◌, refl, sym, ap, ◌∙◌, arith, subst}
use Rattle.store.specs.declared.Shape.{Shape}
use Rattle.store.specs.Store.{Limits, live_at}
use Rattle.store.specs.Lent.{store_of}
use Rattle.std.specs.Prelude.{Ok, Err}
use Rattle.curator.specs.Changes.{WithdrawsBy}
use Rattle.curator.specs.OutcomeLaws.{is_refused, is_carried}
use Rattle.curator.proofs.WithdrawLaws.{withdraws_by}
use Rattle.curator.proofs.Marks.{checked, lent_facts, withdrawn_fine, withdrawn-none}
use Rattle.curator.proofs.CuratorIndex.withdraw.Goals as goal

pub returns-in_err-lent_check : goal.returns-in_err-lent_check
unfolding WithdrawsBy
returns-in_err-lent_check c =
    let store = store_of c.args.floats.now c.args.numbers.now c.args.hashes.now c.args.text.now in
    let e : c.from_residual.result ≡ Err c.in_err-lent_check.field-0.0 = search rules in
    withdraws_by c.args.self store c.args.doc_id _ _ (Err _)
    (checked c.args.self store c.args.doc_id (Err _) (sym c.lent_check.ensures ∙ c.in_err-lent_check.was))
    (is_refused _ _ e, refl)

pub live_at-live_at-requires : goal.live_at-live_at-requires
live_at-live_at-requires c =
    let store = store_of c.args.floats.now c.args.numbers.now c.args.hashes.now c.args.text.now in
    subst (λ (shape : Shape). Limits shape) (sym c.shape_of.ensures)
    (lent_facts c.args.self store c.args.doc_id (sym c.lent_check.ensures ∙ c.in_ok-lent_check.was)).0.limits

pub withdraw_marks-requires : goal.withdraw_marks-requires
withdraw_marks-requires c =
    let store = store_of c.args.floats.now c.args.numbers.now c.args.hashes.now c.args.text.now in
    let (sound, long) = lent_facts c.args.self store c.args.doc_id (sym c.lent_check.ensures ∙ c.in_ok-lent_check.was) in
    let marks = c.live_at-live_at.ensures ∙ ap (λ (s : Shape). live_at s) c.shape_of.ensures in
    (omega (arith, marks, sound.vectors), omega (arith, marks, sound.vectors, long.numbers))

pub returns-then-withdraw_marks : goal.returns-then-withdraw_marks
unfolding WithdrawsBy
returns-then-withdraw_marks c =
    let store = store_of c.args.floats.now c.args.numbers.now c.args.hashes.now c.args.text.now in
    let marks = c.live_at-live_at.ensures ∙ ap (λ (s : Shape). live_at s) c.shape_of.ensures in
    let (check, is) =
    withdrawn_fine c.args.self store c.args.doc_id c.live_at-live_at.result _ marks (sym c.lent_check.ensures ∙ c.in_ok-lent_check.was) c.withdraw_marks.result
    c.withdraw_marks.ensures c.if-withdraw_marks.true in
    withdraws_by c.args.self store c.args.doc_id _ _ (Ok tt) check (is_carried _ _ refl, is)

pub returns : goal.returns
unfolding WithdrawsBy
returns c =
    let store = store_of c.args.floats.now c.args.numbers.now c.args.hashes.now c.args.text.now in
    let marks = c.live_at-live_at.ensures ∙ ap (λ (s : Shape). live_at s) c.shape_of.ensures in
    let (check, is) =
    withdrawn-none c.args.self store c.args.doc_id c.live_at-live_at.result _ marks (sym c.lent_check.ensures ∙ c.in_ok-lent_check.was) c.withdraw_marks.result
    c.withdraw_marks.ensures c.if-withdraw_marks.false in
    withdraws_by c.args.self store c.args.doc_id _ _ (Err _) check (is_refused _ _ refl, is)
