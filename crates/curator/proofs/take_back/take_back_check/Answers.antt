-- The first three rows are `unbuilt_check`'s; where none of their cases holds, the fourth decides.
use Rattle.std.proofs.Common.{rules, ◌≡◌, [], ◌∷◌, eqb, sym, ◌∙◌}
use borrow.Author.Tests.{eq-eqb, ne_eqb}
use Rattle.store.specs.declared.Lengths.{Lengths}
use Rattle.std.specs.Prelude.{Result, Ok, Err, ⊤}
use Rattle.settings.specs.declared.refusal.Refusal.{Refusal}
use Rattle.settings.specs.declared.refusal.Refusal.TheVariants.{State}
use Rattle.settings.specs.declared.refusal.StateRefusal.TheVariants.{NoVectorHeld}
use Rattle.curator.specs.declared.CuratorIndex.{CuratorIndex}
use Rattle.curator.specs.Lent.{early_rows, take_back_checked}
use Rattle.curator.proofs.RowLaws.{no_rows, row-stops, row-passes, check_then, rows_then}
use Rattle.curator.specs.Rows.{row, first_of, take_back_rows}
use Rattle.curator.proofs.take_back.take_back_check.Goals as goal

-- what they come to, by what the first three come to
early : (index : CuratorIndex) (lent : Lengths) (check : Result ⊤ Refusal) → first_of (early_rows index lent) ≡ check
    → take_back_checked index lent ≡ check_then check (first_of (row (eqb index.counts.vectors 0) (State NoVectorHeld) ∷ []))
unfolding take_back_rows
early index lent check e = rows_then (early_rows index lent) (row (eqb index.counts.vectors 0) (State NoVectorHeld) ∷ []) check e

pub returns-in_err-unbuilt_check : goal.returns-in_err-unbuilt_check
returns-in_err-unbuilt_check c =
    let e : c.from_residual.result ≡ Err c.in_err-unbuilt_check.field-0.0 = search rules in
    e ∙ sym (early c.args.index c.args.lent (Err _) (sym c.unbuilt_check.ensures ∙ c.in_err-unbuilt_check.was))

pub returns-then-index-eq0 : goal.returns-then-index-eq0
returns-then-index-eq0 c =
    sym (early c.args.index c.args.lent (Ok tt) (sym c.unbuilt_check.ensures ∙ c.in_ok-unbuilt_check.was) ∙ row-stops _ _ (eq-eqb _ _ c.if-index-eq0.true))

pub returns : goal.returns
returns c =
    sym (early c.args.index c.args.lent (Ok tt) (sym c.unbuilt_check.ensures ∙ c.in_ok-unbuilt_check.was) ∙ row-passes _ _ (ne_eqb _ _ c.if-index-eq0.false) ∙ no_rows)
