-- The first two rows are `lent_check`'s; where neither case holds, the third decides.
use Rattle.std.proofs.Common.{rules, ◌≡◌, [], ◌∷◌, sym, ◌∙◌}
use Rattle.store.specs.declared.Lengths.{Lengths}
use Rattle.std.specs.Prelude.{Result, Ok, Err, ⊤}
use Rattle.settings.specs.declared.refusal.Refusal.{Refusal}
use Rattle.settings.specs.declared.refusal.Refusal.TheVariants.{State}
use Rattle.settings.specs.declared.refusal.StateRefusal.TheVariants.{AlreadyBuilt}
use Rattle.curator.specs.declared.CuratorIndex.{CuratorIndex}
use Rattle.curator.specs.Lent.{lent_rows, early_rows}
use Rattle.curator.proofs.RowLaws.{no_rows, row-stops, row-passes, check_then, rows_then}
use Rattle.curator.specs.Rows.{row, first_of}
use Rattle.curator.proofs.check.unbuilt_check.Goals as goal

-- what they come to, by what the first two come to
early : (index : CuratorIndex) (lent : Lengths) (check : Result ⊤ Refusal) → first_of (lent_rows index lent) ≡ check
    → first_of (early_rows index lent) ≡ check_then check (first_of (row index.built (State AlreadyBuilt) ∷ []))
early index lent check e = rows_then (lent_rows index lent) (row index.built (State AlreadyBuilt) ∷ []) check e

pub returns-in_err-lent_check : goal.returns-in_err-lent_check
returns-in_err-lent_check c =
    let e : c.from_residual.result ≡ Err c.in_err-lent_check.field-0.0 = search rules in
    e ∙ sym (early c.args.index c.args.lent (Err _) (sym c.lent_check.ensures ∙ c.in_err-lent_check.was))

pub returns-then-index : goal.returns-then-index
returns-then-index c = sym (early c.args.index c.args.lent (Ok tt) (sym c.lent_check.ensures ∙ c.in_ok-lent_check.was) ∙ row-stops _ _ c.if-index.true)

pub returns : goal.returns
returns c = sym (early c.args.index c.args.lent (Ok tt) (sym c.lent_check.ensures ∙ c.in_ok-lent_check.was) ∙ row-passes _ _ c.if-index.false ∙ no_rows)
