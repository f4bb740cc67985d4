-- One return for each row, and one where none holds: the rows' cases are what the tests asked.
use Rattle.std.proofs.Common.{◌≡◌, ℕ, true, false, not, ◌&&◌, sym, ap, ap₂, ◌∙◌}
use Rattle.settings.specs.declared.CuratorParams.{CuratorParams}
use Rattle.settings.specs.declared.Capacities.{Capacities}
use Rattle.std.specs.Prelude.{Result, Ok, Err, ⊤}
use Rattle.settings.specs.declared.refusal.Refusal.{Refusal}
use Rattle.settings.specs.declared.refusal.Refusal.TheVariants.{Settings}
use Rattle.settings.specs.declared.refusal.SettingsRefusal.TheVariants.{InvalidDimension, InvalidConfig}
use Rattle.curator.specs.Changes.{new_answer, created}
use Rattle.settings.specs.Limits.{dimension_allowed, params_allowed, capacities_allowed}
use Rattle.curator.proofs.RowLaws.{no_rows, row-stops, row-passes, is-created}
use Rattle.curator.specs.Rows.{first_of, new_rows}
use Rattle.curator.proofs.CuratorIndex.new.Goals as goal

module _ (dimension : ℕ) (params : CuratorParams) (capacities : Capacities) where
  -- the answer by what the rows come to
  answered : (k : Result ⊤ Refusal) → first_of (new_rows dimension params capacities) ≡ k → new_answer k dimension params capacities ≡ created dimension params capacities
  unfolding created
  answered k e = ap (λ (k : Result ⊤ Refusal). new_answer k dimension params capacities) (sym e)

  dimension-stops : dimension_allowed dimension ≡ false → first_of (new_rows dimension params capacities) ≡ Err (Settings InvalidDimension)
  unfolding new_rows
  dimension-stops e = row-stops _ _ (ap not e)

  config-stops : dimension_allowed dimension ≡ true → params_allowed params && capacities_allowed capacities ≡ false
      → first_of (new_rows dimension params capacities) ≡ Err (Settings InvalidConfig)
  unfolding new_rows
  config-stops e f = row-passes _ _ (ap not e) ∙ row-stops _ _ (ap not f)

  config-passes : dimension_allowed dimension ≡ true → params_allowed params && capacities_allowed capacities ≡ true
      → first_of (new_rows dimension params capacities) ≡ (Ok tt)
  unfolding new_rows
  config-passes e f = row-passes _ _ (ap not e) ∙ row-passes _ _ (ap not f) ∙ no_rows

pub returns-then-not-dimension_allowed : goal.returns-then-not-dimension_allowed
unfolding new_answer
returns-then-not-dimension_allowed c =
    let a = c.args in
    is-created a.dimension a.params a.capacities _
    (answered a.dimension a.params a.capacities _
    (dimension-stops a.dimension a.params a.capacities (sym c.dimension_allowed.ensures ∙ c.if-not-dimension_allowed.true)))

pub returns-then-not-params_allowed-capacities_allowed : goal.returns-then-not-params_allowed-capacities_allowed
unfolding new_answer
returns-then-not-params_allowed-capacities_allowed c =
    let a = c.args in
    is-created a.dimension a.params a.capacities _
    (answered a.dimension a.params a.capacities _
    (config-stops a.dimension a.params a.capacities (sym c.dimension_allowed.ensures ∙ c.if-not-dimension_allowed.false)
    (sym (ap₂ ◌&&◌ c.params_allowed.ensures c.capacities_allowed.ensures) ∙ c.if-not-params_allowed-capacities_allowed.true)))

pub returns : goal.returns
unfolding new_answer
returns c =
    let a = c.args in
    is-created a.dimension a.params a.capacities _
    (answered a.dimension a.params a.capacities _
    (config-passes a.dimension a.params a.capacities (sym c.dimension_allowed.ensures ∙ c.if-not-dimension_allowed.false)
    (sym (ap₂ ◌&&◌ c.params_allowed.ensures c.capacities_allowed.ensures) ∙ c.if-not-params_allowed-capacities_allowed.false)))
