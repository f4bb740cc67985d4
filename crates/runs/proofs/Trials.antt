-- The model on small values: what a taking back leaves of its rows, and a withdrawal.
use Rattle.std.specs.Prelude.{ℕ, Bool, true, false, List, [], ◌∷◌, map, ◌≡◌, refl}
use Rattle.runs.specs.Calls.{withdraw}
use Rattle.runs.specs.Model.{ModelRow, Model, struck, carried_out}

trial_row : ℕ → ModelRow
trial_row document = record { document = document; vector = []; names = []; live = true }

-- 'strikes the book's last line': the first stays, and of no line none is struck
trial-struck : (struck (trial_row 7 ∷ trial_row 8 ∷ []) ≡ trial_row 7 ∷ []) × (struck (trial_row 7 ∷ []) ≡ []) × (struck [] ≡ [])
unfolding trial_row
trial-struck = (refl, refl, refl)

-- 'every vector with that id', and no other; one that was withdrawn before stays so
trial_model : Model
unfolding trial_row
trial_model = record { rows = trial_row 7 ∷ trial_row 8 ∷ trial_row 7 ∷ trial_row 9 ∷ []; built = false }

trial_live : Model → List Bool
trial_live m = map (λ r. r.live) m.rows

trial-withdrawn : (trial_live (carried_out (withdraw 7) trial_model) ≡ false ∷ true ∷ false ∷ true ∷ [])
    × (trial_live (carried_out (withdraw 9) (carried_out (withdraw 7) trial_model)) ≡ false ∷ true ∷ false ∷ false ∷ [])
unfolding trial_model trial_live carried_out
trial-withdrawn = (refl, refl)
