-- The model looks at no contents of work and answer lists: alike calls are put to the same check, the same is expected of them, and they leave the same
-- model. `ef_search` is no matter to the refusals, nor to what is written.
use Rattle.std.specs.Prelude.{ℕ, Result, ⊤, List, [], ◌∷◌, ◌≡◌, refl, length}
use Rattle.std.proofs.Common.{ap}
use Rattle.settings.specs.declared.refusal.Refusal.{Refusal}
use Rattle.settings.specs.Refusals.{check_number}
use Rattle.curator.specs.Rows.{first_of, search_rows}
use Rattle.store.specs.declared.Lengths.{Lengths}
use Rattle.curator.specs.Arguments.{SearchCall}
use Rattle.runs.specs.Calls.{Change, Call, change, search, AlikeSearch, Alike, AllAlike}
use Rattle.runs.specs.Model.{Setting, Model, model_facts, change_check, changed_by, model_search_check, model_check, model_walk, returns, searched_by, expected, after}
use Rattle.runs.specs.Theorem.{with_budget}
use Rattle.runs.proofs.Reached.{change_laws}

-- ---- contents

alike-search-check : (s : Setting) (m : Model) (lent lent' : Lengths) (work work' : ℕ) (call call' : SearchCall) → lent ≡ lent' → work ≡ work'
    → AlikeSearch call call' → model_search_check s m lent work call ≡ model_search_check s m lent' work' call'
unfolding model_search_check
alike-search-check s m lent lent' work work' call call' e w a =
    λ i. first_of
    (search_rows (model_facts s m) (e i) (w i) (record { query = (a.question i).query; k = a.k i; ids = a.ids i; distances = a.distances i }))

pub alike-check : (s : Setting) (m : Model) (call call' : Call) → Alike call call' → model_check s m call ≡ model_check s m call'
unfolding model_check
alike-check s m (change f w c) (change f' w' c') a = λ i. change_check s m (a.0 i) (a.1 i) (a.2 i)
alike-check s m (change f w c) (search f' w' call') a = absurd a
alike-check s m (search f w call) (change f' w' c') a = absurd a
alike-check s m (search f w call) (search f' w' call') a =
    alike-search-check s m f f' (length w) (length w') call call' a.0 a.1 a.2

pub alike-expected : (s : Setting) (m : Model) (call call' : Call) → Alike call call' → expected s m call ≡ expected s m call'
unfolding expected
alike-expected s m (change f w c) (change f' w' c') a = λ i. returns (check_number (change_check s m (a.0 i) (a.1 i) (a.2 i)))
alike-expected s m (change f w c) (search f' w' call') a = absurd a
alike-expected s m (search f w call) (change f' w' c') a = absurd a
alike-expected s m (search f w call) (search f' w' call') a =
    λ i. searched_by m (alike-search-check s m f f' (length w) (length w') call call' a.0 a.1 a.2 i) (a.2.k i) (model_walk s m (a.2.question i))

pub alike-after : (s : Setting) (m : Model) (call call' : Call) → Alike call call' → after s m call ≡ after s m call'
unfolding after
alike-after s m (change f w c) (change f' w' c') a = λ i. changed_by (change_check s m (a.0 i) (a.1 i) (a.2 i)) (a.2 i) m
alike-after s m (change f w c) (search f' w' call') a = absurd a
alike-after s m (search f w call) (change f' w' c') a = absurd a
alike-after s m (search f w call) (search f' w' call') a = refl

-- a call is like itself
alike_same : (call : Call) → Alike call call
alike_same (change fronts work c) = (refl, refl, refl)
alike_same (search fronts work call) = (refl, refl, record { question = refl; k = refl; ids = refl; distances = refl })

pub all_same : (calls : List Call) → AllAlike calls calls
all_same [] = tt
all_same (call ∷ calls) = (alike_same call, all_same calls)

-- ---- `ef_search`

budget-change : (s : Setting) (ef : ℕ) (m : Model) (lent : Lengths) (work : ℕ) (c : Change)
    → change_check (with_budget ef s) m lent work c ≡ change_check s m lent work c
unfolding change_check
budget-change s ef m lent work c = ap first_of ((change_laws c).budget s ef m lent work)

pub budget-check : (s : Setting) (ef : ℕ) (m : Model) (call : Call) → model_check (with_budget ef s) m call ≡ model_check s m call
unfolding model_check model_facts
budget-check s ef m (change fronts work c) = budget-change s ef m fronts (length work) c
budget-check s ef m (search fronts work call) = refl

pub budget-after : (s : Setting) (ef : ℕ) (m : Model) (call : Call) → after (with_budget ef s) m call ≡ after s m call
unfolding after
budget-after s ef m (change fronts work c) = ap (λ (check : Result ⊤ Refusal). changed_by check c m) (budget-change s ef m fronts (length work) c)
budget-after s ef m (search fronts work call) = refl
