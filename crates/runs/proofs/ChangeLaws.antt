-- What is owed for a change, in one record: whoever adds a change to `Change` proves it of that one (Adds.antt, TakesBack.antt, Withdraws.antt, Builds.antt),
-- and the rest goes by kinds of calls. Reached.antt has it of every change.
use Rattle.std.specs.Prelude.{ℕ, Bool, true, false, cond, Result, Err, ◌⊎◌, List, [], ◌∷◌, ◌≡◌, refl, length}
use Rattle.std.proofs.lemmas.Bool.{false≢true}
use Rattle.std.proofs.Common.{inl, inr, sym, ◌∙◌, arith}
use Rattle.store.specs.declared.Lengths.{Lengths}
use Rattle.store.specs.Store.{Store}
use Rattle.store.specs.Lent.{lengths_of, join_stores}
use Rattle.curator.specs.declared.CuratorIndex.{CuratorIndex}
use Rattle.settings.specs.declared.refusal.Refusal.{Refusal}
use Rattle.curator.specs.Outcome.{changed_number}
use Rattle.settings.specs.Refusals.{number, check_number}
use Rattle.curator.specs.Rows.{Row, first_of}
use Rattle.runs.specs.Calls.{Change, Typed}
use Rattle.runs.specs.Model.{Setting, Model, change_rows, change_check, carried_out, changed_by}
use Rattle.runs.specs.Run.{next_index, Changes}
use Rattle.runs.specs.Theorem.{with_budget}
use Rattle.runs.proofs.State.{Allowed, state_for, Small}
use Rattle.runs.proofs.Invariant.{Invariant}

-- ---- rows that return neither 15 nor 4

abbrev pub Other : ℕ → Type 0
Other n = (n ≡ 15 → ⊥) × (n ≡ 4 → ⊥)

-- each row returns neither, unless its case does not hold
abbrev pub Others : List Row → Type 0
Others [] = Unit {0}
Others (r ∷ rows) = ((r.holds ≡ false) ⊎ Other (number r.refusal)) × Others rows

-- so the first returns neither
pub first_other : (rows : List Row) → Others rows → Other (check_number (first_of rows))
unfolding first_of
first_other [] o = omega arith
first_other (r ∷ rows) o = go r.holds refl o.0 (first_other rows o.1)
  where
    go : (b : Bool) → r.holds ≡ b → (r.holds ≡ false) ⊎ Other (number r.refusal) → Other (check_number (first_of rows))
        → Other (check_number (cond b (Err r.refusal) (first_of rows)))
    go true e (inl f) rest = absurd (false≢true (sym f ∙ e))
    go true e (inr n) rest = n
    go false e h rest = rest

-- ---- the record

-- a change returned the model's number, and what it left stands for the model after it
pub record ChangeEnds (s : Setting) (m : Model) (lent : Lengths) (work : ℕ) (c : Change) (answer : Result CuratorIndex Refusal) (index' : CuratorIndex) (store' : Store) : Type 0 where
  pub number_is : changed_number answer ≡ check_number (change_check s m lent work c)
  pub invariant : Invariant s (changed_by (change_check s m lent work c) c m) index' store'

-- an outcome of a change: the answer and the lists
pub record ChangeOutcome (index : CuratorIndex) (store : Store) (work : List ℕ) (c : Change) : Type 0 where
  pub answer : Result CuratorIndex Refusal
  pub store' : Store
  pub work' : List ℕ
  pub changes : Changes c index store work answer store' work'

pub record ChangeLaws (c : Change) : Type 0 where
  -- on a front of lists that stand for a model, with any rest behind it
  pub keeps :
      (s : Setting) → Allowed s → (m : Model) (work work' : List ℕ) (front rest front' : Store) (answer : Result CuratorIndex Refusal)
      → Invariant s m (state_for s m) (join_stores front rest) → Changes c (state_for s m) front work answer front' work'
      → ChangeEnds s m (lengths_of front) (length work) c answer (next_index (state_for s m) answer) (join_stores front' rest)
  -- no row of the model is 15 or 4
  pub others : (s : Setting) (m : Model) (lent : Lengths) (work : ℕ) → Others (change_rows s m lent work c)
  -- `ef_search` is no matter to them
  pub budget : (s : Setting) (ef : ℕ) (m : Model) (lent : Lengths) (work : ℕ) → change_rows (with_budget ef s) m lent work c ≡ change_rows s m lent work c
  -- document ids stay u32s
  pub small : (m : Model) → Typed c → Small m → Small (carried_out c m)
  -- whatever index and lists it is given, the store's keep their lengths
  pub lengths :
      (index : CuratorIndex) (store : Store) (work : List ℕ) (answer : Result CuratorIndex Refusal) (store' : Store) (work' : List ℕ)
      → Changes c index store work answer store' work' → lengths_of store ≡ lengths_of store'
  -- and it has an outcome
  pub outcome : (index : CuratorIndex) (store : Store) (work : List ℕ) → ChangeOutcome index store work c
