-- Row 14 for an answer list of fewer than three places, and what the exported functions' proofs rest on.
use Rattle.std.specs.Prelude.{ℕ, ◌+◌, ◌≤◌, ◌<◌, Bool, true, false, List, ◌∷◌, ◌≡◌, refl, ltb, length}
use Rattle.std.proofs.Common.{sym, ◌∙◌, subst, arith, ltb-true, ltb-false, lt-ltb, le-ltb}
use Rattle.store.specs.Store.{Store}
use Rattle.std.specs.Prelude.{Result, Ok, Err, Some, ⊤}
use Rattle.walk.specs.declared.Searched.{Searched}
use Rattle.curator.specs.declared.CuratorIndex.{CuratorIndex}
use Rattle.settings.specs.declared.refusal.Refusal.{Refusal}
use Rattle.curator.specs.Limits.{state_sound}
use Rattle.curator.specs.Outcome.{found_values}
use Rattle.curator.specs.Rows.{first_of, state_row, search_rows}
use Rattle.curator.proofs.RowLaws.{fine_none}
use Rattle.curator.specs.Calls.{facts_of}
use Rattle.store.specs.Lent.{lengths_of}
use Rattle.curator.specs.Searches.{SearchEnd, Untouched, SearchesBy, search_check, Searches}
use Rattle.curator.specs.Arguments.{SearchCall}
use Rattle.curator_c.specs.State.{places, state_in}
use Rattle.curator_c.specs.StateLaws.{in_holds}
use Rattle.curator_c.specs.Results.{storable, asking}
use Rattle.curator.specs.OutcomeLaws.{search_refused_is}

-- where the list held a state, any answer's state has room
pub storable-held : (list : List ℕ) (index : CuratorIndex) (answer : Result CuratorIndex Refusal) → state_in list ≡ Some index → storable list answer ≡ answer
unfolding storable
storable-held list index (Ok index') h = rw (le-ltb (length list) places (in_holds list index h).room) refl
storable-held list index (Err r) h = refl

-- with room for three numbers, the search is the one that was called
pub long-answer : (answer : List ℕ) (call : SearchCall) → 3 ≤ length answer → asking answer call ≡ call
long-answer answer call h = rw (le-ltb (length answer) 3 h) refl

-- what the rows of a search come to where there is no place for one hit: 4, 3, 6, 7 or 8 if its case holds, otherwise 14
unfoldable pub no_room : CuratorIndex → Store → List ℕ → SearchCall → Result ⊤ Refusal
unfolding first_of state_sound search_rows
no_room index store work call =
    first_of (state_row (state_sound index) ∷ search_rows (facts_of index) (lengths_of store) (length work) (record { query = call.question.query; k = 1; ids = 0; distances = 0 }))

-- without room for three numbers, these are the rows of the search
asking-rows : (index : CuratorIndex) (store : Store) (work answer : List ℕ) (call : SearchCall)
    → length answer < 3 → search_check index store work (asking answer call) ≡ no_room index store work call
unfolding search_check no_room search_rows
asking-rows index store work answer call h =
    rw (lt-ltb (length answer) 3 h, lt-ltb (length call.ids) (length call.ids + 1) (omega arith)) refl

no_room_refused : (index : CuratorIndex) (store : Store) (work : List ℕ) (call : SearchCall) → no_room index store work call ≡ (Ok tt) → ⊥
unfolding no_room search_rows
no_room_refused index store work call f =
    let (_, (_, (_, (_, (_, (room, _)))))) =
    fine_none (state_row (state_sound index) ∷ search_rows (facts_of index) (lengths_of store) (length work) (record { query = call.question.query; k = 1; ids = 0; distances = 0 })) f in
    let z : ◌≡◌ {A = ℕ} 0 1 = cc in
    omega arith

-- Without room for three numbers: the first of 4, 3, 6, 7 and 8 whose case holds, otherwise 14; all lists are as they were.
pub short-answer : (index : CuratorIndex) (store : Store) (work answer : List ℕ) (call : SearchCall) (end : SearchEnd)
    → length answer < 3 → Searches index store work (asking answer call) end
    → (r : Refusal) × (no_room index store work call ≡ Err r) × Untouched work call r end
unfolding Searches SearchesBy
short-answer index store work answer call end h s =
    by (no_room index store work call) refl
    (subst (λ (check : Result ⊤ Refusal). SearchesBy check index store work (asking answer call) end) (asking-rows index store work answer call h) s)
  where
    by : (check : Result ⊤ Refusal) → no_room index store work call ≡ check → SearchesBy check index store work (asking answer call) end
        → (r : Refusal) × (no_room index store work call ≡ Err r) × Untouched work call r end
    by (Ok _) e g = absurd (no_room_refused index store work call e)
    by (Err r) e g = (r, e, record { answer = g.answer; work = g.work; ids = g.ids; distances = g.distances })

-- so the values of an answer have room
pub values-fit : (index : CuratorIndex) (store : Store) (work answer : List ℕ) (call : SearchCall) (end : SearchEnd) (found : Result Searched Refusal)
    → end.answer ≡ found → Searches index store work (asking answer call) end → length (found_values found) ≤ length answer
values-fit index store work answer call end found e s = by (ltb (length answer) 3) refl
  where
    few : (f : Result Searched Refusal) → length (found_values f) ≤ 3
    few (Ok s) = omega arith
    few (Err r) = omega arith

    by : (b : Bool) → ltb (length answer) 3 ≡ b → length (found_values found) ≤ length answer
    by true t =
        let (r, _, untouched) = short-answer index store work answer call end (ltb-true (length answer) 3 t) s in
        let refused : found ≡ Err r = sym e ∙ search_refused_is r _ untouched.answer in
        rw refused (omega arith)
    by false t = let h = ltb-false (length answer) 3 t in let f = few found in omega (arith, h, f)
