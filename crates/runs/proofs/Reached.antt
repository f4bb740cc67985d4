-- A whole run: from the empty model every step keeps what is between run and model, so every call ends as the model expects. What else is claimed of
-- each call follows from that and from facts about the models that are reached.
use Rattle.std.specs.Prelude.{ℕ, suc, Result, Ok, Err, ⊤, List, [], ◌∷◌, ◌≡◌, refl, length, take}
use Rattle.std.proofs.Common.{arith, inr, sym, ◌∙◌, subst}
use Rattle.store.specs.declared.Lengths.{Lengths}
use Rattle.store.specs.Store.{Store}
use Rattle.store.specs.Lent.{lengths_of, join_stores}
use Rattle.walk.specs.declared.Searched.{Searched}
use Rattle.walk.specs.Walk.{State, Progress, damaged, going}
use Rattle.walk.specs.Answer.{answer}
use Rattle.curator.specs.declared.CuratorIndex.{CuratorIndex}
use Rattle.settings.specs.declared.refusal.Refusal.{Refusal}
use Rattle.settings.specs.Refusals.{number, check_number}
use Rattle.curator.specs.Rows.{search_rows}
use Rattle.curator.proofs.RowLaws.{number-positive}
use Rattle.curator.specs.Arguments.{SearchCall, asking_of}
use Rattle.curator.specs.Searches.{Searches}
use Rattle.runs.specs.Calls.{Change, add, take_back, withdraw, build, Call, change, search, Typed, TypedCall}
use Rattle.runs.specs.Model.{Setting, Model, empty_model, row_live, model_facts, change_rows, change_check, changed_by, model_search_check, model_check, model_walk, returns, searched_by, answered, expected, after, model_from}
use Rattle.runs.specs.Run.{Ended, changed, found, next_index, Changes, ChangeStep, SearchStep, Step, RunFrom, done, next, index_after, store_after, Run}
use Rattle.runs.specs.Theorem.{end_number, Reply, AnsweredWith, reply_of, Matches, AtEach, NeverDamaged}
use Rattle.runs.proofs.State.{Allowed, Within, Small, state_for, created-is, empty_small}
use Rattle.runs.proofs.Invariant.{Invariant, begins, nothing_written}
use Rattle.runs.proofs.ChangeLaws.{Other, first_other, ChangeEnds, ChangeLaws}
use Rattle.runs.proofs.Adds.{add_laws}
use Rattle.runs.proofs.TakesBack.{take_back_laws}
use Rattle.runs.proofs.Withdraws.{withdraw_laws}
use Rattle.runs.proofs.Builds.{build_laws}
use Rattle.runs.proofs.Search.{search-keeps}
use Rattle.curator.specs.OutcomeLaws.{found-is}

-- ---- every change

pub change_laws : (c : Change) → ChangeLaws c
change_laws (add call) = add_laws call
change_laws take_back = take_back_laws
change_laws (withdraw document) = withdraw_laws document
change_laws build = build_laws

-- on any index that stands for a model
pub change-keeps : (s : Setting) → Allowed s → (m : Model) (index : CuratorIndex) (work work' : List ℕ) (front rest front' : Store) (c : Change) (answer : Result CuratorIndex Refusal)
    → Invariant s m index (join_stores front rest) → Changes c index front work answer front' work'
    → ChangeEnds s m (lengths_of front) (length work) c answer (next_index index answer) (join_stores front' rest)
change-keeps s a m index work work' front rest front' c answer inv by =
    let e : index ≡ state_for s m = inv.state in
    subst (λ (i : CuratorIndex). ChangeEnds s m (lengths_of front) (length work) c answer (next_index i answer) (join_stores front' rest)) (sym e)
    ((change_laws c).keeps s a m work work' front rest front' answer (subst (λ (i : CuratorIndex). Invariant s m i (join_stores front rest)) e inv)
    (subst (λ (i : CuratorIndex). Changes c i front work answer front' work') e by))

change-step : (s : Setting) → Allowed s → (m : Model) (index : CuratorIndex) (store : Store) → Invariant s m index store
    → (fronts : Lengths) (work : List ℕ) (c : Change) (end : Ended) (index' : CuratorIndex) (store' : Store) → ChangeStep index store fronts work c end index' store'
    → Matches (returns (check_number (change_check s m fronts (length work) c))) (change fronts work c) end
    × Invariant s (changed_by (change_check s m fronts (length work) c) c m) index' store'
change-step s a m index store inv fronts work c end index' store' st =
    let k : ChangeEnds s m fronts (length work) c st.answer (next_index index st.answer) (join_stores st.front' st.rest) =
    subst (λ (lent : Lengths). ChangeEnds s m lent (length work) c st.answer (next_index index st.answer) (join_stores st.front' st.rest)) st.lent
    (change-keeps s a m index work st.work' st.front st.rest st.front' c st.answer (subst (Invariant s m index) st.whole inv) st.changes) in
    let check = change_check s m fronts (length work) c in
    let m' = changed_by check c m in (
      subst (Matches (returns (check_number check)) (change fronts work c)) (sym st.ended) k.number_is,
      subst (λ (i : CuratorIndex). Invariant s m' i store') (sym st.index_next)
          (subst (Invariant s m' (next_index index st.answer)) (sym st.store_next) k.invariant),
    )

-- ---- every search

pub search-step : (s : Setting) → Allowed s → (m : Model) (index : CuratorIndex) (store : Store) → Invariant s m index store
    → (fronts : Lengths) (work : List ℕ) (call : SearchCall) (end : Ended) (index' : CuratorIndex) (store' : Store)
    → SearchStep index store fronts work call end index' store'
    → Matches (expected s m (search fronts work call)) (search fronts work call) end × Invariant s m index' store'
search-step s a m index store inv fronts work call end index' store' st =
    let whole = subst (λ (i : CuratorIndex). Invariant s m i (join_stores st.front st.rest)) inv.state (subst (Invariant s m index) st.whole inv) in
    let by : Searches (state_for s m) st.front work call st.ended_search =
    subst (λ (i : CuratorIndex). Searches i st.front work call st.ended_search) inv.state st.searches in (
      subst (λ (e : Ended). Matches (expected s m (search fronts work call)) (search fronts work call) e) (sym st.ended)
          (subst (λ (lent : Lengths). Matches (expected s m (search lent work call)) (search lent work call) (found st.ended_search)) st.lent
          (search-keeps s a m st.front st.rest whole work call st.ended_search by)),
      nothing_written s m index index' store store' inv st.index_next st.store_next,
    )

-- document ids stay u32s
small_by : (check : Result ⊤ Refusal) (c : Change) (m : Model) → Typed c → Small m → Small (changed_by check c m)
unfolding changed_by
small_by (Err r) c m t h = h
small_by (Ok _) c m t h = (change_laws c).small m t h

small-after : (s : Setting) (m : Model) (call : Call) → TypedCall call → Small m → Small (after s m call)
unfolding after
small-after s m (change fronts work c) t h = small_by (change_check s m fronts (length work) c) c m t h
small-after s m (search fronts work call) t h = h

-- ---- every step

pub step_keeps : (s : Setting) → Allowed s → (m : Model) (index : CuratorIndex) (store : Store) → Invariant s m index store
    → (call : Call) (end : Ended) (index' : CuratorIndex) (store' : Store)
    → Step index store call end index' store' → Matches (expected s m call) call end × Invariant s (after s m call) index' store'
unfolding Step expected after
step_keeps s a m index store inv (change fronts work c) end index' store' st = change-step s a m index store inv fronts work c end index' store' st
step_keeps s a m index store inv (search fronts work call) end index' store' st = search-step s a m index store inv fronts work call end index' store' st

step_typed : (index : CuratorIndex) (store : Store) (call : Call) (end : Ended) (index' : CuratorIndex) (store' : Store) → Step index store call end index' store'
    → TypedCall call
unfolding Step
step_typed index store (change fronts work c) end index' store' st = st.typed
step_typed index store (search fronts work call) end index' store' st = tt

-- what is known of each call: the model is within the capacities, its document ids are u32s, and the call ended as expected
pub record Ends (s : Setting) (m : Model) (call : Call) (end : Ended) : Type 0 where
  pub within : Within s m
  pub small : Small m
  pub matches : Matches (expected s m call) call end

pub ends_from : (s : Setting) → Allowed s → (m : Model) {index : CuratorIndex} {store : Store} {calls : List Call} {ends : List Ended}
    → RunFrom index store calls ends
    → Invariant s m index store → Small m → AtEach s (Ends s) m calls ends
ends_from s a m done inv small = tt
ends_from s a m (next {index} {index'} {store} {store'} {call} {calls} {end} {ends} st rest) inv small =
    let r = step_keeps s a m index store inv call end index' store' st in (
      record { within = inv.within; small = small; matches = r.0 },
      ends_from s a (after s m call) rest r.1 (small-after s m call (step_typed index store call end index' store' st) small),
    )

pub run_allowed : (s : Setting) (calls : List Call) (ends : List Ended) → Run s calls ends → Allowed s
run_allowed s calls ends run = (created-is s run.index run.accepted).1

pub ends_each : (s : Setting) (calls : List Call) (ends : List Ended) → Run s calls ends → AtEach s (Ends s) empty_model calls ends
ends_each s calls ends run =
    let c = created-is s run.index run.accepted in
    ends_from s c.1 empty_model run.run (begins s run.index run.store c.0) empty_small

-- where a run stands: its state and lists are those of the model after the calls
reached_from : (s : Setting) → Allowed s → (m : Model) {index : CuratorIndex} {store : Store} {calls : List Call} {ends : List Ended}
    → (run : RunFrom index store calls ends) → Invariant s m index store → Invariant s (model_from s m calls) (index_after run) (store_after run)
unfolding model_from
reached_from s a m done inv = inv
reached_from s a m (next {index} {index'} {store} {store'} {call} {calls} {end} {ends} st rest) inv =
    reached_from s a (after s m call) rest (step_keeps s a m index store inv call end index' store' st).1

pub reached : (s : Setting) (calls : List Call) (ends : List Ended) (run : Run s calls ends)
    → Invariant s (model_from s empty_model calls) (index_after run.run) (store_after run.run)
reached s calls ends run =
    let c = created-is s run.index run.accepted in
    reached_from s c.1 empty_model run.run (begins s run.index run.store c.0)

-- ---- facts about the models that are reached

-- a fact about the model that each call is put to
abbrev pub Along : Setting → (Model → Type 0) → Model → List Call → Type 0
Along s Fact m [] = Unit {0}
Along s Fact m (call ∷ calls) = Fact m × Along s Fact (after s m call) calls

pub each_map : (s : Setting) (Fact : Model → Type 0) (claim claim' : Model → Call → Ended → Type 0)
    → ((m : Model) (call : Call) (end : Ended) → Fact m → claim m call end → claim' m call end)
    → (m : Model) (calls : List Call) (ends : List Ended) → Along s Fact m calls → AtEach s claim m calls ends → AtEach s claim' m calls ends
each_map s Fact claim claim' f m [] [] g c = tt
each_map s Fact claim claim' f m [] (end ∷ ends) g c = c
each_map s Fact claim claim' f m (call ∷ calls) [] g c = c
each_map s Fact claim claim' f m (call ∷ calls) (end ∷ ends) g c =
    (f m call end g.0 c.0, each_map s Fact claim claim' f (after s m call) calls ends g.1 c.1)

pub along_all : (s : Setting) (Fact : Model → Type 0) (m : Model) (calls : List Call) → ((n : ℕ) → Fact (model_from s m (take n calls))) → Along s Fact m calls
unfolding model_from
along_all s Fact m [] h = tt
along_all s Fact m (call ∷ calls) h = (h 0, along_all s Fact (after s m call) calls (λ n. h (suc n)))

-- ---- the number is the model's, neither 15 nor 4

search-number : (m : Model) (fronts : Lengths) (work : List ℕ) (call : SearchCall) (end : Ended) (check : Result ⊤ Refusal) (walked : State)
    → Matches (searched_by m check call.k walked) (search fronts work call) end → end_number end ≡ check_number check
unfolding searched_by answered
search-number m fronts work call (changed answer) (Err r) walked h = absurd h
search-number m fronts work call (found end) (Err r) walked h = h.0
search-number m fronts work call end (Ok _) damaged h = absurd h
search-number m fronts work call (changed answer) (Ok _) (going p) h = absurd h
search-number m fronts work call (found end) (Ok _) (going p) h = h.0.number_is

pub end-number : (s : Setting) (m : Model) (call : Call) (end : Ended) → Matches (expected s m call) call end → end_number end ≡ check_number (model_check s m call)
unfolding expected model_check
end-number s m (change fronts work c) (changed answer) h = h
end-number s m (change fronts work c) (found end) h = absurd h
end-number s m (search fronts work call) end h = search-number m fronts work call end (model_search_check s m fronts (length work) call) (model_walk s m call.question) h

call_other : (s : Setting) (m : Model) (call : Call) → Other (check_number (model_check s m call))
unfolding model_check search_rows model_facts
call_other s m (change fronts work c) = first_other (change_rows s m fronts (length work) c) ((change_laws c).others s m fronts (length work))
call_other s m (search fronts work call) =
    first_other (search_rows (model_facts s m) fronts (length work) (asking_of call))
    (inr (omega arith), (inr (omega arith), (inr (omega arith), (inr (omega arith), (inr (omega arith), tt)))))

pub never : (s : Setting) (m : Model) (call : Call) (end : Ended) → Matches (expected s m call) call end → NeverDamaged end
never s m call end h = let o = subst Other (sym (end-number s m call end h)) (call_other s m call) in record { damaged = o.0; state = o.1 }

-- ---- an answered search

-- what a reply says of the walk
abbrev searched_in : Reply → Searched
searched_in reply = record { hits = reply.hits; opened = reply.opened; whole = reply.complete }

-- an end has one set of values
answered-one : (end : Ended) (reply reply' : Reply) → AnsweredWith end reply → AnsweredWith end reply' → reply ≡ reply'
answered-one (changed answer) reply reply' h k = absurd h
answered-one (found end) reply reply' h k =
    let answers : ◌≡◌ {A = Result Searched Refusal} (Ok (searched_in reply)) (Ok (searched_in reply')) =
    sym (found-is reply.hits reply.opened reply.complete end.answer h.0) ∙ found-is reply'.hits reply'.opened reply'.complete end.answer k.0 in
    let same : searched_in reply ≡ searched_in reply' = cc in
    λ i. record { hits = (same i).hits; opened = (same i).opened; complete = (same i).whole; ids = (sym h.1 ∙ k.1) i; distances = (sym h.2 ∙ k.2) i }

-- a refused search is none
not_refused : (fronts : Lengths) (work : List ℕ) (call : SearchCall) (n : ℕ) (end : Ended) (reply : Reply) → Matches (returns n) (search fronts work call) end
    → AnsweredWith end reply → 0 ≡ n
not_refused fronts work call n (changed answer) reply h k = absurd h
not_refused fronts work call n (found end) reply h k = sym k.0.number_is ∙ h.0

-- a change is none
pub not_answered : (fronts : Lengths) (work : List ℕ) (c : Change) (n : ℕ) (end : Ended) (reply : Reply) → Matches (returns n) (change fronts work c) end
    → AnsweredWith end reply → ⊥
not_answered fronts work c n (changed answer) reply h k = k
not_answered fronts work c n (found end) reply h k = h

-- the walk that it made of the rows' tree, and what it wrote
pub record Finds (s : Setting) (m : Model) (fronts : Lengths) (work : List ℕ) (call : SearchCall) (reply : Reply) : Type 0 where
  pub progress : Progress
  pub check : model_search_check s m fronts (length work) call ≡ Ok tt
  pub walked : model_walk s m call.question ≡ going progress
  pub is : reply ≡ reply_of (answer (row_live m) call.k progress) call

finds_by : (s : Setting) (m : Model) (fronts : Lengths) (work : List ℕ) (call : SearchCall) (end : Ended) (reply : Reply) (check : Result ⊤ Refusal) (walked : State)
    → model_search_check s m fronts (length work) call ≡ check → model_walk s m call.question ≡ walked
    → Matches (searched_by m check call.k walked) (search fronts work call) end → AnsweredWith end reply → Finds s m fronts work call reply
unfolding searched_by answered
finds_by s m fronts work call end reply (Err r) walked e w h k =
    let z = not_refused fronts work call (number r) end reply h k in absurd (omega (arith, number-positive r, z))
finds_by s m fronts work call end reply (Ok _) damaged e w h k = absurd h
finds_by s m fronts work call end reply (Ok _) (going p) e w h k =
    record { progress = p; check = e; walked = w; is = answered-one end reply (reply_of (answer (row_live m) call.k p) call) k h }

pub answered-finds : (s : Setting) (m : Model) (fronts : Lengths) (work : List ℕ) (call : SearchCall) (end : Ended) (reply : Reply)
    → Matches (expected s m (search fronts work call)) (search fronts work call) end → AnsweredWith end reply → Finds s m fronts work call reply
unfolding expected
answered-finds s m fronts work call end reply h k =
    finds_by s m fronts work call end reply (model_search_check s m fronts (length work) call) (model_walk s m call.question) refl refl h k
