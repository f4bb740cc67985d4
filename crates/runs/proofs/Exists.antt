-- Nothing of demand 3 is empty: every call has an outcome, whatever index, lists and arguments it is given, and so every list of calls whose document
-- ids are u32s has a run, for every setting that `new` accepts. Whatever an outcome leaves free can be anything; here it is zeros.
use Rattle.std.specs.Prelude.{ℕ, Bool, Result, Ok, Err, ⊤, List, [], ◌∷◌, ◌≡◌, refl, length}
use Rattle.std.proofs.Common.{sym, ap, ◌∙◌, subst}
use Rattle.std.proofs.lemmas.List.Edits.{sets}
use Rattle.lists.specs.Frame.{freed}
use Rattle.vector.specs.Normalized.{normalized, normalized-holds}
use Rattle.store.specs.declared.Lengths.{Lengths}
use Rattle.store.specs.Store.{Store, work_part}
use Rattle.store.specs.Lent.{lengths_of, NoShorter, join_stores}
use Rattle.walk.specs.Walk.{State, damaged, going, walk}
use Rattle.walk.specs.Answer.{answer}
use Rattle.walk.specs.StoreView.{live_in, store_view}
use Rattle.curator.specs.declared.CuratorIndex.{CuratorIndex}
use Rattle.settings.specs.declared.refusal.Refusal.{Refusal}
use Rattle.settings.specs.declared.refusal.Refusal.TheVariants as Refusal'
use Rattle.settings.specs.declared.refusal.StoreRefusal.TheVariants as StoreRefusal'
use Rattle.curator.specs.Limits.{index_shape}
use Rattle.curator.specs.Changes.{Creates}
use Rattle.curator.specs.Searches.{SearchEnd, wanted_of, Searches, SearchesBy, search_check, WalkedTo}
use Rattle.curator.specs.Arguments.{SearchCall}
use Rattle.runs.specs.Calls.{Change, Call, change, search, Typed, TypedCall, AllTyped}
use Rattle.runs.specs.Model.{Setting}
use Rattle.runs.specs.Run.{Ended, changed, found, next_index, Step, RunFrom, done, next, Run}
use Rattle.store.specs.Fronts.{front_of, rest_of, front_rest, front-lent, join_lengths, no_lengths, add_lengths, both-fit, same-fit, zeros}
use Rattle.runs.proofs.Reached.{change_laws}
use Rattle.curator.specs.OutcomeLaws.{is-search_refused, is_found}

-- ---- every search has an outcome

pub record SearchOutcome (index : CuratorIndex) (store : Store) (work : List ℕ) (call : SearchCall) : Type 0 where
  pub end : SearchEnd
  pub searches : Searches index store work call end

walked_by : (test : ℕ → Bool) (index : CuratorIndex) (work : List ℕ) (call : SearchCall) (state : State) → (end : SearchEnd) × WalkedTo state test index work call end
unfolding WalkedTo
walked_by test index work call damaged =
    let w = freed 0 (work_part (index_shape index) ∷ []) work in (
      record { answer = Err (Refusal'.Store StoreRefusal'.Damaged); work = w.0; ids = call.ids; distances = call.distances },
      record { answer = is-search_refused _ _ refl; work = w.1; ids = refl; distances = refl },
    )
walked_by test index work call (going p) =
    let w = freed 0 (work_part (index_shape index) ∷ []) work in
    let a = answer test call.k p in (
      record { answer = Ok (record { hits = length a.ids; opened = a.opened; whole = a.complete }); work = w.0; ids = sets call.ids 0 a.ids; distances = sets call.distances 0 a.distances },
      record { answer = is_found _ _ _ _ refl; work = w.1; ids = refl; distances = refl },
    )

search_by : (index : CuratorIndex) (store : Store) (work : List ℕ) (call : SearchCall) (c : Result ⊤ Refusal) → (end : SearchEnd) × SearchesBy c index store work call end
unfolding SearchesBy
search_by index store work call (Err r) =
    (record { answer = Err r; work = work; ids = call.ids; distances = call.distances }, record { answer = is-search_refused r (Err r) refl; work = refl; ids = refl; distances = refl })
search_by index store work call (Ok _) =
    let view = store_view (index_shape index) index.counts store (normalized call.question.query) (wanted_of call.question.asked) in
    let r = walked_by (live_in (index_shape index) index.counts store) index work call (walk view index.params.ef_search) in
    (r.0, record { query = normalized call.question.query; normalized = normalized-holds call.question.query; walked = r.1 })

pub search-outcome : (index : CuratorIndex) (store : Store) (work : List ℕ) (call : SearchCall) → SearchOutcome index store work call
unfolding Searches
search-outcome index store work call = let r = search_by index store work call (search_check index store work call) in record { end = r.0; searches = r.1 }

-- ---- every step

abbrev pub fronts_of : Call → Lengths
fronts_of (change fronts work c) = fronts
fronts_of (search fronts work call) = fronts

-- 'A call may be lent only the front of a list': no more than the list has
abbrev pub AllFit : Lengths → List Call → Type 0
AllFit lengths [] = Unit {0}
AllFit lengths (call ∷ calls) = NoShorter (fronts_of call) lengths × AllFit lengths calls

-- a step, and the lists keep their lengths
pub record StepOutcome (index : CuratorIndex) (store : Store) (call : Call) : Type 0 where
  pub end : Ended
  pub index' : CuratorIndex
  pub store' : Store
  pub step : Step index store call end index' store'
  pub lengths : lengths_of store ≡ lengths_of store'

change-outcome : (index : CuratorIndex) (store : Store) (fronts : Lengths) (work : List ℕ) (c : Change) → Typed c → NoShorter fronts (lengths_of store)
    → StepOutcome index store (change fronts work c)
unfolding Step
change-outcome index store fronts work c t f =
    let front = front_of fronts store in
    let rest = rest_of fronts store in
    let r = (change_laws c).outcome index front work in
    record {
      end = changed r.answer;
      index' = next_index index r.answer;
      store' = join_stores r.store' rest;
      step =
          record {
            front = front;
            rest = rest;
            front' = r.store';
            work' = r.work';
            answer = r.answer;
            whole = front_rest fronts store;
            lent = front-lent fronts store f;
            typed = t;
            changes = r.changes;
            ended = refl;
            index_next = refl;
            store_next = refl;
          };
      lengths =
          ap lengths_of (front_rest fronts store)
          ∙ join_lengths front r.store' rest ((change_laws c).lengths index front work r.answer r.store' r.work' r.changes);
    }

found-outcome : (index : CuratorIndex) (store : Store) (fronts : Lengths) (work : List ℕ) (call : SearchCall) → NoShorter fronts (lengths_of store)
    → StepOutcome index store (search fronts work call)
unfolding Step
found-outcome index store fronts work call f =
    let r = search-outcome index (front_of fronts store) work call in
    record {
      end = found r.end;
      index' = index;
      store' = store;
      step =
          record {
            front = front_of fronts store;
            rest = rest_of fronts store;
            ended_search = r.end;
            whole = front_rest fronts store;
            lent = front-lent fronts store f;
            searches = r.searches;
            ended = refl;
            index_next = refl;
            store_next = refl;
          };
      lengths = refl;
    }

pub step-outcome : (index : CuratorIndex) (store : Store) (call : Call) → TypedCall call → NoShorter (fronts_of call) (lengths_of store)
    → StepOutcome index store call
step-outcome index store (change fronts work c) t f = change-outcome index store fronts work c t f
step-outcome index store (search fronts work call) t f = found-outcome index store fronts work call f

-- ---- every run

pub run_from : (index : CuratorIndex) (store : Store) (calls : List Call) → AllTyped calls → AllFit (lengths_of store) calls
    → (ends : List Ended) × RunFrom index store calls ends
run_from index store [] t f = ([], done)
run_from index store (call ∷ calls) t f =
    let o = step-outcome index store call t.0 f.0 in
    let r = run_from o.index' o.store' calls t.1 (subst (λ (n : Lengths). AllFit n calls) o.lengths f.1) in
    (o.end ∷ r.0, next o.step r.1)

-- from any lists of which no call is lent more than they have
pub run_exists : (s : Setting) (index : CuratorIndex) → Creates s.dimension s.params s.capacities (Ok index) → (store : Store) (calls : List Call)
    → AllTyped calls → AllFit (lengths_of store) calls → (ends : List Ended) × Run s calls ends
run_exists s index e store calls t f =
    let r = run_from index store calls t f in
    (r.0, record { index = index; accepted = e; store = store; run = r.1 })

-- lists that are long enough: as long as all that is lent together
abbrev lent_in_all : List Call → Lengths
lent_in_all [] = no_lengths
lent_in_all (call ∷ calls) = add_lengths (fronts_of call) (lent_in_all calls)

all_fit : (calls : List Call) (lengths : Lengths) → NoShorter (lent_in_all calls) lengths → AllFit lengths calls
all_fit [] lengths f = tt
all_fit (call ∷ calls) lengths f = let (one, others) = both-fit (fronts_of call) (lent_in_all calls) lengths f in (one, all_fit calls lengths others)

-- Every list of calls has a run, for every setting that `new` accepts; that document ids are u32s is by the type of the argument.
pub every-run : (s : Setting) (index : CuratorIndex) → Creates s.dimension s.params s.capacities (Ok index) → (calls : List Call) → AllTyped calls
    → (ends : List Ended) × Run s calls ends
every-run s index e calls t =
    let n = lent_in_all calls in
    let (store, is) = zeros n in
    run_exists s index e store calls t (all_fit calls (lengths_of store) (same-fit n (lengths_of store) (sym is)))
