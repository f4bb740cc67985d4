-- A record that the code carries out comes to what the model says: each call is a step of a run (crates/runs), so it is refused alike, or answered alike,
-- and state and store go on standing for the model.
use Prim.Native.Nat.{ℕ, zero, suc, ◌≤◌, ◌<◌}
use Rattle.std.proofs.Common.{zero-add, arith, ap₂, ◌∙◌}
use Rattle.std.specs.Prelude.{Bool, true, false, cond, ◌≡◌, refl, ltb, Float, get_or, Result, Ok, Err, Option, Some, None, ⊤}
use mathlib.Core.List.{List, [], ◌++◌, append-nil}
use Rattle.std.proofs.Math.Path.{sym, ap, subst}
use Rattle.std.specs.Float.{nan, binary32}
use Rattle.std.specs.Float.Ieee.{to_bits}
use Rattle.std.proofs.Math.ListN.{length, take, length-take, length-map}
use Rattle.std.proofs.lemmas.List.{length-replicate}
use Rattle.std.proofs.lemmas.List.Edits.{sets}
use Rattle.lists.specs.Lists.{count_from}
use Rattle.lists.specs.Counting.{joined_congr, Memᴰ-count_from}
use Rattle.lists.specs.Parts.{get_d_sets_in}
use Rattle.store.specs.declared.Lengths.{Lengths}
use Rattle.store.specs.Store.{Store, work_size}
use Rattle.store.specs.Lent.{lengths_of}
use Rattle.walk.specs.Walk as walk
use Rattle.walk.specs.Walk.{State, damaged, going}
use Rattle.walk.specs.Answer.{answer, ranked, document_of, distance_of}
use Rattle.curator.specs.declared.CuratorIndex.{CuratorIndex}
use Rattle.settings.specs.Given.{params_of}
use Rattle.settings.specs.declared.CuratorParams.{CuratorParams}
use Rattle.walk.specs.declared.Searched.{Searched}
use Rattle.settings.specs.declared.refusal.Refusal.{Refusal}
use Rattle.settings.specs.declared.refusal.Refusal.TheVariants.{Settings, Input}
use Rattle.settings.specs.declared.refusal.SettingsRefusal.TheVariants.{InvalidConfig}
use Rattle.settings.specs.declared.refusal.InputRefusal.TheVariants.{SettingsOrder}
use Rattle.curator.specs.Outcome.{changed_number}
use Rattle.settings.specs.Refusals.{number, check_number}
use Rattle.curator.proofs.RowLaws.{number-positive, creates-is}
use Rattle.curator.specs.Changes.{Creates}
use Rattle.curator.specs.Arguments.{AddCall, SearchCall, Asked, everything, labelled}
use Rattle.curator.specs.Searches.{Searches}
use Rattle.runs.specs.Calls.{Change, add, build, change, search, Alike}
use Rattle.runs.specs.Model.{Setting, Model, empty_model, change_check, changed_by, model_search_check, model_walk, Expected, returns, answers, row_live, answered, searched_by, expected, after}
use Rattle.runs.specs.Run.{found, Lent, next_index, Changes, SearchStep}
use Rattle.runs.specs.Theorem.{AnsweredWith, reply_of, Matches}
use Rattle.store.specs.Fronts.{nothing, join_nothing}
use Rattle.runs.proofs.State.{Allowed, created-is}
use Rattle.runs.proofs.Refusals.{SearchRoom, search-room}
use Rattle.runs.proofs.Invariant.{Invariant, begins}
use Rattle.runs.proofs.ChangeLaws.{ChangeEnds}
use Rattle.runs.proofs.Builds.{build-lengths}
use Rattle.runs.proofs.Reached.{change-keeps, search-step}
use Rattle.runs.proofs.Contents.{alike-expected}
use Rattle.echo_file.specs.Format.{FileRecord, settings, vector, filtered, unfiltered}
use Rattle.text.specs.Lines.{hit_lines, hit_line_at, hit_line, closing_line, refused_line}
use Rattle.load.specs.declared.carry.Carried.{Carried}
use Rattle.load.specs.declared.carry.Carried.TheVariants.{Refused, Silent, Answered}
use Rattle.load.specs.declared.LoadStep.TheVariants.{Next}
use Rattle.load.specs.File as file
use Rattle.load.specs.File.{FileProgress, unset, running, Outcome, stops, printed, largest, fronts, capacities, answer_places, search_call, adding_calls, searching, refused_text, answer_text, before, called, outcome_of, opened, carried}
use Rattle.load.specs.Step as step
use Rattle.load.specs.Step.{opened_by, added_by, found_by, AddsVector, SearchesBuilt, AfterBuild, search_with, search_end, CarriesOut, carried_text, step_of}
use Rattle.load.specs.Theorem.{Sized}
use Rattle.curator.specs.OutcomeLaws.{found-is}

-- state and store stand for what the model says of the file so far
abbrev pub StandsAs : FileProgress → Option CuratorIndex → Store → Type 0
StandsAs unset None store = Unit {0}
StandsAs unset (Some index) store = ⊥
StandsAs (running s m) None store = ⊥
StandsAs (running s m) (Some index) store = Allowed s × Invariant s m index store

-- a record came to what the model says: refused with the same text, or the same text and what stands for the model after it
abbrev pub Agrees : Outcome → ℕ → Carried → step.LoadLists → Type 0
Agrees (stops text) next carried lent = (q : Refusal) × (carried ≡ Refused q) × (refused_text q ≡ text)
Agrees (printed text progress) next carried lent =
    (loading : Option CuratorIndex) × ((n : ℕ) → step_of carried n ≡ Next loading next n) × (carried_text carried lent.ids lent.distances ≡ text) × StandsAs progress loading lent.store

-- ---- whole lists are lent

-- a change of the whole lists
change-whole : (s : Setting) → Allowed s → (m : Model) (index : CuratorIndex) (lent : step.LoadLists) → Sized lent → (work work' : List ℕ) (store' : Store) (what : Change) (answer : Result CuratorIndex Refusal)
    → Invariant s m index lent.store → Changes what index lent.store work answer store' work'
    → ChangeEnds s m fronts (length work) what answer (next_index index answer) store'
change-whole s allowed m index lent z work work' store' what answer inv by =
    subst (λ (n : Lengths). ChangeEnds s m n (length work) what answer (next_index index answer) store') z.store
    (subst (ChangeEnds s m (lengths_of lent.store) (length work) what answer (next_index index answer)) (sym (join_nothing store'))
    (change-keeps s allowed m index work work' lent.store nothing store' what answer (subst (Invariant s m index) (join_nothing lent.store) inv) by))

-- ---- settings

open_by : (b : Bool) (index : CuratorIndex) (d : ℕ) (params : CuratorParams) (next : ℕ) (c : Carried) (lent : step.LoadLists)
    → Creates d params capacities (Ok index)
    → c ≡ cond b (Refused (Settings InvalidConfig)) (Silent (Some index) next)
    → Agrees (cond b (stops (refused_text (Settings InvalidConfig))) (printed [] (running (record { dimension = d; params = params; capacities = capacities }) empty_model))) next c lent
open_by true index d params next c lent e k = (Settings InvalidConfig, k, refl)
open_by false index d params next c lent e k =
    let s : Setting = record { dimension = d; params = params; capacities = capacities } in
    let accepted = created-is s index e in (
      Some index,
      (λ n. ap (λ (x : Carried). step_of x n) k),
      ap (λ (x : Carried). carried_text x lent.ids lent.distances) k,
      (accepted.1, begins s index lent.store accepted.0),
    )

open_agrees : (answer : Result CuratorIndex Refusal) (d : ℕ) (params : CuratorParams) (next : ℕ) (c : Carried) (lent : step.LoadLists) → Creates d params capacities answer
    → c ≡ opened_by answer d next → Agrees (opened answer d params) next c lent
unfolding opened
open_agrees (Err r) d params next c lent e k = (r, k, refl)
open_agrees (Ok index) d params next c lent e k = open_by (ltb 16 d) index d params next c lent e k

-- ---- a vector

no_number : {C : Type 0} (r : Refusal) → 0 ≡ number r → C
no_number r e = absurd (omega (arith, number-positive r, e))

-- a call that returned a number other than 0 ends the file
refused_called : (n : ℕ) (later : Outcome) → 0 < n → called (returns n) later ≡ stops (refused_line n)
unfolding called
refused_called zero later h = absurd (omega (arith, h))
refused_called (suc n) later h = refl

module _ (s : Setting) (allowed : Allowed s) (index : CuratorIndex) where
  add_by : (m' : Model) (next : ℕ) (c : Carried) (lent : step.LoadLists) (n : ℕ) (answer : Result CuratorIndex Refusal) → changed_number answer ≡ n
      → Invariant s m' (next_index index answer) lent.store → c ≡ added_by answer next → Agrees (called (returns n) (printed [] (running s m'))) next c lent
  unfolding called next_index refused_text
  add_by m' next c lent (suc n) (Ok i) e inv k = absurd (omega (arith, e))
  add_by m' next c lent (suc n) (Err q) e inv k = (q, k, ap refused_line e)
  add_by m' next c lent zero (Err q) e inv k = no_number q (sym e)
  add_by m' next c lent zero (Ok i) e inv k =
      (Some i, (λ n. ap (λ (x : Carried). step_of x n) k), ap (λ (x : Carried). carried_text x lent.ids lent.distances) k, (allowed, inv))

  add_agrees : (m : Model) (call : AddCall) (next : ℕ) (lent : step.LoadLists) (c : Carried) (lent' : step.LoadLists) → Sized lent → Invariant s m index lent.store
      → AddsVector index call next lent c lent' → Agrees (outcome_of s m (adding_calls call)) next c lent'
  unfolding outcome_of expected after
  add_agrees m call next lent c lent' z inv a =
      let k = change-whole s allowed m index lent z [] [] lent'.store (add call) a.answer inv a.adds in
      add_by (after s m (change fronts [] (add call))) next c lent' (check_number (change_check s m fronts 0 (add call))) a.answer k.number_is k.invariant a.comes

-- ---- a search

-- the hits stand in front in the answer lists
get_d_front : {A : Type 0} (l vs : List A) (k : ℕ) (d : A) → k < length vs → length vs ≤ length l → get_or (sets l 0 vs) k d ≡ get_or vs k d
get_d_front l vs k d h g =
    ap (λ (n : ℕ). get_or (sets l 0 vs) n d) (sym (zero-add k)) ∙ get_d_sets_in l 0 vs k d h (omega (arith, g))

lines_in_front : (ids : List ℕ) (distances : List Float) (newIds : List ℕ) (newDistances : List Float) → length newDistances ≡ length newIds
    → length newIds ≤ length ids → length newIds ≤ length distances
    → hit_lines (sets ids 0 newIds) (sets distances 0 newDistances) (length newIds) ≡ hit_lines newIds newDistances (length newIds)
unfolding hit_lines hit_line_at
lines_in_front ids distances newIds newDistances e p q =
    joined_congr (hit_line_at (sets ids 0 newIds) (sets distances 0 newDistances)) (hit_line_at newIds newDistances) (count_from 0 (length newIds))
    (λ i k. let below : i < length newIds = (let b = (Memᴰ-count_from i 0 (length newIds) k).1 in omega (arith, b)) in
    ap₂ (λ (id : ℕ) (d : Float). hit_line id (to_bits binary32 d)) (get_d_front ids newIds i 0 below p)
    (get_d_front distances newDistances i nan (omega (arith, below, e)) (omega (arith, q, e))))

module _ (s : Setting) (allowed : Allowed s) (m : Model) (index : CuratorIndex) (next : ℕ) (c : Carried) where
  answer_by_lem : (w : walk.Progress) (call : SearchCall) (lent : step.LoadLists) (reply : Result Searched Refusal) → call.k ≤ length call.ids → call.k ≤ length call.distances
      → AnsweredWith (found (search_end reply lent)) (reply_of (answer (row_live m) call.k w) call) → c ≡ found_by index reply next
      → Invariant s m index lent.store → Agrees (called (answers (answer (row_live m) call.k w)) (printed [] (running s m))) next c lent
  unfolding called before answer answer_text
  answer_by_lem w call lent reply p q h k inv =
      let a = answer (row_live m) call.k w in
      let hits = take call.k (ranked (row_live m) w) in
      let is : c ≡ Answered index next (length a.ids) a.opened a.complete = k ∙ ap (λ (x : Result Searched Refusal). found_by index x next) (found-is _ _ _ _ h.0) in
      let few : length a.ids ≤ call.k = omega (arith, length-map hits document_of, length-take call.k (ranked (row_live m) w)) in
      let same : length a.distances ≡ length a.ids = length-map hits distance_of ∙ sym (length-map hits document_of) in (
        Some index,
        (λ n. ap (λ (x : Carried). step_of x n) is),
        ap (λ (x : Carried). carried_text x lent.ids lent.distances) is
            ∙ ap (λ (t : List ℕ). t ++ closing_line a.complete a.opened)
            (ap₂ (λ (i : List ℕ) (d : List Float). hit_lines i d (length a.ids)) h.1 h.2
            ∙ lines_in_front call.ids call.distances a.ids a.distances same (omega (arith, few, p)) (omega (arith, few, q)))
            ∙ sym (append-nil (answer_text a)),
        (allowed, inv),
      )

  search_by : (check : Result ⊤ Refusal) (w : State) (call : SearchCall) (lent : step.LoadLists) (work : List ℕ) (reply : Result Searched Refusal)
      → (check ≡ Ok tt → (call.k ≤ length call.ids) × (call.k ≤ length call.distances))
      → Matches (searched_by m check call.k w) (search fronts work call) (found (search_end reply lent)) → c ≡ found_by index reply next
      → Invariant s m index lent.store → Agrees (called (searched_by m check call.k w) (printed [] (running s m))) next c lent
  unfolding searched_by answered refused_text
  search_by (Ok _) damaged call lent work reply room h k inv = absurd h
  search_by (Ok _) (going p) call lent work reply room h k inv = answer_by_lem p call lent reply (room refl).0 (room refl).1 h k inv
  search_by (Err r) w call lent work (Ok s) room h k inv = no_number r h.0
  search_by (Err r) w call lent work (Err q) room h k inv =
      subst (λ (o : Outcome). Agrees o next c lent) (sym (refused_called (number r) (printed [] (running s m)) (number-positive r))) (q, k, ap refused_line h.0)

-- a search with the lists that the code lends, and the file's: alike
module _ (s : Setting) (m : Model) (k : ℕ) (asked : Asked) (patterns : List ℕ) (lent : step.LoadLists) (z : Sized lent) where
  abbrev brought : SearchCall
  brought = search_with (file.floats patterns) k asked lent

  brought-alike : (work : List ℕ) → length work ≡ work_size largest → Alike (search fronts work brought) (search fronts file.work (search_call k asked patterns))
  brought-alike work e = (
    refl,
    e ∙ sym (length-replicate {A = ℕ} (work_size largest) 0),
    record {
      question = refl;
      k = refl;
      ids = z.ids ∙ sym (length-replicate {A = ℕ} answer_places 0);
      distances = z.distances ∙ sym (length-replicate answer_places nan);
    },
  )

  search_agrees : (index : CuratorIndex) (next : ℕ) (c : Carried) (lent' : step.LoadLists) (work : List ℕ) (reply : Result Searched Refusal) → Allowed s → Lent fronts lent'.store
      → length work ≡ work_size largest
      → Invariant s m index lent'.store → Searches index lent'.store work brought (search_end reply lent') → c ≡ found_by index reply next
      → Agrees (called (expected s m (search fronts file.work (search_call k asked patterns))) (printed [] (running s m))) next c lent'
  unfolding expected
  search_agrees index next c lent' work reply allowed sizes w inv by comes =
      let st : SearchStep index lent'.store fronts work brought (found (search_end reply lent')) index lent'.store =
      record {
        front = lent'.store;
        rest = nothing;
        ended_search = search_end reply lent';
        whole = join_nothing lent'.store;
        lent = sizes;
        searches = by;
        ended = refl;
        index_next = refl;
        store_next = refl;
      } in
      let r = search-step s allowed m index lent'.store inv fronts work brought (found (search_end reply lent')) index lent'.store st in
      let check = model_search_check s m fronts (length work) brought in
      subst (λ (x : Expected). Agrees (called x (printed [] (running s m))) next c lent')
      (alike-expected s m (search fronts work brought) (search fronts file.work (search_call k asked patterns)) (brought-alike work w))
      (search_by s allowed m index next c check (model_walk s m brought.question) brought lent' work reply
      (λ e. let room : SearchRoom s m fronts brought = search-room s m fronts (length work) brought e in (room.ids, room.distances))
      r.0 comes inv)

-- a build, and the search after it
module _ (s : Setting) (allowed : Allowed s) (index : CuratorIndex) (k : ℕ) (asked : Asked) (patterns : List ℕ) (next : ℕ) (c : Carried)
    (lent lent' : step.LoadLists) (z : Sized lent) where
  build_by : (m' : Model) (n : ℕ) (answer : Result CuratorIndex Refusal) (work : List ℕ) → changed_number answer ≡ n → Invariant s m' (next_index index answer) lent'.store
      → Lent fronts lent'.store → length work ≡ work_size largest
      → AfterBuild answer work (search_with (file.floats patterns) k asked) next lent c lent'
      → Agrees (called (returns n) (called (expected s m' (search fronts file.work (search_call k asked patterns))) (printed [] (running s m')))) next c lent'
  unfolding called next_index refused_text
  build_by m' (suc n) (Ok i) work e inv sizes w by = absurd (omega (arith, e))
  build_by m' (suc n) (Err q) work e inv sizes w by = (q, by.0, ap refused_line e)
  build_by m' zero (Err q) work e inv sizes w by = no_number q (sym e)
  build_by m' zero (Ok i) work e inv sizes w by =
      search_agrees s m' k asked patterns lent z i next c lent' work by.0 allowed sizes w inv by.1 by.2

  build_agrees : (m : Model) → Invariant s m index lent.store → SearchesBuilt index (search_with (file.floats patterns) k asked) next lent c lent'
      → Agrees (outcome_of s m (searching (search_call k asked patterns))) next c lent'
  unfolding outcome_of expected after
  build_agrees m inv a =
      let ends = change-whole s allowed m index lent z lent.work a.work lent'.store build a.answer inv a.builds in
      let same = build-lengths index lent.store lent.work a.answer lent'.store a.work a.builds in
      let sizes : Lent fronts lent'.store = sym same.0 ∙ z.store in
      let w : length lent.work ≡ length file.work = z.work ∙ sym (length-replicate {A = ℕ} (work_size largest) 0) in
      let check : ℕ → Result ⊤ Refusal = λ n. change_check s m fronts n build in
      subst (λ (n : ℕ). Agrees (called (returns (check_number (check n))) (called (expected s (changed_by (check n) build m) (search fronts file.work (search_call k asked patterns)))
      (printed [] (running s (changed_by (check n) build m))))) next c lent') w
      (build_by (changed_by (check (length lent.work)) build m) (check_number (check (length lent.work))) a.answer a.work ends.number_is ends.invariant sizes (sym same.1 ∙ z.work) a.searches)

-- ---- every record

pub record_agrees : (progress : FileProgress) (loading : Option CuratorIndex) (r : FileRecord) (next : ℕ) (lent : step.LoadLists) (c : Carried) (lent' : step.LoadLists) → Sized lent
    → StandsAs progress loading lent.store → CarriesOut loading r next lent c lent' → Agrees (carried progress r) next c lent'
unfolding carried
record_agrees unset None (settings d b l e w) next lent c lent' z h out =
    let params = params_of b l e w in
    let o = out.0 in
    subst (λ (answer : Result CuratorIndex Refusal). Agrees (opened answer d params) next c lent') (creates-is d params capacities o.answer o.creates)
    (open_agrees o.answer d params next c lent' o.creates o.comes)
record_agrees unset None (vector document labels patterns) next lent c lent' z h out = (Input SettingsOrder, out.0, refl)
record_agrees unset None (filtered k label patterns) next lent c lent' z h out = (Input SettingsOrder, out.0, refl)
record_agrees unset None (unfiltered k patterns) next lent c lent' z h out = (Input SettingsOrder, out.0, refl)
record_agrees unset (Some index) r next lent c lent' z h out = absurd h
record_agrees (running s m) None r next lent c lent' z h out = absurd h
record_agrees (running s m) (Some index) (settings d b l e w) next lent c lent' z h out = (Input SettingsOrder, out.0, refl)
record_agrees (running s m) (Some index) (vector document labels patterns) next lent c lent' z h out =
    add_agrees s h.0 index m (file.add_call document labels patterns) next lent c lent' z h.1 out
record_agrees (running s m) (Some index) (filtered k label patterns) next lent c lent' z h out =
    build_agrees s h.0 index k (labelled label) patterns next c lent lent' z m h.1 out
record_agrees (running s m) (Some index) (unfiltered k patterns) next lent c lent' z h out =
    build_agrees s h.0 index k everything patterns next c lent lent' z m h.1 out
