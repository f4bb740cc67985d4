-- Laws of a step: the hits of an answer stand in the answer lists, and no call changes the dimension.
use Rattle.std.specs.Prelude.{ℕ, ◌≤◌, Bool, true, false, cond, List, ◌∷◌, ◌≡◌, refl, ltb, leb, length, take, drop, Result, Ok, Err, Option, Some, None, ⊤}
use Rattle.std.proofs.Common.{arith, sym, ap, ◌∙◌, subst, ltb-false, length-take}
use Rattle.std.proofs.lemmas.List.{length-map}
use Rattle.std.proofs.Math.Seq.{length-sets}
use Rattle.lists.specs.Tests.{or_left, or_right}
use Rattle.store.specs.Store.{Store}
use Rattle.walk.specs.Walk.{State, damaged, going}
use Rattle.walk.specs.Answer.{answer, ranked, document_of}
use Rattle.curator.specs.declared.CuratorIndex.{CuratorIndex}
use Rattle.settings.specs.Given.{params_of}
use Rattle.walk.specs.declared.Searched.{Searched}
use Rattle.settings.specs.declared.CuratorParams.{CuratorParams}
use Rattle.settings.specs.declared.refusal.Refusal.{Refusal}
use Rattle.settings.specs.declared.refusal.Refusal.TheVariants.{Settings, Input}
use Rattle.settings.specs.declared.refusal.SettingsRefusal.TheVariants.{InvalidConfig}
use Rattle.settings.specs.declared.refusal.InputRefusal.TheVariants.{BadRecord, SettingsOrder, FileTooLong}
use Rattle.curator.specs.Rows.{state_row, search_rows}
use Rattle.curator.proofs.RowLaws.{fine_none}
use Rattle.curator.specs.Calls.{facts_of}
use Rattle.store.specs.Lent.{lengths_of}
use Rattle.curator.specs.Limits.{state_sound}
use Rattle.curator.specs.Changes.{Adds, AddsBy, add_check, Builds, BuildsBy, BuildsFine, build_check, Creates}
use Rattle.curator.specs.Arguments.{AddCall, everything, labelled, SearchCall, asking_of}
use Rattle.curator.specs.Searches.{SearchEnd, Searches, SearchesBy, search_check, WalkedTo}
use Rattle.runs.proofs.State.{created-is}
use Rattle.echo_file.specs.Format as format
use Rattle.echo_file.specs.Decode.{Decoded, none, found, decode}
use Rattle.load.specs.declared.carry.Carried.{Carried}
use Rattle.load.specs.declared.carry.Carried.TheVariants.{End, Refused, Silent, Answered}
use Rattle.load.specs.File.{capacities, floats, add_call}
use Rattle.load.specs.Step.{LoadLists, known, opened_by, added_by, found_by, SearchesBuilt, AfterBuild, search_with, search_end, CarriesOut, CarriesRead, CarriesAt, Carries, step_of}
use Rattle.load.specs.Code.{Narrow, NarrowStep, HitsFit}
use Rattle.curator.specs.OutcomeLaws.{search_refused_is, carried-is, refused_is, found-is}

-- ---- the hits of an answer

not_hits : {C : Type 0} {r : Refusal} {s : Searched} → ◌≡◌ {A = Result Searched Refusal} (Err r) (Ok s) → C
not_hits e = absurd (let z : ◌≡◌ {A = ℕ} 0 1 = cc in omega arith)

-- both answer lists have k places
room_of : (index : CuratorIndex) (store : Store) (work : List ℕ) (call : SearchCall) → search_check index store work call ≡ Ok tt
    → (call.k ≤ length call.ids) × (call.k ≤ length call.distances)
unfolding search_check search_rows
room_of index store work call e =
    let none = fine_none
    (state_row (state_sound index)
    ∷ search_rows (facts_of index) (lengths_of store) (length work) (asking_of call)) e in
    let few = ltb (length call.ids) call.k in
    let fewer = ltb (length call.distances) call.k in
    let row = none.1.1.1.1.1.0 in
    (ltb-false (length call.ids) call.k (or_left few fewer row), ltb-false (length call.distances) call.k (or_right few fewer row))

walked-fits : (w : State) (test : ℕ → Bool) (index : CuratorIndex) (work : List ℕ) (call : SearchCall) (end : SearchEnd) → call.k ≤ length call.ids
    → call.k ≤ length call.distances
    → WalkedTo w test index work call end → (s : Searched) → end.answer ≡ Ok s
    → (s.hits ≤ length end.ids) × (s.hits ≤ length end.distances)
unfolding WalkedTo answer
walked-fits damaged test index work call end p q h s e = not_hits (sym (search_refused_is _ _ h.answer) ∙ e)
walked-fits (going w) test index work call end p q h s e =
    let hits = take call.k (ranked test w) in
    let a = answer test call.k w in
    let is : length a.ids ≡ s.hits = ap hits_of (sym (found-is _ _ _ _ h.answer) ∙ e) in
    let few : length a.ids ≤ call.k = omega (arith, length-map hits document_of, length-take call.k (ranked test w)) in
    let i = ap length h.ids ∙ length-sets call.ids 0 a.ids in
    let d = ap length h.distances ∙ length-sets call.distances 0 a.distances in
    (omega (arith, p, is, few, i), omega (arith, q, is, few, d))
  where
    hits_of : Result Searched Refusal → ℕ
    hits_of (Ok s) = s.hits
    hits_of (Err r) = 0

searched_fits : (c : Result ⊤ Refusal) (index : CuratorIndex) (store : Store) (work : List ℕ) (call : SearchCall) (end : SearchEnd)
    → (c ≡ Ok tt → (call.k ≤ length call.ids) × (call.k ≤ length call.distances))
    → SearchesBy c index store work call end → (s : Searched) → end.answer ≡ Ok s
    → (s.hits ≤ length end.ids) × (s.hits ≤ length end.distances)
unfolding SearchesBy
searched_fits (Ok _) index store work call end room h s e =
    walked-fits _ _ index work call end (room refl).0 (room refl).1 h.walked s e
searched_fits (Err r) index store work call end room h s e = not_hits (sym (search_refused_is _ _ h.answer) ∙ e)

found-fits : (index : CuratorIndex) (store : Store) (work : List ℕ) (call : SearchCall) (lent : LoadLists) (next : ℕ) (i : CuratorIndex) (reply : Result Searched Refusal)
    → Searches index store work call (search_end reply lent) → HitsFit (found_by i reply next) lent.ids lent.distances
unfolding Searches
found-fits index store work call lent next i (Err r) h = tt
found-fits index store work call lent next i (Ok s) h =
    searched_fits (search_check index store work call) index store work call (search_end (Ok s) lent)
    (room_of index store work call) h s refl

-- ---- the dimension

abbrev NarrowChanged : Result CuratorIndex Refusal → Type 0
NarrowChanged (Ok index) = index.dimension ≤ 16
NarrowChanged (Err r) = Unit {0}

abbrev NarrowCarried : Carried → Type 0
NarrowCarried End = Unit {0}
NarrowCarried (Refused r) = Unit {0}
NarrowCarried (Silent loading next) = Narrow loading
NarrowCarried (Answered index next count opened complete) = index.dimension ≤ 16

narrow-adds : (c : Result ⊤ Refusal) (index : CuratorIndex) (store : Store) (call : AddCall) (answer : Result CuratorIndex Refusal) (store' : Store) → index.dimension ≤ 16
    → AddsBy c index store call answer store' → NarrowChanged answer
unfolding AddsBy
narrow-adds (Ok _) index store call answer store' n h = subst NarrowChanged (sym (carried-is _ _ h.0)) n
narrow-adds (Err r) index store call answer store' n h = subst NarrowChanged (sym (refused_is r _ h.0)) tt

narrow_fine : (b : Bool) (index : CuratorIndex) (store : Store) (work : List ℕ) (answer : Result CuratorIndex Refusal) (store' : Store) (work' : List ℕ) → index.dimension ≤ 16
    → BuildsFine b index store work answer store' work' → NarrowChanged answer
unfolding BuildsFine
narrow_fine true index store work answer store' work' n h = subst NarrowChanged (sym (carried-is _ _ h.0)) n
narrow_fine false index store work answer store' work' n h = subst NarrowChanged (sym (carried-is _ _ h.0)) n

narrow-builds : (c : Result ⊤ Refusal) (index : CuratorIndex) (store : Store) (work : List ℕ) (answer : Result CuratorIndex Refusal) (store' : Store) (work' : List ℕ) → index.dimension ≤ 16
    → BuildsBy c index store work answer store' work' → NarrowChanged answer
unfolding BuildsBy
narrow-builds (Ok _) index store work answer store' work' n h = narrow_fine index.built index store work answer store' work' n h
narrow-builds (Err r) index store work answer store' work' n h = subst NarrowChanged (sym (refused_is r _ h.0)) tt

-- ---- what a record came to

-- it has both
pub record CarriedFit (carried : Carried) (lent : LoadLists) : Type 0 where
  pub hits : HitsFit carried lent.ids lent.distances
  pub narrow : NarrowCarried carried

refused_fit : (r : Refusal) (carried : Carried) (lent : LoadLists) → carried ≡ Refused r → CarriedFit carried lent
refused_fit r carried lent e = subst (λ (x : Carried). CarriedFit x lent) (sym e) (record { hits = tt; narrow = tt })

opened-fit : (x : Result CuratorIndex Refusal) (d : ℕ) (params : CuratorParams) (next : ℕ) (lent : LoadLists) → Creates d params capacities x → CarriedFit (opened_by x d next) lent
opened-fit (Err r) d params next lent e = record { hits = tt; narrow = tt }
opened-fit (Ok index) d params next lent e = by (ltb 16 d) refl
  where
    by : (b : Bool) → ltb 16 d ≡ b → CarriedFit (cond b (Refused (Settings InvalidConfig)) (Silent (Some index) next)) lent
    by true w = record { hits = tt; narrow = tt }
    by false w =
        let is = (created-is (record { dimension = d; params = params; capacities = capacities }) index e).0 in
        let same : index.dimension ≡ d = ap (λ (i : CuratorIndex). i.dimension) is in
        let h = ltb-false 16 d w in
        record { hits = tt; narrow = omega (arith, h, same) }

added-fit : (x : Result CuratorIndex Refusal) (next : ℕ) (lent : LoadLists) → NarrowChanged x → CarriedFit (added_by x next) lent
added-fit (Err r) next lent n = record { hits = tt; narrow = tt }
added-fit (Ok index) next lent n = record { hits = tt; narrow = n }

narrow-found : (index : CuratorIndex) (reply : Result Searched Refusal) (next : ℕ) → index.dimension ≤ 16 → NarrowCarried (found_by index reply next)
narrow-found index (Err r) next n = tt
narrow-found index (Ok s) next n = n

after-fit : (x : Result CuratorIndex Refusal) (work : List ℕ) (call : LoadLists → SearchCall) (next : ℕ) (lent : LoadLists) (carried : Carried) (lent' : LoadLists) → NarrowChanged x
    → AfterBuild x work call next lent carried lent' → CarriedFit carried lent'
after-fit (Err r) work call next lent carried lent' n h = refused_fit r carried lent' h.0
after-fit (Ok index) work call next lent carried lent' n h =
    subst (λ (x : Carried). CarriedFit x lent') (sym h.2)
    (record { hits = found-fits index lent'.store work (call lent) lent' next index h.0 h.1; narrow = narrow-found index h.0 next n })

built-fit : (index : CuratorIndex) (call : LoadLists → SearchCall) (next : ℕ) (lent : LoadLists) (carried : Carried) (lent' : LoadLists) → index.dimension ≤ 16
    → SearchesBuilt index call next lent carried lent' → CarriedFit carried lent'
unfolding Builds
built-fit index call next lent carried lent' n h =
    after-fit h.answer h.work call next lent carried lent'
    (narrow-builds (build_check index lent.store lent.work) index lent.store lent.work h.answer lent'.store h.work n h.builds) h.searches

out_fit : (loading : Option CuratorIndex) (r : format.FileRecord) (next : ℕ) (lent : LoadLists) (carried : Carried) (lent' : LoadLists) → Narrow loading
    → CarriesOut loading r next lent carried lent' → CarriedFit carried lent'
unfolding Adds
out_fit None (format.settings d b l e w) next lent carried lent' n h =
    subst (λ (x : Carried). CarriedFit x lent') (sym h.0.comes) (opened-fit h.0.answer d (params_of b l e w) next lent' h.0.creates)
out_fit None (format.vector document labels patterns) next lent carried lent' n h = refused_fit (Input SettingsOrder) carried lent' h.0
out_fit None (format.filtered k label patterns) next lent carried lent' n h = refused_fit (Input SettingsOrder) carried lent' h.0
out_fit None (format.unfiltered k patterns) next lent carried lent' n h = refused_fit (Input SettingsOrder) carried lent' h.0
out_fit (Some index) (format.settings d b l e w) next lent carried lent' n h = refused_fit (Input SettingsOrder) carried lent' h.0
out_fit (Some index) (format.vector document labels patterns) next lent carried lent' n h =
    subst (λ (x : Carried). CarriedFit x lent') (sym h.comes)
    (added-fit h.answer next lent'
    (narrow-adds (add_check index lent.store (add_call document labels patterns)) index lent.store (add_call document labels patterns) h.answer lent'.store n h.adds))
out_fit (Some index) (format.filtered k label patterns) next lent carried lent' n h =
    built-fit index (search_with (floats patterns) k (labelled label)) next lent carried lent' n h
out_fit (Some index) (format.unfiltered k patterns) next lent carried lent' n h =
    built-fit index (search_with (floats patterns) k everything) next lent carried lent' n h

read-fit : (d : Decoded format.FileRecord) (file : List ℕ) (at : ℕ) (loading : Option CuratorIndex) (lent : LoadLists) (carried : Carried) (lent' : LoadLists) → Narrow loading
    → CarriesRead d file at loading lent carried lent' → CarriedFit carried lent'
read-fit none file at loading lent carried lent' n h = refused_fit (Input BadRecord) carried lent' h.0
read-fit (found r rest) file at loading lent carried lent' n h = out_fit loading r h.0 lent carried lent' n h.4

at-fit : (long ended : Bool) (file : List ℕ) (at : ℕ) (loading : Option CuratorIndex) (lent : LoadLists) (carried : Carried) (lent' : LoadLists) → Narrow loading
    → CarriesAt long ended file at loading lent carried lent' → CarriedFit carried lent'
at-fit true ended file at loading lent carried lent' n h = refused_fit (Input FileTooLong) carried lent' h.0
at-fit false true file at loading lent carried lent' n h = subst (λ (x : Carried). CarriedFit x lent') (sym h.0) (record { hits = tt; narrow = tt })
at-fit false false file at loading lent carried lent' n h =
    read-fit (decode (known loading) (drop at file)) file at loading lent carried lent' n h

pub carries-fit : (file : List ℕ) (at : ℕ) (loading : Option CuratorIndex) (lent : LoadLists) (carried : Carried) (lent' : LoadLists) → Narrow loading
    → Carries file at loading lent carried lent' → CarriedFit carried lent'
carries-fit file at loading lent carried lent' n h =
    at-fit (ltb 65536 (length file)) (leb (length file) at) file at loading lent carried lent' n h

-- so the next step may begin
pub narrow_step : (carried : Carried) (lent : LoadLists) (n : ℕ) → CarriedFit carried lent → NarrowStep (step_of carried n)
narrow_step End lent n f = tt
narrow_step (Refused r) lent n f = tt
narrow_step (Silent loading next) lent n f = f.narrow
narrow_step (Answered index next count opened complete) lent n f = f.narrow
