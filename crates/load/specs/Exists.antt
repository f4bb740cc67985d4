-- The claim of Theorem.antt is not empty: every file has a chain of steps, whatever the store holds. For a record can be carried out whatever index and
-- lists there are (each call has an outcome: crates/runs/specs/Exists.antt), and a step after which the file goes on leaves fewer bytes of it.
use Rattle.std.specs.Prelude.{ℕ, zero, suc, ◌+◌, ◌-◌, ◌≤◌, ◌<◌, Bool, true, false, List, [], ◌≡◌, refl, ltb, leb, length, drop, replicate, Result, Ok, Err, Option, Some, None}
use Rattle.std.proofs.Common.{zero-add, arith, sym, ap, ◌∙◌, length-append, length-drop, length-take-le, drop-drop}
use Rattle.std.specs.Float.{nan}
use Rattle.std.proofs.lemmas.List.{length-replicate}
use Rattle.std.proofs.lemmas.List.Edits.{sets}
use Rattle.std.proofs.Math.Seq.{length-sets, drop-append_seam}
use Rattle.lists.specs.Lists.{joined}
use Rattle.store.specs.Store.{Store, work_size}
use Rattle.store.specs.Lent.{lengths_of, sizes_of}
use Rattle.settings.specs.Given.{params_of}
use Rattle.settings.specs.declared.CuratorParams.{CuratorParams}
use Rattle.curator.specs.declared.CuratorIndex.{CuratorIndex}
use Rattle.settings.specs.declared.refusal.Refusal.{Refusal}
use Rattle.settings.specs.declared.refusal.Refusal.TheVariants.{Input}
use Rattle.settings.specs.declared.refusal.InputRefusal.TheVariants.{BadRecord, SettingsOrder, FileTooLong}
use Rattle.curator.proofs.RowLaws.{is-created}
use Rattle.curator.specs.Changes.{created, Builds}
use Rattle.curator.specs.Arguments.{AddCall, SearchCall, everything, labelled}
use Rattle.store.specs.Fronts.{zeros}
use Rattle.runs.specs.Calls.{add, build}
use Rattle.runs.proofs.Reached.{change_laws}
use Rattle.runs.proofs.Exists.{search-outcome}
use Rattle.echo_file.specs.Format.{FileRecord, settings, vector, filtered, unfiltered, encode, Bytes}
use Rattle.echo_file.specs.FieldLaws.{bytes_drop}
use Rattle.echo_file.specs.Decode.{Decoded, none, found, decode}
use Rattle.echo_file.specs.DecodeLaws.{sound, rest_shorter}
use Rattle.text.specs.Lines.{Written}
use Rattle.load.specs.declared.carry.Carried.{Carried}
use Rattle.load.specs.declared.carry.Carried.TheVariants.{End, Refused}
use Rattle.load.specs.declared.LoadStep.{LoadStep}
use Rattle.load.specs.declared.LoadStep.TheVariants.{Ended, Next}
use Rattle.load.specs.File.{largest, answer_places, capacities, floats, add_call, file_text}
use Rattle.load.specs.Step.{LoadLists, known, opened_by, OpensIndex, added_by, found_by, search_with, AddsVector, SearchesBuilt, KeepsLists, CarriesOut, CarriesRead, CarriesAt, Steps, step_of, step_text}
use Rattle.load.specs.Onward.{Onward, steps_onward}
use Rattle.load.specs.Theorem.{Sized, Chain, last, more}
use Rattle.load.specs.Prints.{prints}

-- ---- a record can be carried out

-- what a record comes to, and the lists of the store keep their lengths
record RecordOutcome (P : Carried → LoadLists → Type 0) (lent : LoadLists) : Type 0 where
  carried : Carried
  lent' : LoadLists
  holds : P carried lent'
  lengths : lengths_of lent.store ≡ lengths_of lent'.store

kept : (lent : LoadLists) (what : Carried) → RecordOutcome (KeepsLists lent what) lent
kept lent what = record { carried = what; lent' = lent; holds = (refl, refl); lengths = refl }

-- settings that come first
opened : (dimension : ℕ) (params : CuratorParams) (next : ℕ) (lent : LoadLists)
    → RecordOutcome (λ carried lent'. OpensIndex dimension params next carried × (lent' ≡ lent)) lent
opened dimension params next lent =
    let answer = created dimension params capacities in
    record {
      carried = opened_by answer dimension next;
      lent' = lent;
      holds = (record { answer = answer; creates = is-created dimension params capacities answer refl; comes = refl }, refl);
      lengths = refl;
    }

-- after a build
built : (index : CuratorIndex) (call : LoadLists → SearchCall) (next : ℕ) (lent : LoadLists) (answer : Result CuratorIndex Refusal) (store : Store) (work : List ℕ)
    → Builds index lent.store lent.work answer store work → lengths_of lent.store ≡ lengths_of store → RecordOutcome (SearchesBuilt index call next lent) lent
built index call next lent (Err r) store work b same =
    record {
      carried = Refused r;
      lent' = record { store = store; work = work; ids = lent.ids; distances = lent.distances };
      holds = record { answer = Err r; work = work; builds = b; searches = (refl, refl, refl, refl) };
      lengths = same;
    }
built index call next lent (Ok ready) store work b same =
    let o = search-outcome ready store work (call lent) in
    record {
      carried = found_by ready o.end.answer next;
      lent' = record { store = store; work = o.end.work; ids = o.end.ids; distances = o.end.distances };
      holds = record { answer = Ok ready; work = work; builds = b; searches = (o.end.answer, o.searches, refl) };
      lengths = same;
    }

looked_up : (index : CuratorIndex) (call : LoadLists → SearchCall) (next : ℕ) (lent : LoadLists) → RecordOutcome (SearchesBuilt index call next lent) lent
looked_up index call next lent =
    let b = (change_laws build).outcome index lent.store lent.work in
    built index call next lent b.answer b.store' b.work' b.changes
    ((change_laws build).lengths index lent.store lent.work b.answer b.store' b.work' b.changes)

added : (index : CuratorIndex) (call : AddCall) (next : ℕ) (lent : LoadLists) → RecordOutcome (AddsVector index call next lent) lent
added index call next lent =
    let a = (change_laws (add call)).outcome index lent.store [] in
    record {
      carried = added_by a.answer next;
      lent' = record { store = a.store'; work = lent.work; ids = lent.ids; distances = lent.distances };
      holds = record { answer = a.answer; adds = a.changes; work = refl; ids = refl; distances = refl; comes = refl };
      lengths = (change_laws (add call)).lengths index lent.store [] a.answer a.store' a.work' a.changes;
    }

carried_out_lem : (loading : Option CuratorIndex) (r : FileRecord) (next : ℕ) (lent : LoadLists) → RecordOutcome (CarriesOut loading r next lent) lent
carried_out_lem None (settings d b l e w) next lent = opened d (params_of b l e w) next lent
carried_out_lem None (vector document labels patterns) next lent = kept lent (Refused (Input SettingsOrder))
carried_out_lem None (filtered k label patterns) next lent = kept lent (Refused (Input SettingsOrder))
carried_out_lem None (unfiltered k patterns) next lent = kept lent (Refused (Input SettingsOrder))
carried_out_lem (Some index) (settings d b l e w) next lent = kept lent (Refused (Input SettingsOrder))
carried_out_lem (Some index) (vector document labels patterns) next lent = added index (add_call document labels patterns) next lent
carried_out_lem (Some index) (filtered k label patterns) next lent = looked_up index (search_with (floats patterns) k (labelled label)) next lent
carried_out_lem (Some index) (unfiltered k patterns) next lent = looked_up index (search_with (floats patterns) k everything) next lent

module _ (file : List ℕ) (bytes : Bytes file) where
  -- the record at a place
  carried-read : (d : Decoded FileRecord) (at : ℕ) (loading : Option CuratorIndex) (lent : LoadLists) → decode (known loading) (drop at file) ≡ d
      → RecordOutcome (CarriesRead d file at loading lent) lent
  carried-read none at loading lent e = kept lent (Refused (Input BadRecord))
  carried-read (found r rest) at loading lent e =
      let b = sound (known loading) (drop at file) r rest (bytes_drop at file bytes) e in
      let size = ap length b.split ∙ length-append (encode r) rest in
      let shorter = rest_shorter b in
      let next = at + length (encode r) in
      let behind : rest ≡ drop next file =
      sym (ap (drop (length (encode r))) b.split ∙ drop-append_seam (encode r) rest) ∙ drop-drop (length (encode r)) at file in
      let o = carried_out_lem loading r next lent in
      record {
        carried = o.carried;
        lent' = o.lent';
        holds = (next, behind, omega (arith, size, shorter), omega (arith, size, shorter, length-drop at file), o.holds);
        lengths = o.lengths;
      }

  carried-at : (long ended : Bool) (at : ℕ) (loading : Option CuratorIndex) (lent : LoadLists) → RecordOutcome (CarriesAt long ended file at loading lent) lent
  carried-at true ended at loading lent = kept lent (Refused (Input FileTooLong))
  carried-at false true at loading lent = kept lent End
  carried-at false false at loading lent = carried-read (decode (known loading) (drop at file)) at loading lent refl

  -- ---- a step, and its text in a list of just its length

  written : (t : List ℕ) → Written (replicate (length t) 0) 0 t (sets (replicate (length t) 0) 0 t) (length t)
  written t =
      let n = length-sets (replicate (length t) 0) 0 t ∙ length-replicate (length t) 0 in
      let fits : length t ≤ length (sets (replicate (length t) 0) 0 t) = omega (arith, n) in
      record { list = refl; end = sym (zero-add (length t)); within = fits; front = sym (length-take-le (length t) _ fits) }

  record Stepped (at : ℕ) (loading : Option CuratorIndex) (lent : LoadLists) : Type 0 where
    step : LoadStep
    lent' : LoadLists
    text : List ℕ
    text' : List ℕ
    steps : Steps file at loading lent text step lent' text'
    lengths : lengths_of lent.store ≡ lengths_of lent'.store

  stepped : (at : ℕ) (loading : Option CuratorIndex) (lent : LoadLists) → Stepped at loading lent
  stepped at loading lent =
      let o = carried-at (ltb 65536 (length file)) (leb (length file) at) at loading lent in
      let t = step_text o.carried o.lent' in
      record {
        step = step_of o.carried (length t);
        lent' = o.lent';
        text = replicate (length t) 0;
        text' = sets (replicate (length t) 0) 0 t;
        steps = record { carried = o.carried; carries = o.holds; printed = length t; writes = written t; comes = refl };
        lengths = o.lengths;
      }

  -- ---- steps to the end

  -- the lists for the next step: the store as it was left
  abbrev onto : LoadLists → Store → LoadLists
  onto lent store = record { store = store; work = lent.work; ids = lent.ids; distances = lent.distances }

  sized-onto : (lent : LoadLists) (store : Store) → Sized lent → lengths_of lent.store ≡ lengths_of store → Sized (onto lent store)
  sized-onto lent store z same =
      record { store = sym same ∙ z.store; work = z.work; ids = z.ids; distances = z.distances }

  abbrev Goes_on : ℕ → Option CuratorIndex → Store → Type 0
  Goes_on at loading store = (texts : List (List ℕ)) × Chain file at loading store texts

  step_by : (left at : ℕ) → length file - at ≤ left → (loading : Option CuratorIndex) (lent : LoadLists) → Sized lent → (step : LoadStep) (lent' : LoadLists) (text text' : List ℕ)
      → Steps file at loading lent text step lent' text' → lengths_of lent.store ≡ lengths_of lent'.store → Onward file at step
      → ((at' : ℕ) (loading' : Option CuratorIndex) (lent' : LoadLists) → length file - at' < left → Sized lent' → Goes_on at' loading' lent'.store)
      → Goes_on at loading lent.store
  step_by left at le loading lent z (Ended n) lent' text text' st same h later = (_, last z st)
  step_by left at le loading lent z (Next loading' at' n) lent' text text' st same h later =
      let r = later at' loading' (onto lent lent'.store) (omega (arith, le, h.0, h.1)) (sized-onto lent lent'.store z same) in
      (_, more z st r.1)

  chain_within : (left at : ℕ) → length file - at ≤ left → (loading : Option CuratorIndex) (lent : LoadLists) → Sized lent → Goes_on at loading lent.store
  chain_within zero at le loading lent z =
      let s = stepped at loading lent in
      step_by zero at le loading lent z s.step s.lent' s.text s.text' s.steps s.lengths (steps_onward s.steps)
      (λ at' loading' lent' less sized. absurd (omega (arith, less)))
  chain_within (suc left) at le loading lent z =
      let s = stepped at loading lent in
      step_by (suc left) at le loading lent z s.step s.lent' s.text s.text' s.steps s.lengths (steps_onward s.steps)
      (λ at' loading' lent' less sized. chain_within left at' (omega (arith, less)) loading' lent' sized)

  -- from every place, whatever the load has come to
  pub chain_from : (at : ℕ) (loading : Option CuratorIndex) (lent : LoadLists) → Sized lent → (texts : List (List ℕ)) × Chain file at loading lent.store texts
  chain_from at loading lent z = chain_within (length file) at (omega arith) loading lent z

-- ---- every file

-- there are lists of the sizes that the program lends
pub sized-lists : (lent : LoadLists) × Sized lent
sized-lists =
    let (store, is) = zeros (sizes_of largest) in (
      record {
        store = store;
        work = replicate (work_size largest) 0;
        ids = replicate answer_places 0;
        distances = replicate answer_places nan;
      },
      record {
        store = is;
        work = length-replicate {A = ℕ} (work_size largest) 0;
        ids = length-replicate {A = ℕ} answer_places 0;
        distances = length-replicate answer_places nan;
      },
    )

-- Every file has a chain of steps from its beginning, whatever the lists hold; by `Prints` its texts, joined, are `file_text`.
pub chain_exists : (file : List ℕ) → Bytes file → (lent : LoadLists) → Sized lent
    → (texts : List (List ℕ)) × Chain file 0 None lent.store texts × (joined (λ text. text) texts ≡ file_text file)
chain_exists file bytes lent z = let r = chain_from file bytes 0 None lent z in (r.0, r.1, prints file lent.store r.0 r.1)
