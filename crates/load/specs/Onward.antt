-- Where a step leaves a file: every record that it goes on after has bytes, so a loop over steps ends. What it printed stands in the text.
use Rattle.std.specs.Prelude.{ℕ, ◌≤◌, ◌<◌, Bool, true, false, cond, List, ◌≡◌, refl, ltb, leb, length, drop, Result, Ok, Err, Option, Some, None}
use Rattle.std.proofs.Common.{sym, subst, ltb-false}
use Rattle.curator.specs.declared.CuratorIndex.{CuratorIndex}
use Rattle.walk.specs.declared.Searched.{Searched}
use Rattle.settings.specs.declared.refusal.Refusal.{Refusal}
use Rattle.settings.specs.declared.refusal.Refusal.TheVariants.{Settings}
use Rattle.settings.specs.declared.refusal.SettingsRefusal.TheVariants.{InvalidConfig}
use Rattle.curator.specs.Arguments.{SearchCall}
use Rattle.echo_file.specs.Format.{FileRecord, settings, vector, filtered, unfiltered}
use Rattle.echo_file.specs.Decode.{Decoded, none, found, decode}
use Rattle.load.specs.declared.carry.Carried.{Carried}
use Rattle.load.specs.declared.carry.Carried.TheVariants.{End, Refused, Silent, Answered}
use Rattle.load.specs.declared.LoadStep.{LoadStep}
use Rattle.load.specs.declared.LoadStep.TheVariants.{Ended, Next}
use Rattle.load.specs.Step.{LoadLists, known, opened_by, added_by, found_by, SearchesBuilt, AfterBuild, CarriesOut, CarriesRead, CarriesAt, Steps, step_of, printed_of}

-- the file goes on at a place behind the record, within a file that is not too long
abbrev pub Onward : List ℕ → ℕ → LoadStep → Type 0
Onward file at (Ended n) = Unit {0}
Onward file at (Next loading next n) = (at < next) × (next ≤ length file) × (length file ≤ 65536)

-- how many bytes a step says that it wrote
pub printed-step : (carried : Carried) (n : ℕ) → printed_of (step_of carried n) ≡ n
printed-step End n = refl
printed-step (Refused r) n = refl
printed-step (Silent loading next) n = refl
printed-step (Answered index next count opened complete) n = refl

-- ---- every step goes onward

abbrev Goes : List ℕ → ℕ → Carried → Type 0
Goes file at carried = (n : ℕ) → Onward file at (step_of carried n)

goes_as : (file : List ℕ) (at : ℕ) {a b : Carried} → a ≡ b → Goes file at b → Goes file at a
goes_as file at e h = subst (λ (c : Carried). Goes file at c) (sym e) h

module _ (file : List ℕ) (at next : ℕ) (short : length file ≤ 65536) (further : at < next) (within : next ≤ length file) where
  opened_or : (b : Bool) (r : Refusal) (index : CuratorIndex) → Goes file at (cond b (Refused r) (Silent (Some index) next))
  opened_or true r index n = tt
  opened_or false r index n = (further, within, short)

  opened-goes : (x : Result CuratorIndex Refusal) (d : ℕ) → Goes file at (opened_by x d next)
  opened-goes (Err r) d n = tt
  opened-goes (Ok index) d n = opened_or (ltb 16 d) (Settings InvalidConfig) index n

  added_goes : (x : Result CuratorIndex Refusal) → Goes file at (added_by x next)
  added_goes (Err r) n = tt
  added_goes (Ok index) n = (further, within, short)

  found-goes : (index : CuratorIndex) (x : Result Searched Refusal) → Goes file at (found_by index x next)
  found-goes index (Err r) n = tt
  found-goes index (Ok s) n = (further, within, short)

  after-goes : (x : Result CuratorIndex Refusal) (work : List ℕ) (call : LoadLists → SearchCall) (lent : LoadLists) (carried : Carried) (lent' : LoadLists)
      → AfterBuild x work call next lent carried lent' → Goes file at carried
  after-goes (Err r) work call lent carried lent' h = goes_as file at h.0 (λ n. tt)
  after-goes (Ok index) work call lent carried lent' h = goes_as file at h.2 (found-goes index h.0)

  built-goes : {index : CuratorIndex} {call : LoadLists → SearchCall} {lent : LoadLists} {carried : Carried} {lent' : LoadLists}
      → SearchesBuilt index call next lent carried lent' → Goes file at carried
  built-goes {index} {call} {lent} {carried} {lent'} h = after-goes h.answer h.work call lent carried lent' h.searches

  out_goes : (loading : Option CuratorIndex) (r : FileRecord) (lent : LoadLists) (carried : Carried) (lent' : LoadLists) → CarriesOut loading r next lent carried lent'
      → Goes file at carried
  out_goes None (settings d branching leaf_size ef beam) lent carried lent' h =
      goes_as file at h.0.comes (opened-goes h.0.answer d)
  out_goes None (vector document labels patterns) lent carried lent' h = goes_as file at h.0 (λ n. tt)
  out_goes None (filtered k label patterns) lent carried lent' h = goes_as file at h.0 (λ n. tt)
  out_goes None (unfiltered k patterns) lent carried lent' h = goes_as file at h.0 (λ n. tt)
  out_goes (Some index) (settings d branching leaf_size ef beam) lent carried lent' h = goes_as file at h.0 (λ n. tt)
  out_goes (Some index) (vector document labels patterns) lent carried lent' h = goes_as file at h.comes (added_goes h.answer)
  out_goes (Some index) (filtered k label patterns) lent carried lent' h = built-goes h
  out_goes (Some index) (unfiltered k patterns) lent carried lent' h = built-goes h

read_goes : (d : Decoded FileRecord) (file : List ℕ) (at : ℕ) → length file ≤ 65536 → (loading : Option CuratorIndex) (lent : LoadLists) (carried : Carried) (lent' : LoadLists)
    → CarriesRead d file at loading lent carried lent' → Goes file at carried
read_goes none file at short loading lent carried lent' h = goes_as file at h.0 (λ n. tt)
read_goes (found r rest) file at short loading lent carried lent' h = out_goes file at h.0 short h.2 h.3 loading r lent carried lent' h.4

at_goes : (long ended : Bool) (file : List ℕ) (at : ℕ) → ltb 65536 (length file) ≡ long → (loading : Option CuratorIndex) (lent : LoadLists) (carried : Carried) (lent' : LoadLists)
    → CarriesAt long ended file at loading lent carried lent' → Goes file at carried
at_goes true ended file at e loading lent carried lent' h = goes_as file at h.0 (λ n. tt)
at_goes false true file at e loading lent carried lent' h = goes_as file at h.0 (λ n. tt)
at_goes false false file at e loading lent carried lent' h =
    read_goes (decode (known loading) (drop at file)) file at (ltb-false 65536 (length file) e) loading lent carried lent' h

module _ {file : List ℕ} {at : ℕ} {loading : Option CuratorIndex} {lent lent' : LoadLists} {text text' : List ℕ} {step : LoadStep}
    (st : Steps file at loading lent text step lent' text') where
  pub steps_onward : Onward file at step
  steps_onward =
      subst (λ (s : LoadStep). Onward file at s) (sym st.comes)
      (at_goes (ltb 65536 (length file)) (leb (length file) at) file at refl loading lent st.carried lent' st.carries st.printed)

  -- what a step printed stands in the text
  pub steps_printed : printed_of step ≤ length text'
  steps_printed =
      subst (λ (s : LoadStep). printed_of s ≤ length text') (sym st.comes)
      (subst (λ (n : ℕ). n ≤ length text') (sym (printed-step st.carried st.printed)) st.writes.within)
