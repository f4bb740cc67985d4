-- One step of a load in full: what is read, which calls are made of it, and what is printed. It is the contract of `load_record`.
use Rattle.std.specs.Prelude.{ℕ, ◌≤◌, ◌<◌, Bool, true, false, cond, List, [], ◌++◌, ◌≡◌, ltb, leb, Float, length, drop, Result, Ok, Err, Option, Some, None}
use Rattle.store.specs.Store.{Store}
use Rattle.settings.specs.Given.{params_of}
use Rattle.settings.specs.declared.CuratorParams.{CuratorParams}
use Rattle.curator.specs.declared.CuratorIndex.{CuratorIndex}
use Rattle.settings.specs.declared.refusal.Refusal.{Refusal}
use Rattle.walk.specs.declared.Searched.{Searched}
use Rattle.settings.specs.declared.refusal.Refusal.TheVariants.{Settings, Input}
use Rattle.settings.specs.declared.refusal.SettingsRefusal.TheVariants.{InvalidConfig}
use Rattle.settings.specs.declared.refusal.InputRefusal.TheVariants.{BadRecord, SettingsOrder, FileTooLong}
use Rattle.curator.specs.Changes.{Creates, Adds, Builds}
use Rattle.curator.specs.Arguments.{AddCall, SearchCall, Asked, everything, labelled}
use Rattle.curator.specs.Searches.{SearchEnd, Searches}
use Rattle.echo_file.specs.declared.Known.{Known}
use Rattle.echo_file.specs.Format.{FileRecord, settings, vector, filtered, unfiltered}
use Rattle.echo_file.specs.Decode.{Decoded, none, found, decode}
use Rattle.text.specs.Lines.{hit_lines, closing_line, Written}
use Rattle.load.specs.declared.carry.Carried.{Carried}
use Rattle.load.specs.declared.carry.Carried.TheVariants.{End, Refused, Silent, Answered}
use Rattle.load.specs.declared.LoadStep.{LoadStep}
use Rattle.load.specs.declared.LoadStep.TheVariants.{Ended, Next}
use Rattle.load.specs.File.{capacities, floats, add_call, refused_text}

-- the lists that the calls of a record are lent
pub record LoadLists : Type 0 where
  pub store : Store
  pub work : List ℕ
  pub ids : List ℕ
  pub distances : List Float

-- 'Before settings, D counts as 0 for where a record ends.'
abbrev pub known : Option CuratorIndex → Known
known None = record { dimension = 0 }
known (Some index) = record { dimension = index.dimension }

-- ---- each record

-- a settings record that comes first
abbrev pub opened_by : Result CuratorIndex Refusal → ℕ → ℕ → Carried
opened_by (Err r) dimension next = Refused r
opened_by (Ok index) dimension next = cond (ltb 16 dimension) (Refused (Settings InvalidConfig)) (Silent (Some index) next)

-- what comes of it: by the answer of `new`
pub record OpensIndex (dimension : ℕ) (params : CuratorParams) (next : ℕ) (carried : Carried) : Type 0 where
  pub answer : Result CuratorIndex Refusal
  pub creates : Creates dimension params capacities answer
  pub comes : carried ≡ opened_by answer dimension next

-- a vector
abbrev pub added_by : Result CuratorIndex Refusal → ℕ → Carried
added_by (Err r) next = Refused r
added_by (Ok index) next = Silent (Some index) next

pub record AddsVector (index : CuratorIndex) (call : AddCall) (next : ℕ) (lent : LoadLists) (carried : Carried) (lent' : LoadLists) : Type 0 where
  pub answer : Result CuratorIndex Refusal
  pub adds : Adds index lent.store call answer lent'.store
  pub work : lent'.work ≡ lent.work
  pub ids : lent'.ids ≡ lent.ids
  pub distances : lent'.distances ≡ lent.distances
  pub comes : carried ≡ added_by answer next

-- a search
abbrev pub found_by : CuratorIndex → Result Searched Refusal → ℕ → Carried
found_by index (Err r) next = Refused r
found_by index (Ok s) next = Answered index next s.hits s.opened s.whole

abbrev pub search_with : List Float → ℕ → Asked → LoadLists → SearchCall
search_with query k asked lent =
    record { question = record { query = query; asked = asked }; k = k; ids = lent.ids; distances = lent.distances }

abbrev pub search_end : Result Searched Refusal → LoadLists → SearchEnd
search_end answer lent = record { answer = answer; work = lent.work; ids = lent.ids; distances = lent.distances }

-- after a build that was refused, and after one that was not
abbrev pub AfterBuild : Result CuratorIndex Refusal → List ℕ → (LoadLists → SearchCall) → ℕ → LoadLists → Carried → LoadLists → Type 0
AfterBuild (Err r) work call next lent carried lent' =
    (carried ≡ Refused r) × (lent'.work ≡ work) × (lent'.ids ≡ lent.ids) × (lent'.distances ≡ lent.distances)
AfterBuild (Ok index) work call next lent carried lent' =
    (answer : Result Searched Refusal) × Searches index lent'.store work (call lent) (search_end answer lent') × (carried ≡ found_by index answer next)

-- 'The first search builds': a build of a built index leaves all as it is, so every search builds.
pub record SearchesBuilt (index : CuratorIndex) (call : LoadLists → SearchCall) (next : ℕ) (lent : LoadLists) (carried : Carried) (lent' : LoadLists) : Type 0 where
  pub answer : Result CuratorIndex Refusal
  pub work : List ℕ
  pub builds : Builds index lent.store lent.work answer lent'.store work
  pub searches : AfterBuild answer work call next lent carried lent'

abbrev pub KeepsLists : LoadLists → Carried → Carried → LoadLists → Type 0
KeepsLists lent what carried lent' = (carried ≡ what) × (lent' ≡ lent)

-- a complete record, after which the file goes on at a place; 17: 'settings not first, or given again'
abbrev pub CarriesOut : Option CuratorIndex → FileRecord → ℕ → LoadLists → Carried → LoadLists → Type 0
CarriesOut None (settings dimension branching leaf_size ef beam) next lent carried lent' =
    OpensIndex dimension (params_of branching leaf_size ef beam) next carried × (lent' ≡ lent)
CarriesOut None (vector document labels patterns) next lent carried lent' = KeepsLists lent (Refused (Input SettingsOrder)) carried lent'
CarriesOut None (filtered k label patterns) next lent carried lent' = KeepsLists lent (Refused (Input SettingsOrder)) carried lent'
CarriesOut None (unfiltered k patterns) next lent carried lent' = KeepsLists lent (Refused (Input SettingsOrder)) carried lent'
CarriesOut (Some index) (settings dimension branching leaf_size ef beam) next lent carried lent' =
    KeepsLists lent (Refused (Input SettingsOrder)) carried lent'
CarriesOut (Some index) (vector document labels patterns) next lent carried lent' =
    AddsVector index (add_call document labels patterns) next lent carried lent'
CarriesOut (Some index) (filtered k label patterns) next lent carried lent' =
    SearchesBuilt index (search_with (floats patterns) k (labelled label)) next lent carried lent'
CarriesOut (Some index) (unfiltered k patterns) next lent carried lent' =
    SearchesBuilt index (search_with (floats patterns) k everything) next lent carried lent'

-- ---- the record at a place of the file

-- 16: 'unknown mark, or it ends inside a record'; otherwise the file goes on behind the record
abbrev pub CarriesRead : Decoded FileRecord → List ℕ → ℕ → Option CuratorIndex → LoadLists → Carried → LoadLists → Type 0
CarriesRead none file at loading lent carried lent' = KeepsLists lent (Refused (Input BadRecord)) carried lent'
CarriesRead (found r rest) file at loading lent carried lent' =
    (next : ℕ) × (rest ≡ drop next file) × (at < next) × (next ≤ length file) × CarriesOut loading r next lent carried lent'

-- 18: 'over 65,536 bytes', before any record; at the end of the file nothing
abbrev pub CarriesAt : Bool → Bool → List ℕ → ℕ → Option CuratorIndex → LoadLists → Carried → LoadLists → Type 0
CarriesAt true ended file at loading lent carried lent' = KeepsLists lent (Refused (Input FileTooLong)) carried lent'
CarriesAt false true file at loading lent carried lent' = KeepsLists lent End carried lent'
CarriesAt false false file at loading lent carried lent' =
    CarriesRead (decode (known loading) (drop at file)) file at loading lent carried lent'

abbrev pub Carries : List ℕ → ℕ → Option CuratorIndex → LoadLists → Carried → LoadLists → Type 0
Carries file at loading lent carried lent' =
    CarriesAt (ltb 65536 (length file)) (leb (length file) at) file at loading lent carried lent'

-- ---- what is printed

abbrev pub carried_text : Carried → List ℕ → List Float → List ℕ
carried_text End ids distances = []
carried_text (Refused r) ids distances = refused_text r
carried_text (Silent loading next) ids distances = []
carried_text (Answered index next count opened complete) ids distances = hit_lines ids distances count ++ closing_line complete opened

abbrev pub step_of : Carried → ℕ → LoadStep
step_of End printed = Ended printed
step_of (Refused r) printed = Ended printed
step_of (Silent loading next) printed = Next loading next printed
step_of (Answered index next count opened complete) printed = Next (Some index) next printed

-- the bytes that a step wrote
abbrev pub printed_of : LoadStep → ℕ
printed_of (Ended n) = n
printed_of (Next loading at n) = n

abbrev pub step_text : Carried → LoadLists → List ℕ
step_text carried lent = carried_text carried lent.ids lent.distances

-- the whole result of a step: where the file stands, its lists and the text list at entry; the step and the lists at exit
pub record Steps (file : List ℕ) (at : ℕ) (loading : Option CuratorIndex) (lent : LoadLists) (text : List ℕ) (step : LoadStep) (lent' : LoadLists) (text' : List ℕ) : Type 0 where
  pub carried : Carried
  pub carries : Carries file at loading lent carried lent'
  pub printed : ℕ
  pub writes : Written text 0 (step_text carried lent') text' printed
  pub comes : step ≡ step_of carried printed
