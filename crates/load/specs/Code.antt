-- What the functions of the code promise; `Steps` is made of it.
use Rattle.std.specs.Prelude.{ℕ, ◌+◌, ◌*◌, ◌≤◌, List, ◌≡◌, Float, length, drop, Result, Option, Some, None}
use Rattle.label.specs.Names.{whole_lengths}
use Rattle.store.specs.Store.{Store}
use Rattle.curator.specs.declared.CuratorIndex.{CuratorIndex}
use Rattle.settings.specs.declared.refusal.Refusal.{Refusal}
use Rattle.settings.specs.declared.refusal.Refusal.TheVariants.{Input}
use Rattle.settings.specs.declared.refusal.InputRefusal.TheVariants.{SettingsOrder}
use Rattle.store.specs.Lent.{store_of}
use Rattle.curator.specs.Changes.{Adds}
use Rattle.curator.specs.Arguments.{AddCall, add_of, SearchCall, Asked, everything, labelled}
use Rattle.echo_file.specs.declared.Located.{Located}
use Rattle.echo_file.specs.declared.Located.TheVariants.{Settings, Vector as VectorAt, Filtered, Search}
use Rattle.echo_file.specs.Decode.{decode}
use Rattle.echo_file.specs.Reads.{bytes_between, patterns_at}
use Rattle.load.specs.declared.carry.Carried.{Carried}
use Rattle.load.specs.declared.carry.Carried.TheVariants.{End, Refused, Silent, Answered}
use Rattle.load.specs.declared.task.Vector.{Vector}
use Rattle.load.specs.declared.task.Query.{Query}
use Rattle.load.specs.declared.task.Task.{Task}
use Rattle.load.specs.declared.task.Task.TheVariants.{Done, Add, Find}
use Rattle.load.specs.declared.LoadStep.{LoadStep}
use Rattle.load.specs.declared.LoadStep.TheVariants.{Ended, Next}
use Rattle.load.specs.File.{floats}
use Rattle.load.specs.Step.{LoadLists, known, added_by, SearchesBuilt, search_with, CarriesRead}

-- the lists that a step is lent, over a store and over the lists of one
abbrev pub over : Store → List ℕ → List ℕ → List Float → LoadLists
over store work ids distances = record { store = store; work = work; ids = ids; distances = distances }

abbrev pub lists : List Float → List ℕ → List ℕ → List ℕ → List ℕ → List ℕ → List Float → LoadLists
lists floats numbers hashes labels work ids distances = over (store_of floats numbers hashes labels) work ids distances

-- what a search asks for: the label that starts at a place and ends at another, or all
abbrev pub asked_for : Option ℕ → ℕ → List ℕ → Asked
asked_for (Some label-at) place file = labelled (bytes_between label-at place file)
asked_for None place file = everything

-- an index that a load opened: its vectors have at most 16 components
abbrev pub Narrow : Option CuratorIndex → Type 0
Narrow None = Unit {0}
Narrow (Some index) = index.dimension ≤ 16

abbrev pub NarrowStep : LoadStep → Type 0
NarrowStep (Ended n) = Unit {0}
NarrowStep (Next loading at n) = Narrow loading

-- the hits of an answer stand in the answer lists
abbrev pub HitsFit : Carried → List ℕ → List Float → Type 0
HitsFit End ids distances = Unit {0}
HitsFit (Refused r) ids distances = Unit {0}
HitsFit (Silent loading next) ids distances = Unit {0}
HitsFit (Answered index next count opened complete) ids distances = (count ≤ length ids) × (count ≤ length distances)

-- the first record, which no list is lent to, and one after the settings
abbrev pub CarriesFirst : List ℕ → ℕ → Carried → Type 0
CarriesFirst file at carried = (lent : LoadLists) → CarriesRead (decode (known None) (drop at file)) file at None lent carried lent

abbrev pub CarriesNext : CuratorIndex → List ℕ → ℕ → LoadLists → Carried → LoadLists → Type 0
CarriesNext index file at lent carried lent' =
    CarriesRead (decode (known (Some index)) (drop at file)) file at (Some index) lent carried lent'

-- ---- what a record asks for, found with no list lent

-- D floats from a place on
abbrev pub floats_at : ℕ → List ℕ → ℕ → List Float
floats_at dimension file place = floats (patterns_at (record { dimension = dimension }) file place)

-- a vector's parts stand in the file, its labels are at most 255, and there is room for its floats
pub record VectorIn (file : List ℕ) (dimension : ℕ) (v : Vector) : Type 0 where
  pub narrow : dimension ≤ 16
  pub lengths_order : v.lengths_at ≤ v.labels_at
  pub few : v.labels_at ≤ v.lengths_at + 255
  pub labels_order : v.labels_at ≤ v.floats_at
  pub inside : v.floats_at + 4 * dimension ≤ length file

abbrev pub add_at : CuratorIndex → List ℕ → Vector → AddCall
add_at index file v =
    add_of v.doc_id (floats_at index.dimension file v.floats_at) (whole_lengths (bytes_between v.lengths_at v.labels_at file))
    (bytes_between v.labels_at v.floats_at file)

-- what its add comes to
abbrev pub AddsAt : CuratorIndex → List ℕ → Vector → Store → Carried → Store → Type 0
AddsAt index file v store carried store' =
    (answer : Result CuratorIndex Refusal) × Adds index store (add_at index file v) answer store' × (carried ≡ added_by answer v.next)

-- a label, if there is one, starts no later than it ends
abbrev pub LabelOrder : Option ℕ → ℕ → Type 0
LabelOrder (Some label-at) place = label-at ≤ place
LabelOrder None place = Unit {0}

-- a search's parts stand in the file
pub record QueryIn (file : List ℕ) (dimension : ℕ) (q : Query) : Type 0 where
  pub narrow : dimension ≤ 16
  pub label_order : LabelOrder q.label_at q.floats_at
  pub inside : q.floats_at + 4 * dimension ≤ length file

abbrev pub search_at : ℕ → List ℕ → Query → LoadLists → SearchCall
search_at dimension file q =
    search_with (floats_at dimension file q.floats_at) q.k (asked_for q.label_at q.floats_at file)

-- what it comes to after a build
abbrev pub SearchesAt : CuratorIndex → List ℕ → Query → LoadLists → Carried → LoadLists → Type 0
SearchesAt index file q lent carried lent' = SearchesBuilt index (search_at index.dimension file q) q.next lent carried lent'

-- The record comes to what its add, or its search, does.
pub record AsksAdd (file : List ℕ) (Comes : LoadLists → Carried → LoadLists → Type 0) (index : CuratorIndex) (v : Vector) : Type 0 where
  pub stands : VectorIn file index.dimension v
  pub comes :
      (lent : LoadLists) (carried : Carried) (store : Store) →
      AddsAt index file v lent.store carried store
      → Comes lent carried (record { store = store; work = lent.work; ids = lent.ids; distances = lent.distances })

pub record AsksFind (file : List ℕ) (Comes : LoadLists → Carried → LoadLists → Type 0) (index : CuratorIndex) (q : Query) : Type 0 where
  pub stands : QueryIn file index.dimension q
  pub comes : (lent : LoadLists) (carried : Carried) (lent' : LoadLists) → SearchesAt index file q lent carried lent' → Comes lent carried lent'

-- all that is left to do of a record, so that it comes to what it should
abbrev pub Asks : List ℕ → (LoadLists → Carried → LoadLists → Type 0) → Task → Type 0
Asks file Comes (Done carried) = (lent : LoadLists) → Comes lent carried lent
Asks file Comes (Add index v) = AsksAdd file Comes index v
Asks file Comes (Find index q) = AsksFind file Comes index q

-- after the settings, by the kinds of records
abbrev pub task_of : CuratorIndex → Located → Task
task_of index (Settings dimension branching leaf_size ef beam next) = Done (Refused (Input SettingsOrder))
task_of index (VectorAt document lengths-at labels-at floats-at next) =
    Add index (record { doc_id = document; lengths_at = lengths-at; labels_at = labels-at; floats_at = floats-at; next = next })
task_of index (Filtered k label-at floats-at next) =
    Find index (record { k = k; label_at = Some label-at; floats_at = floats-at; next = next })
task_of index (Search k floats-at next) = Find index (record { k = k; label_at = None; floats_at = floats-at; next = next })
