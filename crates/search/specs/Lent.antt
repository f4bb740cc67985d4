-- The records of a search's contract, made of what the call is lent.
use Rattle.std.specs.Prelude.{ℕ, ◌≤◌, List, ◌∷◌, ◌++◌, ◌≡◌, Float, length}
use Rattle.std.specs.Borrow.{Bor}
use Rattle.store.specs.Store.{Store}
use Rattle.walk.specs.Promises.{StoreLent}
use Rattle.walk.specs.declared.Searched.{Searched}
use Rattle.walk.specs.declared.Damaged.{Damaged}
use Rattle.walk.specs.Wanted.{Sought}
use Rattle.vector.specs.Vector.{dot}
use Rattle.std.specs.Prelude.{Result, Ok, Err}
use Rattle.settings.specs.declared.refusal.Refusal.{Refusal}
use Rattle.settings.specs.declared.refusal.Refusal.TheVariants as Refusal'
use Rattle.settings.specs.declared.refusal.StoreRefusal.TheVariants as StoreRefusal'
use Rattle.curator.specs.Lent.{with_squares}
use Rattle.curator.specs.declared.CuratorIndex.{CuratorIndex}
use Rattle.curator.specs.Limits.{state_sound, index_shape}
use Rattle.curator.specs.Rows.{first_of, state_row, search_rows}
use Rattle.store.specs.declared.Lengths.{Lengths}
use Rattle.curator.specs.Calls.{facts_of}
use Rattle.curator.specs.Searches.{wanted_of, SearchEnd, SearchWalked, Searches}
use Rattle.curator.specs.Arguments.{Asking, Asked, everything, labelled, labelled_both, SearchCall}

-- what the rows of a search come to, by the lengths of the lists
abbrev pub search_checked : CuratorIndex → Lengths → ℕ → Asking → Result Float Refusal
search_checked index lent work asked =
    with_squares (first_of (state_row (state_sound index) ∷ search_rows (facts_of index) lent work asked)) (dot asked.query asked.query)

abbrev pub asking_with : Bor (List Float) → ℕ → ℕ → ℕ → Asking
asking_with query k ids distances = record { query = query.now; k = k; ids = ids; distances = distances }

-- what a search brings, once it is known what it asks for
abbrev pub looking : Bor (List Float) → ℕ → List ℕ → List Float → Asked → SearchCall
looking query k ids distances asked =
    record { question = record { query = query.now; asked = asked }; k = k; ids = ids; distances = distances }

-- `search_filtered` asks for those with a label, joined from its two parts, `search` for every vector
abbrev pub filtered : Bor (List Float) → Bor (List ℕ) → Bor (List ℕ) → ℕ → List ℕ → List Float → SearchCall
filtered query first second k ids distances = looking query k ids distances (labelled (first.now ++ second.now))

-- `search_both` for those with each of two labels, joined from two parts each (02, K1)
abbrev pub both : Bor (List Float) → Bor (List ℕ) → Bor (List ℕ) → Bor (List ℕ) → Bor (List ℕ) → ℕ → List ℕ → List Float → SearchCall
both query first second other_first other_second k ids distances =
    looking query k ids distances (labelled_both (first.now ++ second.now) (other_first.now ++ other_second.now))

abbrev pub unfiltered : Bor (List Float) → ℕ → List ℕ → List Float → SearchCall
unfiltered query k ids distances = looking query k ids distances everything

-- what a search leaves
abbrev pub leaving : Result Searched Refusal → List ℕ → List ℕ → List Float → SearchEnd
leaving answer work ids distances = record { answer = answer; work = work; ids = ids; distances = distances }

-- ---- inside

-- a walk's end as an answer: damage is refusal 15
abbrev pub found_of : Result Searched Damaged → Result Searched Refusal
found_of (Err _) = Err (Refusal'.Store StoreRefusal'.Damaged)
found_of (Ok s) = Ok s

-- What the walk relies on, as plain facts: no row's case holds.
pub record SearchReady (index : CuratorIndex) (store : Store) (scratch : List ℕ) (query : List Float) (k : ℕ) (found : List ℕ) (far : List Float) : Type 0 where
  pub lent : StoreLent (index_shape index) index.counts store scratch
  pub dimension : length query ≡ index.dimension
  pub ids : k ≤ length found
  pub distances : k ≤ length far

-- the walk, and the whole search, for whatever asks for what is wanted
abbrev pub WalkedFor : CuratorIndex → Store → List ℕ → Sought → (Asked → SearchCall) → SearchEnd → Type 0
WalkedFor index store work wanted call end = (asked : Asked) → wanted_of asked ≡ wanted → SearchWalked index store work (call asked) end

abbrev pub SearchesFor : CuratorIndex → Store → List ℕ → Sought → (Asked → SearchCall) → SearchEnd → Type 0
SearchesFor index store work wanted call end = (asked : Asked) → wanted_of asked ≡ wanted → Searches index store work (call asked) end
