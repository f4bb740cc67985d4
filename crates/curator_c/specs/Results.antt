-- What each exported function returns and leaves: by the result of the index's own call on the state that the list holds, or of the pooling of two filters. The
-- label hash has no state and no refusal: its promise is the definition's value.
use Rattle.std.specs.Prelude.{ℕ, ◌+◌, Bool, true, false, cond, ◌||◌, List, ◌≡◌, ltb, Float, length}
use Rattle.std.proofs.lemmas.List.Edits.{sets}
use Rattle.lists.specs.Lists.{part}
use Rattle.bloom.specs.Filter.{union}
use Rattle.store.specs.Store.{Store}
use Rattle.settings.specs.declared.Capacities.{Capacities}
use Rattle.std.specs.Prelude.{Result, Ok, Err, Option, Some, None}
use Rattle.curator.specs.declared.CuratorIndex.{CuratorIndex}
use Rattle.walk.specs.declared.Searched.{Searched}
use Rattle.settings.specs.declared.CuratorParams.{CuratorParams}
use Rattle.settings.specs.declared.refusal.Refusal.{Refusal}
use Rattle.settings.specs.declared.refusal.Refusal.TheVariants as Refusal'
use Rattle.settings.specs.declared.refusal.StateRefusal.TheVariants.{InvalidState}
use Rattle.settings.specs.declared.refusal.StoreRefusal.TheVariants.{ListTooShort}
use Rattle.settings.specs.Refusals.{number}
use Rattle.curator.specs.Outcome.{changed_number, found_number, found_values, ChangeRefused}
use Rattle.curator.specs.Changes.{Creates, Adds, TakesBack, Withdraws, Builds}
use Rattle.curator.specs.Arguments.{AddCall, SearchCall}
use Rattle.curator.specs.Searches.{SearchEnd, Untouched, Searches}
use Rattle.curator_c.specs.State.{places, state_list, state_in}

-- row 4: no state in the list, or one that is not sound
abbrev pub invalid : Refusal
invalid = Refusal'.State InvalidState

-- ---- new, add, take back, withdraw and build

-- the state list after an answer: the new state in its first places; a refused call leaves it
abbrev pub stored : List ℕ → Result CuratorIndex Refusal → List ℕ
stored state (Ok index) = sets state 0 (state_list index)
stored state (Err r) = state

-- what is returned for an answer, and what it leaves of the state list
pub record Returns (answer : Result CuratorIndex Refusal) (state : List ℕ) (returned : ℕ) (state' : List ℕ) : Type 0 where
  pub number : returned ≡ changed_number answer
  pub list : state' ≡ stored state answer

-- an answer where the list has room for a state; otherwise, row 4 for a new state
unfoldable pub storable : List ℕ → Result CuratorIndex Refusal → Result CuratorIndex Refusal
storable state (Ok index) = cond (ltb (length state) places) (Err invalid) (Ok index)
storable state (Err r) = Err r

-- the whole result of `curator_new`: 1, 2, then 4 where the list cannot hold a state
pub record NewResult (dimension : ℕ) (params : CuratorParams) (capacities : Capacities) (state : List ℕ) (returned : ℕ) (state' : List ℕ) : Type 0 where
  pub answer : Result CuratorIndex Refusal
  pub creates : Creates dimension params capacities answer
  pub returns : Returns (storable state answer) state returned state'

-- The whole result of a call that changes the index: `By` says, by the state that the list holds, what is answered and what the lists of the store hold then.
pub record ChangeResult (By : Option CuratorIndex → Result CuratorIndex Refusal → Type 0) (state : List ℕ) (returned : ℕ) (state' : List ℕ) : Type 0 where
  pub answer : Result CuratorIndex Refusal
  pub result : By (state_in state) answer
  pub returns : Returns answer state returned state'

-- an add to the state that a list holds
unfoldable pub AddsIn : Option CuratorIndex → Store → AddCall → Result CuratorIndex Refusal → Store → Type 0
unfolding Adds
AddsIn None store call answer store' = ChangeRefused invalid answer × (store' ≡ store)
AddsIn (Some index) store call answer store' = Adds index store call answer store'

-- the whole result of `curator_add`: state list, store and call at entry; what is returned, state list and store at exit
abbrev pub AddResult : List ℕ → Store → AddCall → ℕ → List ℕ → Store → Type 0
AddResult state store call returned state' store' = ChangeResult (λ held answer. AddsIn held store call answer store') state returned state'

-- a taking back from the state that a list holds
unfoldable pub TakesBackIn : Option CuratorIndex → Store → Result CuratorIndex Refusal → Type 0
unfolding TakesBack
TakesBackIn None store answer = ChangeRefused invalid answer
TakesBackIn (Some index) store answer = TakesBack index store answer

-- the whole result of `curator_take_back`, which is lent the store to be read
abbrev pub TakeBackResult : List ℕ → Store → ℕ → List ℕ → Type 0
TakeBackResult state store returned state' = ChangeResult (λ held answer. TakesBackIn held store answer) state returned state'

-- a withdrawal from the state that a list holds
unfoldable pub WithdrawsIn : Option CuratorIndex → Store → ℕ → Result CuratorIndex Refusal → Store → Type 0
unfolding Withdraws
WithdrawsIn None store document answer store' = ChangeRefused invalid answer × (store' ≡ store)
WithdrawsIn (Some index) store document answer store' = Withdraws index store document answer store'

-- the whole result of `curator_withdraw`, which is lent the state to be read: it stays
pub record WithdrawResult (state : List ℕ) (store : Store) (document returned : ℕ) (store' : Store) : Type 0 where
  pub answer : Result CuratorIndex Refusal
  pub withdraws : WithdrawsIn (state_in state) store document answer store'
  pub number : returned ≡ changed_number answer

-- a build of the state that a list holds
unfoldable pub BuildsIn : Option CuratorIndex → Store → List ℕ → Result CuratorIndex Refusal → Store → List ℕ → Type 0
unfolding Builds
BuildsIn None store work answer store' work' = ChangeRefused invalid answer × (store' ≡ store) × (work' ≡ work)
BuildsIn (Some index) store work answer store' work' = Builds index store work answer store' work'

-- the whole result of `curator_build`
abbrev pub BuildResult : List ℕ → Store → List ℕ → ℕ → List ℕ → Store → List ℕ → Type 0
BuildResult state store lent returned state' store' lent' = ChangeResult (λ held answer. BuildsIn held store lent answer store' lent') state returned state'

-- ---- the searches

-- The list that takes hit count, opened, and whole or cut is an answer list too. Where it has fewer than three places, the search is one for more
-- hits than `ids` has places: row 14 refuses it, unless a row before 14 does (`short-answer` and `long-answer` of ResultLaws).
abbrev pub hits_asked : ℕ → ℕ → ℕ → ℕ
hits_asked answer ids k = cond (ltb answer 3) (ids + 1) k

abbrev pub with_hits : ℕ → SearchCall → SearchCall
with_hits hits call =
    record { question = call.question; k = hits; ids = call.ids; distances = call.distances }

abbrev pub asking : List ℕ → SearchCall → SearchCall
asking answer call = with_hits (hits_asked (length answer) (length call.ids) call.k) call

-- a search in the state that a list holds
unfoldable pub SearchesIn : Option CuratorIndex → Store → List ℕ → SearchCall → SearchEnd → Type 0
unfolding Searches
SearchesIn None store work call end = Untouched work call invalid end
SearchesIn (Some index) store work call end = Searches index store work call end

-- what a search leaves: its answer, the work list and the two lists of hits
abbrev pub ended : Result Searched Refusal → List ℕ → List ℕ → List Float → SearchEnd
ended found work ids distances = record { answer = found; work = work; ids = ids; distances = distances }

-- The whole result of a search: state list, store, work, call and answer list at entry; what is returned, and work, ids, distances and answer
-- list, at exit. A refused call has no values, so it leaves the answer list.
pub record SearchResult (state : List ℕ) (store : Store) (lent : List ℕ) (call : SearchCall) (answer : List ℕ) (returned : ℕ) (lent' ids' : List ℕ) (distances' : List Float) (answer' : List ℕ) : Type 0 where
  pub found : Result Searched Refusal
  pub searches : SearchesIn (state_in state) store lent (asking answer call) (ended found lent' ids' distances')
  pub number : returned ≡ found_number found
  pub values : answer' ≡ sets answer 0 (found_values found)

-- ---- pooling

-- a filter is four words
unfoldable pub pool_short : List ℕ → List ℕ → Bool
pool_short filter other = ltb (length filter) 4 || ltb (length other) 4

unfoldable pub PoolsBy : Bool → List ℕ → List ℕ → ℕ → List ℕ → Type 0
unfolding union
PoolsBy true filter other returned filter' = (returned ≡ number (Refusal'.Store ListTooShort)) × (filter' ≡ filter)
PoolsBy false filter other returned filter' = (returned ≡ 0) × (filter' ≡ sets filter 0 (union (part 0 4 filter) (part 0 4 other)))

-- The whole result of `curator_pool` (02, K6): the first four words of the one list become the pool of these and the other's first four; row 3 where a
-- list has fewer, and then nothing is written.
unfoldable pub PoolResult : List ℕ → List ℕ → ℕ → List ℕ → Type 0
unfolding PoolsBy pool_short
PoolResult filter other returned filter' = PoolsBy (pool_short filter other) filter other returned filter'
