-- Document 01, 'Runs': how a call ends, and runs.
use Rattle.std.specs.Prelude.{ℕ, Result, Ok, Err, List, [], ◌∷◌, ◌≡◌}
use Rattle.store.specs.Store.{Store}
use Rattle.store.specs.declared.Lengths.{Lengths}
use Rattle.store.specs.Lent.{lengths_of, join_stores}
use Rattle.curator.specs.declared.CuratorIndex.{CuratorIndex}
use Rattle.settings.specs.declared.refusal.Refusal.{Refusal}
use Rattle.curator.specs.Changes.{Creates, Adds, TakesBack, Withdraws, Builds}
use Rattle.curator.specs.Searches.{SearchEnd, Searches}
use Rattle.curator.specs.Arguments.{SearchCall}
use Rattle.runs.specs.Calls.{Change, add, take_back, withdraw, build, Call, change, search, Typed}
use Rattle.runs.specs.Model.{Setting}

-- what a call ended with: the answer; a search also with its answer lists
pub data Ended : Type 0 where
  changed : Result CuratorIndex Refusal → Ended
  found : SearchEnd → Ended

-- a front has the lengths that a call is lent
abbrev pub Lent : Lengths → Store → Type 0
Lent fronts front = lengths_of front ≡ fronts

-- 'the state last returned': a refused call returns none
unfoldable pub next_index : CuratorIndex → Result CuratorIndex Refusal → CuratorIndex
next_index index (Ok index') = index'
next_index index (Err r) = index

-- A change on an index and the lists that it is lent: exactly the entry point's own relation, state and lists at entry, then at exit. A taking back is lent
-- the store to be read.
abbrev pub Changes : Change → CuratorIndex → Store → List ℕ → Result CuratorIndex Refusal → Store → List ℕ → Type 0
Changes (add call) index store work answer store' work' = Adds index store call answer store'
Changes take_back index store work answer store' work' = TakesBack index store answer × (store' ≡ store)
Changes (withdraw document) index store work answer store' work' = Withdraws index store document answer store'
Changes build index store work answer store' work' = Builds index store work answer store' work'

-- One call on an index and its lists: each list is a front, which is lent, and a rest, which 'stays as it was'; the step is the entry point's own
-- relation on the fronts.
pub record ChangeStep (index : CuratorIndex) (store : Store) (fronts : Lengths) (work : List ℕ) (c : Change) (end : Ended) (index' : CuratorIndex) (store' : Store) : Type 0 where
  pub front : Store
  pub rest : Store
  pub front' : Store
  pub work' : List ℕ
  pub answer : Result CuratorIndex Refusal
  pub whole : store ≡ join_stores front rest
  pub lent : Lent fronts front
  -- the arguments have their types in the call: this is no assumption beyond 01, since every value of the type is allowed
  pub typed : Typed c
  pub changes : Changes c index front work answer front' work'
  pub ended : end ≡ changed answer
  pub index_next : index' ≡ next_index index answer
  pub store_next : store' ≡ join_stores front' rest

pub record SearchStep (index : CuratorIndex) (store : Store) (fronts : Lengths) (work : List ℕ) (call : SearchCall) (end : Ended) (index' : CuratorIndex) (store' : Store) : Type 0 where
  pub front : Store
  pub rest : Store
  pub ended_search : SearchEnd
  pub whole : store ≡ join_stores front rest
  pub lent : Lent fronts front
  pub searches : Searches index front work call ended_search
  pub ended : end ≡ found ended_search
  pub index_next : index' ≡ index
  pub store_next : store' ≡ store

unfoldable pub Step : CuratorIndex → Store → Call → Ended → CuratorIndex → Store → Type 0
Step index store (change fronts work c) end index' store' = ChangeStep index store fronts work c end index' store'
Step index store (search fronts work call) end index' store' = SearchStep index store fronts work call end index' store'

-- 'Each gets the state last returned and the lists as the last call left them; nobody else writes them meanwhile.'
pub data RunFrom : CuratorIndex → Store → List Call → List Ended → Type 0 where
  done : {index : CuratorIndex} {store : Store} → RunFrom index store [] []
  next :
      {index index' : CuratorIndex} {store store' : Store} {call : Call} {calls : List Call} {end : Ended} {ends : List Ended} →
      Step index store call end index' store' → RunFrom index' store' calls ends → RunFrom index store (call ∷ calls) (end ∷ ends)

-- the state and the lists after its calls
abbrev pub index_after : {index : CuratorIndex} {store : Store} {calls : List Call} {ends : List Ended} → RunFrom index store calls ends → CuratorIndex
index_after (done {index = index}) = index
index_after (next step rest) = index_after rest

abbrev pub store_after : {index : CuratorIndex} {store : Store} {calls : List Call} {ends : List Ended} → RunFrom index store calls ends → Store
store_after (done {store = store}) = store
store_after (next step rest) = store_after rest

-- 'A run begins with the state from an accepted `new` and with lists of any length and content.'
pub record Run (setting : Setting) (calls : List Call) (ends : List Ended) : Type 0 where
  pub index : CuratorIndex
  pub accepted : Creates setting.dimension setting.params setting.capacities (Ok index)
  pub store : Store
  pub run : RunFrom index store calls ends
