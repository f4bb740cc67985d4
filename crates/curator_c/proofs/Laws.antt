-- Each result, from what is known where its function returns: by what the list holds.
use Prim.Native.Nat.{ℕ, ◌≤◌, ◌<◌}
use mathlib.Core.Bool.{Bool, true, false, cond}
use mathlib.Core.List.{List}
use mathlib.Core.Path.{◌≡◌, refl, sym, subst}
use borrow.Author.Tests.{lt-ltb, le-ltb}
use lib.Ieee.{Float}
use lib.ListN.{length}
use lib.Seq.{sets}
use Rattle.store.specs.Store.{Store}
use Rattle.std.specs.Prelude.{Result, Ok, Err, Option, Some, None}
use Rattle.walk.specs.declared.Searched.{Searched}
use mir.Val.{bool_byte}
use Rattle.curator.specs.declared.CuratorIndex.{CuratorIndex}
use Rattle.settings.specs.declared.refusal.Refusal.{Refusal}
use Rattle.curator.specs.Outcome.{changed_number, found_number, found_values}
use Rattle.settings.specs.Refusals.{number}
use Rattle.curator.specs.Changes.{Adds, TakesBack, Withdraws, Builds}
use Rattle.curator.specs.Arguments.{AddCall, SearchCall}
use Rattle.curator.specs.Searches.{SearchEnd, Searches}
use Rattle.curator_c.specs.State.{places, state_list, state_in}
use Rattle.curator_c.specs.Results.{invalid, storable, Returns, ChangeResult, AddsIn, AddResult, TakesBackIn, TakeBackResult, WithdrawsIn, WithdrawResult, BuildsIn, BuildResult, hits_asked, with_hits, asking, ended, SearchesIn, SearchResult}
use Rattle.curator_c.specs.ResultLaws.{storable-held}
use Rattle.curator.specs.OutcomeLaws.{is_refused, is-search_refused}

-- a flag as a number
pub flag_is : (b : Bool) (n : ℕ) → n ≡ bool_byte b → n ≡ cond b 1 0
flag_is true n e = e
flag_is false n e = e

-- ---- an answer and the state list

pub returns_refused : (list : List ℕ) (answer : Result CuratorIndex Refusal) (r : Refusal) (n : ℕ)
    → answer ≡ Err r → n ≡ number r → Returns (storable list answer) list n list
unfolding storable
returns_refused list answer r n e h = subst (λ (a : Result CuratorIndex Refusal). Returns (storable list a) list n list) (sym e) (record { number = h; list = refl })

pub returns-short : (list : List ℕ) (answer : Result CuratorIndex Refusal) (index : CuratorIndex)
    → answer ≡ Ok index → length list < places → Returns (storable list answer) list 4 list
unfolding storable
returns-short list answer index e h =
    let short : storable list answer ≡ Err invalid = rw (e, lt-ltb (length list) places h) refl in
    subst (λ (a : Result CuratorIndex Refusal). Returns a list 4 list) (sym short) (record { number = refl; list = refl })

pub returns-kept : (list : List ℕ) (answer : Result CuratorIndex Refusal) (index : CuratorIndex) (list' : List ℕ)
    → answer ≡ Ok index → places ≤ length list → list' ≡ sets list 0 (state_list index) → Returns (storable list answer) list 0 list'
unfolding storable
returns-kept list answer index list' e h s =
    let kept : storable list answer ≡ Ok index = rw (e, le-ltb (length list) places h) refl in
    subst (λ (a : Result CuratorIndex Refusal). Returns a list 0 list') (sym kept) (record { number = refl; list = s })

-- ---- a call that changes the index

-- no state in the list: row 4
nothing-changed : (By : Option CuratorIndex → Result CuratorIndex Refusal → Type 0) (list : List ℕ) → state_in list ≡ None → By None (Err invalid) → ChangeResult By list 4 list
nothing-changed By list e by =
    record {
      answer = Err invalid;
      result = subst (λ (held : Option CuratorIndex). By held (Err invalid)) (sym e) by;
      returns = record { number = refl; list = refl };
    }

held-changed : (By : Option CuratorIndex → Result CuratorIndex Refusal → Type 0) (list : List ℕ) (index : CuratorIndex) (answer : Result CuratorIndex Refusal) (n : ℕ) (list' : List ℕ)
    → state_in list ≡ Some index → By (Some index) answer → Returns (storable list answer) list n list' → ChangeResult By list n list'
held-changed By list index answer n list' e by returns =
    record {
      answer = answer;
      result = subst (λ (held : Option CuratorIndex). By held answer) (sym e) by;
      returns = subst (λ (a : Result CuratorIndex Refusal). Returns a list n list') (storable-held list index answer e) returns;
    }

pub add_nothing : (list : List ℕ) (store : Store) (call : AddCall) → state_in list ≡ None → AddResult list store call 4 list store
unfolding AddsIn
add_nothing list store call e = nothing-changed (λ held answer. AddsIn held store call answer store) list e (is_refused invalid _ refl, refl)

pub add-held : (list : List ℕ) (index : CuratorIndex) (store : Store) (call : AddCall) (answer : Result CuratorIndex Refusal) (n : ℕ) (list' : List ℕ) (store' : Store)
    → state_in list ≡ Some index → Adds index store call answer store' → Returns (storable list answer) list n list'
    → AddResult list store call n list' store'
unfolding AddsIn
add-held list index store call answer n list' store' e adds returns =
    held-changed (λ held a. AddsIn held store call a store') list index answer n list' e adds returns

pub take_back_nothing : (list : List ℕ) (store : Store) → state_in list ≡ None → TakeBackResult list store 4 list
unfolding TakesBackIn
take_back_nothing list store e = nothing-changed (λ held answer. TakesBackIn held store answer) list e (is_refused invalid _ refl)

pub take_back_held : (list : List ℕ) (index : CuratorIndex) (store : Store) (answer : Result CuratorIndex Refusal) (n : ℕ) (list' : List ℕ) → state_in list ≡ Some index
    → TakesBack index store answer → Returns (storable list answer) list n list' → TakeBackResult list store n list'
unfolding TakesBackIn
take_back_held list index store answer n list' e takes returns =
    held-changed (λ held a. TakesBackIn held store a) list index answer n list' e takes returns

pub withdraw-nothing : (list : List ℕ) (store : Store) (document : ℕ) → state_in list ≡ None → WithdrawResult list store document 4 store
unfolding WithdrawsIn
withdraw-nothing list store document e =
    record {
      answer = Err invalid;
      withdraws = subst (λ (held : Option CuratorIndex). WithdrawsIn held store document (Err invalid) store) (sym e) (is_refused invalid _ refl, refl);
      number = refl;
    }

pub withdraw-held : (list : List ℕ) (index : CuratorIndex) (store : Store) (document : ℕ) (answer : Result CuratorIndex Refusal) (n : ℕ) (store' : Store) → state_in list ≡ Some index
    → Withdraws index store document answer store' → n ≡ changed_number answer → WithdrawResult list store document n store'
unfolding WithdrawsIn
withdraw-held list index store document answer n store' e withdraws is =
    record { answer = answer; withdraws = subst (λ (held : Option CuratorIndex). WithdrawsIn held store document answer store') (sym e) withdraws; number = is }

pub build-nothing : (list : List ℕ) (store : Store) (work : List ℕ) → state_in list ≡ None → BuildResult list store work 4 list store work
unfolding BuildsIn
build-nothing list store work e =
    nothing-changed (λ held answer. BuildsIn held store work answer store work) list e (is_refused invalid _ refl, refl, refl)

pub build-held : (list : List ℕ) (index : CuratorIndex) (store : Store) (work : List ℕ) (answer : Result CuratorIndex Refusal) (n : ℕ) (list' : List ℕ) (store' : Store) (work' : List ℕ)
    → state_in list ≡ Some index → Builds index store work answer store' work' → Returns (storable list answer) list n list'
    → BuildResult list store work n list' store' work'
unfolding BuildsIn
build-held list index store work answer n list' store' work' e builds returns =
    held-changed (λ held a. BuildsIn held store work a store' work') list index answer n list' e builds returns

-- ---- the searches

pub search-nothing : (list : List ℕ) (store : Store) (work : List ℕ) (call : SearchCall) (values : List ℕ)
    → state_in list ≡ None → SearchResult list store work call values 4 work call.ids call.distances values
unfolding SearchesIn
search-nothing list store work call values e =
    record {
      found = Err invalid;
      searches =
          subst (λ (held : Option CuratorIndex). SearchesIn held store work (asking values call) (ended (Err invalid) work call.ids call.distances))
          (sym e)
          (record { answer = is-search_refused invalid _ refl; work = refl; ids = refl; distances = refl });
      number = refl;
      values = refl;
    }

-- the search for the hits that are asked for
pub asked : (index : CuratorIndex) (store : Store) (work values : List ℕ) (call : SearchCall) (end : SearchEnd) (hits : ℕ)
    → hits ≡ hits_asked (length values) (length call.ids) call.k → Searches index store work (with_hits hits call) end
    → Searches index store work (asking values call) end
asked index store work values call end hits e searches = subst (λ (k : ℕ). Searches index store work (with_hits k call) end) e searches

pub search-held : (list : List ℕ) (index : CuratorIndex) (store : Store) (work : List ℕ) (call : SearchCall) (values : List ℕ) (found : Result Searched Refusal) (n : ℕ) (work' ids' : List ℕ) (distances' : List Float) (values' : List ℕ)
    → state_in list ≡ Some index → Searches index store work (asking values call) (ended found work' ids' distances') → n ≡ found_number found
    → values' ≡ sets values 0 (found_values found) → SearchResult list store work call values n work' ids' distances' values'
unfolding SearchesIn
search-held list index store work call values found n work' ids' distances' values' e searches number told =
    record {
      found = found;
      searches = subst (λ (held : Option CuratorIndex). SearchesIn held store work (asking values call) (ended found work' ids' distances')) (sym e) searches;
      number = number;
      values = told;
    }
