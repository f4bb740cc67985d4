-- 'No sound state in the list is 4': what each call does where the list holds no state, or one that is not sound.
use Rattle.std.specs.Prelude.{ℕ, Bool, false, not, List, ◌≡◌, Float, length}
use Rattle.std.proofs.Common.{ap, ◌∙◌, subst}
use Rattle.std.proofs.lemmas.List.Edits.{sets}
use Rattle.store.specs.Store.{Store}
use Rattle.std.specs.Prelude.{Result, Err, Option, Some, None, ⊤}
use Rattle.settings.specs.declared.refusal.Refusal.{Refusal}
use Rattle.walk.specs.declared.Searched.{Searched}
use Rattle.curator.specs.declared.CuratorIndex.{CuratorIndex}
use Rattle.curator.specs.Limits.{state_sound}
use Rattle.curator.specs.Outcome.{changed_number, found_number, found_values, ChangeRefused}
use Rattle.curator.specs.Rows.{state_row, add_rows, take_back_rows, withdraw_rows, build_rows, search_rows}
use Rattle.curator.proofs.RowLaws.{row-stops}
use Rattle.curator.specs.Calls.{facts_of}
use Rattle.store.specs.Lent.{lengths_of}
use Rattle.curator.specs.Changes.{AddsBy, add_check, Adds, take_back_check, TakesBackBy, TakesBack, holds_document, withdraw_check, WithdrawsBy, Withdraws, owners_damaged, too_many_nodes, BuildsBy, build_check, Builds, free_of}
use Rattle.lists.specs.Frame.{Freed}
use Rattle.curator.specs.Arguments.{AddCall, SearchCall, asking_of}
use Rattle.curator.specs.Searches.{Untouched, SearchesBy, search_check, Searches}
use Rattle.curator_c.specs.State.{state_in}
use Rattle.curator_c.specs.Results.{invalid, Returns, AddsIn, AddResult, TakesBackIn, TakeBackResult, WithdrawsIn, WithdrawResult, BuildsIn, BuildResult, asking, ended, SearchesIn, SearchResult}
use Rattle.curator.specs.OutcomeLaws.{search_refused_is, refused_is}

-- whether a list holds a sound state
unfoldable pub sound_in : Option CuratorIndex → Bool
unfolding state_sound
sound_in None = false
sound_in (Some index) = state_sound index

-- row 4 comes first in each call
add-first : (index : CuratorIndex) (store : Store) (call : AddCall) → state_sound index ≡ false → add_check index store call ≡ Err invalid
unfolding add_check
add-first index store call u =
    row-stops (state_row (state_sound index)) (add_rows (facts_of index) (lengths_of store) call) (ap not u)

take_back_first : (index : CuratorIndex) (store : Store) → state_sound index ≡ false → take_back_check index store ≡ Err invalid
unfolding take_back_check
take_back_first index store u = row-stops (state_row (state_sound index)) (take_back_rows (facts_of index) (lengths_of store)) (ap not u)

withdraw-first : (index : CuratorIndex) (store : Store) (document : ℕ) → state_sound index ≡ false → withdraw_check index store document ≡ Err invalid
unfolding withdraw_check
withdraw-first index store document u =
    row-stops (state_row (state_sound index)) (withdraw_rows (facts_of index) (lengths_of store) (holds_document index store document)) (ap not u)

build-first : (index : CuratorIndex) (store : Store) (work : List ℕ) → state_sound index ≡ false → build_check index store work ≡ Err invalid
unfolding build_check
build-first index store work u =
    row-stops (state_row (state_sound index))
    (build_rows (facts_of index) (lengths_of store) (length work) (owners_damaged index store) (too_many_nodes index store))
    (ap not u)

search-first : (index : CuratorIndex) (store : Store) (work : List ℕ) (call : SearchCall)
    → state_sound index ≡ false → search_check index store work call ≡ Err invalid
unfolding search_check
search-first index store work call u =
    row-stops (state_row (state_sound index))
    (search_rows (facts_of index) (lengths_of store) (length work) (asking_of call))
    (ap not u)

refused_invalid : (answer : Result CuratorIndex Refusal) (state : List ℕ) (n : ℕ) (state' : List ℕ)
    → answer ≡ Err invalid → Returns answer state n state' → (n ≡ 4) × (state' ≡ state)
refused_invalid answer state n state' e returns =
    let r = subst (λ (a : Result CuratorIndex Refusal). Returns a state n state') e returns in
    (r.number, r.list)

pub add-invalid : (state : List ℕ) (store : Store) (call : AddCall) (n : ℕ) (state' : List ℕ) (store' : Store)
    → sound_in (state_in state) ≡ false → AddResult state store call n state' store' → (n ≡ 4) × (state' ≡ state) × (store' ≡ store)
unfolding sound_in AddsIn Adds AddsBy
add-invalid state store call n state' store' u result =
    let (refused, kept) = by (state_in state) u result.result in
    let (number, list) = refused_invalid result.answer state n state' (refused_is invalid result.answer refused) result.returns in
    (number, list, kept)
  where
    by : (held : Option CuratorIndex) → sound_in held ≡ false → AddsIn held store call result.answer store'
        → ChangeRefused invalid result.answer × (store' ≡ store)
    by None e adds = adds
    by (Some index) e adds =
        subst (λ (check : Result ⊤ Refusal). AddsBy check index store call result.answer store') (add-first index store call e) adds

pub take_back_invalid : (state : List ℕ) (store : Store) (n : ℕ) (state' : List ℕ) → sound_in (state_in state) ≡ false → TakeBackResult state store n state'
    → (n ≡ 4) × (state' ≡ state)
unfolding sound_in TakesBackIn TakesBack TakesBackBy
take_back_invalid state store n state' u result =
    refused_invalid result.answer state n state' (refused_is invalid result.answer (by (state_in state) u result.result)) result.returns
  where
    by : (held : Option CuratorIndex) → sound_in held ≡ false → TakesBackIn held store result.answer → ChangeRefused invalid result.answer
    by None e takes = takes
    by (Some index) e takes = subst (λ (check : Result ⊤ Refusal). TakesBackBy check index store result.answer) (take_back_first index store e) takes

pub withdraw-invalid : (state : List ℕ) (store : Store) (document n : ℕ) (store' : Store) → sound_in (state_in state) ≡ false
    → WithdrawResult state store document n store' → (n ≡ 4) × (store' ≡ store)
unfolding sound_in WithdrawsIn Withdraws WithdrawsBy
withdraw-invalid state store document n store' u result =
    let (refused, kept) = by (state_in state) u result.withdraws in
    (result.number ∙ ap changed_number (refused_is invalid result.answer refused), kept)
  where
    by : (held : Option CuratorIndex) → sound_in held ≡ false → WithdrawsIn held store document result.answer store'
        → ChangeRefused invalid result.answer × (store' ≡ store)
    by None e withdraws = withdraws
    by (Some index) e withdraws =
        subst (λ (check : Result ⊤ Refusal). WithdrawsBy check index store document result.answer store') (withdraw-first index store document e) withdraws

same_store : (s t : Store) → s.floats ≡ t.floats → s.numbers ≡ t.numbers → s.hashes ≡ t.hashes → s.text ≡ t.text → s ≡ t
same_store s t f n h x = λ i. record { floats = f i; numbers = n i; hashes = h i; text = x i }

pub build-invalid : (state : List ℕ) (store : Store) (work : List ℕ) (n : ℕ) (state' : List ℕ) (store' : Store) (work' : List ℕ)
    → sound_in (state_in state) ≡ false → BuildResult state store work n state' store' work'
    → (n ≡ 4) × (state' ≡ state) × (store' ≡ store) × (work' ≡ work)
unfolding sound_in BuildsIn Builds BuildsBy Freed free_of
build-invalid state store work n state' store' work' u result =
    let (refused, kept, free) = by (state_in state) u result.result in
    let (number, list) = refused_invalid result.answer state n state' (refused_is invalid result.answer refused) result.returns in
    (number, list, kept, free)
  where
    by : (held : Option CuratorIndex) → sound_in held ≡ false → BuildsIn held store work result.answer store' work'
        → ChangeRefused invalid result.answer × (store' ≡ store) × (work' ≡ work)
    by None e builds = builds
    by (Some index) e builds =
        let (refused, left) =
        subst (λ (check : Result ⊤ Refusal). BuildsBy check index store work result.answer store' work') (build-first index store work e) builds in
        (refused, same_store store' store left.floats left.numbers left.hashes left.text, left.work)

pub search-invalid : (state : List ℕ) (store : Store) (work : List ℕ) (call : SearchCall) (answer : List ℕ) (n : ℕ) (work' ids' : List ℕ) (distances' : List Float) (answer' : List ℕ)
    → sound_in (state_in state) ≡ false → SearchResult state store work call answer n work' ids' distances' answer'
    → (n ≡ 4) × (work' ≡ work) × (ids' ≡ call.ids) × (distances' ≡ call.distances) × (answer' ≡ answer)
unfolding sound_in SearchesIn Searches SearchesBy
search-invalid state store work call answer n work' ids' distances' answer' u result =
    let left = by (state_in state) u result.searches in (
      result.number ∙ ap found_number (search_refused_is invalid _ left.answer),
      left.work,
      left.ids,
      left.distances,
      result.values ∙ ap (λ (f : Result Searched Refusal). sets answer 0 (found_values f)) (search_refused_is invalid _ left.answer),
    )
  where
    by : (held : Option CuratorIndex) → sound_in held ≡ false → SearchesIn held store work (asking answer call) (ended result.found work' ids' distances')
        → Untouched work (asking answer call) invalid (ended result.found work' ids' distances')
    by None e searches = searches
    by (Some index) e searches =
        subst (λ (check : Result ⊤ Refusal). SearchesBy check index store work (asking answer call) (ended result.found work' ids' distances'))
        (search-first index store work (asking answer call) e)
        searches
