-- Document 01, 'Refusals and what they leave': 'A refusal is returned in its row's case and in no other; where several cases hold, the earliest in
-- the order is returned.' Stated once over any list of rows, then for the numbers of `new` and `add`; of a taking back in TakeBackLaws, of a build
-- in BuildRowLaws, of the searches in SearchRowLaws.
use Rattle.std.specs.Prelude.{ℕ, zero, suc, ◌<◌, Bool, true, false, not, ◌&&◌, ◌≡◌, refl, List, [], ◌∷◌, ◌++◌, Float, length, get_or, ◌↔◌, ◌⊎◌}
use Rattle.std.proofs.Common.{sym, ap, ◌∙◌, arith, inl, inr}
use Rattle.std.proofs.lemmas.Bool.{not-true, not-false}
use Rattle.lists.specs.Lists.{is_in}
use Rattle.lists.specs.Counting.{place-is_in}
use Rattle.store.specs.Store.{Store}
use Rattle.settings.specs.declared.Capacities.{Capacities}
use Rattle.std.specs.Prelude.{Result, Ok, Err, ⊤}
use Rattle.curator.specs.declared.CuratorIndex.{CuratorIndex}
use Rattle.settings.specs.declared.CuratorParams.{CuratorParams}
use Rattle.settings.specs.declared.refusal.Refusal.{Refusal}
use Rattle.settings.specs.declared.refusal.Refusal.TheVariants.{Settings, State, Input, Store as StoreR}
use Rattle.settings.specs.declared.refusal.SettingsRefusal.TheVariants.{InvalidDimension, InvalidConfig}
use Rattle.settings.specs.declared.refusal.StateRefusal.TheVariants.{InvalidState, AlreadyBuilt, NotBuilt, EmptyIndex, NoVectorHeld}
use Rattle.settings.specs.declared.refusal.InputRefusal.TheVariants.{DimensionMismatch, NonFiniteInput, LabelLengths, AnswerTooShort, BadRecord, SettingsOrder, FileTooLong, UnknownDocument}
use Rattle.settings.specs.declared.refusal.StoreRefusal.TheVariants.{ListTooShort, VectorsFull, EntriesFull, NodesFull, Damaged, TextFull}
use Rattle.curator.specs.Outcome.{changed_number}
use Rattle.settings.specs.Refusals.{number, check_number}
use Rattle.curator.specs.Limits.{state_sound}
use Rattle.curator.specs.Rows.{Row, first_of, new_rows, state_row, add_rows}
use Rattle.curator.specs.Calls.{facts_of, fresh}
use Rattle.store.specs.Lent.{lengths_of}
use Rattle.curator.specs.Changes.{created, new_answer, add_check, AddsBy, Adds, Creates, NewBy}
use Rattle.curator.specs.OutcomeLaws.{carried-is, is_carried, refused_is, is_refused}
use Rattle.curator.specs.Arguments.{AddCall}
use Rattle.curator.specs.Lent.{with_squares}

-- ---- one row

pub no_rows : first_of [] ≡ (Ok tt)
unfolding first_of
no_rows = refl

pub row-stops : (r : Row) (rows : List Row) → r.holds ≡ true → first_of (r ∷ rows) ≡ Err r.refusal
unfolding first_of
row-stops r rows e = rw e

pub row-passes : (r : Row) (rows : List Row) → r.holds ≡ false → first_of (r ∷ rows) ≡ first_of rows
unfolding first_of
row-passes r rows e = rw e

-- a test that a row negates
pub test_failed : (t : Bool) → (not t ≡ true) ↔ (t ≡ false)
test_failed t = (not-true t, λ e. ap not e)

pub test-passed : (t : Bool) → (not t ≡ false) ↔ (t ≡ true)
test-passed t = (not-false t, λ e. ap not e)

-- ---- a check that carries the sum of squares

-- the answer by what the rows come to
pub squares_by : (rows : List Row) (sum : Float) {check : Result ⊤ Refusal} → first_of rows ≡ check → with_squares check sum ≡ with_squares (first_of rows) sum
squares_by rows sum e = ap (λ (k : Result ⊤ Refusal). with_squares k sum) (sym e)

pub squares_fine : (check : Result ⊤ Refusal) (sum squares : Float) → with_squares check sum ≡ Ok squares → (check ≡ (Ok tt)) × (squares ≡ sum)
squares_fine (Ok _) sum squares e = (refl, cc)
squares_fine (Err r) sum squares e = let z : ◌≡◌ {A = ℕ} 0 1 = cc in absurd (omega arith)

pub squares_refused : (check : Result ⊤ Refusal) (sum : Float) (r : Refusal) → with_squares check sum ≡ Err r → check ≡ Err r
squares_refused (Ok _) sum r e = let z : ◌≡◌ {A = ℕ} 0 1 = cc in absurd (omega arith)
squares_refused (Err q) sum r e = cc

-- ---- any list of rows

-- no row's case holds
abbrev pub NoneHolds : List Row → Type 0
NoneHolds [] = Unit
NoneHolds (r ∷ rows) = (r.holds ≡ false) × NoneHolds rows

-- the case of the row at a place holds, and no earlier row's does
abbrev pub FirstAt : List Row → ℕ → Type 0
FirstAt [] i = ⊥
FirstAt (r ∷ rows) zero = r.holds ≡ true
FirstAt (r ∷ rows) (suc i) = (r.holds ≡ false) × FirstAt rows i

-- what is returned in the case of the row at a place
abbrev pub refusal_at : List Row → ℕ → Result ⊤ Refusal
refusal_at [] i = (Ok tt)
refusal_at (r ∷ rows) zero = Err r.refusal
refusal_at (r ∷ rows) (suc i) = refusal_at rows i

-- the numbers of some rows, in order
abbrev pub numbers_of_rows : List Row → List ℕ
numbers_of_rows [] = []
numbers_of_rows (r ∷ rows) = number r.refusal ∷ numbers_of_rows rows

-- whether the numbers of a list are all different
unfoldable pub different : List ℕ → Bool
unfolding is_in
different [] = true
different (x ∷ xs) = not (is_in x xs) && different xs

fine_refused : {r : Refusal} → ◌≡◌ {A = Result ⊤ Refusal} (Ok tt) (Err r) → ⊥
fine_refused e = let z : ◌≡◌ {A = ℕ} 0 1 = cc in omega arith

true_false : true ≡ false → ⊥
true_false e = let z : ◌≡◌ {A = ℕ} 0 1 = cc in omega arith

-- every list of rows is in one of the two cases
pub first_or_none : (rows : List Row) → NoneHolds rows ⊎ ((i : ℕ) × FirstAt rows i)
first_or_none [] = inl tt
first_or_none (r ∷ rows) = by r.holds refl (first_or_none rows)
  where
    by : (h : Bool) → r.holds ≡ h → NoneHolds rows ⊎ ((i : ℕ) × FirstAt rows i) → NoneHolds (r ∷ rows) ⊎ ((i : ℕ) × FirstAt (r ∷ rows) i)
    by true e later = inr (zero, e)
    by false e (inl none) = inl (e, none)
    by false e (inr (i, first)) = inr (suc i, (e, first))

pub none_fine : (rows : List Row) → NoneHolds rows → first_of rows ≡ (Ok tt)
none_fine [] h = no_rows
none_fine (r ∷ rows) (e, h) = row-passes r rows e ∙ none_fine rows h

pub fine_none : (rows : List Row) → first_of rows ≡ (Ok tt) → NoneHolds rows
fine_none [] f = tt
fine_none (r ∷ rows) f = by r.holds refl (fine_none rows)
  where
    by : (h : Bool) → r.holds ≡ h → (first_of rows ≡ (Ok tt) → NoneHolds rows) → NoneHolds (r ∷ rows)
    by true e later = absurd (fine_refused (sym f ∙ row-stops r rows e))
    by false e later = (e, later (sym (row-passes r rows e) ∙ f))

pub first_refused : (rows : List Row) (i : ℕ) → FirstAt rows i → first_of rows ≡ refusal_at rows i
first_refused [] i h = absurd h
first_refused (r ∷ rows) zero e = row-stops r rows e
first_refused (r ∷ rows) (suc i) (e, h) = row-passes r rows e ∙ first_refused rows i h

-- rows that others follow
abbrev pub check_then : Result ⊤ Refusal → Result ⊤ Refusal → Result ⊤ Refusal
check_then (Ok _) later = later
check_then (Err r) later = Err r

pub rows_then : (rows more : List Row) (check : Result ⊤ Refusal) → first_of rows ≡ check → first_of (rows ++ more) ≡ check_then check (first_of more)
rows_then rows more check f = then rows ∙ ap (λ (c : Result ⊤ Refusal). check_then c (first_of more)) f
  where
    then : (rows : List Row) → first_of (rows ++ more) ≡ check_then (first_of rows) (first_of more)
    then [] = ap (λ (c : Result ⊤ Refusal). check_then c (first_of more)) (sym no_rows)
    then (r ∷ rows) = by r.holds refl (then rows)
      where
        by : (h : Bool) → r.holds ≡ h → first_of (rows ++ more) ≡ check_then (first_of rows) (first_of more)
            → first_of (r ∷ (rows ++ more)) ≡ check_then (first_of (r ∷ rows)) (first_of more)
        by true e later = row-stops r (rows ++ more) e ∙ ap (λ (c : Result ⊤ Refusal). check_then c (first_of more)) (sym (row-stops r rows e))
        by false e later = row-passes r (rows ++ more) e ∙ later ∙ ap (λ (c : Result ⊤ Refusal). check_then c (first_of more)) (sym (row-passes r rows e))

pub refused_first : (rows : List Row) (r : Refusal) → first_of rows ≡ Err r → (i : ℕ) × FirstAt rows i × (refusal_at rows i ≡ Err r)
refused_first rows r f = by (first_or_none rows)
  where
    by : NoneHolds rows ⊎ ((i : ℕ) × FirstAt rows i) → (i : ℕ) × FirstAt rows i × (refusal_at rows i ≡ Err r)
    by (inl none) = absurd (fine_refused (sym (none_fine rows none) ∙ f))
    by (inr (i, first)) = (i, first, sym (first_refused rows i first) ∙ f)

-- ---- numbers

-- a number is 0 for what is accepted alone
pub number-positive : (r : Refusal) → 0 < number r
number-positive (Settings InvalidDimension) = omega arith
number-positive (Settings InvalidConfig) = omega arith
number-positive (State InvalidState) = omega arith
number-positive (State AlreadyBuilt) = omega arith
number-positive (State NotBuilt) = omega arith
number-positive (State EmptyIndex) = omega arith
number-positive (State NoVectorHeld) = omega arith
number-positive (Input DimensionMismatch) = omega arith
number-positive (Input NonFiniteInput) = omega arith
number-positive (Input LabelLengths) = omega arith
number-positive (Input AnswerTooShort) = omega arith
number-positive (Input BadRecord) = omega arith
number-positive (Input SettingsOrder) = omega arith
number-positive (Input FileTooLong) = omega arith
number-positive (Input UnknownDocument) = omega arith
number-positive (StoreR ListTooShort) = omega arith
number-positive (StoreR VectorsFull) = omega arith
number-positive (StoreR EntriesFull) = omega arith
number-positive (StoreR NodesFull) = omega arith
number-positive (StoreR Damaged) = omega arith
number-positive (StoreR TextFull) = omega arith

pub zero_fine : (check : Result ⊤ Refusal) → check_number check ≡ 0 → check ≡ (Ok tt)
zero_fine (Ok _) e = refl
zero_fine (Err r) e = let h = number-positive r in absurd (omega arith)

pub accepted-zero : (answer : Result CuratorIndex Refusal) → changed_number answer ≡ 0 → (index : CuratorIndex) × (answer ≡ Ok index)
accepted-zero (Ok index) e = (index, refl)
accepted-zero (Err r) e = let h = number-positive r in absurd (omega arith)

-- the first row's number is returned
pub first-number : (rows : List Row) (i : ℕ) → FirstAt rows i → check_number (first_of rows) ≡ get_or (numbers_of_rows rows) i 0
first-number rows i h = ap check_number (first_refused rows i h) ∙ at rows i h
  where
    at : (rows : List Row) (i : ℕ) → FirstAt rows i → check_number (refusal_at rows i) ≡ get_or (numbers_of_rows rows) i 0
    at [] i h = absurd h
    at (r ∷ rows) zero e = refl
    at (r ∷ rows) (suc i) (e, h) = at rows i h

first-place : (rows : List Row) (i : ℕ) → FirstAt rows i → i < length (numbers_of_rows rows)
first-place [] i h = absurd h
first-place (r ∷ rows) zero e = omega arith
first-place (r ∷ rows) (suc i) (e, h) = let k = first-place rows i h in omega arith

-- no number is returned that is not a row's
returned_in : (rows : List Row) (n : ℕ) → 0 < n → check_number (first_of rows) ≡ n → is_in n (numbers_of_rows rows) ≡ true
returned_in rows n p e = by (first_or_none rows)
  where
    by : NoneHolds rows ⊎ ((i : ℕ) × FirstAt rows i) → is_in n (numbers_of_rows rows) ≡ true
    by (inl none) = let z : 0 ≡ n = sym (ap check_number (none_fine rows none)) ∙ e in absurd (omega arith)
    by (inr (i, first)) = place-is_in n (numbers_of_rows rows) i 0 (first-place rows i first) (sym (first-number rows i first) ∙ e)

apart : (x : ℕ) (xs : List ℕ) → different (x ∷ xs) ≡ true → (is_in x xs ≡ false) × (different xs ≡ true)
unfolding different
apart x xs h = by (is_in x xs) refl h
  where
    by : (b : Bool) → is_in x xs ≡ b → not b && different xs ≡ true → (is_in x xs ≡ false) × (different xs ≡ true)
    by true e h = absurd (true_false (sym h))
    by false e h = (e, h)

-- 'A refusal is returned in its row's case and in no other; where several cases hold, the earliest in the order is returned': where the rows have
-- different numbers, the number of the row at a place is returned exactly if its case holds and no earlier row's does.
pub number-first : (rows : List Row) (i : ℕ) → different (numbers_of_rows rows) ≡ true → i < length (numbers_of_rows rows)
    → check_number (first_of rows) ≡ get_or (numbers_of_rows rows) i 0 → FirstAt rows i
number-first [] i d h e = absurd (omega arith)
number-first (r ∷ rows) zero d h e = by r.holds refl
  where
    by : (b : Bool) → r.holds ≡ b → r.holds ≡ true
    by true f = f
    by false f =
        let found = returned_in rows (number r.refusal) (number-positive r.refusal) (sym (ap check_number (row-passes r rows f)) ∙ e) in
        absurd (true_false (sym found ∙ (apart (number r.refusal) (numbers_of_rows rows) d).0))
number-first (r ∷ rows) (suc i) d h e =
    by r.holds refl (number-first rows i (apart (number r.refusal) (numbers_of_rows rows) d).1 (omega arith))
  where
    by : (b : Bool) → r.holds ≡ b → (check_number (first_of rows) ≡ get_or (numbers_of_rows rows) i 0 → FirstAt rows i)
        → (r.holds ≡ false) × FirstAt rows i
    by true f later =
        let k : i < length (numbers_of_rows rows) = omega arith in
        let found = place-is_in (number r.refusal) (numbers_of_rows rows) i 0 k (sym e ∙ ap check_number (row-stops r rows f)) in
        absurd (true_false (sym found ∙ (apart (number r.refusal) (numbers_of_rows rows) d).0))
    by false f later = (f, later (sym (ap check_number (row-passes r rows f)) ∙ e))

pub returned_exactly : (rows : List Row) (order : List ℕ) → numbers_of_rows rows ≡ order → different order ≡ true → (returned : ℕ)
    → returned ≡ check_number (first_of rows) → (i : ℕ) → i < length order → (returned ≡ get_or order i 0) ↔ FirstAt rows i
returned_exactly rows order o d returned m i h =
    let at = ap (λ (l : List ℕ). get_or l i 0) o in
    (λ e. number-first rows i (ap different o ∙ d) (rw o h) (sym m ∙ e ∙ sym at), λ f. m ∙ first-number rows i f ∙ at)

-- ---- new: 'Order: new 1, 2.'

pub new_order : (dimension : ℕ) (params : CuratorParams) (capacities : Capacities)
    → numbers_of_rows (new_rows dimension params capacities) ≡ 1 ∷ 2 ∷ []
unfolding new_rows
new_order dimension params capacities = refl

pub created-number : (dimension : ℕ) (params : CuratorParams) (capacities : Capacities)
    → changed_number (created dimension params capacities) ≡ check_number (first_of (new_rows dimension params capacities))
unfolding created
created-number dimension params capacities = by (first_of (new_rows dimension params capacities))
  where
    by : (check : Result ⊤ Refusal) → changed_number (new_answer check dimension params capacities) ≡ check_number check
    by (Ok _) = refl
    by (Err r) = refl

-- the answer of `new`, as its relation says it, and the other way round
pub creates-is : (dimension : ℕ) (params : CuratorParams) (capacities : Capacities) (answer : Result CuratorIndex Refusal) → Creates dimension params capacities answer
    → answer ≡ created dimension params capacities
unfolding Creates NewBy created new_answer
creates-is dimension params capacities answer h = by (first_of (new_rows dimension params capacities)) h
  where
    by : (check : Result ⊤ Refusal) → NewBy check dimension params capacities answer → answer ≡ new_answer check dimension params capacities
    by (Ok _) c = carried-is (fresh dimension params capacities) answer c
    by (Err r) c = refused_is r answer c

pub is-created : (dimension : ℕ) (params : CuratorParams) (capacities : Capacities) (answer : Result CuratorIndex Refusal) → answer ≡ created dimension params capacities
    → Creates dimension params capacities answer
unfolding Creates NewBy created new_answer
is-created dimension params capacities answer e = by (first_of (new_rows dimension params capacities)) e
  where
    by : (check : Result ⊤ Refusal) → answer ≡ new_answer check dimension params capacities → NewBy check dimension params capacities answer
    by (Ok _) c = is_carried (fresh dimension params capacities) answer c
    by (Err r) c = is_refused r answer c

-- each of the numbers 1 and 2 exactly if its row's case holds and no earlier row's does
pub new_returned : (dimension : ℕ) (params : CuratorParams) (capacities : Capacities) (answer : Result CuratorIndex Refusal) → Creates dimension params capacities answer
    → (i : ℕ) → i < 2 → (changed_number answer ≡ get_or (1 ∷ 2 ∷ []) i 0) ↔ FirstAt (new_rows dimension params capacities) i
unfolding different
new_returned dimension params capacities answer new i h =
    returned_exactly (new_rows dimension params capacities) (1 ∷ 2 ∷ []) (new_order dimension params capacities) refl _
    (ap changed_number (creates-is dimension params capacities answer new) ∙ created-number dimension params capacities)
    i
    h

-- ---- add: 'Add 4, 3, 5, 7, 8, 9, 10, 11', and 20 after 11 (02, K4)

abbrev pub rows_of_add : CuratorIndex → Store → AddCall → List Row
rows_of_add index store call =
    state_row (state_sound index) ∷ add_rows (facts_of index) (lengths_of store) call

abbrev pub add_numbers : List ℕ
add_numbers = 4 ∷ 3 ∷ 5 ∷ 7 ∷ 8 ∷ 9 ∷ 10 ∷ 11 ∷ 20 ∷ []

pub add-order : (index : CuratorIndex) (store : Store) (call : AddCall) → numbers_of_rows (rows_of_add index store call) ≡ add_numbers
unfolding add_rows
add-order index store call = refl

pub add-check-rows : (index : CuratorIndex) (store : Store) (call : AddCall) → add_check index store call ≡ first_of (rows_of_add index store call)
unfolding add_check
add-check-rows index store call = refl

pub adds-number : (index : CuratorIndex) (store : Store) (call : AddCall) (answer : Result CuratorIndex Refusal) (store' : Store)
    → Adds index store call answer store' → changed_number answer ≡ check_number (add_check index store call)
unfolding Adds AddsBy
adds-number index store call answer store' h = by (add_check index store call) h
  where
    by : (check : Result ⊤ Refusal) → AddsBy check index store call answer store' → changed_number answer ≡ check_number check
    by (Ok _) (e, wrote) = e.number_is
    by (Err r) (e, same) = e.number_is

-- each of the numbers exactly if its row's case holds and no earlier row's does
pub add_returned : (index : CuratorIndex) (store : Store) (call : AddCall) (answer : Result CuratorIndex Refusal) (store' : Store)
    → Adds index store call answer store' → (i : ℕ) → i < 9
    → (changed_number answer ≡ get_or add_numbers i 0) ↔ FirstAt (rows_of_add index store call) i
unfolding different
add_returned index store call answer store' adds i h =
    returned_exactly (rows_of_add index store call) add_numbers (add-order index store call) refl _
    (adds-number index store call answer store' adds ∙ ap check_number (add-check-rows index store call))
    i
    h
