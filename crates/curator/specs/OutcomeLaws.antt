-- An answer is known by its number and values: the number tells the refusals apart, and 0 is none of them. Assumes nothing.
use Rattle.std.specs.Prelude.{ℕ, Bool, true, false, cond, List, [], ◌∷◌, ◌≡◌, refl, length, get_or}
use Rattle.std.proofs.Common.{arith, sym, ap, ◌∙◌}
use Rattle.curator.specs.declared.CuratorIndex.{CuratorIndex}
use Rattle.std.specs.Prelude.{Result, Ok, Err}
use Rattle.walk.specs.declared.Searched.{Searched}
use Rattle.settings.specs.declared.refusal.Refusal.{Refusal}
use Rattle.settings.specs.declared.refusal.Refusal.TheVariants.{Settings, State, Input, Store}
use Rattle.settings.specs.declared.refusal.SettingsRefusal.TheVariants.{InvalidDimension, InvalidConfig}
use Rattle.settings.specs.declared.refusal.StateRefusal.TheVariants.{InvalidState, AlreadyBuilt, NotBuilt, EmptyIndex, NoVectorHeld}
use Rattle.settings.specs.declared.refusal.InputRefusal.TheVariants.{DimensionMismatch, NonFiniteInput, LabelLengths, AnswerTooShort, BadRecord, SettingsOrder, FileTooLong, UnknownDocument}
use Rattle.settings.specs.declared.refusal.StoreRefusal.TheVariants.{ListTooShort, VectorsFull, EntriesFull, NodesFull, Damaged, TextFull}
use Rattle.curator.specs.Outcome.{changed_number, changed_values, found_number, found_values, Succeeded, ChangeRefused, SearchFound, SearchRefused}
use Rattle.settings.specs.Refusals.{number}

-- ---- the number tells the refusals apart

-- in the place of a number that no refusal has
abbrev no_refusal : Refusal
no_refusal = Settings InvalidDimension

-- the refusal with a number
refusals : List Refusal
refusals =
    no_refusal ∷ Settings InvalidDimension ∷ Settings InvalidConfig ∷ Store ListTooShort ∷ State InvalidState ∷ State AlreadyBuilt
    ∷ State NotBuilt ∷ Input DimensionMismatch ∷ Input NonFiniteInput ∷ Input LabelLengths ∷ Store VectorsFull ∷ Store EntriesFull
    ∷ State EmptyIndex ∷ Store NodesFull ∷ Input AnswerTooShort ∷ Store Damaged ∷ Input BadRecord ∷ Input SettingsOrder ∷ Input FileTooLong
    ∷ State NoVectorHeld ∷ Store TextFull ∷ no_refusal ∷ no_refusal ∷ no_refusal ∷ Input UnknownDocument ∷ []

refusal_of : ℕ → Refusal
refusal_of n = get_or refusals n no_refusal

refusal_of_lem : (r : Refusal) → refusal_of (number r) ≡ r
unfolding refusal_of refusals
refusal_of_lem (Settings InvalidDimension) = refl
refusal_of_lem (Settings InvalidConfig) = refl
refusal_of_lem (State InvalidState) = refl
refusal_of_lem (State AlreadyBuilt) = refl
refusal_of_lem (State NotBuilt) = refl
refusal_of_lem (State EmptyIndex) = refl
refusal_of_lem (State NoVectorHeld) = refl
refusal_of_lem (Input DimensionMismatch) = refl
refusal_of_lem (Input NonFiniteInput) = refl
refusal_of_lem (Input LabelLengths) = refl
refusal_of_lem (Input AnswerTooShort) = refl
refusal_of_lem (Input BadRecord) = refl
refusal_of_lem (Input SettingsOrder) = refl
refusal_of_lem (Input FileTooLong) = refl
refusal_of_lem (Input UnknownDocument) = refl
refusal_of_lem (Store ListTooShort) = refl
refusal_of_lem (Store VectorsFull) = refl
refusal_of_lem (Store EntriesFull) = refl
refusal_of_lem (Store NodesFull) = refl
refusal_of_lem (Store Damaged) = refl
refusal_of_lem (Store TextFull) = refl

pub number_injective : (q r : Refusal) → number q ≡ number r → q ≡ r
number_injective q r e = sym (refusal_of_lem q) ∙ ap refusal_of e ∙ refusal_of_lem r

-- ---- answers from number and values, and back

head_is : {x y : CuratorIndex} → x ∷ [] ≡ y ∷ [] → x ≡ y
head_is e = cc

short : {A : Type 0} {x : A} {l : List A} → [] ≡ x ∷ l → ⊥
short {l = l} e = let n : 0 ≡ length l = cc in let z : ◌≡◌ {A = ℕ} 0 1 = cc in omega arith

pub carried-is : (index : CuratorIndex) (answer : Result CuratorIndex Refusal) → Succeeded index answer → answer ≡ Ok index
carried-is index (Ok next) c = ap Ok (head_is c.values_are)
carried-is index (Err r) c = absurd (short c.values_are)

pub is_carried : (index : CuratorIndex) (answer : Result CuratorIndex Refusal) → answer ≡ Ok index → Succeeded index answer
is_carried index answer e = record { number_is = ap changed_number e; values_are = ap changed_values e }

pub refused_is : (r : Refusal) (answer : Result CuratorIndex Refusal) → ChangeRefused r answer → answer ≡ Err r
refused_is r (Ok next) c = absurd (short (sym c.values_are))
refused_is r (Err q) c = ap Err (number_injective q r c.number_is)

pub is_refused : (r : Refusal) (answer : Result CuratorIndex Refusal) → answer ≡ Err r → ChangeRefused r answer
is_refused r answer e = record { number_is = ap changed_number e; values_are = ap changed_values e }

-- the mark is known by its number
mark-is : (a b : Bool) → ◌≡◌ {A = ℕ} (cond a 1 0) (cond b 1 0) → a ≡ b
mark-is true true e = refl
mark-is true false e = absurd (omega arith)
mark-is false true e = absurd (omega arith)
mark-is false false e = refl

pub found-is : (hits opened : ℕ) (whole : Bool) (answer : Result Searched Refusal) → SearchFound hits opened whole answer → answer ≡ Ok (record { hits = hits; opened = opened; whole = whole })
found-is hits opened whole (Ok s) f =
    let values : s.hits ∷ s.opened ∷ cond s.whole 1 0 ∷ [] ≡ hits ∷ opened ∷ cond whole 1 0 ∷ [] = f.values_are in
    let a : s.hits ≡ hits = ap (λ (l : List ℕ). get_or l 0 0) values in
    let b : s.opened ≡ opened = ap (λ (l : List ℕ). get_or l 1 0) values in
    let c : s.whole ≡ whole = mark-is s.whole whole (ap (λ (l : List ℕ). get_or l 2 0) values) in
    rw (← a, ← b, ← c)
found-is hits opened whole (Err r) f = absurd (short f.values_are)

pub is_found : (hits opened : ℕ) (whole : Bool) (answer : Result Searched Refusal) → answer ≡ Ok (record { hits = hits; opened = opened; whole = whole }) → SearchFound hits opened whole answer
is_found hits opened whole answer e = record { number_is = ap found_number e; values_are = ap found_values e }

pub search_refused_is : (r : Refusal) (answer : Result Searched Refusal) → SearchRefused r answer → answer ≡ Err r
search_refused_is r (Ok s) f = absurd (short (sym f.values_are))
search_refused_is r (Err q) f = ap Err (number_injective q r f.number_is)

pub is-search_refused : (r : Refusal) (answer : Result Searched Refusal) → answer ≡ Err r → SearchRefused r answer
is-search_refused r answer e = record { number_is = ap found_number e; values_are = ap found_values e }
