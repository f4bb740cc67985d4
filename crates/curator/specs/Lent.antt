-- The records of a call's contract, made of what the call is lent.
use Rattle.std.specs.Prelude.{ℕ, ◌+◌, ◌/◌, ◌≤◌, ◌<◌, Bool, true, List, [], ◌∷◌, ◌≡◌, Float, length}
use Rattle.std.proofs.lemmas.List.Edits.{sets}
use Rattle.std.specs.Borrow.{Bor}
use Rattle.vector.specs.Vector.{dot, Normalized}
use Rattle.lists.specs.Lists.{part, total, is_in}
use Rattle.store.specs.declared.Shape.{Shape}
use Rattle.store.specs.declared.Counts.{Counts}
use Rattle.store.specs.declared.Lengths.{Lengths}
use Rattle.label.specs.Names.{bytes_of_names}
use Rattle.store.specs.Store.{Store, Limits, numbers_size}
use Rattle.store.specs.Lent.{lengths_of, Long, store_short}
use Rattle.std.specs.Prelude.{Result, Ok, Err, ⊤}
use Rattle.settings.specs.declared.refusal.Refusal.{Refusal}
use Rattle.settings.specs.declared.refusal.Refusal.TheVariants as Refusal'
use Rattle.settings.specs.declared.refusal.StoreRefusal.TheVariants as StoreRefusal'
use Rattle.curator.specs.declared.CuratorIndex.{CuratorIndex}
use Rattle.curator.specs.Limits.{state_sound, index_shape}
use Rattle.curator.specs.Rows.{Row, row, first_of, state_row, unbuilt_rows, add_rows, take_back_rows}
use Rattle.curator.specs.Calls.{facts_of}
use Rattle.curator.specs.Changes.{marks_withdrawn}
use Rattle.curator.specs.Arguments.{AddCall, add_of}

-- what an add brings
abbrev pub adding : ℕ → Bor (List Float) → Bor (List ℕ) → Bor (List ℕ) → AddCall
adding document vector lengths bytes = add_of document vector.now lengths.now bytes.now

-- what the rows come to, as code that scanned a vector answers it: a call that is fine goes on with the sum of the squares
abbrev pub with_squares : Result ⊤ Refusal → Float → Result Float Refusal
with_squares (Ok _) squares = Ok squares
with_squares (Err r) squares = Err r

-- rows 4 and 3, by the lengths of the lists
abbrev pub lent_rows : CuratorIndex → Lengths → List Row
lent_rows index lent = state_row (state_sound index) ∷ row (store_short (index_shape index) lent) (Refusal'.Store StoreRefusal'.ListTooShort) ∷ []

-- rows 4, 3 and 5, by the lengths of the lists: those that add and take back have first
abbrev pub early_rows : CuratorIndex → Lengths → List Row
early_rows index lent = state_row (state_sound index) ∷ unbuilt_rows (facts_of index) lent

-- what the rows of an add come to, by the lengths of the lists
abbrev pub add_checked : CuratorIndex → Lengths → AddCall → Result Float Refusal
add_checked index lent call =
    with_squares (first_of (state_row (state_sound index) ∷ add_rows (facts_of index) lent call)) (dot call.vector call.vector)

-- what the rows of a taking back come to, by the lengths of the lists
abbrev pub take_back_checked : CuratorIndex → Lengths → Result ⊤ Refusal
take_back_checked index lent = first_of (state_row (state_sound index) ∷ take_back_rows (facts_of index) lent)

-- What the writing of an add relies on, as plain facts. They hold where no row's case does (`add-facts` of AddLaws).
pub record AddRoom (index : CuratorIndex) (store : Store) (call : AddCall) : Type 0 where
  pub limits : Limits (index_shape index)
  pub long : Long (index_shape index) (lengths_of store)
  pub dimension : length call.vector ≡ index.dimension
  pub labels : call.lengths_allowed ≡ true
  pub vectors : index.counts.vectors < index.capacities.vectors
  pub entries : index.counts.entries + length call.names ≤ index.capacities.entries
  pub text : index.counts.bytes + length (bytes_of_names call.names) ≤ index.capacities.text

-- what the writing of starts, lengths and the live mark relies on
pub record LabelsRoom (s : Shape) (held : Counts) (numbers lengths : List ℕ) : Type 0 where
  pub limits : Limits s
  pub long : numbers_size s ≤ length numbers
  pub vectors : held.vectors < s.vectors
  pub entries : held.entries + length lengths / 2 ≤ s.entries
  pub text : held.bytes + total lengths ≤ s.text

-- `withdraw_marks` writes the marks of vectors, by their document ids, and tells whether one has the id
pub record MarksWritten (document at count : ℕ) (numbers : List ℕ) (held : Bool) (numbers' : List ℕ) : Type 0 where
  pub held_is : held ≡ is_in document (part 0 count numbers)
  pub numbers_are : numbers' ≡ sets numbers at (marks_withdrawn document (part 0 count numbers) (part at count numbers))

-- the list with what is stored of a vector at a place
pub record VectorAt (before : List Float) (place : ℕ) (vector : List Float) (after : List Float) : Type 0 where
  pub stored : List Float
  pub normalized : Normalized (dot vector vector) vector stored
  pub floats : after ≡ sets before place stored
