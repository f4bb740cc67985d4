-- Document 01, 'Refusals and what they leave': rows in their order. 'A refusal is returned in its row's case and in no other; where several cases
-- hold, the earliest in the order is returned.' The rows after 4 look at the settings, the number of vectors, entries and bytes held, whether it is built,
-- and the call's arguments, list lengths among them, so that the same rows can be asked of a state and of the model of all calls.
use Rattle.std.specs.Prelude.{ℕ, ◌+◌, Bool, not, ◌&&◌, ◌||◌, cond, List, [], ◌∷◌, ◌++◌, ltb, eqb, length}
use Rattle.vector.specs.Vector.{all_finite}
use Rattle.store.specs.declared.Shape.{Shape}
use Rattle.store.specs.declared.Lengths.{Lengths}
use Rattle.store.specs.Lent.{store_short, lists_short}
use Rattle.std.specs.Prelude.{Result, Ok, Err, ⊤}
use Rattle.settings.specs.declared.CuratorParams.{CuratorParams}
use Rattle.settings.specs.declared.Capacities.{Capacities}
use Rattle.settings.specs.declared.refusal.Refusal.{Refusal}
use Rattle.settings.specs.declared.refusal.Refusal.TheVariants.{Settings, State, Input, Store}
use Rattle.settings.specs.declared.refusal.SettingsRefusal.TheVariants.{InvalidDimension, InvalidConfig}
use Rattle.settings.specs.declared.refusal.StateRefusal.TheVariants.{InvalidState, AlreadyBuilt, NotBuilt, EmptyIndex, NoVectorHeld}
use Rattle.settings.specs.declared.refusal.InputRefusal.TheVariants.{DimensionMismatch, NonFiniteInput, LabelLengths, AnswerTooShort, UnknownDocument}
use Rattle.settings.specs.declared.refusal.StoreRefusal.TheVariants.{ListTooShort, VectorsFull, EntriesFull, NodesFull, Damaged, TextFull}
use Rattle.settings.specs.Limits.{dimension_allowed, params_allowed, capacities_allowed}
use Rattle.label.specs.Names.{bytes_of_names}
use Rattle.curator.specs.Arguments.{AddCall, Asking}

-- a row: whether its case holds, and what is then returned
pub record Row : Type 0 where
  pub holds : Bool
  pub refusal : Refusal

abbrev pub row : Bool → Refusal → Row
row holds refusal = record { holds = holds; refusal = refusal }

-- the first row whose case holds
unfoldable pub first_of : List Row → Result ⊤ Refusal
first_of [] = (Ok tt)
first_of (r ∷ rows) = cond r.holds (Err r.refusal) (first_of rows)

-- What the rows after 4 look at of the index: what fixes the sizes, how many vectors, entries and bytes are held, and whether it is built.
pub record Facts : Type 0 where
  pub shape : Shape
  pub vectors : ℕ
  pub entries : ℕ
  pub bytes : ℕ
  pub built : Bool

-- rows 1 and 2: 'new: D outside 1 to 128', 'new: another setting or capacity outside its limits'
unfoldable pub new_rows : ℕ → CuratorParams → Capacities → List Row
unfolding dimension_allowed params_allowed capacities_allowed
new_rows dimension params capacities =
    row (not (dimension_allowed dimension)) (Settings InvalidDimension)
    ∷ row (not (params_allowed params && capacities_allowed capacities)) (Settings InvalidConfig)
    ∷ []

-- row 4: 'state: ..'
abbrev pub state_row : Bool → Row
state_row sound = row (not sound) (State InvalidState)

-- rows 3 and 5, which add and take back have first after row 4; they are lent no work list
abbrev pub unbuilt_rows : Facts → Lengths → List Row
unbuilt_rows f lent = row (store_short f.shape lent) (Store ListTooShort) ∷ row f.built (State AlreadyBuilt) ∷ []

-- 'Add 4, 3, 5, 7, 8, 9, 10, 11', after row 4; a name has one entry, however it is parted; '20 is returned after 11 when the label bytes would not fit'
-- (02, K4)
unfoldable pub add_rows : Facts → Lengths → AddCall → List Row
unfolding store_short all_finite bytes_of_names
add_rows f lent call =
    unbuilt_rows f lent
    ++ (row (not (eqb (length call.vector) f.shape.dimension)) (Input DimensionMismatch)
    ∷ row (not (all_finite call.vector)) (Input NonFiniteInput)
    ∷ row (not call.lengths_allowed) (Input LabelLengths)
    ∷ row (eqb f.vectors f.shape.vectors) (Store VectorsFull)
    ∷ row (ltb f.shape.entries (f.entries + length call.names)) (Store EntriesFull)
    ∷ row (ltb f.shape.text (f.bytes + length (bytes_of_names call.names))) (Store TextFull)
    ∷ [])

-- 02, K3: 'Taking back is lent what add is, checks 4, 3, 5, and then returns 19 when no vector is held', after row 4
unfoldable pub take_back_rows : Facts → Lengths → List Row
unfolding store_short
take_back_rows f lent = unbuilt_rows f lent ++ (row (eqb f.vectors 0) (State NoVectorHeld) ∷ [])

-- 02, K10: 'After 4 and 3, an id held by no vector returns 24', after row 4. Whether a vector held has the id is handed in.
unfoldable pub withdraw_rows : Facts → Lengths → Bool → List Row
unfolding store_short
withdraw_rows f lent held = row (store_short f.shape lent) (Store ListTooShort) ∷ row (not held) (Input UnknownDocument) ∷ []

-- 'Build 4, 3; a built index then succeeds unchanged; then 12, 15, 13', after row 4. Whether an owner is not below n (15) and whether the defined
-- tree has more than M nodes (13) are handed in.
unfoldable pub build_rows : Facts → Lengths → ℕ → Bool → Bool → List Row
unfolding lists_short
build_rows f lent work damaged tooMany =
    row (lists_short f.shape lent work) (Store ListTooShort) ∷ row (not f.built && eqb f.vectors 0) (State EmptyIndex)
    ∷ row (not f.built && damaged) (Store Damaged)
    ∷ row (not f.built && tooMany) (Store NodesFull)
    ∷ []

-- 'Search 4, 3, 6, 7, 8, 14, 15', after row 4 and up to 14
unfoldable pub search_rows : Facts → Lengths → ℕ → Asking → List Row
unfolding lists_short all_finite
search_rows f lent work asking =
    row (lists_short f.shape lent work) (Store ListTooShort) ∷ row (not f.built) (State NotBuilt)
    ∷ row (not (eqb (length asking.query) f.shape.dimension)) (Input DimensionMismatch)
    ∷ row (not (all_finite asking.query)) (Input NonFiniteInput)
    ∷ row (ltb asking.ids asking.k || ltb asking.distances asking.k) (Input AnswerTooShort)
    ∷ []
