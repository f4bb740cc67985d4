-- The number of every refusal: the column 'Returned' of document 01's table, and those that document 02 adds.
use Rattle.std.specs.Prelude.{ℕ}
use Rattle.std.specs.Prelude.{Result, Ok, Err, ⊤}
use Rattle.settings.specs.declared.refusal.Refusal.{Refusal}
use Rattle.settings.specs.declared.refusal.Refusal.TheVariants.{Settings, State, Input, Store}
use Rattle.settings.specs.declared.refusal.SettingsRefusal.{SettingsRefusal}
use Rattle.settings.specs.declared.refusal.SettingsRefusal.TheVariants.{InvalidDimension, InvalidConfig}
use Rattle.settings.specs.declared.refusal.StateRefusal.{StateRefusal}
use Rattle.settings.specs.declared.refusal.StateRefusal.TheVariants.{InvalidState, AlreadyBuilt, NotBuilt, EmptyIndex, NoVectorHeld}
use Rattle.settings.specs.declared.refusal.InputRefusal.{InputRefusal}
use Rattle.settings.specs.declared.refusal.InputRefusal.TheVariants.{DimensionMismatch, NonFiniteInput, LabelLengths, AnswerTooShort, BadRecord, SettingsOrder, FileTooLong, UnknownDocument}
use Rattle.settings.specs.declared.refusal.StoreRefusal.{StoreRefusal}
use Rattle.settings.specs.declared.refusal.StoreRefusal.TheVariants.{ListTooShort, VectorsFull, EntriesFull, NodesFull, Damaged, TextFull}

abbrev pub settings_number : SettingsRefusal → ℕ
settings_number InvalidDimension = 1
settings_number InvalidConfig = 2

abbrev pub state_number : StateRefusal → ℕ
state_number InvalidState = 4
state_number AlreadyBuilt = 5
state_number NotBuilt = 6
state_number EmptyIndex = 12
state_number NoVectorHeld = 19

abbrev pub input_number : InputRefusal → ℕ
input_number DimensionMismatch = 7
input_number NonFiniteInput = 8
input_number LabelLengths = 9
input_number AnswerTooShort = 14
input_number BadRecord = 16
input_number SettingsOrder = 17
input_number FileTooLong = 18
input_number UnknownDocument = 24

abbrev pub store_number : StoreRefusal → ℕ
store_number ListTooShort = 3
store_number VectorsFull = 10
store_number EntriesFull = 11
store_number NodesFull = 13
store_number Damaged = 15
store_number TextFull = 20

-- what is returned
abbrev pub number : Refusal → ℕ
number (Settings r) = settings_number r
number (State r) = state_number r
number (Input r) = input_number r
number (Store r) = store_number r

abbrev pub check_number : Result ⊤ Refusal → ℕ
check_number (Ok _) = 0
check_number (Err r) = number r
