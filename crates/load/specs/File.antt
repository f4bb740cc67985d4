-- Document 01, 'The echo file and its printer': the text that is printed of a file, by the model of all calls (01's book; crates/runs/specs/Model.antt). No
-- state, no lent list and no answer occurs in it.
use Rattle.std.specs.Prelude.{ℕ, zero, suc, true, cond, List, [], ◌∷◌, ◌++◌, map, ltb, Float, length, replicate, Result, Ok, Err}
use Rattle.std.specs.Float.{binary32, nan}
use Rattle.std.specs.Float.Ieee.{of_bits}
use Rattle.store.specs.declared.Shape.{Shape}
use Rattle.store.specs.declared.Lengths.{Lengths}
use Rattle.store.specs.Store.{work_size}
use Rattle.store.specs.Lent.{sizes_of}
use Rattle.walk.specs.Answer.{Answer}
use Rattle.settings.specs.declared.CuratorParams.{CuratorParams}
use Rattle.settings.specs.Given.{params_of}
use Rattle.settings.specs.declared.Capacities.{Capacities}
use Rattle.curator.specs.declared.CuratorIndex.{CuratorIndex}
use Rattle.settings.specs.declared.refusal.Refusal.{Refusal}
use Rattle.settings.specs.declared.refusal.Refusal.TheVariants.{Settings, Input, Store}
use Rattle.settings.specs.declared.refusal.SettingsRefusal.TheVariants.{InvalidConfig}
use Rattle.settings.specs.declared.refusal.InputRefusal.TheVariants.{BadRecord, SettingsOrder, FileTooLong}
use Rattle.settings.specs.declared.refusal.StoreRefusal.TheVariants.{Damaged}
use Rattle.settings.specs.Refusals.{number}
use Rattle.curator.specs.Changes.{created}
use Rattle.curator.specs.Arguments.{AddCall, SearchCall, Asked, everything, labelled}
use Rattle.runs.specs.Calls.{add, build, Call, change, search}
use Rattle.runs.specs.Model.{Setting, Model, empty_model, Expected, returns, answers, nothing, expected, after}
use Rattle.echo_file.specs.declared.Known.{Known}
use Rattle.echo_file.specs.Format.{FileRecord, settings, vector, filtered, unfiltered}
use Rattle.echo_file.specs.Decode.{Decoded, none, found, decode}
use Rattle.text.specs.Lines.{hit_lines, closing_line, refused_line}

-- ---- what the program lends

-- 'V 128, E 256, M 512', and label text of 65,280 bytes (02, K4)
abbrev pub capacities : Capacities
capacities = record { vectors = 128; entries = 256; nodes = 512; text = 65280 }

-- 'answer lists of 256 places'
abbrev pub answer_places : ℕ
answer_places = 256

-- the largest D and B that a file may ask for
abbrev pub largest : Shape
largest = record { dimension = 16; branching = 64; vectors = 128; entries = 256; nodes = 512; text = 65280 }

-- the lists of the store are lent whole
abbrev pub fronts : Lengths
fronts = sizes_of largest

-- ---- the calls of a record

-- a component by its bits: a NaN's pattern is the one NaN of the language, so that it is refused with 8
abbrev pub floats : List ℕ → List Float
floats patterns = map (of_bits binary32) patterns

abbrev pub add_call : ℕ → List (List ℕ) → List ℕ → AddCall
add_call document labels patterns = record { document = document; vector = floats patterns; lengths_allowed = true; names = labels }

-- The contents of work and answer lists do not matter (crates/runs/specs/Contents.antt): here they are zeros.
abbrev pub search_call : ℕ → Asked → List ℕ → SearchCall
search_call k asked patterns =
    record {
      question = record { query = floats patterns; asked = asked };
      k = k;
      ids = replicate answer_places 0;
      distances = replicate answer_places nan;
    }

abbrev pub work : List ℕ
work = replicate (work_size largest) 0

-- a vector is an add, which is lent no work list
abbrev pub adding_calls : AddCall → List Call
adding_calls call = change fronts [] (add call) ∷ []

-- 'The first search builds': a build of a built index leaves all as it is, so every search builds
abbrev pub searching : SearchCall → List Call
searching call = change fronts work build ∷ search fronts work call ∷ []

-- ---- one record after the other

-- how far a file has come: to its settings or not, and the model of the calls so far
pub data FileProgress : Type 0 where
  unset : FileProgress
  running : Setting → Model → FileProgress

-- 'Before settings, D counts as 0'
abbrev pub known_of : FileProgress → Known
known_of unset = record { dimension = 0 }
known_of (running s m) = record { dimension = s.dimension }

-- what a record comes to: the last text of the file, or a text after which the file goes on
pub data Outcome : Type 0 where
  stops : List ℕ → Outcome
  printed : List ℕ → FileProgress → Outcome

-- '`refused` and the number, and ends'
unfoldable pub refused_text : Refusal → List ℕ
unfolding refused_line
refused_text r = refused_line (number r)

-- 'prints per hit the document id in decimal, a space, the distance's bits in eight lowercase hexadecimal digits; then `whole` or `cut` and the opened
-- count'
unfoldable pub answer_text : Answer → List ℕ
unfolding hit_lines closing_line
answer_text a = hit_lines a.ids a.distances (length a.ids) ++ closing_line a.complete a.opened

-- a text before what comes later
unfoldable pub before : List ℕ → Outcome → Outcome
before text (stops later) = stops (text ++ later)
before text (printed later progress) = printed (text ++ later) progress

-- A call by what the model expects of it: 0 prints nothing, any other number ends the file, an answer is printed. The walk of a search is never damaged
-- (demand 3).
unfoldable pub called : Expected → Outcome → Outcome
unfolding answer_text before refused_text
called (returns zero) later = later
called (returns (suc n)) later = stops (refused_line (suc n))
called (answers a) later = before (answer_text a) later
called nothing later = stops (refused_text (Store Damaged))

-- calls one after the other
unfoldable pub outcome_of : Setting → Model → List Call → Outcome
unfolding called expected after
outcome_of s m [] = printed [] (running s m)
outcome_of s m (call ∷ calls) = called (expected s m call) (outcome_of s (after s m call) calls)

-- a settings record that comes first is put to `new`; 'D from 17 to 128 is printed as refused 2'
unfoldable pub opened : Result CuratorIndex Refusal → ℕ → CuratorParams → Outcome
unfolding refused_text
opened (Err r) dimension params = stops (refused_text r)
opened (Ok index) dimension params =
    cond (ltb 16 dimension) (stops (refused_text (Settings InvalidConfig)))
    (printed [] (running (record { dimension = dimension; params = params; capacities = capacities }) empty_model))

-- a complete record; 17: 'settings not first, or given again'
unfoldable pub carried : FileProgress → FileRecord → Outcome
unfolding created opened outcome_of refused_text
carried unset (settings dimension branching leaf_size ef beam) =
    let params = params_of branching leaf_size ef beam in
    opened (created dimension params capacities) dimension params
carried unset (vector document labels patterns) = stops (refused_text (Input SettingsOrder))
carried unset (filtered k label patterns) = stops (refused_text (Input SettingsOrder))
carried unset (unfiltered k patterns) = stops (refused_text (Input SettingsOrder))
carried (running s m) (settings dimension branching leaf_size ef beam) = stops (refused_text (Input SettingsOrder))
carried (running s m) (vector document labels patterns) = outcome_of s m (adding_calls (add_call document labels patterns))
carried (running s m) (filtered k label patterns) = outcome_of s m (searching (search_call k (labelled label) patterns))
carried (running s m) (unfiltered k patterns) = outcome_of s m (searching (search_call k everything patterns))

-- what the front of some bytes comes to; 16: 'unknown mark, or it ends inside a record'
pub data Front : Type 0 where
  ends : List ℕ → Front
  goes : List ℕ → FileProgress → List ℕ → Front

unfoldable pub then : Outcome → List ℕ → Front
then (stops text) rest = ends text
then (printed text progress) rest = goes text progress rest

unfoldable pub read : Decoded FileRecord → FileProgress → Front
unfolding then carried refused_text
read none progress = ends (refused_text (Input BadRecord))
read (found r rest) progress = then (carried progress r) rest

unfoldable pub front : FileProgress → List ℕ → Front
unfolding read decode
front progress bytes = read (decode (known_of progress) bytes) progress

unfoldable pub text_of : Front → (FileProgress → List ℕ → List ℕ) → List ℕ
text_of (ends text) later = text
text_of (goes text progress rest) later = text ++ later progress rest

-- at the end of a file nothing more is printed
unfoldable pub unless_empty : List ℕ → List ℕ → List ℕ
unless_empty [] text = []
unless_empty (b ∷ bytes) text = text

-- The text of the bytes that are left. Every record has bytes, so as many steps as bytes are enough.
unfoldable pub text_from : ℕ → FileProgress → List ℕ → List ℕ
unfolding front text_of unless_empty
text_from zero progress bytes = []
text_from (suc steps) progress bytes = unless_empty bytes (text_of (front progress bytes) (λ p rest. text_from steps p rest))

-- what is printed of a file; 18: 'over 65,536 bytes', before any record. 'An empty file prints nothing.'
unfoldable pub file_text : List ℕ → List ℕ
unfolding refused_text text_from
file_text bytes = let text = text_from (length bytes) unset bytes in cond (ltb 65536 (length bytes)) (refused_text (Input FileTooLong)) text
