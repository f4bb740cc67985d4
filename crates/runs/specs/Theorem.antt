-- Demand 3: when a call has ended as the model (01's book, Model.antt) expects, the premise, what a search is about, and the one claim about every run of
-- a list of calls (Run.antt). It is proved in Demand.antt. Words in quotation marks are document 01's, 'Runs' and 'The book'; (a) and (b) are the two
-- parts of the demand.
use Rattle.std.specs.Prelude.{ℕ, ◌≤◌, ◌<◌, Bool, true, false, ◌&&◌, ◌||◌, ◌≡◌, Float, length, get_or, take}
use mathlib.Core.List.{List, [], ◌∷◌, map, Memᴰ, Permᴰ}
use Rattle.std.specs.Float.{nan}
use Rattle.std.proofs.lemmas.List.Edits.{sets}
use Rattle.lists.specs.Lists.{keep, same_list}
use Rattle.distance.specs.Distance.{distance}
use Rattle.total_order.specs.TotalOrder.{total_order}
use Rattle.vector.specs.Normalized.{normalized}
use Rattle.walk.specs.Answer.{Answer}
use Rattle.curator.specs.Outcome.{changed_number, found_number, SearchFound}
use Rattle.settings.specs.Refusals.{check_number}
use Rattle.curator.specs.Searches.{SearchEnd}
use Rattle.curator.specs.Arguments.{Asked, everything, labelled, labelled_both, Question, SearchCall}
use Rattle.runs.specs.Calls.{Call, change, search, AllAlike}
use Rattle.runs.specs.Model.{Setting, Model, ModelRow, empty_model, node_count, model_check, Expected, returns, answers, nothing, expected, after, model_from}
use Rattle.runs.specs.Run.{Ended, changed, found, Run}

-- ---- how a call ended, and when that is as expected

-- the number that a call returned: 0 where it was answered
abbrev pub end_number : Ended → ℕ
end_number (changed answer) = changed_number answer
end_number (found end) = found_number end.answer

-- the values of an answered search: 'The answer carries the hit count, the nodes opened, and whole or cut'; and its answer lists
pub record Reply : Type 0 where
  pub hits : ℕ
  pub opened : ℕ
  pub complete : Bool
  pub ids : List ℕ
  pub distances : List Float

-- this end is an answered search with these values
abbrev pub AnsweredWith : Ended → Reply → Type 0
AnsweredWith (changed answer) reply = ⊥
AnsweredWith (found end) reply =
    SearchFound reply.hits reply.opened reply.complete end.answer × (end.ids ≡ reply.ids) × (end.distances ≡ reply.distances)

-- 'Hits are compared by hit count and, in the places below it, ids and distance bits'; 'Answer places from the hit count on keep what they held'
abbrev pub reply_of : Answer → SearchCall → Reply
reply_of a call =
    record {
      hits = length a.ids;
      opened = a.opened;
      complete = a.complete;
      ids = sets call.ids 0 a.ids;
      distances = sets call.distances 0 a.distances;
    }

-- 'Any refusal leaves state, store and answer lists unchanged'
pub record Keeps (call : SearchCall) (end : SearchEnd) : Type 0 where
  pub ids : end.ids ≡ call.ids
  pub distances : end.distances ≡ call.distances

-- a call ended as expected
abbrev pub Matches : Expected → Call → Ended → Type 0
Matches nothing call end = ⊥
Matches (returns n) (change fronts work c) (changed answer) = changed_number answer ≡ n
Matches (returns n) (change fronts work c) (found end) = ⊥
Matches (returns n) (search fronts work call) (changed answer) = ⊥
Matches (returns n) (search fronts work call) (found end) = (found_number end.answer ≡ n) × Keeps call end
Matches (answers a) (change fronts work c) end = ⊥
Matches (answers a) (search fronts work call) end = AnsweredWith end (reply_of a call)

-- A claim about each call of a list: about the model that the call is put to, the call, and how it ended.
abbrev pub AtEach : Setting → (Model → Call → Ended → Type 0) → Model → List Call → List Ended → Type 0
AtEach s claim m [] [] = Unit {0}
AtEach s claim m [] (end ∷ ends) = ⊥
AtEach s claim m (call ∷ calls) [] = ⊥
AtEach s claim m (call ∷ calls) (end ∷ ends) = claim m call end × AtEach s claim (after s m call) calls ends

-- a claim about the calls of two runs, paired by their places
abbrev pub InPairs : (Ended → Ended → Type 0) → List Ended → List Ended → Type 0
InPairs claim [] [] = Unit {0}
InPairs claim [] (end' ∷ ends') = ⊥
InPairs claim (end ∷ ends) [] = ⊥
InPairs claim (end ∷ ends) (end' ∷ ends') = claim end end' × InPairs claim ends ends'

-- ---- the premise

-- 02, K4: 'Two labels are the same exactly when their bytes are', and 'the no-repeat premise is read by bytes'
unfoldable pub same_label : List ℕ → List ℕ → Bool
unfolding same_list
same_label name other = same_list name other

-- no two elements of a list are the same in some sense: none is the same as a later one
abbrev pub NoTwo : {A : Type 0} → (A → A → Type 0) → List A → Type 0
NoTwo {A = A} Same [] = Unit {0}
NoTwo {A = A} Same (x ∷ xs) = ((y : A) → Memᴰ y xs → Same x y → ⊥) × NoTwo Same xs

-- no two rows have one document id, and no row has a label twice
pub record Distinct (m : Model) : Type 0 where
  pub documents : NoTwo (λ (r t : ModelRow). r.document ≡ t.document) m.rows
  pub labels : (r : ModelRow) → Memᴰ r m.rows → NoTwo (λ (a b : List ℕ). same_label a b ≡ true) r.names

-- The premise of (a) and (b): it never comes to that, at no prefix of the calls.
abbrev pub Premise : Setting → List Call → Type 0
Premise s calls = (n : ℕ) → Distinct (model_from s empty_model (take n calls))

-- ---- what a search is about, and in which order

-- a row's labels have one that is the same as this
unfoldable pub has_label : List ℕ → List (List ℕ) → Bool
unfolding same_label
has_label name [] = false
has_label name (label ∷ labels) = same_label name label || has_label name labels

-- 'Whole answers are about vectors carrying the label's bytes' (02, K4); with two labels, about those carrying both (02, K1); unfiltered, about all
unfoldable pub carries : Asked → ModelRow → Bool
unfolding has_label
carries everything r = true
carries (labelled name) r = has_label name r.names
carries (labelled_both name other) r = has_label name r.names && has_label other r.names

-- the rows that carry what is searched for
unfoldable pub carrying : Question → Model → List ModelRow
unfolding keep carries
carrying question m = keep (carries question.asked) m.rows

-- 'whole answers are read over live vectors' (02, K10)
unfoldable pub about : Question → Model → List ModelRow
unfolding keep carrying
about question m = keep (λ r. r.live) (carrying question m)

-- 'Distances are from the normalised query to the lines' vectors and rank in total order.'
abbrev pub row_distance : Question → ModelRow → Float
row_distance question r = distance (normalized question.query) r.vector

-- by distance in total order, then by document id
abbrev pub NoLaterRow : Question → ModelRow → ModelRow → Type 0
NoLaterRow question r t =
    (total_order (row_distance question r) (row_distance question t) ≡ true) × (row_distance question r ≡ row_distance question t → r.document ≤ t.document)

abbrev pub InOrder : Question → List ModelRow → Type 0
InOrder question [] = Unit {0}
InOrder question (r ∷ rows) = ((t : ModelRow) → Memᴰ t rows → NoLaterRow question r t) × InOrder question rows

-- A reference list: the rows that the search is about, in order. One exists (Reference.antt), and any will do.
pub record Reference (m : Model) (question : Question) (reference : List ModelRow) : Type 0 where
  pub same : Permᴰ reference (about question m)
  pub ordered : InOrder question reference

-- ---- the parts of the claim about one call

-- no call is answered 15, none 4
pub record NeverDamaged (end : Ended) : Type 0 where
  pub damaged : end_number end ≡ 15 → ⊥
  pub state : end_number end ≡ 4 → ⊥

-- (a) at least as many hits, and at no place that both fill a later distance: 'A distance is later if it comes after in total order.'
pub record NotWorse (reply reply' : Reply) : Type 0 where
  pub more : reply.hits ≤ reply'.hits
  pub later : (i : ℕ) → i < reply.hits → total_order (get_or reply'.distances i nan) (get_or reply.distances i nan) ≡ true

-- of two answered searches
abbrev pub Better : Ended → Ended → Type 0
Better end end' = (reply reply' : Reply) → AnsweredWith end reply → AnsweredWith end' reply' → NotWorse reply reply'

-- (b) an answer equals, in hit count, ids and distances, the first k of a reference list
pub record FirstOf (question : Question) (k : ℕ) (reference : List ModelRow) (reply : Reply) : Type 0 where
  pub count : reply.hits ≡ length (take k reference)
  pub ids : take reply.hits reply.ids ≡ map (λ r. r.document) (take k reference)
  pub distances : take reply.hits reply.distances ≡ map (row_distance question) (take k reference)

-- an answer marked whole equals the first k of every reference list
abbrev pub WholeIsFirst : Model → Call → Ended → Type 0
WholeIsFirst m (change fronts work c) end = Unit {0}
WholeIsFirst m (search fronts work call) end =
    (reply : Reply) → AnsweredWith end reply → reply.complete ≡ true → (reference : List ModelRow) → Reference m call.question reference
    → FirstOf call.question call.k reference reply

-- `ef_search` at or above the model's node count gives every answered search the mark
abbrev pub Marked : Setting → Model → Ended → Type 0
Marked s m end = node_count s m ≤ s.params.ef_search → (reply : Reply) → AnsweredWith end reply → reply.complete ≡ true

-- ---- the claim

-- a setting with another `ef_search` alone
abbrev pub with_budget : ℕ → Setting → Setting
with_budget ef s =
    record {
      dimension = s.dimension;
      params =
          record {
            branching_factor = s.params.branching_factor;
            max_leaf_size = s.params.max_leaf_size;
            ef_search = ef;
            beam_width = s.params.beam_width;
          };
      capacities = s.capacities;
    }

-- 'Demand 3 is a single claim about the whole list of calls, not one for each call.' Only `larger` and `whole` need the premise.
pub record Demand3 (s : Setting) (calls : List Call) : Type 0 where
  -- refused exactly where the model refuses, with the same number; answered, which is 0, elsewhere
  pub numbers : (ends : List Ended) → Run s calls ends → AtEach s (λ m call end. end_number end ≡ check_number (model_check s m call)) empty_model calls ends
  -- an answered search has the defined search's answer
  pub matches : (ends : List Ended) → Run s calls ends → AtEach s (λ m call end. Matches (expected s m call) call end) empty_model calls ends
  -- never 15, never 4
  pub never : (ends : List Ended) → Run s calls ends → AtEach s (λ m call end. NeverDamaged end) empty_model calls ends
  -- (b) enough openings
  pub marked : (ends : List Ended) → Run s calls ends → AtEach s (λ m call end. Marked s m end) empty_model calls ends
  -- (a) two runs that differ in `ef_search` alone, and in what work and answer lists held, are refused alike
  pub alike :
      (calls' : List Call) → AllAlike calls calls' → (ef : ℕ) (ends ends' : List Ended) → Run s calls ends → Run (with_budget ef s) calls' ends'
      → InPairs (λ end end'. end_number end ≡ end_number end') ends ends'
  -- (a) and the larger's answers are no worse
  pub larger :
      Premise s calls → (calls' : List Call) → AllAlike calls calls' → (ef : ℕ) → s.params.ef_search ≤ ef → (ends ends' : List Ended) → Run s calls ends
      → Run (with_budget ef s) calls' ends' → InPairs Better ends ends'
  -- (b) whole answers
  pub whole : Premise s calls → (ends : List Ended) → Run s calls ends → AtEach s (λ m call end. WholeIsFirst m call end) empty_model calls ends
