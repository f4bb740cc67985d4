-- The result of every search in full: the answer and every place of the work and answer lists. The store is lent to be read only.
use Rattle.std.specs.Prelude.{ℕ, Bool, List, [], ◌∷◌, ◌≡◌, Float, length}
use Rattle.std.proofs.lemmas.List.Edits.{sets}
use Rattle.vector.specs.Vector.{dot, Normalized}
use Rattle.label.specs.Fnv.{fnv}
use Rattle.store.specs.Store.{Store, work_part}
use Rattle.walk.specs.Wanted.{Sought, all_vectors, with_label, with_both}
use Rattle.walk.specs.Walk.{State, damaged, going, walk}
use Rattle.walk.specs.Answer.{Answer, answer}
use Rattle.walk.specs.StoreView.{live_in, store_view}
use Rattle.curator.specs.declared.CuratorIndex.{CuratorIndex}
use Rattle.std.specs.Prelude.{Result, Ok, Err, ⊤}
use Rattle.walk.specs.declared.Searched.{Searched}
use Rattle.settings.specs.declared.refusal.Refusal.{Refusal}
use Rattle.settings.specs.declared.refusal.Refusal.TheVariants as Refusal'
use Rattle.settings.specs.declared.refusal.StoreRefusal.TheVariants as StoreRefusal'
use Rattle.curator.specs.Outcome.{SearchFound, SearchRefused}
use Rattle.curator.specs.Limits.{state_sound, index_shape}
use Rattle.curator.specs.Arguments.{Asked, everything, labelled, labelled_both, SearchCall, asking_of}
use Rattle.curator.specs.Rows.{first_of, state_row, search_rows}
use Rattle.curator.specs.Calls.{facts_of}
use Rattle.store.specs.Lent.{lengths_of}
use Rattle.lists.specs.Frame.{Freed}

-- a label is its bytes, and their hash (02, K4)
unfoldable pub wanted_of : Asked → Sought
unfolding fnv
wanted_of everything = all_vectors
wanted_of (labelled bytes) = with_label (fnv bytes) bytes
wanted_of (labelled_both bytes other) = with_both (fnv bytes) bytes (fnv other) other

-- what a search leaves: its answer, the work list and the two answer lists
pub record SearchEnd : Type 0 where
  pub answer : Result Searched Refusal
  pub work : List ℕ
  pub ids : List ℕ
  pub distances : List Float

-- two ends of a search with the same answer and the same answer lists; the work lists are free
pub record SameEnd (a b : SearchEnd) : Type 0 where
  pub answer : a.answer ≡ b.answer
  pub ids : a.ids ≡ b.ids
  pub distances : a.distances ≡ b.distances

unfoldable pub search_check : CuratorIndex → Store → List ℕ → SearchCall → Result ⊤ Refusal
unfolding first_of state_sound search_rows
search_check index store work call =
    first_of
    (state_row (state_sound index)
    ∷ search_rows (facts_of index) (lengths_of store) (length work) (asking_of call))

-- refused, and nothing else
pub record Untouched (lent : List ℕ) (call : SearchCall) (r : Refusal) (end : SearchEnd) : Type 0 where
  pub answer : SearchRefused r end.answer
  pub work : end.work ≡ lent
  pub ids : end.ids ≡ call.ids
  pub distances : end.distances ≡ call.distances

-- row 15: the answer lists as they were, the work part free
pub record Broken (index : CuratorIndex) (lent : List ℕ) (call : SearchCall) (end : SearchEnd) : Type 0 where
  pub answer : SearchRefused (Refusal'.Store StoreRefusal'.Damaged) end.answer
  pub work : Freed (work_part (index_shape index) ∷ []) lent end.work
  pub ids : end.ids ≡ call.ids
  pub distances : end.distances ≡ call.distances

-- 'The answer carries the hit count, the nodes opened, and whole or cut'; 'Answer places from the hit count on keep what they held'
pub record Answered (index : CuratorIndex) (lent : List ℕ) (call : SearchCall) (a : Answer) (end : SearchEnd) : Type 0 where
  pub answer : SearchFound (length a.ids) a.opened a.complete end.answer
  pub work : Freed (work_part (index_shape index) ∷ []) lent end.work
  pub ids : end.ids ≡ sets call.ids 0 a.ids
  pub distances : end.distances ≡ sets call.distances 0 a.distances

-- by a test on hits
unfoldable pub WalkedTo : State → (ℕ → Bool) → CuratorIndex → List ℕ → SearchCall → SearchEnd → Type 0
unfolding answer
WalkedTo damaged test index work call end = Broken index work call end
WalkedTo (going p) test index work call end = Answered index work call (answer test call.k p) end

-- 'Normalise the query', then the walk over what the store shows; 'Every search .. gives only live vectors' (02, K10)
pub record SearchWalked (index : CuratorIndex) (store : Store) (work : List ℕ) (call : SearchCall) (end : SearchEnd) : Type 0 where
  pub query : List Float
  pub normalized : Normalized (dot call.question.query call.question.query) call.question.query query
  pub walked :
      WalkedTo
      (walk (store_view (index_shape index) index.counts store query (wanted_of call.question.asked)) index.params.ef_search)
      (live_in (index_shape index) index.counts store)
      index
      work
      call
      end

unfoldable pub SearchesBy : Result ⊤ Refusal → CuratorIndex → Store → List ℕ → SearchCall → SearchEnd → Type 0
SearchesBy (Ok _) index store work call end = SearchWalked index store work call end
SearchesBy (Err r) index store work call end = Untouched work call r end

-- the whole result of a search: state, store, work and call at entry; answer, work and answer lists at exit
unfoldable pub Searches : CuratorIndex → Store → List ℕ → SearchCall → SearchEnd → Type 0
unfolding SearchesBy search_check
Searches index store work call end = SearchesBy (search_check index store work call) index store work call end
