-- The contracts of the pass: how the work list holds the progress of a walk without a queue, what opening a node does to it, and how the pass ends.
use Rattle.std.specs.Prelude.{ℕ, ◌+◌, ◌≤◌, ◌<◌, ◌≡◌, ⊤, cond, List, Float, length, get_or, Result, Ok, Err}
use Rattle.lists.specs.Lists.{is_in}
use Rattle.store.specs.declared.Shape.{Shape}
use Rattle.store.specs.declared.Counts.{Counts}
use Rattle.store.specs.Store.{Store, CountsWithin, numbers_size, hashes_size, work_size, marks_at}
use Rattle.store.specs.Lent.{store_of}
use Rattle.walk.specs.Walk.{View, Progress, State, damaged, going, give, shown}
use Rattle.walk.proofs.KeysLaws.{keyed}
use Rattle.walk.specs.Wanted.{Sought, most}
use Rattle.walk.specs.StoreView.{hit_at, children_shown, store_view}
use Rattle.walk.specs.Promises.{Works}
use Rattle.walk.specs.declared.Searched.{Searched}
use Rattle.walk.specs.declared.Damaged.{Damaged}
use Rattle.best_first_walk.specs.Walks.{FindsVectors, Walks}

-- ---- what the functions are lent

-- to mark children: their block within the numbers
pub record ChildrenLent (s : Shape) (c : Counts) (numbers work : List ℕ) (start count : ℕ) : Type 0 where
  pub within : CountsWithin s c
  pub work_enough : work_size s ≤ length work
  pub block : start + count ≤ length numbers

-- to open node i: a store's numbers, hashes and label text, and no more hits so far than there can be
pub record OpenLent (s : Shape) (c : Counts) (numbers hashes text work : List ℕ) (hits : ℕ) (wanted : Sought) (i : ℕ) : Type 0 where
  pub within : CountsWithin s c
  pub numbers_enough : numbers_size s ≤ length numbers
  pub hashes_enough : hashes_size s ≤ length hashes
  pub text_size : s.text ≤ length text
  pub work_enough : work_size s ≤ length work
  pub node : i < c.nodes
  pub few : hits ≤ most wanted c

-- for the pass: a store with a node, but for its floats, and the work list
pub record PassLent (s : Shape) (c : Counts) (numbers hashes text work : List ℕ) : Type 0 where
  pub within : CountsWithin s c
  pub numbers_enough : numbers_size s ≤ length numbers
  pub hashes_enough : hashes_size s ≤ length hashes
  pub text_size : s.text ≤ length text
  pub some : 1 ≤ c.nodes
  pub work_enough : work_size s ≤ length work

-- ---- the progress of a walk

-- How far a walk has come, as the work list holds it: a mark for each node pushed, and the vectors found
pub record Notes (s : Shape) (c : Counts) (hit : ℕ → ℕ) (p : Progress) (work : List ℕ) (found : ℕ) : Type 0 where
  pub size : work_size s ≤ length work
  pub marks : (i : ℕ) → i < c.nodes → get_or work (marks_at s + i) 0 ≡ cond (is_in i p.pushed) 1 0
  pub finds : FindsVectors s c hit p.found work found

-- a state after a node gave: damaged, or a progress that the work list holds
abbrev pub NotesState : Shape → Counts → (ℕ → ℕ) → State → Result ℕ Damaged → List ℕ → Type 0
NotesState s c hit damaged (Err _) work = Unit {0}
NotesState s c hit damaged (Ok found) work = ⊥
NotesState s c hit (going p) (Err _) work = ⊥
NotesState s c hit (going p) (Ok found) work = Notes s c hit p work found

-- ---- what the functions give

-- no hit comes to those found where children are marked
abbrev pub same_hits : ℕ → Result ⊤ Damaged → Result ℕ Damaged
same_hits found (Ok _) = Ok found
same_hits found (Err e) = Err e

-- an inner node gave what its children's numbers show, whatever the keys
pub record MarksChildren (s : Shape) (c : Counts) (parent : ℕ) (numbers work : List ℕ) (r : Result ⊤ Damaged) (work' : List ℕ) : Type 0 where
  pub gives : (hit : ℕ → ℕ) (view : View) (store : Store) (p : Progress) (found : ℕ) → Notes s c hit p work found
      → NotesState s c hit (give view (children_shown s c store parent numbers) p) (same_hits found r) work'
  pub works : Works s work work'

-- node i gave what it shows, from any query, with any vectors and keys
pub record OpensNode (s : Shape) (c : Counts) (numbers hashes text : List ℕ) (found : ℕ) (wanted : Sought) (i : ℕ) (work : List ℕ) (r : Result ℕ Damaged) (work' : List ℕ) : Type 0 where
  pub gives : (floats query : List Float) (key : ℕ → ℕ) (p : Progress) → Notes s c (hit_at s floats numbers query) p work found
      → NotesState s c (hit_at s floats numbers query)
      (give (keyed key (store_view s c (store_of floats numbers hashes text) query wanted)) (shown (store_view s c (store_of floats numbers hashes text) query wanted) i) p) r work'
  pub works : Works s work work'

-- The pass is the walk from any query, with any vectors, and with any budget of at least the node count
abbrev pub WalksAny : Shape → Counts → List ℕ → List ℕ → List ℕ → Sought → List ℕ → Result Searched Damaged → List ℕ → Type 0
WalksAny s c numbers hashes text wanted work r work' =
    (floats query : List Float) (ef : ℕ) → c.nodes ≤ ef → Walks s c ef (store_of floats numbers hashes text) query wanted work r work'
