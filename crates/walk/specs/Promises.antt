-- The contracts of the walk's functions: what they want of the lists that they are lent, and what they give.
use Rattle.std.specs.Prelude.{ℕ, ◌+◌, ◌≤◌, ◌<◌, ◌≡◌, Bool, true, false, List, Float, Result, Ok, Err, length, get_or}
use Rattle.std.proofs.lemmas.List.Edits.{sets}
use Rattle.lists.specs.Lists.{part}
use Rattle.lists.specs.Frame.{AlikeBut}
use Rattle.store.specs.declared.Shape.{Shape}
use Rattle.store.specs.declared.Counts.{Counts}
use Rattle.store.specs.Store.{Store, Limits, CountsWithin, floats_size, numbers_size, hashes_size, work_size, node_filter}
use Rattle.store.specs.Lent.{store_of, lengths_of, Long}
use Rattle.walk.specs.declared.Wanted.{Wanted}
use Rattle.walk.specs.declared.look.Block.{Block}
use Rattle.walk.specs.declared.look.Look.{Look}
use Rattle.walk.specs.declared.look.Look.TheVariants as look
use Rattle.walk.specs.declared.Searched.{Searched}
use Rattle.walk.specs.declared.Damaged.{Damaged}
use Rattle.walk.specs.Walk.{damage, State, damaged, going, shown, walk}
use Rattle.walk.specs.Answer.{Answer, answer}
use Rattle.walk.specs.Wanted.{Sought, sought, denies, list_read, held_in}
use Rattle.walk.specs.StoreView.{block_held, field_of, part_of, children_shown, list_shown, node_shown, live_in, store_view}

-- ---- what the functions are lent

-- a filter by its node's number
pub record FilterLent (s : Shape) (hashes : List ℕ) (i : ℕ) : Type 0 where
  pub limits : Limits s
  pub size : hashes_size s ≤ length hashes
  pub node : i < s.nodes

-- the six numbers of a leaf from a place on
pub record LeafLent (s : Shape) (c : Counts) (numbers : List ℕ) (at : ℕ) : Type 0 where
  pub within : CountsWithin s c
  pub size : numbers_size s ≤ length numbers
  pub read : at + 6 ≤ length numbers

-- a node's numbers by its number
pub record NumbersLent (s : Shape) (c : Counts) (numbers : List ℕ) (i : ℕ) : Type 0 where
  pub within : CountsWithin s c
  pub numbers_enough : numbers_size s ≤ length numbers
  pub node : i < c.nodes

-- a node by its number
pub record NodeLent (s : Shape) (c : Counts) (numbers hashes : List ℕ) (i : ℕ) : Type 0 where
  pub within : CountsWithin s c
  pub numbers_enough : numbers_size s ≤ length numbers
  pub hashes_enough : hashes_size s ≤ length hashes
  pub node : i < c.nodes

-- vectors by their numbers, and their document ids
pub record VectorsLent (s : Shape) (c : Counts) (floats : List Float) (numbers : List ℕ) : Type 0 where
  pub within : CountsWithin s c
  pub floats_enough : floats_size s ≤ length floats
  pub numbers_enough : numbers_size s ≤ length numbers

-- a store with a node, and the work list
pub record StoreLent (s : Shape) (c : Counts) (store : Store) (work : List ℕ) : Type 0 where
  pub within : CountsWithin s c
  pub long : Long s (lengths_of store)
  pub some : 1 ≤ c.nodes
  pub work_enough : work_size s ≤ length work

-- nothing but the work part changed
pub record Works (s : Shape) (work work' : List ℕ) : Type 0 where
  pub alike : AlikeBut 0 (work_size s) work work'
  pub size : length work' ≡ length work

-- ---- what a node shows

-- a block's start and count stand in the list, and what is held of its part too
pub record BlockAsked (numbers : List ℕ) (at base held : ℕ) : Type 0 where
  pub read : at + 2 ≤ length numbers
  pub room : base + held ≤ length numbers

-- a block that is held lies within the list
pub record HeldBlock (numbers : List ℕ) (start count base start' count' : ℕ) : Type 0 where
  pub is : part start' count' numbers ≡ part (base + start) count numbers
  pub room : start' + count' ≤ length numbers

abbrev pub Placing : List ℕ → ℕ → ℕ → ℕ → Result Block Damaged → Type 0
Placing numbers at base held (Err _) = block_held (get_or numbers at 0) (get_or numbers (at + 1) 0) held ≡ false
Placing numbers at base held (Ok b) =
    (block_held (get_or numbers at 0) (get_or numbers (at + 1) 0) held ≡ true)
    × HeldBlock numbers (get_or numbers at 0) (get_or numbers (at + 1) 0) base b.start b.count

-- the list that a search reads in a leaf
abbrev pub LeafPlacing : Shape → Counts → List ℕ → Sought → ℕ → Result Block Damaged → Type 0
LeafPlacing s c numbers wanted at r =
    Placing numbers (at + field_of (list_read wanted)) (part_of s (list_read wanted)) (held_in (list_read wanted) c) r

-- A filter and a leaf's place are told by the hashes alone: the same for labels of any bytes
abbrev pub Denies : Shape → List ℕ → Wanted → ℕ → Bool → Type 0
Denies s hashes wanted i r = (name other : List ℕ) → r ≡ denies (sought wanted name other) (node_filter s hashes i)

abbrev pub LeafPlaced : Shape → Counts → List ℕ → Wanted → ℕ → Result Block Damaged → Type 0
LeafPlaced s c numbers wanted at r = (name other : List ℕ) → LeafPlacing s c numbers (sought wanted name other) at r

-- what node i shows where it is not denied, from any query and with any vectors, hashes and label text
abbrev pub ShowsFor : Shape → Counts → List ℕ → Sought → ℕ → Result Look Damaged → Type 0
ShowsFor s c numbers wanted i (Err _) =
    (floats query : List Float) (hashes text : List ℕ) → node_shown s c (store_of floats numbers hashes text) query wanted i ≡ damage
ShowsFor s c numbers wanted i (Ok (look.Leaf b)) =
    (b.start + b.count ≤ length numbers)
    × ((floats query : List Float) (hashes text : List ℕ) → node_shown s c (store_of floats numbers hashes text) query wanted i
    ≡ list_shown s c (store_of floats numbers hashes text) query wanted (part b.start b.count numbers))
ShowsFor s c numbers wanted i (Ok (look.Inner b)) =
    (b.start + b.count ≤ length numbers)
    × ((floats query : List Float) (hashes text : List ℕ) → node_shown s c (store_of floats numbers hashes text) query wanted i
    ≡ children_shown s c (store_of floats numbers hashes text) i (part b.start b.count numbers))

abbrev pub Shows : Shape → Counts → List ℕ → Wanted → ℕ → Result Look Damaged → Type 0
Shows s c numbers wanted i r = (name other : List ℕ) → ShowsFor s c numbers (sought wanted name other) i r

-- what node i shows, from any query and with any vectors and label text
abbrev pub LooksFor : Shape → Counts → List ℕ → List ℕ → Sought → ℕ → Result Look Damaged → Type 0
LooksFor s c numbers hashes wanted i (Err _) =
    (floats query : List Float) (text : List ℕ) → shown (store_view s c (store_of floats numbers hashes text) query wanted) i ≡ damage
LooksFor s c numbers hashes wanted i (Ok (look.Leaf b)) =
    (b.start + b.count ≤ length numbers)
    × ((floats query : List Float) (text : List ℕ) → shown (store_view s c (store_of floats numbers hashes text) query wanted) i
    ≡ list_shown s c (store_of floats numbers hashes text) query wanted (part b.start b.count numbers))
LooksFor s c numbers hashes wanted i (Ok (look.Inner b)) =
    (b.start + b.count ≤ length numbers)
    × ((floats query : List Float) (text : List ℕ) → shown (store_view s c (store_of floats numbers hashes text) query wanted) i
    ≡ children_shown s c (store_of floats numbers hashes text) i (part b.start b.count numbers))

abbrev pub Looks : Shape → Counts → List ℕ → List ℕ → Wanted → ℕ → Result Look Damaged → Type 0
Looks s c numbers hashes wanted i r = (name other : List ℕ) → LooksFor s c numbers hashes (sought wanted name other) i r

-- ---- the searches

-- the answer lists hold an answer in front
pub record Answers (a : Answer) (r : Result Searched Damaged) (ids ids' : List ℕ) (distances distances' : List Float) : Type 0 where
  pub is : r ≡ Ok (record { hits = length a.ids; opened = a.opened; whole = a.complete })
  pub ids_are : ids' ≡ sets ids 0 a.ids
  pub distances_are : distances' ≡ sets distances 0 a.distances

-- nothing was answered
pub record Leaves (r : Result Searched Damaged) (ids ids' : List ℕ) (distances distances' : List Float) : Type 0 where
  pub is : r ≡ Err (record {})
  pub ids_kept : ids' ≡ ids
  pub distances_kept : distances' ≡ distances

abbrev pub SearchEnds : State → (ℕ → Bool) → ℕ → Result Searched Damaged → List ℕ → List ℕ → List Float → List Float → Type 0
SearchEnds damaged test k r ids ids' distances distances' = Leaves r ids ids' distances distances'
SearchEnds (going p) test k r ids ids' distances distances' = Answers (answer test k p) r ids ids' distances distances'

-- The search is the walk of the store's view: damaged exactly where that is; otherwise its answer, of live vectors
pub record SearchGives (s : Shape) (c : Counts) (ef : ℕ) (store : Store) (query : List Float) (wanted : Sought) (k : ℕ)
    (work ids : List ℕ) (distances : List Float) (r : Result Searched Damaged) (work' ids' : List ℕ) (distances' : List Float) : Type 0 where
  pub ends : SearchEnds (walk (store_view s c store query wanted) ef) (live_in s c store) k r ids ids' distances distances'
  pub works : Works s work work'
