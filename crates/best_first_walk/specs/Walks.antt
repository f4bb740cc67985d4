-- The contracts of the walk: how the work list holds its progress, and how it ends.
use Rattle.std.specs.Prelude.{ℕ, ◌+◌, ◌-◌, ◌*◌, ◌≤◌, ◌<◌, max, ◌≡◌, Bool, true, cond, List, map, ltb, Float, length, get_or, take, set, replicate, Result, Ok, Err}
use Rattle.std.proofs.lemmas.List.Edits.{sets}
use Rattle.lists.specs.Lists.{part, is_in}
use Rattle.record_queue.specs.Sorted.{sort}
use Rattle.record_queue.specs.Records.{records, Heap}
use Rattle.store.specs.declared.Shape.{Shape}
use Rattle.store.specs.Lent.{store_of}
use Rattle.store.specs.Store.{Store, CountsWithin, floats_size, work_size, marks_at, hits_at}
use Rattle.store.specs.declared.Counts.{Counts}
use Rattle.walk.specs.declared.Searched.{Searched}
use Rattle.walk.specs.declared.Damaged.{Damaged}
use Rattle.walk.proofs.WalkLaws.{start_progress}
use Rattle.walk.specs.Walk.{View, Progress, State, damaged, going, walk, whole}
use Rattle.walk.specs.Wanted.{Sought}
use Rattle.walk.specs.StoreView.{hit_at, store_view}
use Rattle.lists.specs.Tests.{all_pass}
use Rattle.walk.specs.Promises.{Works}

-- the hits' part of the work list, and in it the numbers of the vectors found: behind two thirds of it, less one place, so that there is room for one
-- number more than there can be hits
abbrev pub hits_part : Shape → List ℕ → List ℕ
hits_part s work = part (hits_at s) (3 * max s.vectors s.entries) work

abbrev pub found_in : Shape → ℕ
found_in s = 2 * max s.vectors s.entries - 1

abbrev pub found_at : Shape → ℕ
found_at s = hits_at s + found_in s

abbrev pub found_part : Shape → List ℕ → List ℕ
found_part s work = part (found_at s) (max s.vectors s.entries + 1) work

-- the numbers of the vectors found so far are below n, and the hits are theirs
pub record FindsVectors (s : Shape) (c : Counts) (hit : ℕ → ℕ) (hits work : List ℕ) (found : ℕ) : Type 0 where
  pub count : found ≡ length hits
  pub held : all_pass (λ x. ltb x c.vectors) (take found (found_part s work)) ≡ true
  pub are : sort (map hit (take found (found_part s work))) ≡ sort hits

-- How far a walk has come, as the work list holds it: the waiting nodes in their queue, a mark for each node pushed, and the vectors found
pub record Represents (s : Shape) (c : Counts) (hit : ℕ → ℕ) (p : Progress) (work : List ℕ) (waiting found : ℕ) : Type 0 where
  pub size : work_size s ≤ length work
  pub queue : Heap (records 2 waiting work)
  pub waits : sort (records 2 waiting work) ≡ p.waiting
  pub marks : (i : ℕ) → i < c.nodes → get_or work (marks_at s + i) 0 ≡ cond (is_in i p.pushed) 1 0
  pub finds : FindsVectors s c hit p.found work found

-- to mark the root: a store with a node, and the work list
pub record RootLent (s : Shape) (c : Counts) (work : List ℕ) : Type 0 where
  pub within : CountsWithin s c
  pub some : 1 ≤ c.nodes
  pub work_enough : work_size s ≤ length work

-- the root alone is marked
abbrev pub root_marked : Shape → Counts → List ℕ → List ℕ
root_marked s c work = set (sets work (marks_at s) (replicate c.nodes 0)) (marks_at s) 1

-- to begin a walk: a store with a node, its floats, and the work list
pub record BeginLent (s : Shape) (c : Counts) (floats : List Float) (work : List ℕ) : Type 0 where
  pub within : CountsWithin s c
  pub floats_enough : floats_size s ≤ length floats
  pub some : 1 ≤ c.nodes
  pub work_enough : work_size s ≤ length work

-- a walk has begun
pub record BeginsWalk (s : Shape) (c : Counts) (hit : ℕ → ℕ) (view : View) (work work' : List ℕ) : Type 0 where
  pub start : Represents s c hit (start_progress view) work' 1 0
  pub works : Works s work work'

-- how a walk ended
pub record EndsAs (s : Shape) (c : Counts) (hit : ℕ → ℕ) (p : Progress) (found opened : ℕ) (complete : Bool) (work : List ℕ) : Type 0 where
  pub finds : FindsVectors s c hit p.found work found
  pub nodes : opened ≡ length p.opened
  pub all : complete ≡ whole p

abbrev pub WalkEnds : Shape → Counts → (ℕ → ℕ) → State → Result Searched Damaged → List ℕ → Type 0
WalkEnds s c hit damaged (Err _) work = Unit {0}
WalkEnds s c hit damaged (Ok r) work = ⊥
WalkEnds s c hit (going p) (Err _) work = ⊥
WalkEnds s c hit (going p) (Ok r) work = EndsAs s c hit p r.hits r.opened r.whole work

-- The walk is the walk of the store's view: damaged exactly where that is, and otherwise with its hits, its opened nodes, whole or cut
pub record Walks (s : Shape) (c : Counts) (ef : ℕ) (store : Store) (query : List Float) (wanted : Sought)
    (work : List ℕ) (r : Result Searched Damaged) (work' : List ℕ) : Type 0 where
  pub ends : WalkEnds s c (hit_at s store.floats store.numbers query) (walk (store_view s c store query wanted) ef) r work'
  pub works : Works s work work'

-- a walk from a query has begun, whatever numbers, hashes and label text the store has
abbrev pub BeginsAny : Shape → Counts → List Float → List Float → List ℕ → List ℕ → Type 0
BeginsAny s c floats query work work' =
    (hit : ℕ → ℕ) (numbers hashes text : List ℕ) (wanted : Sought) → BeginsWalk s c hit (store_view s c (store_of floats numbers hashes text) query wanted) work work'
