-- The contracts of the ranking: the first k hits of the vectors found, 'sorted, adjacent equal document ids lose the later' (document 01, 'Search'), withdrawn ones
-- struck (02, K10).
use Rattle.std.specs.Prelude.{ℕ, ◌+◌, ◌-◌, ◌*◌, ◌/◌, ◌^◌, ◌≤◌, ◌<◌, ◌≡◌, Bool, true, ◌⊎◌, Float, eqb, ltb, length, get_or, take, drop}
use mathlib.Core.List.{List, [], ◌++◌, map, Memᴰ}
use Rattle.std.proofs.lemmas.List.Edits.{sets}
use Rattle.lists.specs.Lists.{part}
use Rattle.lists.specs.Tests.{all_pass}
use Rattle.record_queue.specs.Sorted.{sort}
use Rattle.record_queue.specs.Records.{records, Heap}
use Rattle.walk.specs.Answer.{document_of, distance_of, drop_repeats, listed}
use Rattle.store.specs.declared.Shape.{Shape}
use Rattle.store.specs.declared.Counts.{Counts}
use Rattle.store.specs.Store.{Store}
use Rattle.hit_queue.specs.Promises.{hits_from, MeasureLent, ranked_queue}
use Rattle.walk.specs.Promises.{StoreLent}
use Rattle.best_first_search.specs.declared.rank.Kept.{Kept}

-- the first k documents of hits
abbrev pub first_documents : ℕ → List ℕ → List ℕ
first_documents k hits = take k (drop_repeats (sort hits))

-- there are k documents among hits in order, and no key above a bound
pub record Enough (k bound : ℕ) (hits : List ℕ) : Type 0 where
  pub documents : k ≤ length (drop_repeats hits)
  pub low : (y : ℕ) → Memᴰ y hits → y / 2 ^ 64 ≤ bound

-- a front of hits in order, behind which hits can be left out: it has k documents, or no hit is behind it and the bound is the highest of all keys
pub record Front (k bound : ℕ) (hits front : List ℕ) : Type 0 where
  pub rest : List ℕ
  pub split : hits ≡ front ++ rest
  pub enough : ((bound ≡ 2 ^ 32 - 1) × (rest ≡ [])) ⊎ Enough k bound front

-- `pop_documents` puts a front of the hits of a queue behind the others, and changes nothing behind the queue
pub record PopsDocuments (heap : List ℕ) (count k : ℕ) (r : Kept) (heap' : List ℕ) : Type 0 where
  pub few : r.count ≤ count
  pub front : Front k r.bound (sort (records 3 count heap)) (sort (hits_from (count - r.count) r.count heap'))
  pub behind : drop (count * 3) heap' ≡ drop (count * 3) heap
  pub size : length heap' ≡ length heap

-- `keep_first` leaves it as the queue
pub record KeepsFirst (heap : List ℕ) (count k : ℕ) (r : Kept) (heap' : List ℕ) : Type 0 where
  pub few : r.count ≤ count
  pub queue : Heap (records 3 r.count heap')
  pub front : Front k r.bound (sort (records 3 count heap)) (sort (records 3 r.count heap'))
  pub behind : drop (count * 3) heap' ≡ drop (count * 3) heap
  pub size : length heap' ≡ length heap

-- `rank` leaves a queue whose first k are those of all hits
pub record Ranked (hits : List ℕ) (k total : ℕ) (heap : List ℕ) : Type 0 where
  pub room : total * 3 ≤ length heap
  pub queue : Heap (records 3 total heap)
  pub first : take k (ranked_queue total heap) ≡ first_documents k hits

-- whether a vector is withdrawn, by its number
abbrev pub withdrawn : List ℕ → ℕ → Bool
withdrawn marks vector = eqb (get_or marks vector 0) 0

-- `count_withdrawn` wants numbers of vectors that have a mark
pub record CountWithdrawn (marks list : List ℕ) (from found : ℕ) : Type 0 where
  pub held : all_pass (λ x. ltb x (length marks)) (part from found list) ≡ true
  pub inside : from + found ≤ length list

-- and `documents_asked` a k with which their number can be summed
pub record DocumentsAsked (marks list : List ℕ) (from found k : ℕ) : Type 0 where
  pub numbers : CountWithdrawn marks list from found
  pub fits : k + found < 2 ^ 64

-- `first_hits` wants the numbers of vectors as `measure` does, and answer lists of at least k places
pub record FirstHits (s : Shape) (c : Counts) (floats : List Float) (numbers heap : List ℕ) (from found k : ℕ) (ids : List ℕ) (distances : List Float) : Type 0 where
  pub vectors : MeasureLent s c floats numbers heap 0 from found
  pub ids_room : k ≤ length ids
  pub distances_room : k ≤ length distances

-- and writes the ids and distances of the first k that pass a test from the front
pub record Firsts (test : ℕ → Bool) (hits : List ℕ) (k : ℕ) (ids : List ℕ) (distances : List Float) (r : ℕ) (ids' : List ℕ) (distances' : List Float) : Type 0 where
  pub count_is : r ≡ length (take k (listed test hits))
  pub ids_are : ids' ≡ sets ids 0 (map document_of (take k (listed test hits)))
  pub distances_are : distances' ≡ sets distances 0 (map distance_of (take k (listed test hits)))

-- `best_first_search` wants a store, the work list, and answer lists of at least k places
pub record SearchLent (s : Shape) (c : Counts) (store : Store) (work : List ℕ) (k : ℕ) (ids : List ℕ) (distances : List Float) : Type 0 where
  pub lent : StoreLent s c store work
  pub ids_room : k ≤ length ids
  pub distances_room : k ≤ length distances
