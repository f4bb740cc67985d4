-- The contracts of the queue of hits: the hits of the vectors found are put into it, those of an answer taken out.
use Rattle.std.specs.Prelude.{ℕ, ◌+◌, ◌-◌, ◌*◌, ◌/◌, ◌^◌, ◌≤◌, ◌<◌, ◌≡◌, Bool, true, List, ◌∷◌, ◌++◌, map, leb, ltb, Float, length, get_or, take, drop}
use Rattle.std.proofs.lemmas.List.Edits.{sets}
use Rattle.lists.specs.Lists.{part, keep}
use Rattle.lists.specs.Tests.{all_pass}
use Rattle.record_queue.specs.declared.Record.{Record}
use Rattle.record_queue.specs.Sorted.{sort}
use Rattle.record_queue.specs.Records.{value, records, Heap}
use Rattle.store.specs.declared.Shape.{Shape}
use Rattle.store.specs.declared.Counts.{Counts}
use Rattle.walk.specs.StoreView.{hit_at}
use Rattle.walk.specs.Promises.{VectorsLent}
use Rattle.walk.specs.Answer.{document_of, distance_of, drop_after, drop_repeats}
use Rattle.hit_queue.specs.declared.answer.Taken.{Taken}

-- ---- the queue of the hits of the vectors found

-- the hits of several vectors
abbrev pub hits_of : Shape → List Float → List ℕ → List Float → List ℕ → List ℕ
hits_of s floats numbers query l = map (hit_at s floats numbers query) l

-- whether the key of a hit is at most a bound
abbrev pub within : ℕ → ℕ → Bool
within bound hit = leb (hit / 2 ^ 64) bound

-- `push_within`, `push_two` and `push_four` want a queue with room for as many more
pub record PushWithin (heap : List ℕ) (count more : ℕ) : Type 0 where
  pub room : (count + more) * 3 ≤ length heap
  pub queue : Heap (records 3 count heap)

-- and `push_few` one for one to three
pub record PushFew (heap : List ℕ) (count few : ℕ) : Type 0 where
  pub some : 1 ≤ few
  pub most : few ≤ 3
  pub push : PushWithin heap count few

-- The hits within a bound were added to those of a queue, at the highest bound all of them, and nothing behind it changed
pub record Measured (bound : ℕ) (hits : List ℕ) (before : ℕ) (heap : List ℕ) (total : ℕ) (heap' : List ℕ) : Type 0 where
  pub more : before ≤ total
  pub few : total ≤ before + length hits
  pub queue : Heap (records 3 total heap')
  pub sorted : sort (records 3 total heap') ≡ sort (keep (within bound) hits ++ records 3 before heap)
  pub all : bound ≡ 2 ^ 32 - 1 → keep (within bound) hits ≡ hits
  pub behind : drop (total * 3) heap' ≡ drop (total * 3) heap
  pub size : length heap' ≡ length heap

-- `measure` wants a queue and numbers of vectors behind it, so far that it can grow by one record for each that is read
pub record Measure (c : Counts) (heap : List ℕ) (before at count : ℕ) : Type 0 where
  pub queue : Heap (records 3 before heap)
  pub held : all_pass (λ x. ltb x c.vectors) (part at count heap) ≡ true
  pub inside : at + count ≤ length heap
  pub apart : before * 3 + 2 * count ≤ at + 2
  pub room : (before + count) * 3 ≤ length heap

-- and the vectors beside
pub record MeasureLent (s : Shape) (c : Counts) (floats : List Float) (numbers heap : List ℕ) (before at count : ℕ) : Type 0 where
  pub lent : VectorsLent s c floats numbers
  pub measure : Measure c heap before at count

-- `measure_few` wants one to three numbers
pub record MeasureFew (s : Shape) (c : Counts) (floats : List Float) (numbers heap : List ℕ) (before at few : ℕ) : Type 0 where
  pub some : 1 ≤ few
  pub most : few ≤ 3
  pub vectors : MeasureLent s c floats numbers heap before at few

-- the number of a vector that is held stands at a place
pub record NumberAt (c : Counts) (list : List ℕ) (place : ℕ) : Type 0 where
  pub inside : place < length list
  pub held : get_or list place 0 < c.vectors

-- `four_hits` wants one at each of four places
pub record FourHeld (s : Shape) (counts : Counts) (floats : List Float) (numbers list : List ℕ) (a b c d : ℕ) : Type 0 where
  pub lent : VectorsLent s counts floats numbers
  pub first : NumberAt counts list a
  pub second : NumberAt counts list b
  pub third : NumberAt counts list c
  pub fourth : NumberAt counts list d

-- and `eight_hits` one at each of eight places from one on
pub record EightHeld (s : Shape) (counts : Counts) (floats : List Float) (numbers list : List ℕ) (at : ℕ) : Type 0 where
  pub lent : VectorsLent s counts floats numbers
  pub inside : at + 8 ≤ length list
  pub held : (place : ℕ) → at ≤ place → place < at + 8 → get_or list place 0 < counts.vectors

-- `hits_of` wants vectors that have a document id, and numbers below the highest count of vectors
pub record Listed (numbers : List ℕ) (vector : ℕ) : Type 0 where
  pub inside : vector < length numbers
  pub small : vector < 4096

-- ---- hits that were popped stay behind what is left

-- the hits at `count` places from a place on
abbrev pub hits_from : ℕ → ℕ → List ℕ → List ℕ
hits_from place count heap = records 3 count (drop (place * 3) heap)

-- `pop_behind` wants a queue that is not empty
pub record PopBehind (heap : List ℕ) (left : ℕ) : Type 0 where
  pub some : 0 < left
  pub room : left * 3 ≤ length heap
  pub queue : Heap (records 3 left heap)

-- gives the least, leaves a queue of the others, and puts the least in front of the hits behind
pub record PoppedBehind (left : ℕ) (heap : List ℕ) (r : Record) (heap' : List ℕ) : Type 0 where
  pub queue : Heap (records 3 (left - 1) heap')
  pub sorted : sort (records 3 left heap) ≡ value r ∷ sort (records 3 (left - 1) heap')
  pub placed : (m : ℕ) → hits_from (left - 1) (m + 1) heap' ≡ value r ∷ hits_from left m heap
  pub behind : drop (left * 3) heap' ≡ drop (left * 3) heap
  pub size : length heap' ≡ length heap

-- `queue_again` makes a queue of the hits that stand behind others, and changes nothing behind it
pub record QueuedAgain (left count : ℕ) (heap heap' : List ℕ) : Type 0 where
  pub queue : Heap (records 3 count heap')
  pub sorted : sort (records 3 count heap') ≡ sort (hits_from left count heap)
  pub behind : drop (count * 3) heap' ≡ drop (count * 3) heap
  pub size : length heap' ≡ length heap

-- ---- the hits of an answer

-- every hit of a queue in order, repeats dropped
abbrev pub ranked_queue : ℕ → List ℕ → List ℕ
ranked_queue count heap = drop_repeats (sort (records 3 count heap))

-- `take_hits` wants a queue, and answer lists of at least k places
pub record TakeHits (heap : List ℕ) (count k : ℕ) (ids : List ℕ) (distances : List Float) : Type 0 where
  pub room : count * 3 ≤ length heap
  pub queue : Heap (records 3 count heap)
  pub ids_room : k ≤ length ids
  pub distances_room : k ≤ length distances

-- 'the first k stay', of those that pass a test: their ids and distances are written from the front, and the other places keep what they held; what is left of the
-- queue are the hits behind them, of which those directly behind the last document with its id are repeats
pub record Takes (test : ℕ → Bool) (heap : List ℕ) (count k : ℕ) (ids : List ℕ) (distances : List Float) (r : Taken) (heap' : List ℕ) (ids' : List ℕ) (distances' : List Float) : Type 0 where
  pub count_is : r.hits ≡ length (take k (keep test (ranked_queue count heap)))
  pub ids_are : ids' ≡ sets ids 0 (map document_of (take k (keep test (ranked_queue count heap))))
  pub distances_are : distances' ≡ sets distances 0 (map distance_of (take k (keep test (ranked_queue count heap))))
  pub rest : keep test (ranked_queue count heap) ≡ take k (keep test (ranked_queue count heap)) ++ keep test (drop_after r.last (sort (records 3 r.left heap')))
  pub few : r.left ≤ count
  pub queue : Heap (records 3 r.left heap')

-- `count_rest` wants a queue
pub record CountRest (heap : List ℕ) (left : ℕ) : Type 0 where
  pub room : left * 3 ≤ length heap
  pub queue : Heap (records 3 left heap)
