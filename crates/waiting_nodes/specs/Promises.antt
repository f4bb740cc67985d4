-- The contracts of the queue of waiting nodes.
use Rattle.std.specs.Prelude.{ℕ, ◌+◌, ◌*◌, ◌^◌, ◌≤◌, ◌<◌, ◌≡◌, true, List, [], ◌∷◌, map, ltb, Float, length, drop}
use Rattle.lists.specs.Lists.{part}
use Rattle.lists.specs.Tests.{all_pass}
use Rattle.record_queue.specs.Sorted.{sort, insert}
use Rattle.record_queue.specs.Records.{records, Heap}
use Rattle.distance.specs.Distance.{distance}
use Rattle.total_order.specs.TotalOrder.{key_of}
use Rattle.store.specs.declared.Shape.{Shape}
use Rattle.store.specs.Store.{Limits, vector_at, floats_size, work_size, marks_at}

-- nodes as they wait, by their numbers: the key of the distance from the query before the number
abbrev pub node_for : Shape → List Float → List Float → ℕ → ℕ
node_for s floats query i = key_of (distance query (vector_at s.dimension floats (s.vectors + i))) * 2 ^ 64 + i

abbrev pub waiting_records : Shape → List Float → List Float → List ℕ → List ℕ
waiting_records s floats query l = map (node_for s floats query) l

-- inserted one after the other
unfoldable pub insert_each : List ℕ → List ℕ → List ℕ
unfolding insert
insert_each [] l = l
insert_each (x ∷ xs) l = insert_each xs (insert x l)

-- to push some nodes there is room in the queue before the marks
pub record PushNodes (s : Shape) (work : List ℕ) (waiting count : ℕ) : Type 0 where
  pub size : work_size s ≤ length work
  pub limits : Limits s
  pub room : waiting + count ≤ s.nodes
  pub queue : Heap (records 2 waiting work)

-- numbers of nodes stand in a list
pub record Children (s : Shape) (numbers : List ℕ) (start count : ℕ) : Type 0 where
  pub inside : start + count ≤ length numbers
  pub held : all_pass (λ x. ltb x s.nodes) (part start count numbers) ≡ true

-- to push one node
pub record PushNode (s : Shape) (work : List ℕ) (waiting child : ℕ) : Type 0 where
  pub nodes : PushNodes s work waiting 1
  pub below : child < s.nodes

-- to push the nodes whose numbers stand in a list, by the distances of their centroids
pub record PushLent (s : Shape) (floats : List Float) (numbers work : List ℕ) (waiting start count : ℕ) : Type 0 where
  pub floats_enough : floats_size s ≤ length floats
  pub nodes : PushNodes s work waiting count
  pub children : Children s numbers start count

-- nodes were put into the queue; nothing behind it changed
pub record PushedNodes (s : Shape) (work : List ℕ) (waiting : ℕ) (new work' : List ℕ) : Type 0 where
  pub queue : Heap (records 2 (waiting + length new) work')
  pub sorted : sort (records 2 (waiting + length new) work') ≡ insert_each new (sort (records 2 waiting work))
  pub behind : drop (marks_at s) work' ≡ drop (marks_at s) work
  pub size : length work' ≡ length work
