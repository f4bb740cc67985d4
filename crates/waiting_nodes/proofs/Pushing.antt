-- Nodes whose numbers stand in a list are put into the queue of waiting nodes: what the next of them want, and what they add to those before. Assumes
-- nothing.
use Prim.Native.Nat.{ℕ, ◌+◌, ◌-◌, ◌*◌, ◌^◌, ◌≤◌, ◌<◌}
use native.Mathlib.Omega.{arith}
use mathlib.Core.Path.{◌≡◌, sym, ap, ◌∙◌, subst}
use mathlib.Core.Bool.{Bool}
use mathlib.Core.List.{List, [], ◌∷◌, ◌++◌, map, map-append}
use lib.Dec.{ltb}
use lib.Ieee.{Float}
use lib.ListN.{length, get_or, length-map}
use borrow.Author.Tests.{ltb-true}
use Rattle.lists.specs.Lists.{part}
use Rattle.lists.specs.Counting.{get_d_Memᴰ}
use Rattle.lists.specs.Parts.{length_part, get_d_part, part-append-parts, drop_more}
use Rattle.record_queue.specs.declared.Record.{Record}
use Rattle.record_queue.specs.Sorted.{sort, insert}
use Rattle.record_queue.specs.Records.{records, Heap}
use Rattle.record_queue.specs.RecordsLaws.{value-is}
use Rattle.record_queue.specs.Queue.{Pushed}
use Rattle.distance.specs.Distance.{distance}
use Rattle.total_order.specs.TotalOrder.{key_of}
use Rattle.store.specs.declared.Shape.{Shape}
use Rattle.store.specs.Store.{vector_at, marks_at}
use Rattle.lists.specs.Tests.{all_pass, and_left, and_right, all_pass-Memᴰ, all_pass-append}
use Rattle.waiting_nodes.specs.Promises.{node_for, PushNodes, Children, PushedNodes}
use Rattle.waiting_nodes.specs.PushLaws.{insert_each-one, pushed-append}

-- ---- numbers of nodes

-- some of the numbers, after the first j
pub children-part : (s : Shape) (numbers : List ℕ) (start count j m : ℕ) → j + m ≤ count → Children s numbers start count → Children s numbers (start + j) m
children-part s numbers start count j m h k =
    let test : ℕ → Bool = λ x. ltb x s.nodes in
    let after : ℕ = count - j - m in
    let all : part start j numbers ++ (part (start + j) m numbers ++ part (start + j + m) after numbers) ≡ part start count numbers =
    ap (λ (l : List ℕ). part start j numbers ++ l) (part-append-parts (start + j) m after numbers) ∙ part-append-parts start j (m + after) numbers
    ∙ ap (λ (n : ℕ). part start n numbers) (let t : j + (m + after) ≡ count = omega arith in t) in
    let behind = and_right (all_pass test (part start j numbers)) (all_pass test (part (start + j) m numbers ++ part (start + j + m) after numbers))
    (sym (all_pass-append test (part start j numbers) (part (start + j) m numbers ++ part (start + j + m) after numbers)) ∙ ap (all_pass test) all ∙ k.held) in
    record {
      inside = omega (arith, k.inside);
      held = and_left (all_pass test (part (start + j) m numbers)) (all_pass test (part (start + j + m) after numbers))
          (sym (all_pass-append test (part (start + j) m numbers) (part (start + j + m) after numbers)) ∙ behind);
    }

-- each of them
pub child_held : (s : Shape) (numbers : List ℕ) (start count i p x : ℕ) → Children s numbers start count → i < count → p ≡ start + i → x ≡ get_or numbers p 0 → x < s.nodes
child_held s numbers start count i p x k h e is =
    let l : List ℕ = part start count numbers in
    let at : get_or l i 0 ≡ x = get_d_part start count numbers i 0 h ∙ ap (λ (n : ℕ). get_or numbers n 0) (sym e) ∙ sym is in
    ltb-true x s.nodes
    (ap (λ (y : ℕ). ltb y s.nodes) (sym at)
    ∙ all_pass-Memᴰ (λ y. ltb y s.nodes) l k.held (get_or l i 0) (get_d_Memᴰ l i 0 (subst (λ (n : ℕ). i < n) (sym (length_part start count numbers k.inside)) h)))

-- ---- nodes as they wait

module _ (s : Shape) (floats query : List Float) where
  pub node-is : (key child x at : ℕ) → key ≡ key_of (distance query (vector_at s.dimension floats at)) → at ≡ s.vectors + child → child ≡ x
      → key * 2 ^ 64 + child ≡ node_for s floats query x
  node-is key child x at e is same =
      ap (λ (k : ℕ). k * 2 ^ 64 + child) (e ∙ ap (λ (n : ℕ). key_of (distance query (vector_at s.dimension floats n))) is) ∙ ap (node_for s floats query) same

-- ---- one node

pub pushed-one : (s : Shape) (work work' : List ℕ) (waiting child : ℕ) (r : Record) → waiting + 1 ≤ s.nodes → r.rest ≡ child → Pushed 2 waiting work r work'
    → PushedNodes s work waiting ((r.key * 2 ^ 64 + child) ∷ []) work'
pushed-one s work work' waiting child r room e p = record {
  queue = p.heap;
  sorted = p.sorted ∙ ap (λ (x : ℕ). insert x (sort (records 2 waiting work))) (value-is r ∙ ap (λ (n : ℕ). r.key * 2 ^ 64 + n) e)
      ∙ sym (insert_each-one (r.key * 2 ^ 64 + child) (sort (records 2 waiting work)));
  behind = drop_more ((waiting + 1) * 2) (marks_at s) work' work (omega arith) p.behind;
  size = p.size;
}

-- ---- one list after another

module _ (s : Shape) (f : ℕ → ℕ) (numbers work₀ work : List ℕ) (waiting start count j : ℕ) (k : Children s numbers start count) (w : PushNodes s work₀ waiting count)
    (le : j ≤ count) (q : PushedNodes s work₀ waiting (map f (part start j numbers)) work) where
  pub many : length (map f (part start j numbers)) ≡ j
  many = length-map (part start j numbers) f ∙ length_part start j numbers (let t : start + j ≤ length numbers = omega (arith, k.inside) in t)

  -- there is room for the next
  pub push-next : (m : ℕ) → j + m ≤ count → PushNodes s work (waiting + j) m
  push-next m h = record {
    size = omega (arith, w.size, q.size);
    limits = w.limits;
    room = omega (arith, w.room);
    queue = subst (λ (n : ℕ). Heap (records 2 (waiting + n) work)) many q.queue;
  }

  -- and they come to those before
  pub pushed-next : (m : ℕ) (work' : List ℕ) → PushedNodes s work (waiting + j) (map f (part (start + j) m numbers)) work'
      → PushedNodes s work₀ waiting (map f (part start (j + m) numbers)) work'
  pushed-next m work' r =
      subst (λ (l : List ℕ). PushedNodes s work₀ waiting l work')
      (sym (map-append f (part start j numbers) (part (start + j) m numbers)) ∙ ap (map f) (part-append-parts start j m numbers))
      (pushed-append s work₀ work work' waiting (waiting + j) (map f (part start j numbers)) (map f (part (start + j) m numbers)) (ap (λ (n : ℕ). waiting + n) (sym many)) q r)
