-- How the work list goes with the progress of a walk, step by step. Assumes nothing.
use Prim.Native.Nat.{ℕ, ◌+◌, ◌-◌, ◌*◌, ◌%◌, ◌^◌, ◌≤◌, ◌<◌, max}
use native.Mathlib.Nat.{le_refl}
use native.Mathlib.Omega.{arith}
use mathlib.Core.Path.{◌≡◌, refl, sym, ap, ◌∙◌, subst}
use mathlib.Core.Bool.{true}
use lib.Dec.{ltb}
use mathlib.Core.List.{List, [], ◌∷◌, ◌++◌, map}
use lib.Ieee.{Float}
use lib.ListN.{length, take, drop, set, replicate, length-set}
use lib.Seq.{take-set-le, sets, length-sets}
use Rattle.lists.specs.Parts.{take-sets, get_d_behind, part-behind}
use Rattle.lists.specs.Partition.{count, hit, hit_same, count-cons, count-Memᴰ}
use Rattle.record_queue.specs.declared.Record.{Record}
use Rattle.record_queue.specs.Sorted.{sort}
use Rattle.record_queue.specs.SortedLaws.{length-sort, insert-nil, sort-nil}
use Rattle.record_queue.specs.Records.{value, records, Heap}
use Rattle.record_queue.specs.RecordsLaws.{value-is, records-zero, records-same, length-records, heap-none}
use Rattle.record_queue.specs.Queue.{Popped}
use Rattle.store.specs.declared.Shape.{Shape}
use Rattle.store.specs.Store.{Limits, vector_at, marks_at, hits_at, work_size}
use Rattle.distance.specs.Distance.{distance}
use Rattle.total_order.specs.TotalOrder.{key_of}
use Rattle.walk.specs.StoreView.{store_view}
use Rattle.lists.specs.Tests.{all_pass, all_pass-nil}
use Rattle.walk.specs.Wanted.{Sought}
use Rattle.store.specs.declared.Counts.{Counts}
use Rattle.walk.specs.Walk.{View, waiting_node, node_number, Progress}
use Rattle.walk.proofs.WalkLaws.{opened_one, added_hits}
use Rattle.walk.proofs.DifferentLaws.{Once, node_numbers}
use Rattle.store.specs.Lent.{store_of}
use Rattle.walk.specs.Promises.{Works}
use Rattle.waiting_nodes.specs.Promises.{insert_each, PushedNodes}
use Rattle.waiting_nodes.specs.PushLaws.{insert_each-one}
use Rattle.best_first_walk.specs.MarkLaws.{marked-one, marked-none, found_unmarked, works-root, finds-same, marked-found, finds-more}
use Rattle.best_first_walk.specs.Walks.{found_in, found_at, found_part, Represents, BeginsWalk}
use Rattle.walk.proofs.LentLaws.{works_trans, works-front}

-- ---- a node is marked, and nodes are pushed

-- a progress with a child marked, and with other nodes waiting
abbrev pub marked_one : ℕ → Progress → Progress
marked_one child p = record { waiting = p.waiting; pushed = child ∷ p.pushed; opened = p.opened; found = p.found }

abbrev pub with_waiting : List ℕ → Progress → Progress
with_waiting w p = record { waiting = w; pushed = p.pushed; opened = p.opened; found = p.found }

module _ (s : Shape) (c : Counts) (hit : ℕ → ℕ) (nodes : c.nodes ≤ s.nodes) where
  pub represents_marked : (p : Progress) (work : List ℕ) (waiting found child : ℕ) → child < c.nodes → waiting ≤ s.nodes → Represents s c hit p work waiting found
      → Represents s c hit (marked_one child p) (set work (marks_at s + child) 1) waiting found
  represents_marked p work waiting found child below few r =
      let w : List ℕ = set work (marks_at s + child) 1 in
      let front : records 2 waiting w ≡ records 2 waiting work =
      records-same 2 waiting w work (le_refl 2) (take-set-le (waiting * 2) work (marks_at s + child) 1 (let t : waiting * 2 ≤ marks_at s + child = omega arith in t)) in
      record {
        size = omega (arith, length-set work (marks_at s + child) 1, r.size);
        queue = subst Heap (sym front) r.queue;
        waits = ap sort front ∙ r.waits;
        marks = marked-one s c p.pushed work child nodes r.size below r.marks;
        finds = finds-same s c hit p.found work w found (found_unmarked s work child (omega arith)) r.finds;
      }

  pub represents_pushed : (p : Progress) (work work' new : List ℕ) (waiting found total : ℕ) → total ≡ waiting + length new → Represents s c hit p work waiting found
      → PushedNodes s work waiting new work' → Represents s c hit (with_waiting (insert_each new p.waiting) p) work' total found
  represents_pushed p work work' new waiting found total e r q = record {
    size = omega (arith, q.size, r.size);
    queue = subst (λ (n : ℕ). Heap (records 2 n work')) (sym e) q.queue;
    waits = ap (λ (n : ℕ). sort (records 2 n work')) e ∙ q.sorted ∙ ap (insert_each new) r.waits;
    marks = λ i h. get_d_behind (marks_at s) (marks_at s + i) work' work 0 (omega arith) q.behind ∙ r.marks i h;
    finds = finds-same s c hit p.found work work' found
        (part-behind (marks_at s) (found_at s) (max s.vectors s.entries + 1) work' work (let t : marks_at s ≤ found_at s = omega arith in t) q.behind) r.finds;
  }

-- ---- the least node is taken

module _ (s : Shape) (c : Counts) (hit : ℕ → ℕ) (p : Progress) (work : List ℕ) (waiting found : ℕ) (r : Represents s c hit p work waiting found) where
  pub represents_length : length p.waiting ≡ waiting
  represents_length = ap length (sym r.waits) ∙ length-sort (records 2 waiting work) ∙ length-records 2 waiting work

  -- the record that was popped is the least, and the others wait on
  pub popped_waits : (work' : List ℕ) (least : Record) → Popped 2 waiting work least work' → p.waiting ≡ value least ∷ sort (records 2 (waiting - 1) work')
  popped_waits work' least q = sym r.waits ∙ q.sorted

  pub represents_opened : (work' : List ℕ) (least : Record) → c.nodes ≤ s.nodes → waiting ≤ s.nodes → Popped 2 waiting work least work'
      → Represents s c hit (opened_one (value least) (sort (records 2 (waiting - 1) work')) p) work' (waiting - 1) found
  represents_opened work' least nodes few q =
      let found-kept : found_part s work' ≡ found_part s work =
      part-behind (waiting * 2) (found_at s) (max s.vectors s.entries + 1) work' work (omega arith) q.behind in
      record {
        size = omega (arith, q.size, r.size);
        queue = q.heap;
        waits = refl;
        marks = λ i h. get_d_behind (waiting * 2) (marks_at s + i) work' work 0 (omega arith) q.behind ∙ r.marks i h;
        finds = finds-same s c hit p.found work work' found found-kept r.finds;
      }

-- the number of a popped node
pub popped_number : (least : Record) → least.rest < 2 ^ 32 → node_number (value least) ≡ least.rest
popped_number least h = ap node_number (value-is least) ∙ (let t : (least.key * 2 ^ 64 + least.rest) % 2 ^ 64 ≡ least.rest = omega arith in t)

-- the least node is below the count
pub least-below : (p : Progress) (n least : ℕ) (rest : List ℕ) → Once n p → p.waiting ≡ least ∷ rest → node_number least < n
least-below p n least rest o e =
    let i = node_number least in
    let waits : count i (node_numbers p.waiting) ≡ hit i i + count i (node_numbers rest) = ap (λ (l : List ℕ). count i (node_numbers l)) e ∙ count-cons i i (node_numbers rest) in
    o.below i (count-Memᴰ i p.pushed (omega (arith, o.counted i, waits, hit_same i i refl)))

-- ---- vectors are found

-- the work list with another hits' part
module _ (s : Shape) (c : Counts) (hit : ℕ → ℕ) (p : Progress) (work ys : List ℕ) (waiting found : ℕ) (r : Represents s c hit p work waiting found)
    (limits : Limits s) (long : length ys ≡ 3 * max s.vectors s.entries) where
  pub represents_hits : (new : List ℕ) (total : ℕ) → c.nodes ≤ s.nodes → waiting ≤ s.nodes → all_pass (λ x. ltb x c.vectors) new ≡ true
      → total ≡ length new + found → take total (drop (found_in s) ys) ≡ take found (found_part s work) ++ new
      → Represents s c hit (added_hits (map hit new) p) (sets work (hits_at s) ys) waiting total
  represents_hits new total nodes few held count is =
      let front : records 2 waiting (sets work (hits_at s) ys) ≡ records 2 waiting work =
      records-same 2 waiting (sets work (hits_at s) ys) work (le_refl 2) (take-sets (waiting * 2) work (hits_at s) ys (let t : waiting * 2 ≤ hits_at s = omega arith in t)) in
      record {
        size = omega (arith, length-sets work (hits_at s) ys, r.size);
        queue = subst Heap (sym front) r.queue;
        waits = ap sort front ∙ r.waits;
        marks = marked-found s c hit work ys limits r.size long nodes p.pushed r.marks;
        finds = finds-more s c hit work ys limits r.size long p.found new found total held count is r.finds;
      }

-- ---- what the work list keeps

pub works-pushed : (s : Shape) (work work' new : List ℕ) (waiting : ℕ) → PushedNodes s work waiting new work' → Works s work work'
works-pushed s work work' new waiting q = works-front s work work' (marks_at s) (omega arith) q.behind q.size

pub works_popped : (s : Shape) (work work' : List ℕ) (waiting : ℕ) (r : Record) → waiting ≤ s.nodes → Popped 2 waiting work r work' → Works s work work'
works_popped s work work' waiting r few q = works-front s work work' (waiting * 2) (omega arith) q.behind q.size

-- ---- the beginning

-- no node is marked
pub cleared : (s : Shape) (c : Counts) (hit : ℕ → ℕ) (work : List ℕ) → c.nodes ≤ s.nodes → work_size s ≤ length work
    → Represents s c hit (record { waiting = []; pushed = []; opened = []; found = [] }) (sets work (marks_at s) (replicate c.nodes 0)) 0 0
cleared s c hit work nodes size =
    let w : List ℕ = sets work (marks_at s) (replicate c.nodes 0) in
    record {
      size = omega (arith, length-sets work (marks_at s) (replicate c.nodes 0), size);
      queue = heap-none 2 w;
      waits = ap sort (records-zero 2 w) ∙ sort-nil;
      marks = marked-none s c work nodes size;
      finds = record { count = refl; held = all_pass-nil (λ x. ltb x c.vectors); are = refl };
    }

pub begins : (s : Shape) (c : Counts) (hit : ℕ → ℕ) (view : View) (work work' : List ℕ) → c.nodes ≤ s.nodes → 1 ≤ c.nodes → work_size s ≤ length work
    → PushedNodes s (set (sets work (marks_at s) (replicate c.nodes 0)) (marks_at s) 1) 0 (waiting_node view 0 ∷ []) work' → BeginsWalk s c hit view work work'
begins s c hit view work work' nodes some size q =
    let w : List ℕ = sets work (marks_at s) (replicate c.nodes 0) in
    let at : marks_at s + 0 ≡ marks_at s = omega arith in
    let empty : Progress = record { waiting = []; pushed = []; opened = []; found = [] } in
    let marked = subst (λ (i : ℕ). Represents s c hit (marked_one 0 empty) (set w i 1) 0 0) at (represents_marked s c hit nodes empty w 0 0 0 some (omega arith) (cleared s c hit work nodes size)) in
    let first = represents_pushed s c hit nodes (marked_one 0 empty) (set w (marks_at s) 1) work' (waiting_node view 0 ∷ []) 0 0 1 refl marked q in
    record {
      start = record {
        size = first.size;
        queue = first.queue;
        waits = first.waits ∙ insert_each-one (waiting_node view 0) [] ∙ insert-nil (waiting_node view 0);
        marks = first.marks;
        finds = first.finds;
      };
      works = works_trans s work (set w (marks_at s) 1) work' (works-root s c work nodes some) (works-pushed s (set w (marks_at s) 1) work' (waiting_node view 0 ∷ []) 0 q);
    }

-- the key of a node's centroid
pub view_key : (s : Shape) (c : Counts) (floats : List Float) (numbers hashes text : List ℕ) (query : List Float) (wanted : Sought) (i at key : ℕ) → at ≡ s.vectors + i
    → key ≡ key_of (distance query (vector_at s.dimension floats at)) → key ≡ (store_view s c (store_of floats numbers hashes text) query wanted).key i
unfolding store_view
view_key s c floats numbers hashes text query wanted i at key p e = e ∙ ap (λ (n : ℕ). key_of (distance query (vector_at s.dimension floats n))) p
