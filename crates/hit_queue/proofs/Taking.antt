-- Taking hits out of a queue: what was kept so far, and what is still to come of those that pass a test. Assumes nothing.
use Prim.Native.Nat.{ℕ, ◌+◌, ◌-◌, ◌*◌, ◌/◌, ◌%◌, ◌^◌, ◌≤◌, ◌<◌}
use native.Mathlib.Nat.{zero-add}
use native.Mathlib.Omega.{arith}
use mathlib.Core.Path.{◌≡◌, refl, sym, ap, ap₂, ◌∙◌}
use mathlib.Core.Bool.{Bool, true, false, not}
use mathlib.Core.List.{List, [], ◌∷◌, ◌++◌, map, map-append, append_assoc, append-nil}
use lib.Dec.{eqb}
use lib.Ieee.{Float}
use lib.ListN.{length, get_or, take, set, length-append, length-map}
use lib.Seq.{sets, take_all}
use Rattle.lists.specs.Lists.{keep}
use Rattle.lists.specs.Counting.{keep-nil, keep-pass, keep_fail}
use Rattle.lists.specs.Parts.{sets_snoc}
use Rattle.record_queue.specs.declared.Record.{Record}
use Rattle.record_queue.specs.Sorted.{sort}
use Rattle.record_queue.specs.SortedLaws.{sort-nil}
use Rattle.record_queue.specs.Records.{value, records, Heap}
use Rattle.record_queue.specs.RecordsLaws.{value-is, records-zero}
use Rattle.record_queue.specs.Queue.{Popped}
use Rattle.total_order.specs.TotalOrder.{of_key}
use Rattle.walk.specs.Answer.{document_of, vector_of, distance_of, is_live, drop_after}
use Rattle.walk.proofs.AnswerLaws.{drop-nil, drop-same, drop_other}
use Rattle.hit_queue.specs.Promises.{ranked_queue, Takes}
use Rattle.hit_queue.specs.QueueLaws.{repeats_after, document_popped, key-is}

-- ---- a record's parts

distance_popped : (r : Record) → r.rest < 2 ^ 64 → distance_of (value r) ≡ of_key r.key
unfolding distance_of
distance_popped r h = ap of_key (key-is r h)

vector_popped : (r : Record) → vector_of (value r) ≡ r.rest % 2 ^ 32
vector_popped r = ap vector_of (value-is r) ∙ (let t : (r.key * 2 ^ 64 + r.rest) % 2 ^ 32 ≡ r.rest % 2 ^ 32 = omega arith in t)

-- its vector is live, by the mark
pub live_popped : (marks : List ℕ) (r : Record) → is_live marks (value r) ≡ not (eqb (get_or marks (r.rest % 2 ^ 32) 0) 0)
unfolding is_live
live_popped marks r = ap (λ (v : ℕ). not (eqb (get_or marks v 0) 0)) (vector_popped r)

-- ---- what is still to come

-- the hits of a queue that come after a document and pass a test
abbrev due : (ℕ → Bool) → ℕ → ℕ → List ℕ → List ℕ
due test last left heap = keep test (drop_after last (sort (records 3 left heap)))

due-none : (test : ℕ → Bool) (last left : ℕ) (heap : List ℕ) → left ≡ 0 → due test last left heap ≡ []
due-none test last left heap none =
    ap (λ (n : ℕ). due test last n heap) none ∙ ap (λ (l : List ℕ). keep test (drop_after last (sort l))) (records-zero 3 heap)
    ∙ ap (λ (l : List ℕ). keep test (drop_after last l)) sort-nil ∙ ap (keep test) (drop-nil last) ∙ keep-nil test

-- the least hit is popped: its document is the last one, or another; then it passes, or is struck
module _ (test : ℕ → Bool) (heap heap' : List ℕ) (left last : ℕ) (r : Record) (q : Popped 3 left heap r heap') (h : r.rest < 2 ^ 64) where
  abbrev rest : List ℕ
  rest = sort (records 3 (left - 1) heap')

  pub due-same : r.rest / 2 ^ 32 ≡ last → due test last left heap ≡ due test last (left - 1) heap'
  due-same e = ap (keep test) (ap (drop_after last) q.sorted ∙ drop-same last (value r) rest (document_popped r h ∙ e))

  due_other : (r.rest / 2 ^ 32 ≡ last → ⊥) → due test last left heap ≡ keep test (value r ∷ drop_after (r.rest / 2 ^ 32) rest)
  due_other n =
      ap (keep test) (ap (drop_after last) q.sorted ∙ drop_other last (value r) rest (λ e. n (sym (document_popped r h) ∙ e))
      ∙ ap {B = List ℕ} (λ d. value r ∷ drop_after d rest) (document_popped r h))

  due-pass : (r.rest / 2 ^ 32 ≡ last → ⊥) → test (value r) ≡ true → due test last left heap ≡ value r ∷ due test (r.rest / 2 ^ 32) (left - 1) heap'
  due-pass n live = due_other n ∙ keep-pass test (value r) (drop_after (r.rest / 2 ^ 32) rest) live

  pub due-struck : (r.rest / 2 ^ 32 ≡ last → ⊥) → test (value r) ≡ false → due test last left heap ≡ due test (r.rest / 2 ^ 32) (left - 1) heap'
  due-struck n gone = due_other n ∙ keep_fail test (value r) (drop_after (r.rest / 2 ^ 32) rest) gone

-- ---- taking the first k

pub record Taking (test : ℕ → Bool) (heap₀ : List ℕ) (count k : ℕ) (ids₀ : List ℕ) (distances₀ : List Float) (heap ids : List ℕ) (distances : List Float) (found left last : ℕ) : Type 0 where
  pub kept : List ℕ
  pub split : keep test (ranked_queue count heap₀) ≡ kept ++ due test last left heap
  pub count_is : length kept ≡ found
  pub ids_are : ids ≡ sets ids₀ 0 (map document_of kept)
  pub distances_are : distances ≡ sets distances₀ 0 (map distance_of kept)
  pub within : found ≤ k
  pub few : left ≤ count
  pub queue : Heap (records 3 left heap)
  pub size : length heap ≡ length heap₀

module _ (test : ℕ → Bool) (heap₀ : List ℕ) (count k : ℕ) (ids₀ : List ℕ) (distances₀ : List Float) where
  pub taking_start : Heap (records 3 count heap₀) → Taking test heap₀ count k ids₀ distances₀ heap₀ ids₀ distances₀ 0 count (2 ^ 32)
  taking_start queue = record {
    kept = [];
    split = ap (keep test) (repeats_after (sort (records 3 count heap₀)));
    count_is = refl;
    ids_are = refl;
    distances_are = refl;
    within = omega arith;
    few = omega arith;
    queue = queue;
    size = refl;
  }

  -- a hit that is not among those to come: a repeat, or one that is struck
  pub taking_skip : (heap heap' ids : List ℕ) (distances : List Float) (found left last last' : ℕ) (r : Record)
      → Taking test heap₀ count k ids₀ distances₀ heap ids distances found left last → Popped 3 left heap r heap'
      → due test last left heap ≡ due test last' (left - 1) heap'
      → Taking test heap₀ count k ids₀ distances₀ heap' ids distances found (left - 1) last'
  taking_skip heap heap' ids distances found left last last' r t q e = record {
    kept = t.kept;
    split = t.split ∙ ap (λ (l : List ℕ). t.kept ++ l) e;
    count_is = t.count_is;
    ids_are = t.ids_are;
    distances_are = t.distances_are;
    within = t.within;
    few = omega (arith, t.few);
    queue = q.heap;
    size = q.size ∙ t.size;
  }

  pub taking_other : (heap heap' ids : List ℕ) (distances : List Float) (found left last : ℕ) (r : Record) (distance : Float)
      → Taking test heap₀ count k ids₀ distances₀ heap ids distances found left last → Popped 3 left heap r heap' → r.rest < 2 ^ 64 → (r.rest / 2 ^ 32 ≡ last → ⊥)
      → test (value r) ≡ true → (found ≡ k → ⊥) → distance ≡ of_key r.key
      → Taking test heap₀ count k ids₀ distances₀ heap' (set ids found (r.rest / 2 ^ 32)) (set distances found distance) (found + 1) (left - 1) (r.rest / 2 ^ 32)
  taking_other heap heap' ids distances found left last r distance t q h n live more d =
      record {
        kept = t.kept ++ (value r ∷ []);
        split = t.split ∙ ap (λ (l : List ℕ). t.kept ++ l) (due-pass test heap heap' left last r q h n live)
            ∙ sym (append_assoc t.kept (value r ∷ []) (due test (r.rest / 2 ^ 32) (left - 1) heap'));
        count_is = length-append t.kept (value r ∷ []) ∙ ap (λ (m : ℕ). m + 1) t.count_is;
        ids_are = ap₂ (λ (l : List ℕ) (x : ℕ). set l found x) t.ids_are (sym (document_popped r h)) ∙ grown {A = ℕ} document_of ids₀;
        distances_are = ap₂ (λ (l : List Float) (x : Float). set l found x) t.distances_are (d ∙ sym (distance_popped r h)) ∙ grown {A = Float} distance_of distances₀;
        within = omega (arith, t.within, more);
        few = omega (arith, t.few);
        queue = q.heap;
        size = q.size ∙ t.size;
      }
    where
      grown : {A : Type 0} (f : ℕ → A) (l : List A) → set (sets l 0 (map f t.kept)) found (f (value r)) ≡ sets l 0 (map f (t.kept ++ (value r ∷ [])))
      grown f l =
          ap (λ (i : ℕ). set (sets l 0 (map f t.kept)) i (f (value r))) (sym (zero-add (length (map f t.kept)) ∙ length-map t.kept f ∙ t.count_is))
          ∙ sym (sets_snoc l 0 (map f t.kept) (f (value r))) ∙ ap (sets l 0) (sym (map-append f t.kept (value r ∷ [])))

  -- what is kept is the first k
  taken : (heap ids : List ℕ) (distances : List Float) (found left last : ℕ) (t : Taking test heap₀ count k ids₀ distances₀ heap ids distances found left last)
      → t.kept ≡ take k (keep test (ranked_queue count heap₀))
      → Takes test heap₀ count k ids₀ distances₀ (record { hits = found; left = left; last = last }) heap ids distances
  taken heap ids distances found left last t e = record {
    count_is = sym t.count_is ∙ ap length e;
    ids_are = t.ids_are ∙ ap (λ (l : List ℕ). sets ids₀ 0 (map document_of l)) e;
    distances_are = t.distances_are ∙ ap (λ (l : List ℕ). sets distances₀ 0 (map distance_of l)) e;
    rest = t.split ∙ ap (λ (l : List ℕ). l ++ due test last left heap) e;
    few = t.few;
    queue = t.queue;
  }

  pub taken-all : (heap ids : List ℕ) (distances : List Float) (found left last : ℕ) → left ≡ 0
      → Taking test heap₀ count k ids₀ distances₀ heap ids distances found left last
      → Takes test heap₀ count k ids₀ distances₀ (record { hits = found; left = left; last = last }) heap ids distances
  taken-all heap ids distances found left last none t =
      let all : keep test (ranked_queue count heap₀) ≡ t.kept =
      t.split ∙ ap (λ (l : List ℕ). t.kept ++ l) (due-none test last left heap none) ∙ append-nil t.kept in
      taken heap ids distances found left last t (sym (ap (take k) all ∙ take_all k t.kept (omega (arith, t.count_is, t.within))))

-- ---- counting what is left

pub record Counting (test : ℕ → Bool) (heap₀ : List ℕ) (count after : ℕ) (heap : List ℕ) (total left last : ℕ) : Type 0 where
  pub sum : length (due test after count heap₀) ≡ total + length (due test last left heap)
  pub few : total + left ≤ count
  pub queue : Heap (records 3 left heap)
  pub size : length heap ≡ length heap₀

module _ (test : ℕ → Bool) (heap₀ : List ℕ) (count after : ℕ) where
  pub counting_start : Heap (records 3 count heap₀) → Counting test heap₀ count after heap₀ 0 count after
  counting_start queue = record { sum = omega arith; few = omega arith; queue = queue; size = refl }

  -- a repeat, or a hit that is struck
  pub counting_skip : (heap heap' : List ℕ) (total left last last' : ℕ) (r : Record) → Counting test heap₀ count after heap total left last → Popped 3 left heap r heap'
      → due test last left heap ≡ due test last' (left - 1) heap' → Counting test heap₀ count after heap' total (left - 1) last'
  counting_skip heap heap' total left last last' r t q e = record {
    sum = t.sum ∙ ap (λ (l : List ℕ). total + length l) e;
    few = omega (arith, t.few);
    queue = q.heap;
    size = q.size ∙ t.size;
  }

  pub counting_other : (heap heap' : List ℕ) (total left last : ℕ) (r : Record) → Counting test heap₀ count after heap total left last → 0 < left → Popped 3 left heap r heap'
      → r.rest < 2 ^ 64 → (r.rest / 2 ^ 32 ≡ last → ⊥) → test (value r) ≡ true → Counting test heap₀ count after heap' (total + 1) (left - 1) (r.rest / 2 ^ 32)
  counting_other heap heap' total left last r t some q h n live = record {
    sum = omega (arith, t.sum, ap length (due-pass test heap heap' left last r q h n live));
    few = omega (arith, t.few, some);
    queue = q.heap;
    size = q.size ∙ t.size;
  }

  pub counted : (heap : List ℕ) (total left last : ℕ) → left ≤ 0 → Counting test heap₀ count after heap total left last
      → total ≡ length (due test after count heap₀)
  counted heap total left last none t = omega (arith, t.sum, ap length (due-none test last left heap (let t : left ≡ 0 = omega arith in t)))
