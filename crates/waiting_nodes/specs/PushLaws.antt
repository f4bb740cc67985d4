-- Nodes that are pushed one list after the other are those of both lists, and they wait as a store's view has them. Assumes nothing.
use Rattle.std.specs.Prelude.{ℕ, ◌+◌, ◌≡◌, refl, List, [], ◌∷◌, ◌++◌, map, Float, length}
use Rattle.std.proofs.Common.{arith, sym, ap, ◌∙◌, subst, length-append}
use Rattle.record_queue.specs.Sorted.{sort, insert}
use Rattle.record_queue.specs.SortedLaws.{length-insert}
use Rattle.record_queue.specs.Records.{records, Heap}
use Rattle.store.specs.declared.Shape.{Shape}
use Rattle.store.specs.declared.Counts.{Counts}
use Rattle.store.specs.Lent.{store_of}
use Rattle.walk.specs.Walk.{waiting_node}
use Rattle.walk.specs.Wanted.{Sought}
use Rattle.walk.specs.StoreView.{store_view}
use Rattle.waiting_nodes.specs.Promises.{insert_each, waiting_records, PushedNodes}

pub insert_each-nil : (l : List ℕ) → insert_each [] l ≡ l
unfolding insert_each
insert_each-nil l = refl

pub insert_each-one : (x : ℕ) (l : List ℕ) → insert_each (x ∷ []) l ≡ insert x l
unfolding insert_each
insert_each-one x l = refl

pub insert_each-append : (xs ys l : List ℕ) → insert_each (xs ++ ys) l ≡ insert_each ys (insert_each xs l)
unfolding insert_each
insert_each-append [] ys l = refl
insert_each-append (x ∷ xs) ys l = insert_each-append xs ys (insert x l)

pub length-insert_each : (xs l : List ℕ) → length (insert_each xs l) ≡ length xs + length l
unfolding insert_each
length-insert_each [] l = omega arith
length-insert_each (x ∷ xs) l = omega (arith, length-insert_each xs (insert x l), length-insert x l)

pub pushed_none : (s : Shape) (work : List ℕ) (waiting : ℕ) → Heap (records 2 waiting work) → PushedNodes s work waiting [] work
pushed_none s work waiting queue =
    let same : waiting + 0 ≡ waiting = omega arith in
    record {
      queue = subst (λ (n : ℕ). Heap (records 2 n work)) (sym same) queue;
      sorted = ap (λ (n : ℕ). sort (records 2 n work)) same ∙ sym (insert_each-nil (sort (records 2 waiting work)));
      behind = refl;
      size = refl;
    }

pub pushed-append : (s : Shape) (work work₁ work₂ : List ℕ) (waiting one : ℕ) (xs ys : List ℕ) → one ≡ waiting + length xs → PushedNodes s work waiting xs work₁
    → PushedNodes s work₁ one ys work₂ → PushedNodes s work waiting (xs ++ ys) work₂
pushed-append s work work₁ work₂ waiting one xs ys e a b =
    let all : one + length ys ≡ waiting + length (xs ++ ys) = omega (arith, e, length-append xs ys) in
    record {
      queue = subst (λ (n : ℕ). Heap (records 2 n work₂)) all b.queue;
      sorted = ap (λ (n : ℕ). sort (records 2 n work₂)) (sym all) ∙ b.sorted
          ∙ ap (insert_each ys) (ap (λ (n : ℕ). sort (records 2 n work₁)) e ∙ a.sorted) ∙ sym (insert_each-append xs ys (sort (records 2 waiting work)));
      behind = b.behind ∙ a.behind;
      size = b.size ∙ a.size;
    }

-- nodes wait as the store's view has them
pub nodes_wait : (s : Shape) (c : Counts) (floats : List Float) (numbers hashes text : List ℕ) (query : List Float) (wanted : Sought) (l : List ℕ)
    → waiting_records s floats query l ≡ map (waiting_node (store_view s c (store_of floats numbers hashes text) query wanted)) l
unfolding store_view
nodes_wait s c floats numbers hashes text query wanted l = refl
