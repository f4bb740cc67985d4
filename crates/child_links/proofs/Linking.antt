-- The stack of `linkUp` in the work list, and the child links from the last node to the first.
use Prim.Native.Nat.{ℕ, zero, suc, ◌+◌, ◌-◌, ◌≤◌, ◌<◌}
use mathlib.Core.Path.{◌≡◌, refl, sym, ap, ap₂, ◌∙◌, subst}
use mathlib.Core.List.{List, [], ◌∷◌, ◌++◌}
use native.Mathlib.Omega.{arith}
use lib.ListN.{length, get_or, set, take, drop, length-take, length-drop, length-append, length-set}
use lib.Seq.{sets, drop-length, drop-cons, take-take, drop-drop, drop-set-lt, get_or-set_same, length-take-le}
use Rattle.lists.specs.Lists.{part}
use Rattle.lists.specs.Counting.{sum_of}
use Rattle.lists.specs.Parts.{part-cons, part-set-before, drop-take, sets-append, sets_comm}
use Rattle.tree.specs.Links.{Linked, link_up}
use Rattle.tree.proofs.LinksLaws.{length-linked}
use Rattle.child_links.specs.Promises.{ChildCounts}

-- every node but the roots has been linked
abbrev pub Full : ℕ → List ℕ → Type 0
Full i cs = length (link_up i cs).links ≡ sum_of (λ c. c) cs

links_le : (i : ℕ) (cs : List ℕ) → length (link_up i cs).links ≤ sum_of (λ c. c) cs
unfolding link_up sum_of
links_le i [] = omega arith
links_le i (c ∷ cs) =
    let later = link_up (suc i) cs in
    let h = links_le (suc i) cs in
    let a = length-take c later.stack in
    let b = length-append (take c later.stack) later.links in
    omega arith

pub full_later : (i c : ℕ) (cs : List ℕ) → Full i (c ∷ cs) → Full (suc i) cs
unfolding link_up sum_of
full_later i c cs f =
    let later = link_up (suc i) cs in
    let h = links_le (suc i) cs in
    let a = length-take c later.stack in
    let b = length-append (take c later.stack) later.links in
    omega arith

pub full_children : (i c : ℕ) (cs : List ℕ) → Full i (c ∷ cs) → c ≤ length (link_up (suc i) cs).stack
unfolding link_up sum_of
full_children i c cs f =
    let later = link_up (suc i) cs in
    let h = links_le (suc i) cs in
    let a = length-take c later.stack in
    let b = length-append (take c later.stack) later.links in
    omega arith

full_nil : (i : ℕ) → Full i []
unfolding link_up sum_of
full_nil i = refl

pub full_drop : (k i : ℕ) (cs : List ℕ) → Full k cs → Full (k + i) (drop i cs)
full_drop k zero cs f = let e : k ≡ k + 0 = omega arith in subst (λ (j : ℕ). Full j cs) e f
full_drop k (suc i) [] f = full_nil (k + suc i)
full_drop k (suc i) (c ∷ cs) f =
    let e : suc k + i ≡ k + suc i = omega arith in subst (λ (j : ℕ). Full j (drop i cs)) e (full_drop (suc k) i cs (full_later k c cs f))

sum_drop : (i : ℕ) (cs : List ℕ) → sum_of (λ c. c) (drop i cs) ≤ sum_of (λ c. c) cs
unfolding sum_of
sum_drop zero cs = omega arith
sum_drop (suc i) [] = omega arith
sum_drop (suc i) (c ∷ cs) = let h = sum_drop i cs in omega arith

top_sum : (top c size n : ℕ) → 1 ≤ top → c ≤ size → top + size ≡ n → top + c - 1 + suc (size - c) ≡ n
top_sum top c size n h g e = omega arith

-- What holds before node i is linked: the nodes from i on are linked, and the links and the stack stand in the lists.
pub record Linking (cs numbers₀ work₀ : List ℕ) (links : ℕ) (numbers work : List ℕ) (top end i : ℕ) : Type 0 where
  pub below : i ≤ length cs
  pub ends : suc (end + sum_of (λ c. c) (drop i cs)) ≡ length cs
  pub top_is : top + length (link_up i (drop i cs)).stack ≡ length cs
  pub stack_is : part top (length cs - top) work ≡ (link_up i (drop i cs)).stack
  pub numbers_is : numbers ≡ sets numbers₀ (links + end) (link_up i (drop i cs)).links
  pub work_is : drop (length cs) work ≡ drop (length cs) work₀
  pub work_long : length work ≡ length work₀

pub linking_start : (cs numbers work : List ℕ) (links : ℕ) → ChildCounts cs
    → Linking cs numbers work links numbers work (length cs) (length cs - 1) (length cs)
unfolding link_up sum_of
linking_start cs numbers work links counts =
    let n = length cs in
    let e : drop n cs ≡ [] = drop-length cs in
    let one = counts.one_root in
    let sum : sum_of (λ c. c) (drop n cs) ≡ 0 = ap (sum_of (λ c. c)) e in
    let size : length (link_up n (drop n cs)).stack ≡ 0 = ap (λ (r : List ℕ). length (link_up n r).stack) e in
    let none : length cs - length cs ≡ 0 = omega arith in
    record {
      below = omega arith;
      ends = omega arith;
      top_is = omega arith;
      stack_is = ap (λ (k : ℕ). part n k work) none ∙ sym (ap (λ (r : List ℕ). (link_up n r).stack) e);
      numbers_is = sym (ap (λ (r : List ℕ). sets numbers (links + (n - 1)) (link_up n r).links) e);
      work_is = refl;
      work_long = refl;
    }

module _ (cs numbers₀ work₀ : List ℕ) (links : ℕ) (counts : ChildCounts cs) (numbers work : List ℕ) (top end i : ℕ) (small : i < length cs)
    (fits : length cs ≤ length work₀) (before : Linking cs numbers₀ work₀ links numbers work top end (suc i)) where
  here : drop i cs ≡ get_or cs i 0 ∷ drop (suc i) cs
  here = drop-cons cs i 0 small

  full_here : Full i (get_or cs i 0 ∷ drop (suc i) cs)
  full_here = subst (λ (r : List ℕ). Full i r) here (let e : 0 + i ≡ i = omega arith in subst (λ (j : ℕ). Full j (drop i cs)) e (full_drop 0 i cs counts.all_linked))

  sum-here : sum_of (λ c. c) (drop i cs) ≡ get_or cs i 0 + sum_of (λ c. c) (drop (suc i) cs)
  unfolding sum_of
  sum-here = ap (sum_of (λ c. c)) here

  stack : List ℕ
  stack = (link_up (suc i) (drop (suc i) cs)).stack

  later : List ℕ
  later = (link_up (suc i) (drop (suc i) cs)).links

  pub count-end : get_or cs i 0 ≤ end
  count-end =
      let a = sum-here in
      let b = sum_drop i cs in
      let c = counts.one_root in
      let d = before.ends in
      omega arith

  count-stack : get_or cs i 0 ≤ length stack
  unfolding stack
  count-stack = full_children i (get_or cs i 0) (drop (suc i) cs) full_here

  pub count_top : top + get_or cs i 0 ≤ length cs
  unfolding stack
  count_top = let a = count-stack in let b = before.top_is in omega arith

  pub top_some : 1 ≤ top
  unfolding stack
  top_some =
      let a = before.top_is in
      let b = length-linked (suc i) (drop (suc i) cs) in
      let c = length-drop (suc i) cs in
      omega arith

  -- the links of the node, as they are copied
  copied : part top (get_or cs i 0) work ≡ take (get_or cs i 0) stack
  unfolding stack
  copied =
      let a = count_top in
      sym (ap (take (get_or cs i 0)) (sym before.stack_is) ∙ take-take (get_or cs i 0) (length cs - top) (drop top work) (omega arith))

  linked-here : link_up i (drop i cs) ≡ record { stack = i ∷ drop (get_or cs i 0) stack; links = take (get_or cs i 0) stack ++ later }
  unfolding link_up stack later
  linked-here = ap (link_up i) here

  pub linking_next : (after : List ℕ) → after ≡ sets numbers (links + (end - get_or cs i 0)) (part top (get_or cs i 0) work)
      → Linking cs numbers₀ work₀ links after (set work (top + get_or cs i 0 - 1) i) (top + get_or cs i 0 - 1) (end - get_or cs i 0) i
  unfolding stack later
  linking_next after is =
      let c = get_or cs i 0 in
      let n = length cs in
      let a = count-end in
      let b = count_top in
      let d = top_some in
      let s = sum-here in
      let t = before.top_is in
      let u = before.ends in
      let long = before.work_long in
      let place = top + get_or cs i 0 - 1 in
      let held : length (take c stack) ≡ c = length-take-le c stack count-stack in
      let one : n - place ≡ suc (n - (top + c)) = omega arith in
      let two : suc place ≡ top + c = omega arith in
      let three : n - top - c ≡ n - (top + c) = omega arith in
      let four : links + (end - c) + length (take c stack) ≡ links + end = omega arith in
      let size : length (link_up i (drop i cs)).stack ≡ suc (length stack - c) =
      ap (λ (r : Linked). length r.stack) linked-here ∙ ap suc (length-drop c stack) in
      let lt : place < length work = omega arith in
      let rest : part (top + c) (n - (top + c)) work ≡ drop c stack =
      sym (ap (drop c) (sym before.stack_is) ∙ drop-take c (n - top) (drop top work)
      ∙ ap₂ (λ (k : ℕ) (r : List ℕ). take k r) three (drop-drop c top work)) in
      record {
        below = omega arith;
        ends = omega arith;
        top_is = ap (λ (k : ℕ). place + k) size ∙ top_sum top c (length stack) n d count-stack t;
        stack_is =
            ap (λ (k : ℕ). part place k (set work place i)) one
            ∙ part-cons place (n - (top + c)) (set work place i) 0 (rw length-set lt)
            ∙ ap₂ (λ (x : ℕ) (r : List ℕ). x ∷ r) (get_or-set_same work place i 0 lt)
            (ap (λ (k : ℕ). part k (n - (top + c)) (set work place i)) two
            ∙ part-set-before (top + c) (n - (top + c)) work place i (omega arith)
            ∙ rest)
            ∙ sym (ap (λ (r : Linked). r.stack) linked-here);
        numbers_is =
            is
            ∙ ap₂ (λ (r x : List ℕ). sets r (links + (end - c)) x) before.numbers_is copied
            ∙ sym (sets_comm numbers₀ (links + (end - c)) (take c stack) (links + end) later (omega arith))
            ∙ ap (λ (k : ℕ). sets (sets numbers₀ (links + (end - c)) (take c stack)) k later) (sym four)
            ∙ sym (sets-append numbers₀ (links + (end - c)) (take c stack) later)
            ∙ sym (ap (λ (r : Linked). sets numbers₀ (links + (end - c)) r.links) linked-here);
        work_is = drop-set-lt n work place i (omega arith) ∙ before.work_is;
        work_long = length-set work place i ∙ before.work_long;
      }

-- what a turn of the loop knows of node i, whose child count w is
pub record Turn (cs numbers₀ work₀ : List ℕ) (nodes links : ℕ) (numbers work : List ℕ) (top end i w : ℕ) : Type 0 where
  pub small : i < length cs
  pub before : Linking cs numbers₀ work₀ links numbers work top end (suc i)
  pub count_is : w ≡ get_or cs i 0
  pub in_end : w ≤ end
  pub in_top : top + w ≤ nodes
  pub some : 1 ≤ top
  pub end_lt : end < nodes
  pub long : length work ≡ length work₀

pub turn_of : (cs numbers₀ work₀ : List ℕ) (nodes links : ℕ) (numbers work : List ℕ) (top end i j w : ℕ) → ChildCounts cs → length cs ≡ nodes → nodes ≤ length work₀ → j ≡ suc i
    → i < nodes → Linking cs numbers₀ work₀ links numbers work top end j → w ≡ get_or cs i 0 → Turn cs numbers₀ work₀ nodes links numbers work top end i w
turn_of cs numbers₀ work₀ nodes links numbers work top end i j w counts n fits q h linking e =
    let small : i < length cs = omega arith in
    let fits' : length cs ≤ length work₀ = omega arith in
    let before : Linking cs numbers₀ work₀ links numbers work top end (suc i) = subst (λ (k : ℕ). Linking cs numbers₀ work₀ links numbers work top end k) q linking in
    let a = count-end cs numbers₀ work₀ links counts numbers work top end i small fits' before in
    let b = count_top cs numbers₀ work₀ links counts numbers work top end i small fits' before in
    let d = before.ends in
    record {
      small = small;
      before = before;
      count_is = e;
      in_end = omega arith;
      in_top = omega arith;
      some = top_some cs numbers₀ work₀ links counts numbers work top end i small fits' before;
      end_lt = omega arith;
      long = before.work_long;
    }
