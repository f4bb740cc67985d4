-- Making the queue of hits: the hits of one number after the other come to those before. Assumes nothing.
use Prim.Native.Nat.{ℕ, zero, suc, ◌+◌, ◌-◌, ◌*◌, ◌/◌, ◌^◌, ◌≤◌, ◌<◌}
use native.Mathlib.Omega.{arith}
use mathlib.Core.Path.{◌≡◌, refl, sym, ap, ap₂, ◌∙◌, subst}
use mathlib.Core.Bool.{Bool, true, false, ◌&&◌}
use mathlib.Core.List.{List, [], ◌∷◌, ◌++◌, map, map-append, append_assoc, Memᴰ}
use lib.Dec.{leb, ltb}
use lib.Ieee.{Float}
use lib.ListN.{length, get_or, take, length-append, length-map}
use borrow.Author.Tests.{ltb-true, le-leb, lt-leb}
use Rattle.lists.specs.Lists.{part, keep}
use Rattle.lists.specs.Parts.{part-zero, part-cons, one_mapped, part-append-parts, length_part, get_d_part, drop_more, part-behind}
use Rattle.lists.specs.Counting.{get_d_Memᴰ, keep-nil, keep-pass, keep_fail, keep_append}
use Rattle.record_queue.specs.declared.Record.{Record}
use Rattle.record_queue.specs.Sorted.{sort}
use Rattle.record_queue.specs.SortedLaws.{sort-cons, sort-append_comm, sort-append_cong}
use Rattle.record_queue.specs.Records.{value, records, Heap}
use Rattle.record_queue.specs.Queue.{Pushed}
use Rattle.store.specs.declared.Shape.{Shape}
use Rattle.store.specs.Store.{vector_at}
use Rattle.distance.specs.Distance.{distance}
use Rattle.store.specs.declared.Counts.{Counts}
use Rattle.lists.specs.Tests.{and_left, and_right, all_pass-Memᴰ}
use Rattle.walk.specs.Answer.{hit_of}
use Rattle.hit_queue.specs.Promises.{within, Measured, Measure, NumberAt, Listed}
use Rattle.walk.specs.StoreView.{hit_at}
use Rattle.walk.specs.Promises.{VectorsLent}
use Rattle.walk.proofs.LentLaws.{vector-within}
use Rattle.hit_queue.specs.QueueLaws.{key-is}

-- ---- hits are added

-- none, one, and one list after another
pub measured_none : (bound before : ℕ) (heap : List ℕ) → Heap (records 3 before heap) → Measured bound [] before heap before heap
measured_none bound before heap queue = record {
  more = omega arith;
  few = omega arith;
  queue = queue;
  sorted = ap (λ (l : List ℕ). sort (l ++ records 3 before heap)) (sym (keep-nil (within bound)));
  all = λ e. keep-nil (within bound);
  behind = refl;
  size = refl;
}

module _ (bound before : ℕ) (heap : List ℕ) (r : Record) (low : r.key < 2 ^ 32) (fits : r.rest < 2 ^ 64) where
  pub measured_past : (bound < r.key) → Heap (records 3 before heap) → Measured bound (value r ∷ []) before heap before heap
  measured_past past queue = record {
    more = omega arith;
    few = omega arith;
    queue = queue;
    sorted = ap (λ (l : List ℕ). sort (l ++ records 3 before heap)) (sym (keep_fail (within bound) (value r) [] no ∙ keep-nil (within bound)));
    all = λ e. absurd (let z : ◌≡◌ {A = ℕ} 0 1 = omega (arith, low, past, e) in omega (arith, z));
    behind = refl;
    size = refl;
  }
    where
      no : within bound (value r) ≡ false
      no = ap (λ (k : ℕ). leb k bound) (key-is r fits) ∙ lt-leb r.key bound past

  pub measured_pushed : (heap' : List ℕ) → r.key ≤ bound → Pushed 3 before heap r heap' → Measured bound (value r ∷ []) before heap (before + 1) heap'
  measured_pushed heap' under p = record {
    more = omega arith;
    few = omega arith;
    queue = p.heap;
    sorted = p.sorted ∙ sym (sort-cons (value r) (records 3 before heap))
        ∙ ap (λ (l : List ℕ). sort (l ++ records 3 before heap)) (sym is);
    all = λ e. is;
    behind = p.behind;
    size = p.size;
  }
    where
      yes : within bound (value r) ≡ true
      yes = ap (λ (k : ℕ). leb k bound) (key-is r fits) ∙ le-leb r.key bound under

      is : keep (within bound) (value r ∷ []) ≡ value r ∷ []
      is = keep-pass (within bound) (value r) [] yes ∙ ap {B = List ℕ} (λ t. value r ∷ t) (keep-nil (within bound))

-- a record as it is read
abbrev pub Fits : Record → Type 0
Fits r = (r.key < 2 ^ 32) × (r.rest < 2 ^ 64)

pub measured_append : (bound before one two : ℕ) (heap heap₁ heap₂ xs ys : List ℕ) → Measured bound xs before heap one heap₁ → Measured bound ys one heap₁ two heap₂
    → Measured bound (xs ++ ys) before heap two heap₂
measured_append bound before one two heap heap₁ heap₂ xs ys a b =
    let p : ℕ → Bool = within bound in
    record {
      more = omega (arith, a.more, b.more);
      few = omega (arith, a.few, b.few, length-append xs ys);
      queue = b.queue;
      sorted = b.sorted ∙ sort-append_cong (keep p ys) (keep p ys) (records 3 one heap₁) (keep p xs ++ records 3 before heap) refl a.sorted
          ∙ ap sort (sym (append_assoc (keep p ys) (keep p xs) (records 3 before heap)))
          ∙ sort-append_cong (keep p ys ++ keep p xs) (keep p xs ++ keep p ys) (records 3 before heap) (records 3 before heap) (sort-append_comm (keep p ys) (keep p xs)) refl
          ∙ ap (λ (l : List ℕ). sort (l ++ records 3 before heap)) (sym (keep_append p xs ys));
      all = λ e. keep_append p xs ys ∙ ap₂ (λ (k l : List ℕ). k ++ l) (a.all e) (b.all e);
      behind = b.behind ∙ drop_more (one * 3) (two * 3) heap₁ heap (omega (arith, b.more)) a.behind;
      size = b.size ∙ a.size;
    }

-- four past the bound
pub past-four : (bound before : ℕ) (heap : List ℕ) (a b c d : Record) → Fits a → Fits b → Fits c → Fits d
    → (((ltb bound a.key && ltb bound b.key) && ltb bound c.key) && ltb bound d.key) ≡ true → Heap (records 3 before heap)
    → Measured bound (value a ∷ value b ∷ value c ∷ value d ∷ []) before heap before heap
past-four bound before heap a b c d fa fb fc fd e queue =
    let p : Bool = ltb bound a.key in
    let q : Bool = ltb bound b.key in
    let r : Bool = ltb bound c.key in
    let s : Bool = ltb bound d.key in
    let abc : ((p && q) && r) ≡ true = and_left ((p && q) && r) s e in
    let ab : (p && q) ≡ true = and_left (p && q) r abc in
    let one : (x : Record) → Fits x → ltb bound x.key ≡ true → Measured bound (value x ∷ []) before heap before heap =
    λ x fits past. measured_past bound before heap x fits.0 fits.1 (ltb-true bound x.key past) queue in
    let add : (xs ys : List ℕ) → Measured bound xs before heap before heap → Measured bound ys before heap before heap → Measured bound (xs ++ ys) before heap before heap =
    measured_append bound before before before heap heap heap in
    add (value a ∷ value b ∷ value c ∷ []) (value d ∷ [])
    (add (value a ∷ value b ∷ []) (value c ∷ [])
    (add (value a ∷ []) (value b ∷ []) (one a fa (and_left p q ab)) (one b fb (and_right p q ab)))
    (one c fc (and_right (p && q) r abc)))
    (one d fd (and_right ((p && q) && r) s e))

-- ---- each number that is to be read

pub number_at : (c : Counts) (heap : List ℕ) (before at count : ℕ) → Measure c heap before at count → (i p : ℕ) → i < count → p ≡ at + i → NumberAt c heap p
number_at c heap before at count w i p h e = record {
  inside = omega (arith, w.inside, h, e);
  held = ltb-true (get_or heap p 0) c.vectors
      (all_pass-Memᴰ (λ x. ltb x c.vectors) (part at count heap) w.held (get_or heap p 0)
      (subst (λ (x : ℕ). Memᴰ x (part at count heap)) (get_d_part at count heap i 0 h ∙ ap (λ (n : ℕ). get_or heap n 0) (sym e))
      (get_d_Memᴰ (part at count heap) i 0 (subst (λ (n : ℕ). i < n) (sym (length_part at count heap w.inside)) h))));
}

-- a vector held is within the floats, and has a document id
abbrev pub Held : Shape → List Float → List ℕ → ℕ → Type 0
Held s floats numbers v = (v * s.dimension + s.dimension ≤ length floats) × Listed numbers v

pub vector-held : (s : Shape) (c : Counts) (floats : List Float) (numbers : List ℕ) → VectorsLent s c floats numbers → (v : ℕ) → v < c.vectors → Held s floats numbers v
vector-held s c floats numbers lent v low = (
  vector-within s floats v c.vectors lent.within.limits lent.floats_enough low (omega (arith, lent.within.vectors)),
  record {
    inside = omega (arith, low, lent.within.vectors, lent.numbers_enough);
    small = omega (arith, low, lent.within.vectors, lent.within.limits.vectors_high);
  },
)

-- ---- numbers and their hits

-- the hits of the next numbers come to those of the first j
pub measured_next : (c : Counts) (h : ℕ → ℕ) (bound before total total' at count j m : ℕ) (heap₀ heap heap' : List ℕ) → Measure c heap₀ before at count → j + m ≤ count
    → Measured bound (map h (part at j heap₀)) before heap₀ total heap → Measured bound (map h (part (at + j) m heap)) total heap total' heap'
    → Measured bound (map h (part at (j + m) heap₀)) before heap₀ total' heap'
measured_next c h bound before total total' at count j m heap₀ heap heap' w le a b =
    subst (λ (hs : List ℕ). Measured bound hs before heap₀ total' heap')
    (ap (λ (l : List ℕ). map h (part at j heap₀) ++ map h l) (kept m refl) ∙ sym (map-append h (part at j heap₀) (part (at + j) m heap₀)) ∙ ap (map h) (part-append-parts at j m heap₀))
    (measured_append bound before total total' heap₀ heap heap' (map h (part at j heap₀)) (map h (part (at + j) m heap)) a b)
  where
    kept : (n : ℕ) → m ≡ n → part (at + j) n heap ≡ part (at + j) n heap₀
    kept zero e = part-zero (at + j) heap ∙ sym (part-zero (at + j) heap₀)
    kept (suc n) e =
        part-behind (total * 3) (at + j) (suc n) heap heap₀
        (omega (arith, a.few, length-map (part at j heap₀) h, length_part at j heap₀ (let t : at + j ≤ length heap₀ = omega (arith, w.inside, le) in t), w.apart, le, e)) a.behind

pub hit-is : (s : Shape) (floats : List Float) (numbers : List ℕ) (query : List Float) (distance' : Float) (v x r : ℕ) → r ≡ hit_of distance' (get_or numbers v 0) v
    → distance' ≡ distance query (vector_at s.dimension floats v) → v ≡ x → r ≡ hit_at s floats numbers query x
hit-is s floats numbers query distance' v x r e d is = e ∙ ap (λ (f : Float). hit_of f (get_or numbers v 0) v) d ∙ ap (hit_at s floats numbers query) is

-- the hits of one to three numbers, where the second of one is the first again, and the third of two the second
module _ (f : ℕ → ℕ) (l : List ℕ) (at : ℕ) where
  more : (n i j : ℕ) → i < length l → j ≡ suc i → map f (part i (suc n) l) ≡ f (get_or l i 0) ∷ map f (part j n l)
  more n i j below e = ap (map f) (part-cons i n l 0 below ∙ ap (λ (k : ℕ). get_or l i 0 ∷ part k n l) (sym e))

  pub few_mapped : (few p q r : ℕ) → 1 ≤ few → few ≤ 3 → at + few ≤ length l → p ≡ f (get_or l at 0) → q ≡ f (get_or l (at + few / 2) 0) → r ≡ f (get_or l (at + few - 1) 0)
      → take few (p ∷ q ∷ r ∷ []) ≡ map f (part at few l)
  few_mapped zero p q r some most room a b c = absurd (omega arith)
  few_mapped (suc zero) p q r some most room a b c = one_mapped f l at 0 p (omega arith) a
  few_mapped (suc (suc zero)) p q r some most room a b c =
      ap₂ (λ (x y : ℕ). x ∷ y ∷ []) a (b ∙ ap (λ (n : ℕ). f (get_or l n 0)) (let t : at + 2 / 2 ≡ at + 1 = omega arith in t))
      ∙ sym (more 1 at (at + 1) (omega arith) (omega arith) ∙ ap (λ (t : List ℕ). f (get_or l at 0) ∷ t) (more 0 (at + 1) (at + 2) (omega arith) (omega arith)))
  few_mapped (suc (suc (suc zero))) p q r some most room a b c =
      ap₂ (λ (x : ℕ) (t : List ℕ). x ∷ t) a
      (ap₂ (λ (x y : ℕ). x ∷ y ∷ []) (b ∙ ap (λ (n : ℕ). f (get_or l n 0)) (let t : at + 3 / 2 ≡ at + 1 = omega arith in t))
      (c ∙ ap (λ (n : ℕ). f (get_or l n 0)) (let t : at + 3 - 1 ≡ at + 2 = omega arith in t)))
      ∙ sym (more 2 at (at + 1) (omega arith) (omega arith)
      ∙ ap (λ (t : List ℕ). f (get_or l at 0) ∷ t) (more 1 (at + 1) (at + 2) (omega arith) (omega arith)
      ∙ ap (λ (t : List ℕ). f (get_or l (at + 1) 0) ∷ t) (more 0 (at + 2) (at + 3) (omega arith) (omega arith))))
  few_mapped (suc (suc (suc (suc few)))) p q r some most room a b c = absurd (omega arith)
