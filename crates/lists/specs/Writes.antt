-- A list that is written from a place on, one element a turn: after i turns the first i elements of what is due stand there.
use Rattle.std.specs.Prelude.{ℕ, ◌+◌, ◌≤◌, ◌<◌, ◌≡◌, refl, List, length, get_or, set, take}
use Rattle.std.proofs.Common.{sym, ap, subst, ◌∙◌, append-nil, arith, le_of_lt, zero-add, add-one, length-set, length-take, drop_of_length-le, take-suc, take_all, length-take-le}
use Rattle.std.proofs.lemmas.List.Edits.{sets, sets-eq}
use Rattle.lists.specs.Parts.{sets_snoc, get_d_sets-after, get_d_sets_before}

module _ {ℓ} {A : Type ℓ} where
  -- one turn: element i of what is due
  pub write_turn : (l m : List A) (a i : ℕ) (v : List A) (d x : A) → m ≡ sets l a (take i v) → i < length v → x ≡ get_or v i d
      → set m (a + i) x ≡ sets l a (take (i + 1) v)
  write_turn l m a i v d x e h q =
      let n : length (take i v) ≡ i = length-take-le i v (le_of_lt h) in
      rw (e, q, add-one, take-suc v i d)
      (sym (sets_snoc l a (take i v) (get_or v i d) ∙ ap (λ (k : ℕ). set (sets l a (take i v)) (a + k) (get_or v i d)) n))

  -- the end: all of it
  pub write_end : (l m : List A) (a i n : ℕ) (v : List A) → m ≡ sets l a (take i v) → length v ≡ n → n ≤ i → m ≡ sets l a v
  write_end l m a i n v e k h = e ∙ ap (λ (w : List A). sets l a w) (take_all i v (omega arith))

  -- elements that are not yet written, and those before the run
  pub unwritten : (l m : List A) (a i : ℕ) (v : List A) (d : A) → m ≡ sets l a (take i v) → get_or m (a + i) d ≡ get_or l (a + i) d
  unwritten l m a i v d e = rw e (get_d_sets-after l a (take i v) (a + i) d (rw length-take (omega arith)))

  pub before-written : (l m : List A) (a i : ℕ) (v : List A) (k : ℕ) (d : A) → m ≡ sets l a (take i v) → k < a → get_or m k d ≡ get_or l k d
  before-written l m a i v k d e h = rw e (get_d_sets_before l a (take i v) k d h)

-- the invariant of a loop that writes: i of the n elements of v stand in l from place a on
pub record Writing {ℓ} {A : Type ℓ} (l : List A) (a n : ℕ) (v m : List A) (i : ℕ) : Type ℓ where
  pub due : length v ≡ n
  pub within : i ≤ n
  pub same : length m ≡ length l
  pub list : m ≡ sets l a (take i v)

module _ {ℓ} {A : Type ℓ} where
  pub writing_none : (l : List A) (a n : ℕ) (v : List A) → length v ≡ n → Writing l a n v l 0
  writing_none l a n v k = record { due = k; within = omega arith; same = refl; list = refl }

  pub writing_next : {l v m : List A} {a n i : ℕ} (d : A) {x : A} → Writing l a n v m i → i < n → x ≡ get_or v i d → Writing l a n v (set m (a + i) x) (i + 1)
  writing_next {l} {v} {m} {a} {n} {i} d {x} w h q =
      record {
        due = w.due;
        within = omega arith;
        same = length-set m (a + i) x ∙ w.same;
        list = write_turn l m a i v d x w.list (let k = w.due in omega arith) q;
      }

  pub writing_all : {l v m : List A} {a n i : ℕ} → Writing l a n v m i → n ≤ i → m ≡ sets l a v
  writing_all {l} {v} {m} {a} {n} {i} w h = write_end l m a i n v w.list w.due h

  -- of a list that is written whole
  pub whole-next : {l v m : List A} {n i : ℕ} (d : A) {x : A} → Writing l 0 n v m i → i < n → x ≡ get_or v i d → Writing l 0 n v (set m i x) (i + 1)
  whole-next {l} {v} {m} {n} {i} d {x} w h q = subst (λ (k : ℕ). Writing l 0 n v (set m k x) (i + 1)) (zero-add i) (writing_next d w h q)

  pub whole-all : {l v m : List A} {n i : ℕ} → Writing l 0 n v m i → length l ≡ n → n ≤ i → m ≡ v
  whole-all {l} {v} {m} {n} {i} w k h =
      let e = w.due in
      writing_all w h ∙ sets-eq v l 0 (omega arith) ∙ rw (drop_of_length-le l {i = 0 + length v} (omega arith)) (append-nil v)
