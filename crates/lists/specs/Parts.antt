-- Laws of `part` (reading a run of elements) and of lib.Seq's `sets` (writing one), and what a lent part that comes back is.
--
-- In order: a part's length and elements, parts of parts, of `◌++◌` and after a store; a run of stores, read element by
-- element, before, in and after it, by `take`, `drop` and `part`; two runs; a part that is written back; lent parts; what stands behind a place; one element and four.
use Rattle.std.specs.Prelude.{◌≡◌, refl, ℕ, zero, suc, ◌+◌, ◌-◌, ◌≤◌, ◌<◌, List, [], ◌∷◌, ◌++◌, map, length, get_or, set, take, drop}
use Rattle.std.proofs.Common.{sym, ap, ap₂, ◌∙◌, not-suc-le-zero, le_of_suc-le-suc, add-zero, add-suc, le_of_eq, arith, append_assoc, length-set, length-drop, length-append, take-append-drop, length-take-le, drop-cons, drop_at, get_or-set_same, get_or-set_other, set-set, drop-set-lt, get_or-take, get_or-drop, take-take, drop-drop, take-add}
use Rattle.std.proofs.Math.Nat.{sub-zero, zero-sub, suc-sub-suc}
use Rattle.std.proofs.lemmas.List.Edits.{sets, sets-eq}
use Rattle.std.proofs.Math.Seq.{slice, take-nil, drop-nil, take-append_seam, drop-append-add, take-set-lt}
use Rattle.std.proofs.lemmas.List.{set_comm, take-set-le, drop-set-add}
use Rattle.lists.specs.Lists.{part, pieces}

-- the place after one more element
next : (i n : ℕ) → i + suc n ≡ suc i + n
next i n = omega arith

module _ {ℓ} {A : Type ℓ} where
  -- ---- a part

  pub length_part : (s c : ℕ) (l : List A) → s + c ≤ length l → length (part s c l) ≡ c
  length_part s c l h = length-take-le c (drop s l) (rw length-drop (omega arith))

  pub get_d_part : (s c : ℕ) (l : List A) (i : ℕ) (d : A) → i < c → get_or (part s c l) i d ≡ get_or l (s + i) d
  get_d_part s c l i d h = get_or-take c (drop s l) i d h ∙ get_or-drop s l i d

  pub drop-take : (m n : ℕ) (l : List A) → drop m (take n l) ≡ take (n - m) (drop m l)
  drop-take zero n l = rw sub-zero
  drop-take (suc m) zero l = rw zero-sub
  drop-take (suc m) (suc n) [] = sym (take-nil (suc n - suc m))
  drop-take (suc m) (suc n) (x ∷ xs) = rw suc-sub-suc (drop-take m n xs)

  -- a part by its two ends
  pub part_slice : (s c : ℕ) (l : List A) → part s c l ≡ slice s (s + c) l
  part_slice s c l = let e : s + c - s ≡ c = omega arith in sym (drop-take s (s + c) l ∙ ap (λ (k : ℕ). take k (drop s l)) e)

  pub part-zero : (s : ℕ) (l : List A) → part s zero l ≡ []
  part-zero s l = refl

  -- one more element in front
  pub part-cons : (s c : ℕ) (l : List A) (d : A) → s < length l → part s (suc c) l ≡ get_or l s d ∷ part (suc s) c l
  part-cons s c l d h = ap (λ (r : List A). take (suc c) r) (drop-cons l s d h)

  -- one element, and four
  pub part-one : (s : ℕ) (l : List A) (d : A) → s + 1 ≤ length l → part s 1 l ≡ get_or l s d ∷ []
  part-one s l d h = part-cons s 0 l d (omega arith) ∙ ap (λ (t : List A). get_or l s d ∷ t) (part-zero (suc s) l)

  pub part-four : (s : ℕ) (l : List A) (d : A) → s + 4 ≤ length l
      → part s 4 l ≡ get_or l s d ∷ get_or l (s + 1) d ∷ get_or l (s + 2) d ∷ get_or l (s + 3) d ∷ []
  part-four s l d h =
      more 3 s (s + 1) (omega arith) (omega arith)
      ∙ ap (λ (t : List A). get_or l s d ∷ t) (more 2 (s + 1) (s + 2) (omega arith) (omega arith)
      ∙ ap (λ (t : List A). get_or l (s + 1) d ∷ t) (more 1 (s + 2) (s + 3) (omega arith) (omega arith)
      ∙ ap (λ (t : List A). get_or l (s + 2) d ∷ t) (part-one (s + 3) l d (omega arith))))
    where
      more : (n i j : ℕ) → i < length l → j ≡ suc i → part i (suc n) l ≡ get_or l i d ∷ part j n l
      more n i j below e = part-cons i n l d below ∙ ap (λ (k : ℕ). get_or l i d ∷ part k n l) (sym e)

  -- a part of a part
  pub part-part : (a m s c : ℕ) (l : List A) → s + c ≤ m → part s c (part a m l) ≡ part (a + s) c l
  part-part a m s c l h =
      ap (λ (r : List A). take c r) (drop-take s m (drop a l))
      ∙ take-take c (m - s) (drop s (drop a l)) (omega arith)
      ∙ ap (λ (r : List A). take c r) (drop-drop s a l)

  -- two parts side by side
  pub part-append-parts : (a m n : ℕ) (l : List A) → part a m l ++ part (a + m) n l ≡ part a (m + n) l
  part-append-parts a m n l = sym (take-add m n (drop a l) ∙ ap (λ (r : List A). part a m l ++ take n r) (drop-drop m a l))

  -- a list, cut around a part
  pub split-part : (s c : ℕ) (l : List A) → take s l ++ part s c l ++ drop (s + c) l ≡ l
  split-part s c l =
      append_assoc (take s l) (part s c l) (drop (s + c) l)
      ∙ ap (λ (r : List A). take s l ++ (part s c l ++ r)) (sym (drop-drop c s l))
      ∙ ap (λ (r : List A). take s l ++ r) (take-append-drop c (drop s l))
      ∙ take-append-drop s l

  pub part-append_right : (s c : ℕ) (xs ys : List A) → part (length xs + s) c (xs ++ ys) ≡ part s c ys
  part-append_right s c xs ys = ap (λ (r : List A). take c r) (drop-append-add xs ys s)

  pub part_middle : (xs ys zs : List A) → part (length xs) (length ys) (xs ++ ys ++ zs) ≡ ys
  part_middle xs ys zs =
      ap (λ (r : List A). part (length xs) (length ys) r) (append_assoc xs ys zs)
      ∙ ap (λ (r : List A). take (length ys) r) (drop_at xs (ys ++ zs) (length xs) refl)
      ∙ take-append_seam ys zs

  -- a store before a part
  pub part-set-before : (s c : ℕ) (l : List A) (i : ℕ) (x : A) → i < s → part s c (set l i x) ≡ part s c l
  part-set-before s c l i x h = ap (λ (r : List A). take c r) (drop-set-lt s l i x h)

  -- ---- a run of stores

  pub sets-cons : (x : A) (l : List A) (i : ℕ) (vs : List A) → sets (x ∷ l) (suc i) vs ≡ x ∷ sets l i vs
  sets-cons x l i [] = refl
  sets-cons x l i (v ∷ vs) = sets-cons x (set l i v) (suc i) vs

  pub sets-append : (l : List A) (i : ℕ) (xs ys : List A) → sets l i (xs ++ ys) ≡ sets (sets l i xs) (i + length xs) ys
  sets-append l i [] ys = rw add-zero
  sets-append l i (x ∷ xs) ys =
      sets-append (set l i x) (suc i) xs ys ∙ ap (λ (k : ℕ). sets (sets (set l i x) (suc i) xs) k ys) (sym (next i (length xs)))

  -- one more element at the end: a turn of a loop that writes
  pub sets_snoc : (l : List A) (i : ℕ) (xs : List A) (y : A) → sets l i (xs ++ (y ∷ [])) ≡ set (sets l i xs) (i + length xs) y
  sets_snoc l i xs y = sets-append l i xs (y ∷ [])

  -- the elements before the run, after it, and in it
  pub get_d_sets_before : (l : List A) (i : ℕ) (vs : List A) (k : ℕ) (d : A) → k < i → get_or (sets l i vs) k d ≡ get_or l k d
  get_d_sets_before l i [] k d h = refl
  get_d_sets_before l i (v ∷ vs) k d h =
      get_d_sets_before (set l i v) (suc i) vs k d (omega arith) ∙ get_or-set_other l i k v d (λ e. omega arith)

  pub get_d_sets-after : (l : List A) (i : ℕ) (vs : List A) (k : ℕ) (d : A) → i + length vs ≤ k → get_or (sets l i vs) k d ≡ get_or l k d
  get_d_sets-after l i [] k d h = refl
  get_d_sets-after l i (v ∷ vs) k d h =
      get_d_sets-after (set l i v) (suc i) vs k d (omega arith) ∙ get_or-set_other l i k v d (λ e. omega arith)

  pub get_d_sets_in : (l : List A) (i : ℕ) (vs : List A) (k : ℕ) (d : A) → k < length vs → i + length vs ≤ length l
      → get_or (sets l i vs) (i + k) d ≡ get_or vs k d
  get_d_sets_in l i [] k d h g = absurd (not-suc-le-zero h)
  get_d_sets_in l i (v ∷ vs) zero d h g =
      ap (λ (n : ℕ). get_or (sets (set l i v) (suc i) vs) n d) (add-zero i)
      ∙ get_d_sets_before (set l i v) (suc i) vs i d (omega arith)
      ∙ get_or-set_same l i v d (omega arith)
  get_d_sets_in l i (v ∷ vs) (suc k) d h g =
      ap (λ (n : ℕ). get_or (sets (set l i v) (suc i) vs) n d) (next i k)
      ∙ get_d_sets_in (set l i v) (suc i) vs k d (le_of_suc-le-suc h) (rw length-set (omega arith))

  -- the front and the rest, outside of the run and around it
  pub take-sets : (n : ℕ) (l : List A) (i : ℕ) (vs : List A) → n ≤ i → take n (sets l i vs) ≡ take n l
  take-sets n l i [] h = refl
  take-sets n l i (v ∷ vs) h = take-sets n (set l i v) (suc i) vs (omega arith) ∙ take-set-le n l i v h

  pub drop-sets : (n : ℕ) (l : List A) (i : ℕ) (vs : List A) → i + length vs ≤ n → drop n (sets l i vs) ≡ drop n l
  drop-sets n l i [] h = refl
  drop-sets n l i (v ∷ vs) h = drop-sets n (set l i v) (suc i) vs (omega arith) ∙ drop-set-lt n l i v (omega arith)

  pub take-sets_in : (n : ℕ) (l : List A) (i : ℕ) (vs : List A) → i + length vs ≤ n → take n (sets l i vs) ≡ sets (take n l) i vs
  take-sets_in n l i [] h = refl
  take-sets_in n l i (v ∷ vs) h =
      take-sets_in n (set l i v) (suc i) vs (omega arith) ∙ ap (λ (r : List A). sets r (suc i) vs) (take-set-lt n l i v (omega arith))

  pub drop-sets-add : (n : ℕ) (l : List A) (i : ℕ) (vs : List A) → drop n (sets l (n + i) vs) ≡ sets (drop n l) i vs
  drop-sets-add n l i [] = refl
  drop-sets-add n l i (v ∷ vs) =
      ap (λ (k : ℕ). drop n (sets (set l (n + i) v) k vs)) (sym (add-suc n i))
      ∙ drop-sets-add n (set l (n + i) v) (suc i) vs
      ∙ ap (λ (r : List A). sets r (suc i) vs) (drop-set-add n l i v)

  -- the part that was written, a part before it, one after it, and one around it
  pub part-sets-same : (l : List A) (i : ℕ) (vs : List A) → i + length vs ≤ length l → part i (length vs) (sets l i vs) ≡ vs
  part-sets-same l i vs h =
      let n : length (take i l) ≡ i = length-take-le i l (omega arith) in
      ap (λ (r : List A). part i (length vs) r) (sets-eq vs l i h)
      ∙ ap (λ (k : ℕ). part k (length vs) (take i l ++ vs ++ drop (i + length vs) l)) (sym n)
      ∙ part_middle (take i l) vs (drop (i + length vs) l)

  pub part-written : (l : List A) (at n : ℕ) (v : List A) → length v ≡ n → at + n ≤ length l → part at n (sets l at v) ≡ v
  part-written l at n v e h = let k : at + length v ≤ length l = omega arith in rw (← e) (part-sets-same l at v k)

  pub part-sets-before : (s c : ℕ) (l : List A) (i : ℕ) (vs : List A) → s + c ≤ i → part s c (sets l i vs) ≡ part s c l
  part-sets-before s c l i vs h =
      part_slice s c (sets l i vs) ∙ ap (λ (r : List A). drop s r) (take-sets (s + c) l i vs h) ∙ sym (part_slice s c l)

  pub part-sets-after : (s c : ℕ) (l : List A) (i : ℕ) (vs : List A) → i + length vs ≤ s → part s c (sets l i vs) ≡ part s c l
  part-sets-after s c l i vs h = ap (λ (r : List A). take c r) (drop-sets s l i vs h)

  -- a part, and what is written directly behind it
  pub part-sets-grown : (s c : ℕ) (l vs : List A) (n : ℕ) → length vs ≡ n → s + c + n ≤ length l → part s (c + n) (sets l (s + c) vs) ≡ part s c l ++ vs
  part-sets-grown s c l vs n e h =
      sym (part-append-parts s c n (sets l (s + c) vs))
      ∙ ap₂ (λ (a b : List A). a ++ b) (part-sets-before s c l (s + c) vs (omega arith))
      (ap (λ (k : ℕ). part (s + c) k (sets l (s + c) vs)) (sym e) ∙ part-sets-same l (s + c) vs (omega arith))

  -- ---- a store and a run, two runs

  pub set-sets-before : (l : List A) (i : ℕ) (x : A) (j : ℕ) (vs : List A) → i < j → set (sets l j vs) i x ≡ sets (set l i x) j vs
  set-sets-before l i x j [] h = refl
  set-sets-before l i x j (v ∷ vs) h =
      set-sets-before (set l j v) i x (suc j) vs (omega arith)
      ∙ ap (λ (r : List A). sets r (suc j) vs) (set_comm l j i v x (λ e. omega arith))

  pub set-sets-after : (l : List A) (i : ℕ) (x : A) (j : ℕ) (vs : List A) → j + length vs ≤ i → set (sets l j vs) i x ≡ sets (set l i x) j vs
  set-sets-after l i x j [] h = refl
  set-sets-after l i x j (v ∷ vs) h =
      set-sets-after (set l j v) i x (suc j) vs (omega arith)
      ∙ ap (λ (r : List A). sets r (suc j) vs) (set_comm l j i v x (λ e. omega arith))

  -- runs that do not meet, the first before the second
  pub sets_comm : (l : List A) (i : ℕ) (xs : List A) (j : ℕ) (ys : List A) → i + length xs ≤ j
      → sets (sets l i xs) j ys ≡ sets (sets l j ys) i xs
  sets_comm l i [] j ys h = refl
  sets_comm l i (x ∷ xs) j ys h =
      sets_comm (set l i x) (suc i) xs j ys (omega arith)
      ∙ ap (λ (r : List A). sets r (suc i) xs) (sym (set-sets-before l i x j ys (omega arith)))

  -- a run over another from the same place, no shorter: the later wins
  pub sets-sets_le : (l : List A) (i : ℕ) (vs ws : List A) → length vs ≤ length ws → sets (sets l i vs) i ws ≡ sets l i ws
  sets-sets_le l i [] ws h = refl
  sets-sets_le l i (v ∷ vs) [] h = absurd (not-suc-le-zero h)
  sets-sets_le l i (v ∷ vs) (w ∷ ws) h =
      ap (λ (r : List A). sets r (suc i) ws)
      (set-sets-before (set l i v) i w (suc i) vs (omega arith) ∙ ap (λ (r : List A). sets r (suc i) vs) (set-set l i v w))
      ∙ sets-sets_le (set l i w) (suc i) vs ws (le_of_suc-le-suc h)

  pub sets-sets-same : (l : List A) (i : ℕ) (vs ws : List A) → length vs ≡ length ws → sets (sets l i vs) i ws ≡ sets l i ws
  sets-sets-same l i vs ws e = sets-sets_le l i vs ws (le_of_eq e)

  -- ---- a part that is written back

  -- writing what stands there changes nothing
  pub sets_self : (l : List A) (i n : ℕ) → sets l i (part i n l) ≡ l
  sets_self [] i n = rw (drop-nil, take-nil)
  sets_self (x ∷ xs) zero zero = refl
  sets_self (x ∷ xs) zero (suc n) = sets-cons x xs zero (take n xs) ∙ ap (λ (r : List A). x ∷ r) (sets_self xs zero n)
  sets_self (x ∷ xs) (suc i) n = sets-cons x xs i (part i n xs) ∙ ap (λ (r : List A). x ∷ r) (sets_self xs i n)

  -- the part of a list m, written into one that is as m outside of the part, gives m
  pub sets-part : (l m : List A) (a n : ℕ) → a + n ≤ length l → a + n ≤ length m → take a l ≡ take a m → drop (a + n) l ≡ drop (a + n) m
      → sets l a (part a n m) ≡ m
  sets-part l m a n hl hm front rest =
      let c : length (part a n m) ≡ n = length_part a n m hm in
      sets-eq (part a n m) l a (rw c hl)
      ∙ ap (λ (k : ℕ). take a l ++ part a n m ++ drop (a + k) l) c
      ∙ ap (λ (r : List A). r ++ part a n m ++ drop (a + n) l) front
      ∙ ap (λ (r : List A). take a m ++ part a n m ++ r) rest
      ∙ split-part a n m

  -- ---- a lent part, as the borrow checker writes it

  -- `&l[a..e]` by its start and length
  pub lent_is : (l : List A) (a e s n : ℕ) → a ≡ s → e ≡ s + n → take (e - a) (drop a l) ≡ part s n l
  lent_is l a e s n p q = let d : e - a ≡ n = omega arith in rw (d, p)

  pub lent-run : (a n : ℕ) (l : List A) → take (a + n - a) (drop a l) ≡ part a n l
  lent-run a n l = lent_is l a (a + n) a n refl refl

  -- an element of a list that is a part
  pub part_element : (a n : ℕ) (l : List A) {xs : List A} (k : ℕ) (d : A) → xs ≡ part a n l → a + n ≤ length l → k < length xs
      → (k < n) × (get_or xs k d ≡ get_or l (a + k) d)
  part_element a n l {xs} k d is h b =
      let size = ap (λ (r : List A). length r) is ∙ length_part a n l h in
      let b' : k < n = omega arith in
      (b', ap (λ (r : List A). get_or r k d) is ∙ get_d_part a n l k d b')

  -- ---- a lent part that came back

  -- `&mut l[a..e]`
  pub lent-part : (l : List A) (a e : ℕ) (ys : List A) → a ≤ e → e ≤ length l → length ys ≡ e - a
      → take a l ++ (ys ++ drop (e - a) (drop a l)) ≡ sets l a ys
  lent-part l a e ys h g n =
      sym (sets-eq ys l a (omega arith)
      ∙ append_assoc (take a l) ys (drop (a + length ys) l)
      ∙ ap (λ (r : List A). take a l ++ (ys ++ r)) (sym (drop-drop (length ys) a l) ∙ ap (λ (k : ℕ). drop k (drop a l)) n))

-- ---- what stands behind a place

module _ {ℓ} {A : Type ℓ} where
  pub drop_more : (n m : ℕ) (a b : List A) → n ≤ m → drop n a ≡ drop n b → drop m a ≡ drop m b
  drop_more n m a b h e =
      let split : n + (m - n) ≡ m = omega arith in
      ap (λ (k : ℕ). drop k a) (sym split) ∙ sym (drop-drop (m - n) n a) ∙ ap (drop (m - n)) e ∙ drop-drop (m - n) n b ∙ ap (λ (k : ℕ). drop k b) split

  pub get_d_behind : (n i : ℕ) (a b : List A) (d : A) → n ≤ i → drop n a ≡ drop n b → get_or a i d ≡ get_or b i d
  get_d_behind n i a b d h e =
      let split : n + (i - n) ≡ i = omega arith in
      ap (λ (k : ℕ). get_or a k d) (sym split) ∙ sym (get_or-drop n a (i - n) d) ∙ ap (λ (t : List A). get_or t (i - n) d) e ∙ get_or-drop n b (i - n) d
      ∙ ap (λ (k : ℕ). get_or b k d) split

  pub part-behind : (n at c : ℕ) (a b : List A) → n ≤ at → drop n a ≡ drop n b → part at c a ≡ part at c b
  part-behind n at c a b h e = ap (take c) (drop_more n at a b h e)

  -- what was lent as the front of a list and came back is within it, and is read as it came back
  pub front-room : (ys rest : List A) (n : ℕ) → length ys ≡ n → n ≤ length (ys ++ rest)
  front-room ys rest n e = omega (arith, length-append ys rest, e)

  pub front_back : (l ys : List A) (n m : ℕ) → length ys ≡ n → m ≡ n → take m (ys ++ drop m l) ≡ ys
  front_back l ys n m e g = ap (λ (k : ℕ). take k (ys ++ drop m l)) (g ∙ sym e) ∙ take-append_seam ys (drop m l)

-- ---- what a function gives for one element, and for four

module _ {A B : Type 0} (f : A → B) (l : List A) (at : ℕ) (d : A) where
  pub one_mapped : (x : B) → at + 1 ≤ length l → x ≡ f (get_or l at d) → x ∷ [] ≡ map f (part at 1 l)
  one_mapped x room e = ap (λ (y : B). y ∷ []) e ∙ ap (map f) (sym (part-one at l d room))

  pub four_mapped : (p q r s : B) → at + 4 ≤ length l → p ≡ f (get_or l at d) → q ≡ f (get_or l (at + 1) d) → r ≡ f (get_or l (at + 2) d) → s ≡ f (get_or l (at + 3) d)
      → p ∷ q ∷ r ∷ s ∷ [] ≡ map f (part at 4 l)
  four_mapped p q r s room a b c e =
      ap₂ (λ (y : B) (t : List B). y ∷ t) a (ap₂ (λ (y : B) (t : List B). y ∷ t) b (ap₂ (λ (y : B) (t : List B). y ∷ t) c (ap (λ (y : B). y ∷ []) e)))
      ∙ ap (map f) (sym (part-four at l d room))

-- as many pieces as lengths
pub length-pieces : {A : Type 0} (lengths : List ℕ) (l : List A) → length (pieces lengths l) ≡ length lengths
unfolding pieces
length-pieces [] l = refl
length-pieces (n ∷ lengths) l = ap suc (length-pieces lengths (drop n l))
