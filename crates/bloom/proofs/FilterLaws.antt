-- Laws of the filter. To insert a hash is to unite with the filter that has the hash's bits alone. So every law below follows
-- from what `union` inherits of `bit_or`, which is associative, commutative and idempotent, and from what `bit_or` does to one bit.
use Rattle.std.specs.Prelude.{Bool, true, false, cond, ◌&&◌, ◌||◌, ◌≡◌, refl, ℕ, zero, suc, ◌+◌, ◌*◌, ◌/◌, ◌%◌, ◌^◌, ◌≤◌, ◌<◌, max, eqb, length, get_or, set, replicate}
use Rattle.std.proofs.Math.Bool.{or-true}
use mathlib.Core.List.{List, [], ◌∷◌, ◌++◌, Memᴰ}
use mathlib.Core.List.Memᴰ
use Rattle.std.proofs.Common.{inl, inr, sym, ap, ap₂, subst, ◌∙◌, mod-lt, add-zero, one-mul, suc-mul, pow-suc, div-one, arith, eqb-true, eq-eqb, ne_eqb, lit<, length-set, pow_pos}
use Rattle.std.proofs.Math.Nat.{mul-mod_left, zero-div, div-eq_of_lt, mul-div-mul_right}
use Rattle.std.proofs.lemmas.Bool.{eqb-false}
use Rattle.std.proofs.Math.Arith.{bin_ind, digits_mod}
use Rattle.std.specs.Int.Bits.{bit_or, or_step, or_self, or_zero_r}
use Rattle.std.proofs.lemmas.Nat.{or_comm, or_block, or_shr, or_lt}
use Rattle.std.proofs.Math.Dec.{eqb-zero-suc, eqb-suc-zero, eqb-suc-suc}
use Rattle.std.proofs.Math.Pow.{pow-lt, split}
use Rattle.bloom.specs.Filter.{first_bit, second_bit, word_bit, set_word_bit, has_bit, set_bit, insert_hash, may_contain, empty_filter, union, insert_all, Words}

-- ---- one word

or_half : (a b : ℕ) → bit_or a b / 2 ≡ bit_or (a / 2) (b / 2)
or_half a b = or_shr a b 1

or_odd : (a b : ℕ) → bit_or a b % 2 ≡ max (a % 2) (b % 2)
or_odd a b = ap (λ (x : ℕ). x % 2) (or_step a b) ∙ digits_mod (bit_or (a / 2) (b / 2)) (omega arith)

pub or_assoc : (a b c : ℕ) → bit_or (bit_or a b) c ≡ bit_or a (bit_or b c)
or_assoc a =
    bin_ind (λ (n : ℕ). (b c : ℕ) → bit_or (bit_or n b) c ≡ bit_or n (bit_or b c)) (λ b c. refl)
    (λ n ih b c.
    or_step (bit_or n b) c
    ∙ ap₂ (λ (x y : ℕ). bit_or x (c / 2) * 2 + max y (c % 2)) (or_half n b) (or_odd n b)
    ∙ ap₂ (λ (x y : ℕ). x * 2 + y) (ih (b / 2) (c / 2)) (max_assoc (n % 2) (b % 2) (c % 2))
    ∙ ap₂ (λ (x y : ℕ). bit_or (n / 2) x * 2 + max (n % 2) y) (sym (or_half b c)) (sym (or_odd b c))
    ∙ sym (or_step n (bit_or b c)))
    a
  where
    max_assoc : (x y z : ℕ) → max (max x y) z ≡ max x (max y z)
    max_assoc x y z = omega arith

-- bit j of `bit_or a b`
pub word_bit_or : (a b j : ℕ) → word_bit (bit_or a b) j ≡ (word_bit a j || word_bit b j)
word_bit_or a b j =
    ap (λ (x : ℕ). eqb (x % 2) 1) (or_shr a b j) ∙ ap (λ (x : ℕ). eqb x 1) (or_odd (a / 2 ^ j) (b / 2 ^ j))
    ∙ tests (a / 2 ^ j % 2) (b / 2 ^ j % 2) (omega arith) (omega arith)
  where
    tests : (x y : ℕ) → x < 2 → y < 2 → eqb (max x y) 1 ≡ (eqb x 1 || eqb y 1)
    tests zero zero p q = refl
    tests zero (suc zero) p q = refl
    tests (suc zero) zero p q = refl
    tests (suc zero) (suc zero) p q = refl
    tests (suc (suc x)) y p q = absurd (omega arith)
    tests zero (suc (suc y)) p q = absurd (omega arith)
    tests (suc zero) (suc (suc y)) p q = absurd (omega arith)

-- setting a bit is `bit_or` with a power of 2
pub set_word_bit-is : (word j : ℕ) → set_word_bit word j ≡ bit_or word (2 ^ j)
unfolding set_word_bit
set_word_bit-is word j = choose (word_bit word j) refl ∙ sym or_power
  where
    odd_or : (q : ℕ) → bit_or q 1 ≡ q / 2 * 2 + 1
    odd_or q = or_step q 1 ∙ ap₂ (λ (x y : ℕ). x * 2 + y) (or_zero_r (q / 2)) (omega arith)

    or_power : bit_or word (2 ^ j) ≡ (word / 2 ^ j / 2 * 2 + 1) * 2 ^ j + word % 2 ^ j
    or_power =
        ap₂ bit_or (sym (split word j)) (sym (add-zero (1 * 2 ^ j) ∙ one-mul (2 ^ j)))
        ∙ or_block j (word / 2 ^ j) 1 (word % 2 ^ j) 0 (mod-lt word (pow_pos j)) (pow_pos j)
        ∙ ap₂ (λ (x y : ℕ). x * 2 ^ j + y) (odd_or (word / 2 ^ j)) (or_zero_r (word % 2 ^ j))

    choose : (b : Bool) → word_bit word j ≡ b → cond b word (word + 2 ^ j) ≡ (word / 2 ^ j / 2 * 2 + 1) * 2 ^ j + word % 2 ^ j
    choose true e =
        let odd = eqb-true (word / 2 ^ j % 2) 1 e in
        let whole : word / 2 ^ j ≡ word / 2 ^ j / 2 * 2 + 1 = omega arith in
        sym (split word j) ∙ ap (λ (q : ℕ). q * 2 ^ j + word % 2 ^ j) whole
    choose false e =
        let even : (word / 2 ^ j % 2 ≡ 1) → ⊥ = eqb-false (word / 2 ^ j % 2) 1 e in
        let next : suc (word / 2 ^ j) ≡ word / 2 ^ j / 2 * 2 + 1 = omega arith in
        let sum : word + 2 ^ j ≡ suc (word / 2 ^ j) * 2 ^ j + word % 2 ^ j = omega (arith, split word j, suc-mul (word / 2 ^ j) (2 ^ j)) in
        sum ∙ ap (λ (q : ℕ). q * 2 ^ j + word % 2 ^ j) next

-- ---- union

pub get_d_union : (f g : List ℕ) (i : ℕ) → get_or (union f g) i 0 ≡ bit_or (get_or f i 0) (get_or g i 0)
unfolding union
get_d_union [] g i = refl
get_d_union (w ∷ f) [] i = sym (or_zero_r (get_or (w ∷ f) i 0))
get_d_union (w ∷ f) (x ∷ g) zero = refl
get_d_union (w ∷ f) (x ∷ g) (suc i) = get_d_union f g i

-- a bit is in the union if it is in one of the two
pub has_bit-union : (f g : List ℕ) (k : ℕ) → has_bit (union f g) k ≡ (has_bit f k || has_bit g k)
unfolding has_bit
has_bit-union f g k = ap (λ (w : ℕ). word_bit w (k % 64)) (get_d_union f g (k / 64)) ∙ word_bit_or (get_or f (k / 64) 0) (get_or g (k / 64) 0) (k % 64)

pub union-nil : (f : List ℕ) → union f [] ≡ f
unfolding union
union-nil [] = refl
union-nil (w ∷ f) = refl

pub union_comm : (f g : List ℕ) → union f g ≡ union g f
unfolding union
union_comm [] g = sym (union-nil g)
union_comm (w ∷ f) [] = refl
union_comm (w ∷ f) (x ∷ g) = ap₂ ◌∷◌ (or_comm w x) (union_comm f g)

pub union_assoc : (f g h : List ℕ) → union (union f g) h ≡ union f (union g h)
unfolding union
union_assoc [] g h = refl
union_assoc (w ∷ f) [] h = refl
union_assoc (w ∷ f) (x ∷ g) [] = refl
union_assoc (w ∷ f) (x ∷ g) (y ∷ h) = ap₂ ◌∷◌ (or_assoc w x y) (union_assoc f g h)

pub union_self : (f : List ℕ) → union f f ≡ f
unfolding union
union_self [] = refl
union_self (w ∷ f) = ap₂ ◌∷◌ (or_self w) (union_self f)

pub union-swap : (f g h : List ℕ) → union (union f g) h ≡ union (union f h) g
union-swap f g h = union_assoc f g h ∙ ap (union f) (union_comm g h) ∙ sym (union_assoc f h g)

zeros : (n : ℕ) (f : List ℕ) → n ≤ length f → union (replicate n 0) f ≡ f
unfolding union
zeros zero f h = refl
zeros (suc n) [] h = absurd (omega arith)
zeros (suc n) (w ∷ f) h = ap (λ (l : List ℕ). w ∷ l) (zeros n f (omega arith))

pub union_empty : (f : List ℕ) → length f ≡ 4 → union empty_filter f ≡ f
union_empty f e = zeros 4 f (omega arith)

pub union_empty_right : (f : List ℕ) → length f ≡ 4 → union f empty_filter ≡ f
union_empty_right f e = union_comm f empty_filter ∙ union_empty f e

pub length_union : (f g : List ℕ) → length (union f g) ≡ max (length f) (length g)
unfolding union
length_union [] g = omega arith
length_union (w ∷ f) [] = omega arith
length_union (w ∷ f) (x ∷ g) = omega (arith, length_union f g)

pub union-four : (f g : List ℕ) → length f ≡ 4 → length g ≡ 4 → length (union f g) ≡ 4
union-four f g p q = omega (arith, length_union f g)

-- ---- the filter that has one bit, or the bits of one hash

word_at : ℕ → ℕ → List ℕ
word_at zero x = x ∷ []
word_at (suc i) x = 0 ∷ word_at i x

-- the or of one word with a number
unfoldable pub or_into : List ℕ → ℕ → ℕ → List ℕ
or_into f i x = set f i (bit_or (get_or f i 0) x)

into_is : (f : List ℕ) (i x : ℕ) → i < length f → or_into f i x ≡ union f (word_at i x)
unfolding union word_at or_into
into_is [] i x h = absurd (omega arith)
into_is (w ∷ f) zero x h = ap (λ (l : List ℕ). bit_or w x ∷ l) (sym (union-nil f))
into_is (w ∷ f) (suc i) x h = ap₂ ◌∷◌ (sym (or_zero_r w)) (into_is f i x (omega arith))

pub set_bit_into : (f : List ℕ) (k : ℕ) → set_bit f k ≡ or_into f (k / 64) (2 ^ (k % 64))
unfolding set_bit or_into
set_bit_into f k = ap (set f (k / 64)) (set_word_bit-is (get_or f (k / 64) 0) (k % 64))

bit_of : ℕ → List ℕ
bit_of k = word_at (k / 64) (2 ^ (k % 64))

-- bit i of 2 ^ j is set where i is j
power_bit : (j i : ℕ) → word_bit (2 ^ j) i ≡ eqb i j
power_bit zero zero = refl
power_bit zero (suc i) = ap (λ (x : ℕ). eqb (x % 2) 1) (div-eq_of_lt (pow-lt {i = 0} {j = suc i} (omega arith))) ∙ sym (eqb-suc-zero i)
power_bit (suc j) zero =
    ap (λ (x : ℕ). eqb (x % 2) 1) (div-one (2 ^ suc j) ∙ pow-suc 2 j) ∙ ap (λ (x : ℕ). eqb x 1) (mul-mod_left (2 ^ j) 2)
    ∙ sym (eqb-zero-suc j)
power_bit (suc j) (suc i) =
    ap₂ (λ (x y : ℕ). eqb (x / y % 2) 1) (pow-suc 2 j) (pow-suc 2 i)
    ∙ ap (λ (x : ℕ). eqb (x % 2) 1) (mul-div-mul_right (2 ^ j) (2 ^ i) (lit< tt)) ∙ power_bit j i ∙ sym (eqb-suc-suc i j)

no_bit : (j : ℕ) → word_bit 0 j ≡ false
no_bit j = ap (λ (x : ℕ). eqb (x % 2) 1) (zero-div (2 ^ j))

word_at_bit : (i j n m : ℕ) → word_bit (get_or (word_at i (2 ^ j)) n 0) m ≡ (eqb n i && eqb m j)
unfolding word_at
word_at_bit zero j zero m = power_bit j m
word_at_bit zero j (suc n) m = no_bit m ∙ ap (λ (b : Bool). b && eqb m j) (sym (eqb-suc-zero n))
word_at_bit (suc i) j zero m = no_bit m ∙ ap (λ (b : Bool). b && eqb m j) (sym (eqb-zero-suc i))
word_at_bit (suc i) j (suc n) m = word_at_bit i j n m ∙ ap (λ (b : Bool). b && eqb m j) (sym (eqb-suc-suc n i))

-- a number is another where quotient and remainder are
same_place : (k m : ℕ) → (eqb (k / 64) (m / 64) && eqb (k % 64) (m % 64)) ≡ eqb k m
same_place k m = go (eqb (k / 64) (m / 64)) (eqb (k % 64) (m % 64)) refl refl
  where
    go : (p q : Bool) → eqb (k / 64) (m / 64) ≡ p → eqb (k % 64) (m % 64) ≡ q → (p && q) ≡ eqb k m
    go true true p q = sym (eq-eqb k m (omega (arith, eqb-true (k / 64) (m / 64) p, eqb-true (k % 64) (m % 64) q)))
    go true false p q = sym (ne_eqb k m (λ e. eqb-false (k % 64) (m % 64) q (ap (λ (x : ℕ). x % 64) e)))
    go false q p r = sym (ne_eqb k m (λ e. eqb-false (k / 64) (m / 64) p (ap (λ (x : ℕ). x / 64) e)))

has_bit-bit_of : (k m : ℕ) → has_bit (bit_of m) k ≡ eqb k m
unfolding has_bit bit_of
has_bit-bit_of k m = word_at_bit (m / 64) (m % 64) (k / 64) (k % 64) ∙ same_place k m

set_bit-is : (f : List ℕ) (k : ℕ) → k / 64 < length f → set_bit f k ≡ union f (bit_of k)
unfolding bit_of
set_bit-is f k h = set_bit_into f k ∙ into_is f (k / 64) (2 ^ (k % 64)) h

-- the bits of one hash, and that inserting it is uniting with them
pub hash_bits : ℕ → List ℕ
hash_bits hash = union (bit_of (first_bit hash)) (bit_of (second_bit hash))

pub length-set_bit : (f : List ℕ) (k : ℕ) → length (set_bit f k) ≡ length f
unfolding set_bit
length-set_bit f k = length-set f (k / 64) (set_word_bit (get_or f (k / 64) 0) (k % 64))

pub length-insert_hash : (f : List ℕ) (hash : ℕ) → length (insert_hash f hash) ≡ length f
unfolding insert_hash
length-insert_hash f hash = length-set_bit (set_bit f (first_bit hash)) (second_bit hash) ∙ length-set_bit f (first_bit hash)

pub insert-is : (f : List ℕ) (hash : ℕ) → length f ≡ 4 → insert_hash f hash ≡ union f (hash_bits hash)
unfolding insert_hash hash_bits
insert-is f hash e =
    set_bit-is (set_bit f (first_bit hash)) (second_bit hash) (omega (arith, length-set_bit f (first_bit hash)))
    ∙ ap (λ (l : List ℕ). union l (bit_of (second_bit hash))) (set_bit-is f (first_bit hash) (omega arith))
    ∙ union_assoc f (bit_of (first_bit hash)) (bit_of (second_bit hash))

-- ---- insertion

pub insert-four : (f : List ℕ) (hash : ℕ) → length f ≡ 4 → length (insert_hash f hash) ≡ 4
insert-four f hash e = length-insert_hash f hash ∙ e

-- Inserting a hash twice is inserting it once.
pub insert-twice : (f : List ℕ) (hash : ℕ) → length f ≡ 4 → insert_hash (insert_hash f hash) hash ≡ insert_hash f hash
insert-twice f hash e =
    insert-is (insert_hash f hash) hash (insert-four f hash e) ∙ ap (λ (l : List ℕ). union l (hash_bits hash)) (insert-is f hash e)
    ∙ union_assoc f (hash_bits hash) (hash_bits hash) ∙ ap (union f) (union_self (hash_bits hash)) ∙ sym (insert-is f hash e)

-- Inserting before the union is inserting after it.
pub insert-union : (f g : List ℕ) (hash : ℕ) → length f ≡ 4 → length g ≡ 4 → insert_hash (union f g) hash ≡ union (insert_hash f hash) g
insert-union f g hash p q =
    insert-is (union f g) hash (union-four f g p q) ∙ union-swap f g (hash_bits hash)
    ∙ ap (λ (l : List ℕ). union l g) (sym (insert-is f hash p))

-- ---- what a filter answers

-- Bits are only added.
pub has_bit-union-left : (f g : List ℕ) (k : ℕ) → has_bit f k ≡ true → has_bit (union f g) k ≡ true
has_bit-union-left f g k h = has_bit-union f g k ∙ ap (λ (b : Bool). b || has_bit g k) h

pub has_bit-union_right : (f g : List ℕ) (k : ℕ) → has_bit g k ≡ true → has_bit (union f g) k ≡ true
has_bit-union_right f g k h = has_bit-union f g k ∙ ap (λ (b : Bool). has_bit f k || b) h ∙ or-true (has_bit f k)

-- A hash sets its two bits and no other.
pub has_bit-inserted : (f : List ℕ) (hash k : ℕ) → length f ≡ 4 → has_bit (insert_hash f hash) k ≡ (has_bit f k || (eqb k (first_bit hash) || eqb k (second_bit hash)))
unfolding hash_bits
has_bit-inserted f hash k e =
    ap (λ (l : List ℕ). has_bit l k) (insert-is f hash e) ∙ has_bit-union f (hash_bits hash) k
    ∙ ap (λ (b : Bool). has_bit f k || b)
    (has_bit-union (bit_of (first_bit hash)) (bit_of (second_bit hash)) k
    ∙ ap₂ ◌||◌ (has_bit-bit_of k (first_bit hash)) (has_bit-bit_of k (second_bit hash)))

pub has_bit-insert : (f : List ℕ) (hash k : ℕ) → length f ≡ 4 → has_bit f k ≡ true → has_bit (insert_hash f hash) k ≡ true
has_bit-insert f hash k e h = ap (λ (l : List ℕ). has_bit l k) (insert-is f hash e) ∙ has_bit-union-left f (hash_bits hash) k h

and_intro : (a b : Bool) → a ≡ true → b ≡ true → (a && b) ≡ true
and_intro a b p q = ap₂ ◌&&◌ p q

and_left : (a b : Bool) → (a && b) ≡ true → a ≡ true
and_left true b h = refl
and_left false b h = h

and_right : (a b : Bool) → (a && b) ≡ true → b ≡ true
and_right true b h = h
and_right false true h = refl
and_right false false h = h

-- A filter with all the bits of another denies nothing that the other admits.
may_contain_mono : (f g : List ℕ) (hash : ℕ) → ((k : ℕ) → has_bit f k ≡ true → has_bit g k ≡ true) → may_contain f hash ≡ true → may_contain g hash ≡ true
unfolding may_contain
may_contain_mono f g hash more h =
    let first = has_bit f (first_bit hash) in
    let second = has_bit f (second_bit hash) in
    and_intro (has_bit g (first_bit hash)) (has_bit g (second_bit hash)) (more (first_bit hash) (and_left first second h)) (more (second_bit hash) (and_right first second h))

pub may_contain-union-left : (f g : List ℕ) (hash : ℕ) → may_contain f hash ≡ true → may_contain (union f g) hash ≡ true
may_contain-union-left f g hash = may_contain_mono f (union f g) hash (has_bit-union-left f g)

pub may_contain-union_right : (f g : List ℕ) (hash : ℕ) → may_contain g hash ≡ true → may_contain (union f g) hash ≡ true
may_contain-union_right f g hash = may_contain_mono g (union f g) hash (has_bit-union_right f g)

pub may_contain-insert : (f : List ℕ) (a hash : ℕ) → length f ≡ 4 → may_contain f hash ≡ true → may_contain (insert_hash f a) hash ≡ true
may_contain-insert f a hash e = may_contain_mono f (insert_hash f a) hash (λ k h. has_bit-insert f a k e h)

own_bit : (k : ℕ) → has_bit (bit_of k) k ≡ true
own_bit k = has_bit-bit_of k k ∙ eq-eqb k k refl

may_contain-hash_bits : (hash : ℕ) → may_contain (hash_bits hash) hash ≡ true
unfolding may_contain hash_bits
may_contain-hash_bits hash =
    let first = bit_of (first_bit hash) in
    let second = bit_of (second_bit hash) in
    and_intro (has_bit (union first second) (first_bit hash)) (has_bit (union first second) (second_bit hash))
    (has_bit-union-left first second (first_bit hash) (own_bit (first_bit hash)))
    (has_bit-union_right first second (second_bit hash) (own_bit (second_bit hash)))

-- What was inserted is never denied.
pub may_contain-inserted : (f : List ℕ) (hash : ℕ) → length f ≡ 4 → may_contain (insert_hash f hash) hash ≡ true
may_contain-inserted f hash e =
    ap (λ (l : List ℕ). may_contain l hash) (insert-is f hash e) ∙ may_contain-union_right f (hash_bits hash) hash (may_contain-hash_bits hash)

-- ---- a list of hashes

pub insert_all-append : (f xs ys : List ℕ) → insert_all f (xs ++ ys) ≡ insert_all (insert_all f xs) ys
unfolding insert_all
insert_all-append f [] ys = refl
insert_all-append f (x ∷ xs) ys = insert_all-append (insert_hash f x) xs ys

pub length-insert_all : (f hashes : List ℕ) → length (insert_all f hashes) ≡ length f
unfolding insert_all
length-insert_all f [] = refl
length-insert_all f (h ∷ hashes) = length-insert_all (insert_hash f h) hashes ∙ length-insert_hash f h

pub insert_all-four : (f hashes : List ℕ) → length f ≡ 4 → length (insert_all f hashes) ≡ 4
insert_all-four f hashes e = length-insert_all f hashes ∙ e

-- Inserting a list before the union is inserting it after.
pub insert_all-union : (f g hashes : List ℕ) → length f ≡ 4 → length g ≡ 4 → insert_all (union f g) hashes ≡ union (insert_all f hashes) g
unfolding insert_all
insert_all-union f g [] p q = refl
insert_all-union f g (h ∷ hashes) p q =
    ap (λ (l : List ℕ). insert_all l hashes) (insert-union f g h p q) ∙ insert_all-union (insert_hash f h) g hashes (insert-four f h p) q

-- The filter of a list is that of the empty filter, united with what it was inserted into.
pub insert_all_from : (f hashes : List ℕ) → length f ≡ 4 → insert_all f hashes ≡ union (insert_all empty_filter hashes) f
insert_all_from f hashes e =
    ap (λ (l : List ℕ). insert_all l hashes) (sym (union_empty f e)) ∙ insert_all-union empty_filter f hashes refl e

-- The filter of two lists together is the union of theirs.
pub insert_all-split : (xs ys : List ℕ) → insert_all empty_filter (xs ++ ys) ≡ union (insert_all empty_filter xs) (insert_all empty_filter ys)
insert_all-split xs ys =
    insert_all-append empty_filter xs ys ∙ insert_all_from (insert_all empty_filter xs) ys (insert_all-four empty_filter xs refl)
    ∙ union_comm (insert_all empty_filter ys) (insert_all empty_filter xs)

-- What the filter admitted it still admits, and it admits each hash of the list.
pub may_contain-insert_all : (f hashes : List ℕ) (hash : ℕ) → length f ≡ 4 → may_contain f hash ≡ true → may_contain (insert_all f hashes) hash ≡ true
unfolding insert_all
may_contain-insert_all f [] hash e h = h
may_contain-insert_all f (x ∷ hashes) hash e h = may_contain-insert_all (insert_hash f x) hashes hash (insert-four f x e) (may_contain-insert f x hash e h)

pub may_contain-all : {hashes : List ℕ} {hash : ℕ} → Memᴰ hash hashes → (f : List ℕ) → length f ≡ 4 → may_contain (insert_all f hashes) hash ≡ true
unfolding insert_all
may_contain-all {hashes = []} m f e = absurd (Memᴰ.not-nil m)
may_contain-all {hashes = x ∷ xs} {hash = hash} m f e = elim (Memᴰ.cases_cons m) [
  | inl p ↦ may_contain-insert_all (insert_hash f x) xs hash (insert-four f x e)
      (subst (λ (y : ℕ). may_contain (insert_hash f y) hash ≡ true) p (may_contain-inserted f hash e))
  | inr k ↦ may_contain-all k (insert_hash f x) (insert-four f x e)
]

-- ---- words of 64 bits stay words of 64 bits

pub empty_words : Words empty_filter
empty_words zero = lit< tt
empty_words (suc zero) = lit< tt
empty_words (suc (suc zero)) = lit< tt
empty_words (suc (suc (suc zero))) = lit< tt
empty_words (suc (suc (suc (suc i)))) = lit< tt

pub union-words : (f g : List ℕ) → Words f → Words g → Words (union f g)
union-words f g p q i = rw get_d_union (or_lt 64 (get_or f i 0) (get_or g i 0) (p i) (q i))

word_at-words : (i x : ℕ) → x < 2 ^ 64 → Words (word_at i x)
unfolding word_at
word_at-words zero x h zero = h
word_at-words zero x h (suc j) = lit< tt
word_at-words (suc i) x h zero = lit< tt
word_at-words (suc i) x h (suc j) = word_at-words i x h j

bit_of-words : (k : ℕ) → Words (bit_of k)
unfolding bit_of
bit_of-words k = word_at-words (k / 64) (2 ^ (k % 64)) (pow-lt (mod-lt k (lit< tt)))

pub hash_bits-words : (hash : ℕ) → Words (hash_bits hash)
unfolding hash_bits
hash_bits-words hash = union-words (bit_of (first_bit hash)) (bit_of (second_bit hash)) (bit_of-words (first_bit hash)) (bit_of-words (second_bit hash))

pub insert-words : (f : List ℕ) (hash : ℕ) → length f ≡ 4 → Words f → Words (insert_hash f hash)
insert-words f hash e w = subst (λ (l : List ℕ). Words l) (sym (insert-is f hash e)) (union-words f (hash_bits hash) w (hash_bits-words hash))

pub insert_all-words : (f hashes : List ℕ) → length f ≡ 4 → Words f → Words (insert_all f hashes)
unfolding insert_all
insert_all-words f [] e w = w
insert_all-words f (h ∷ hashes) e w = insert_all-words (insert_hash f h) hashes (insert-four f h e) (insert-words f h e w)
