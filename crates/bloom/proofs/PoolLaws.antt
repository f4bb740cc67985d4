-- Inserting distributes over pooling and may be done in any order, whatever the lengths of the filters. Setting a bit is `bit_or` of one word with a power
-- of 2: it distributes over `union` word by word, and two such writes commute.
use mathlib.Core.List.{List, [], ◌∷◌, map, foldl, Permᴰ}
use Rattle.std.specs.Prelude.{◌≡◌, refl, ℕ, zero, suc, ◌/◌, ◌%◌, ◌^◌, get_or}
use Rattle.std.proofs.Common.{sym, ap, ap₂, ◌∙◌}
use Rattle.std.specs.Int.Bits.{bit_or, or_self}
use Rattle.std.proofs.lemmas.Nat.{or_comm}
use Rattle.bloom.specs.Filter.{first_bit, second_bit, set_bit, insert_hash, empty_filter, union, insert_all, union_all}
use Rattle.bloom.proofs.FilterLaws.{or_assoc, get_d_union, or_into, set_bit_into}

-- ---- over the pool

or_both : (a b x : ℕ) → bit_or (bit_or a b) x ≡ bit_or (bit_or a x) (bit_or b x)
or_both a b x =
    or_assoc a b x
    ∙ ap (bit_or a) (sym (ap (bit_or x) (or_comm b x) ∙ sym (or_assoc x x b) ∙ ap (λ (y : ℕ). bit_or y b) (or_self x) ∙ or_comm x b))
    ∙ sym (or_assoc a x (bit_or b x))

into_union : (f g : List ℕ) (i x : ℕ) → or_into (union f g) i x ≡ union (or_into f i x) (or_into g i x)
unfolding union or_into
into_union [] g i x = refl
into_union (w ∷ f) [] zero x = refl
into_union (w ∷ f) [] (suc i) x = refl
into_union (w ∷ f) (v ∷ g) zero x = ap (λ (y : ℕ). y ∷ union f g) (or_both w v x)
into_union (w ∷ f) (v ∷ g) (suc i) x = ap (λ (l : List ℕ). bit_or w v ∷ l) (into_union f g i x)

set_bit-union : (f g : List ℕ) (k : ℕ) → set_bit (union f g) k ≡ union (set_bit f k) (set_bit g k)
set_bit-union f g k =
    set_bit_into (union f g) k ∙ into_union f g (k / 64) (2 ^ (k % 64)) ∙ sym (ap₂ union (set_bit_into f k) (set_bit_into g k))

pub insert_pool : (f g : List ℕ) (hash : ℕ) → insert_hash (union f g) hash ≡ union (insert_hash f hash) (insert_hash g hash)
unfolding insert_hash
insert_pool f g hash =
    ap (λ (l : List ℕ). set_bit l (second_bit hash)) (set_bit-union f g (first_bit hash))
    ∙ set_bit-union (set_bit f (first_bit hash)) (set_bit g (first_bit hash)) (second_bit hash)

-- ---- in any order

into_comm : (f : List ℕ) (i x j y : ℕ) → or_into (or_into f i x) j y ≡ or_into (or_into f j y) i x
unfolding or_into
into_comm [] i x j y = refl
into_comm (w ∷ f) zero x zero y = ap (λ (v : ℕ). v ∷ f) (or_assoc w x y ∙ ap (bit_or w) (or_comm x y) ∙ sym (or_assoc w y x))
into_comm (w ∷ f) zero x (suc j) y = refl
into_comm (w ∷ f) (suc i) x zero y = refl
into_comm (w ∷ f) (suc i) x (suc j) y = ap (λ (l : List ℕ). w ∷ l) (into_comm f i x j y)

set_bit_comm : (f : List ℕ) (a b : ℕ) → set_bit (set_bit f a) b ≡ set_bit (set_bit f b) a
set_bit_comm f a b =
    set_bit_into (set_bit f a) b ∙ ap (λ (l : List ℕ). or_into l (b / 64) (2 ^ (b % 64))) (set_bit_into f a)
    ∙ into_comm f (a / 64) (2 ^ (a % 64)) (b / 64) (2 ^ (b % 64))
    ∙ sym (set_bit_into (set_bit f b) a ∙ ap (λ (l : List ℕ). or_into l (a / 64) (2 ^ (a % 64))) (set_bit_into f b))

set_bit-insert : (f : List ℕ) (hash k : ℕ) → set_bit (insert_hash f hash) k ≡ insert_hash (set_bit f k) hash
unfolding insert_hash
set_bit-insert f hash k =
    set_bit_comm (set_bit f (first_bit hash)) (second_bit hash) k
    ∙ ap (λ (l : List ℕ). set_bit l (second_bit hash)) (set_bit_comm f (first_bit hash) k)

insert_hash_comm : (f : List ℕ) (a b : ℕ) → insert_hash (insert_hash f a) b ≡ insert_hash (insert_hash f b) a
unfolding insert_hash
insert_hash_comm f a b =
    ap (λ (l : List ℕ). set_bit l (second_bit b)) (set_bit-insert f a (first_bit b)) ∙ set_bit-insert (set_bit f (first_bit b)) a (second_bit b)

pub insert_all_perm : {xs ys : List ℕ} → Permᴰ xs ys → (f : List ℕ) → insert_all f xs ≡ insert_all f ys
unfolding insert_all
insert_all_perm Permᴰ.nil f = refl
insert_all_perm (Permᴰ.cons {a} {b} {l₁} {l₂} p d) f =
    insert_all_perm d (insert_hash f a) ∙ ap (λ (x : ℕ). insert_all (insert_hash f x) l₂) p
insert_all_perm (Permᴰ.swap {a} {b} {a'} {b'} {l} p q) f =
    ap (λ (g : List ℕ). insert_all g l) (insert_hash_comm f a b ∙ ap₂ (λ (x y : ℕ). insert_hash (insert_hash f x) y) q p)
insert_all_perm (Permᴰ.trans d₁ d₂) f = insert_all_perm d₁ f ∙ insert_all_perm d₂ f

-- ---- the pool of a list, word by word

pub get_d_union_all : (f : List ℕ) (others : List (List ℕ)) (w : ℕ) → get_or (union_all f others) w 0 ≡ foldl bit_or (get_or f w 0) (map (λ other. get_or other w 0) others)
unfolding union_all
get_d_union_all f [] w = refl
get_d_union_all f (other ∷ others) w =
    get_d_union_all (union f other) others w ∙ ap (λ (x : ℕ). foldl bit_or x (map (λ other. get_or other w 0) others)) (get_d_union f other w)

-- the empty filter has no word but 0
pub no_word : (w : ℕ) → get_or empty_filter w 0 ≡ 0
no_word zero = refl
no_word (suc zero) = refl
no_word (suc (suc zero)) = refl
no_word (suc (suc (suc zero))) = refl
no_word (suc (suc (suc (suc w)))) = refl
