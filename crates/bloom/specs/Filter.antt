-- The filter: 256 bits in four words of 64. 01, "Filter". Bit 0 is the lowest bit of the first word.
use Rattle.std.specs.Prelude.{Bool, cond, ◌&&◌, List, [], ◌∷◌, ℕ, ◌+◌, ◌*◌, ◌/◌, ◌%◌, ◌^◌, ◌<◌, eqb, get_or, set}
use Rattle.std.specs.Int.Bits.{bit_or}

-- "h mod 256"
abbrev pub first_bit : ℕ → ℕ
first_bit hash = hash % 256

-- "((h / 2^32) times 9e3779b9) mod 256, the quotient rounded down"
abbrev pub second_bit : ℕ → ℕ
second_bit hash = (hash / 2 ^ 32 * 0x9e3779b9) % 256

-- Bit j of a word.
abbrev pub word_bit : ℕ → ℕ → Bool
word_bit word j = eqb (word / 2 ^ j % 2) 1

-- A word with bit j set: 2 ^ j is added where the bit is clear. This is `bit_or word (2 ^ j)`, in a form that computes (FilterLaws).
unfoldable pub set_word_bit : ℕ → ℕ → ℕ
set_word_bit word j = cond (word_bit word j) word (word + 2 ^ j)

-- Bit k is bit k % 64 of word k / 64.
unfoldable pub has_bit : List ℕ → ℕ → Bool
has_bit filter k = word_bit (get_or filter (k / 64) 0) (k % 64)

-- A filter with bit k set.
unfoldable pub set_bit : List ℕ → ℕ → List ℕ
unfolding set_word_bit
set_bit filter k = set filter (k / 64) (set_word_bit (get_or filter (k / 64) 0) (k % 64))

-- "a hash h sets these, which may be one"
unfoldable pub insert_hash : List ℕ → ℕ → List ℕ
unfolding set_bit
insert_hash filter hash = set_bit (set_bit filter (first_bit hash)) (second_bit hash)

-- A filter denies a hash unless both of its bits are set.
unfoldable pub may_contain : List ℕ → ℕ → Bool
unfolding has_bit
may_contain filter hash = has_bit filter (first_bit hash) && has_bit filter (second_bit hash)

-- No bit is set.
abbrev pub empty_filter : List ℕ
empty_filter = 0 ∷ 0 ∷ 0 ∷ 0 ∷ []

-- 02, K6: "Let pooling be the or of two filters". The bits of both, word by word; a missing word counts as 0.
unfoldable pub union : List ℕ → List ℕ → List ℕ
union [] g = g
union (w ∷ f) [] = w ∷ f
union (w ∷ f) (x ∷ g) = bit_or w x ∷ union f g

-- The hashes of a list, inserted from left to right.
unfoldable pub insert_all : List ℕ → List ℕ → List ℕ
unfolding insert_hash
insert_all filter [] = filter
insert_all filter (hash ∷ hashes) = insert_all (insert_hash filter hash) hashes

-- The pool of a filter and those of a list, from left to right.
unfoldable pub union_all : List ℕ → List (List ℕ) → List ℕ
unfolding union
union_all filter [] = filter
union_all filter (other ∷ others) = union_all (union filter other) others

-- Every word has 64 bits.
abbrev pub Words : List ℕ → Type 0
Words filter = (i : ℕ) → get_or filter i 0 < 2 ^ 64
