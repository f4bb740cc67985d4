-- Numbers as text, by value. 01, "The echo file and its printer": "the document id in decimal", "the distance's bits in eight lowercase
-- hexadecimal digits". A text is a list of bytes.
--
-- `Decimal` and `Hex8` are the definitions. `decimalOf` and `hexOf` compute, and are proved to be the only texts that meet them (DigitsLaws).
use Rattle.std.specs.Prelude.{ℕ, zero, suc, ◌+◌, ◌-◌, ◌*◌, ◌/◌, ◌%◌, ◌^◌, ◌<◌, ◌≡◌, cond, ◌&&◌, List, [], ◌∷◌, ◌++◌, length, get_or, leb, ltb}

-- The digit that a character is: `0` to `9` have the codes 48 to 57, `a` to `f` 97 to 102. Any other counts as 16, a digit of no base here.
unfoldable pub digit_of : ℕ → ℕ
digit_of c = cond (leb 48 c && ltb c 58) (c - 48) (cond (leb 97 c && ltb c 103) (c - 87) 16)

-- Every character is a digit of the base.
unfoldable pub AllDigits : ℕ → List ℕ → Type 0
AllDigits base [] = Unit
AllDigits base (c ∷ cs) = (digit_of c < base) × AllDigits base cs

-- The value of a text in a base: each digit counts its place, the last one 1.
unfoldable pub digits_value : ℕ → List ℕ → ℕ
digits_value base [] = 0
digits_value base (c ∷ cs) = digit_of c * base ^ length cs + digits_value base cs

-- "in decimal": at least one digit, and no leading zero.
pub record Decimal (n : ℕ) (text : List ℕ) : Type 0 where
  pub digits : AllDigits 10 text
  pub number : digits_value 10 text ≡ n
  pub some : 0 < length text
  pub lead : 1 < length text → digit_of (get_or text 0 0) ≡ 0 → ⊥

-- "eight lowercase hexadecimal digits".
pub record Hex8 (n : ℕ) (text : List ℕ) : Type 0 where
  pub digits : AllDigits 16 text
  pub number : digits_value 16 text ≡ n
  pub eight : length text ≡ 8

-- ---- The same, computed.

-- The character of a digit below 16.
unfoldable pub digit_char : ℕ → ℕ
digit_char d = cond (ltb d 10) (48 + d) (87 + d)

-- The last k digits of n in a base.
unfoldable pub last_digits : ℕ → ℕ → ℕ → List ℕ
last_digits base zero n = []
last_digits base (suc k) n = last_digits base k (n / base) ++ (digit_char (n % base) ∷ [])

-- How many times n can be divided by ten until it is 0, at most `steps`.
unfoldable pub tens : ℕ → ℕ → ℕ
tens zero n = 0
tens (suc steps) zero = 0
tens (suc steps) (suc n) = suc (tens steps (suc n / 10))

-- How many decimal digits n has. As many steps as n are enough.
unfoldable pub digit_places : ℕ → ℕ
digit_places n = suc (tens n (n / 10))

unfoldable pub decimal_of : ℕ → List ℕ
decimal_of n = last_digits 10 (digit_places n) n

unfoldable pub hex_of : ℕ → List ℕ
hex_of n = last_digits 16 8 n
