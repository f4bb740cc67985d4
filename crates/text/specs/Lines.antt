-- The printed lines. 01, "The echo file and its printer": "prints per hit the document id in decimal, a space, the distance's bits in eight
-- lowercase hexadecimal digits; then `whole` or `cut` and the opened count; or `refused` and the number". A line feed ends each line.
--
-- `HitLine`, `ClosingLine` and `RefusedLine` are the definitions, over digits by value. `hitLine`, `closingLine` and `refusedLine` compute, and
-- are proved to be the only texts that meet them (LinesLaws).
use Rattle.std.specs.Prelude.{ℕ, ◌+◌, ◌≤◌, ◌≡◌, Bool, cond, List, [], ◌∷◌, ◌++◌, length, get_or, take, Float}
use Prim.Native.Char.{code}
use Prim.Native.String.{String}
use Prim.Native.String as string
use Rattle.std.proofs.lemmas.List.Edits.{sets}
use Rattle.std.specs.Float.{binary32, nan}
use Rattle.std.specs.Float.Ieee.{to_bits}
use Rattle.lists.specs.Lists.{joined, count_from}
use Rattle.text.specs.Digits.{Decimal, Hex8, decimal_of, hex_of}

-- The codes of a text's characters.
unfoldable pub codes : String → List ℕ
codes string.[] = []
codes (string.◌∷◌ c s) = code c ∷ codes s

-- The words before the numbers.
unfoldable pub closing_word : Bool → List ℕ
closing_word whole = cond whole (codes "whole ") (codes "cut ")

unfoldable pub refused_word : List ℕ
refused_word = codes "refused "

-- "per hit the document id in decimal, a space, the distance's bits in eight lowercase hexadecimal digits"
pub record HitLine (id bits : ℕ) (line : List ℕ) : Type 0 where
  pub id_text : List ℕ
  pub bits_text : List ℕ
  pub decimal : Decimal id id_text
  pub hex : Hex8 bits bits_text
  pub parts : line ≡ id_text ++ codes " " ++ bits_text ++ codes "\n"

-- "then `whole` or `cut` and the opened count"
pub record ClosingLine (whole : Bool) (opened : ℕ) (line : List ℕ) : Type 0 where
  pub opened_text : List ℕ
  pub decimal : Decimal opened opened_text
  pub parts : line ≡ closing_word whole ++ (opened_text ++ codes "\n")

-- "or `refused` and the number"
pub record RefusedLine (number : ℕ) (line : List ℕ) : Type 0 where
  pub number_text : List ℕ
  pub decimal : Decimal number number_text
  pub parts : line ≡ refused_word ++ (number_text ++ codes "\n")

-- ---- The same, computed.

unfoldable pub hit_line : ℕ → ℕ → List ℕ
hit_line id bits = decimal_of id ++ codes " " ++ hex_of bits ++ codes "\n"

-- A number that ends a line.
unfoldable pub number_end : ℕ → List ℕ
number_end n = decimal_of n ++ codes "\n"

unfoldable pub closing_line : Bool → ℕ → List ℕ
closing_line whole opened = closing_word whole ++ number_end opened

unfoldable pub refused_line : ℕ → List ℕ
refused_line number = refused_word ++ number_end number

-- The lines of the hits in the first places of two lists.
unfoldable pub hit_line_at : List ℕ → List Float → ℕ → List ℕ
hit_line_at ids distances i = hit_line (get_or ids i 0) (to_bits binary32 (get_or distances i nan))

unfoldable pub hit_lines : List ℕ → List Float → ℕ → List ℕ
hit_lines ids distances count = joined (hit_line_at ids distances) (count_from 0 count)

-- ---- What a writer leaves: the text from a place on in a list that is otherwise as it was, and the place after the text. The last two parts
-- follow where there is room; they are stated so that `&out[..place]` needs no proof.
pub record Written (before : List ℕ) (at : ℕ) (text after : List ℕ) (place : ℕ) : Type 0 where
  pub list : after ≡ sets before at text
  pub end : place ≡ at + length text
  pub within : place ≤ length after
  pub front : place ≡ length (take place after)
