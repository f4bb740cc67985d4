-- Trial values: 01's printed lines, and numbers at the ends of their ranges.
use Rattle.std.specs.Prelude.{[], ◌∷◌, ◌≡◌, refl, true, false}
use Rattle.std.specs.Float.{binary32, nan}
use Rattle.std.specs.Float.Ieee.{of_bits, to_bits}
use Rattle.lists.specs.Lists.{joined, count_from}
use Rattle.text.specs.Digits.{digit_char, last_digits, tens, digit_places, decimal_of, hex_of}
use Rattle.text.specs.Lines.{codes, closing_word, refused_word, hit_line, number_end, closing_line, refused_line, hit_line_at, hit_lines}

pub lines : (hit_line 7 0 ≡ codes "7 00000000\n") × (hit_line 9 0x3ecccccc ≡ codes "9 3ecccccc\n") × (closing_line true 5 ≡ codes "whole 5\n")
    × (closing_line false 0 ≡ codes "cut 0\n") × (refused_line 16 ≡ codes "refused 16\n")
unfolding codes closing_word refused_word hit_line number_end closing_line refused_line decimal_of hex_of digit_places tens last_digits digit_char
lines = (refl, refl, refl, refl, refl)

pub hits : hit_lines (7 ∷ 9 ∷ 1 ∷ []) (of_bits binary32 0 ∷ nan ∷ []) 2 ≡ codes "7 00000000\n9 7fc00000\n"
unfolding codes hit_line hit_line_at hit_lines joined count_from decimal_of hex_of digit_places tens last_digits digit_char to_bits of_bits
hits = refl

pub ends : (decimal_of 0 ≡ codes "0") × (decimal_of 10 ≡ codes "10") × (decimal_of 4294967295 ≡ codes "4294967295")
    × (decimal_of 18446744073709551615 ≡ codes "18446744073709551615") × (hex_of 0xffffffff ≡ codes "ffffffff") × (hex_of 10 ≡ codes "0000000a")
unfolding codes decimal_of hex_of digit_places tens last_digits digit_char
ends = (refl, refl, refl, refl, refl, refl)
