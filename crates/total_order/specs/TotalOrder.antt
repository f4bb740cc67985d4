-- IEEE 754's total_order on what an f32 holds here: one NaN, positive, so it is last; -0.0 before +0.0 (document 01, 'Total order as in IEEE 754').
use Rattle.std.specs.Prelude.{ℕ, suc, ◌+◌, ◌-◌, ◌^◌, Bool, true, false, not, ◌&&◌, ◌||◌, cond, leb, Float}
use Rattle.std.specs.Float.{nan, inf, fin, binary32}
use Rattle.std.specs.Float.Ieee.{lt, eq, to_bits, of_bits}

-- total_order(x, y): x comes before y or is y. 'If x < y, true; if x > y, false; if x = y, -0 comes before +0; the positive NaN comes after every number.'
unfoldable pub total_order : Float → Float → Bool
unfolding lt eq
total_order x nan = true
total_order nan (inf t) = false
total_order nan (fin t n d) = false
total_order (inf s) (inf t) = lt (inf s) (inf t) || eq (inf s) (inf t)
total_order (inf s) (fin t n d) = lt (inf s) (fin t n d)
total_order (fin s m e) (inf t) = lt (fin s m e) (inf t)
total_order (fin s m e) (fin t n d) = lt (fin s m e) (fin t n d) || (eq (fin s m e) (fin t n d) && (s || not t))

-- The key of a value: its pattern as a u32 that grows in total order. A value with the sign bit set counts down from the middle.
unfoldable pub key_of : Float → ℕ
unfolding to_bits
key_of x = let b = to_bits binary32 x in cond (leb (2 ^ 31) b) (2 ^ 32 - suc b) (b + 2 ^ 31)

-- the value with a key
unfoldable pub of_key : ℕ → Float
unfolding of_bits
of_key k = of_bits binary32 (cond (leb (2 ^ 31) k) (k - 2 ^ 31) (2 ^ 32 - suc k))
