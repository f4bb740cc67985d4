-- IEEE 754's square root of a binary32 value, rounded to nearest, ties to even (document 01, 'Root and length'), stated by whole-number squares.
use Rattle.std.specs.Prelude.{ℕ, zero, suc, ◌+◌, ◌-◌, ◌*◌, ◌/◌, ◌%◌, ◌^◌, ◌<◌, ◌≤◌, true, false, cond, ◌≡◌, ℤ, T, ltb, Float}
use Rattle.std.specs.Float.{nan, inf, fin, binary32}
use Rattle.std.specs.Float.Ieee.{up, down, fits, to_bits}

-- The positive value with the bit pattern b, in units of the smallest positive value, 2 ^ -149: below 2 ^ 23 a pattern is subnormal and counts
-- the units itself; from there on its 23 low bits, after a leading one, are moved up by its exponent field less one.
unfoldable pub magnitude : ℕ → ℕ
magnitude b = cond (ltb b (2 ^ 23)) b ((2 ^ 23 + b % 2 ^ 23) * 2 ^ (b / 2 ^ 23 - 1))

-- The square of the halfway point between the values with the patterns b and b + 1, in units of 2 ^ -300: the point itself is in units of 2 ^ -150.
unfoldable pub halfway_square : ℕ → ℕ
unfolding magnitude
halfway_square b = (magnitude b + magnitude (suc b)) * (magnitude b + magnitude (suc b))

-- 'the input lies between the squares of the halfway points to the neighbours of the root': b is the root's pattern, q the input in units of 2 ^ -300.
-- The root has a neighbour on either side: it is above zero, and its upper neighbour is below infinity, whose pattern is 7F800000.
-- Where the input is the square of a halfway point, the even pattern is the root: ties to even.
pub record Nearest (q b : ℕ) : Type 0 where
  pub positive : 0 < b
  pub finite : suc b < 0x7F800000
  pub above : halfway_square (b - 1) ≤ q
  pub below : q ≤ halfway_square b
  pub tie_above : halfway_square (b - 1) ≡ q → b % 2 ≡ 0
  pub tie_below : q ≡ halfway_square b → b % 2 ≡ 0

-- The magnitude m * 2 ^ e of a finite value in units of 2 ^ -300, of which every finite binary32 value is a multiple.
unfoldable pub fine_units : ℕ → ℤ → ℕ
fine_units m e = m * up e * 2 ^ 300 / down e

-- r is the root of x. 'Zero keeps its sign, infinity stays, NaN or below zero gives bits 7FC00000' (the one `nan`, whose bits `to_bits` gives so).
unfoldable pub Root : Float → Float → Type 0
Root nan r = r ≡ nan
Root (inf false) r = r ≡ inf false
Root (inf true) r = r ≡ nan
Root (fin s zero e) r = r ≡ fin s zero e
Root (fin false (suc m) e) r = T (fits binary32 r) × Nearest (fine_units (suc m) e) (to_bits binary32 r)
Root (fin true (suc m) e) r = r ≡ nan
