-- A pattern is NaN's just if it is above infinity's, the sign bit aside (`nan_bits_above`).
use Prim.Native.Nat.{ℕ, ◌%◌, ◌^◌, ◌≤◌, ◌<◌}
use mathlib.Core.Path.{◌≡◌, refl, sym, ◌∙◌}
use mathlib.Core.Bool.{not}
use native.Mathlib.Omega.{arith}
use borrow.Author.Tests.{lt-ltb, le-ltb}
use lib.Dec.{T}
use lib.Ieee.{nan, binary32, nan_bits, of_bits}
use lib.Ieee.Bits.{nan_bits_is, nan_bits_above}
use Rattle.float_bits.specs.NanLaws.{nan_of_is_nan}
use Rattle.float_bits.proofs.from_bits.Goals as goal

above : (n : ℕ) → 0x7F800000 < n % 2 ^ 31 → nan ≡ of_bits binary32 n
above n h = sym (nan_of_is_nan (of_bits binary32 n) (sym (nan_bits_is binary32 n) ∙ nan_bits_above binary32 n ∙ lt-ltb _ _ h))

not-above : (n : ℕ) → n % 2 ^ 31 ≤ 0x7F800000 → T (not (nan_bits binary32 n))
not-above n h = rw (nan_bits_above binary32 n, le-ltb 0x7F800000 (n % 2 ^ 31) h) tt

pub returns-then-bits-gt2139095040 : goal.returns-then-bits-gt2139095040
returns-then-bits-gt2139095040 c = c.quiet_nan.ensures ∙ above _ (omega arith)

pub float_from_bits-result : goal.float_from_bits-result
float_from_bits-result c = not-above _ (omega arith)

pub returns : goal.returns
returns c = refl
