-- A product of two numbers within the limits fits a machine word: it is at most the product of the limits.
use Prim.Native.Nat.{ℕ, ◌+◌, ◌*◌, ◌≤◌, ◌^◌}
use native.Mathlib.Nat.{mul-le-mul}
use native.Mathlib.Omega.{arith}
use mir.Syntax.{w64}
use mir.Val.{Fits}

pub product_fits : (a b : ℕ) → a ≤ 128 → b ≤ 2 ^ 17 + 2 ^ 17 → Fits w64 (a * b)
product_fits a b h g = let bound : a * b ≤ 128 * (2 ^ 17 + 2 ^ 17) = mul-le-mul h g in record { fits = omega arith }
