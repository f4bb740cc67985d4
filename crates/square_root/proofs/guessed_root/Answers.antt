-- `guessed_root` meets its contract. The factor of a product by the digits below the leading one is at most its constant, so the product is at most
-- 2 ^ 23 times that; how good the guess is does not matter.
use Prim.Native.Nat.{ℕ, ◌-◌, ◌*◌, ◌/◌, ◌≤◌}
use native.Mathlib.Nat.{mul-le-mul_right}
use native.Mathlib.Omega.{arith}
use Rattle.square_root.proofs.guessed_root.Goals as goal

abbrev below : ℕ → ℕ
below m = m - 0x800000

abbrev cubic : ℕ → ℕ
cubic m = 0x1B3703 - 0x61B11 * below m / 0x800000

abbrev square : ℕ → ℕ
square m = 0x7F2341 - cubic m * below m / 0x800000

cubic-product : (m : ℕ) → cubic m * below m ≤ 0x1B3703 * below m
cubic-product m = mul-le-mul_right (below m) (let t : cubic m ≤ 0x1B3703 = omega arith in t)

square-product : (m : ℕ) → square m * below m ≤ 0x7F2341 * below m
square-product m = mul-le-mul_right (below m) (let t : square m ≤ 0x7F2341 = omega arith in t)

pub returns : goal.returns
returns c = (omega arith, omega (arith, c.requires.1, square-product c.args.m))
