-- `key_of` by cases of the sign bit of the pattern.
use Prim.Native.Nat.{ℕ, ◌+◌, ◌-◌, ◌^◌, ◌≤◌, ◌<◌}
use mathlib.Core.Path.{◌≡◌}
use native.Mathlib.Omega.{arith}
use borrow.Author.Tests.{le-leb, lt-leb}
use lib.Ieee.{Float, binary32, to_bits}
use Rattle.total_order.specs.TotalOrder.{key_of}
use Rattle.total_order.proofs.key.Goals as goal

negative : (x : Float) (b : ℕ) → b ≡ to_bits binary32 x → 2 ^ 31 ≤ b → 0xFFFFFFFF - b ≡ key_of x
unfolding key_of
negative x b e h = rw (← e, le-leb (2 ^ 31) b h) (omega arith)

positive : (x : Float) (b : ℕ) → b ≡ to_bits binary32 x → b < 2 ^ 31 → b + 2 ^ 31 ≡ key_of x
unfolding key_of
positive x b e h = rw (← e, lt-leb (2 ^ 31) b h)

pub returns-then-bits-ge2147483648 : goal.returns-then-bits-ge2147483648
returns-then-bits-ge2147483648 c = negative _ _ c.to_bits-bits.ensures (omega arith)

pub returns : goal.returns
returns c = positive _ _ c.to_bits-bits.ensures (omega arith)
