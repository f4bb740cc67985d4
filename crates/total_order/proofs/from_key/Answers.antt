-- `of_key` by cases of whether the key is in the upper half.
use Prim.Native.Nat.{ℕ, suc, ◌-◌, ◌^◌, ◌≤◌, ◌<◌}
use mathlib.Core.Path.{◌≡◌, ◌∙◌}
use native.Mathlib.Omega.{arith}
use borrow.Author.Tests.{le-leb, lt-leb}
use lib.Ieee.{binary32, of_bits}
use Rattle.total_order.specs.TotalOrder.{of_key}
use Rattle.total_order.proofs.from_key.Goals as goal

positive : (k : ℕ) → 2 ^ 31 ≤ k → of_bits binary32 (k - 2 ^ 31) ≡ of_key k
unfolding of_key
positive k h = rw (le-leb (2 ^ 31) k h)

negative : (k : ℕ) → k < 2 ^ 31 → of_bits binary32 (0xFFFFFFFF - k) ≡ of_key k
unfolding of_key
negative k h =
    let e : 0xFFFFFFFF - k ≡ 2 ^ 32 - suc k = omega arith in
    rw (lt-leb (2 ^ 31) k h, e)

pub returns-then-k-ge2147483648 : goal.returns-then-k-ge2147483648
returns-then-k-ge2147483648 c = c.from_bits.ensures ∙ positive _ (omega arith)

pub returns : goal.returns
returns c = c.from_bits-2.ensures ∙ negative _ (omega arith)
