-- A subnormal pattern moved up by its leading zeros, less the 8 that a pattern of 24 digits has in 32: its leading digit is then the 24th.
use Prim.Native.Nat.{ℕ, suc, ◌+◌, ◌-◌, ◌*◌, ◌%◌, ◌^◌, ◌<◌, ◌≤◌}
use native.Mathlib.Nat.{lt_of_le_of_lt, lt_of_lt_of_le, mod-eq_of_lt}
use native.Mathlib.Omega.{arith}
use mathlib.Core.Path.{◌≡◌}
use lib.Dec.{lit≤}
use lib.Count.{count_leading_zeros, leading_top}
use Rattle.square_root.specs.RootLaws.{lifted, exponent_lt}

pub record Lift (b z : ℕ) : Type 0 where
  pub enough : 8 ≤ z
  pub few : z - 8 ≤ 23
  pub lo : 2 ^ 23 ≤ b * 2 ^ (z - 8)
  pub hi : b * 2 ^ (z - 8) < 2 ^ 24
  -- nothing is shifted out
  pub whole : b * 2 ^ (z - 8) % 2 ^ 32 ≡ b * 2 ^ (z - 8)

pub lift : (b : ℕ) → 0 < b → b < 2 ^ 23 → Lift b (count_leading_zeros 32 b)
lift b p h =
    let top = leading_top 32 b p (lt_of_lt_of_le h (lit≤ tt)) in
    go (count_leading_zeros 32 b) top.0 top.1 top.2 top.3
  where
    go : (z j : ℕ) → z + suc j ≡ 32 → 2 ^ j ≤ b → b < 2 ^ suc j → Lift b z
    go z j e lo hi =
        let small : j < 23 = exponent_lt j 23 (lt_of_le_of_lt lo h) in
        let sum : j + (z - 8) ≡ 23 = omega arith in
        let m = lifted b j (z - 8) lo hi sum in
        let wide : b * 2 ^ (z - 8) < 2 ^ 32 = lt_of_lt_of_le m.1 (lit≤ tt) in
        record { enough = omega arith; few = omega arith; lo = m.0; hi = m.1; whole = mod-eq_of_lt wide }
