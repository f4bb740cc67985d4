-- Newton's step for an integer root: from above it leads down, since n / s is below s there, and never below the root, since the mean of s and n / s is
-- not below the root of their product. Assumes nothing.
use Prim.Native.Nat.{ℕ, zero, suc, ◌+◌, ◌-◌, ◌*◌, ◌/◌, ◌<◌, ◌≤◌}
use native.Mathlib.Nat.{mul-le-mul, div-mul-le_self, div-add-mod', mod-lt, mul-le-mul_right}
use native.Mathlib.Omega.{arith}
use mathlib.Core.Logic.{◌⊎◌, inl, inr}
use mathlib.Core.Path.{◌≡◌, subst}
use Rattle.square_root.specs.RootLaws.{below_or_not, square_le}

-- a quotient from above
quotient_above : (n s : ℕ) → 0 < s → n < s * (n / s + 1)
quotient_above n s h = omega (arith, div-add-mod' n s, mod-lt n h)

-- a quotient by no less than d is below q, if the number is below d * q
pub quotient_below : (n s d q : ℕ) → d ≤ s → n < d * q → n / s < q
quotient_below n s d q h l = go (below_or_not (n / s) q)
  where
    go : (n / s < q) ⊎ (q ≤ n / s) → n / s < q
    go (inl less) = less
    go (inr more) =
        let le : d * q ≤ s * (n / s) = mul-le-mul h more in
        absurd (omega (arith, l, le, div-mul-le_self n s))

-- four times a product is at most the square of the sum
product_below : (a b : ℕ) → 4 * (a * b) ≤ (a + b) * (a + b)
product_below a b = go (below_or_not a b)
  where
    more : (x d : ℕ) → 4 * (x * (x + d)) ≤ (x + (x + d)) * (x + (x + d))
    more x d = omega arith

    go : (a < b) ⊎ (b ≤ a) → 4 * (a * b) ≤ (a + b) * (a + b)
    go (inl h) = let e : a + (b - a) ≡ b = omega arith in subst (λ (y : ℕ). 4 * (a * y) ≤ (a + y) * (a + y)) e (more a (b - a))
    go (inr h) =
        let e : b + (a - b) ≡ a = omega arith in
        let turned : 4 * (b * a) ≤ (b + a) * (b + a) = subst (λ (y : ℕ). 4 * (b * y) ≤ (b + y) * (b + y)) e (more b (a - b)) in
        omega (arith, turned)

module _ (n s : ℕ) where
  pub step-positive : n < s * s → 0 < s
  step-positive h = go s h
    where
      go : (t : ℕ) → n < t * t → 0 < t
      go zero h = absurd (omega arith)
      go (suc t) h = omega arith

  pub step-below : n < s * s → (s + n / s) / 2 < s
  step-below h = go (below_or_not (n / s) s)
    where
      go : (n / s < s) ⊎ (s ≤ n / s) → (s + n / s) / 2 < s
      go (inl l) = omega arith
      go (inr l) = absurd (omega (arith, h, div-mul-le_self n s, mul-le-mul_right s l))

  pub step-above : 0 < s → n < ((s + n / s) / 2 + 1) * ((s + n / s) / 2 + 1)
  step-above h =
      let t : ℕ = (s + n / s) / 2 + 1 in
      let twice : s + (n / s + 1) ≤ 2 * t = omega arith in
      omega (arith, quotient_above n s h, product_below s (n / s + 1), square_le twice)
