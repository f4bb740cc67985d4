-- A form of the root that computes, and what `Root` says by it: every f32 has a root, and only one. No contract cites this form.
use Rattle.std.specs.Prelude.{ℕ, zero, suc, ◌+◌, ◌-◌, ◌*◌, ◌/◌, ◌%◌, ◌^◌, ◌<◌, ◌≤◌, Bool, true, false, not, cond, ◌⊎◌, ◌≡◌, refl, ℤ, pos, T, leb, Float}
use Rattle.std.proofs.Common.{zero-le, le_trans, le_of_eq, lt_of_lt_of_le, lt_of_le_of_lt, lt_irrefl, le_antisymm, zero-lt-suc, mul_comm, mul-pos, mul-le-mul_right, mul-div_cancel, pow-suc, div-lt_iff_lt-mul, inl, inr, sym, ap, ◌∙◌, subst, leb→le, pow_pos, pow_mono, pow-add, shl_lt}
use Rattle.std.proofs.Math.Nat.{mul-mul-mul_comm}
use native.Mathlib.Omega.{arith}
use Rattle.std.proofs.Math.Dec.{nleb→lt}
use Rattle.std.proofs.lemmas.Nat.{leading_top}
use Rattle.std.specs.Float.{nan, inf, fin, binary32}
use Rattle.std.specs.Float.Ieee.{fits, size, of_bits, to_bits}
use Rattle.std.specs.Float.Ieee.Bits.{of_bits-to_bits, of_bits-fits}
use Rattle.std.specs.Float.Ieee.Digits.{size-lt, size-le}
use Rattle.std.specs.Float.Ieee.Fits.{nan-fits}
use Rattle.square_root.specs.Root.{magnitude, Nearest, fine_units, Root}
use Rattle.square_root.specs.RootLaws.{below_or_not, nearest_unique, rounds_root, halved, normal_scaled, subnormal_scaled, lifted}
use Rattle.square_root.specs.RootValues.{bits-value, fine_is, root_of_bits, root_of_zero, root_of_infinity, root-below-zero}

-- The integer root of an n below 4 ^ d, digit by digit: the root of n / 4 is n's root without its last binary digit.
unfoldable pub isqrt : ℕ → ℕ → ℕ
isqrt zero n = 0
isqrt (suc d) n = let r = 2 * isqrt d (n / 4) in cond (leb ((r + 1) * (r + 1)) n) (r + 1) r

-- The pattern of the root of q units of 2 ^ -300: with q cut to 49 or 50 digits, its root has 25, of which the last one rounds.
unfoldable pub root_pattern : ℕ → ℕ
unfolding isqrt size
root_pattern q = let k = (size q - 49) / 2 in k * 2 ^ 23 + (isqrt 25 (q / (2 ^ k * 2 ^ k)) + 1) / 2

unfoldable pub root_of : Float → Float
unfolding root_pattern fine_units of_bits
root_of nan = nan
root_of (inf false) = inf false
root_of (inf true) = nan
root_of (fin s zero e) = fin s zero e
root_of (fin false (suc m) e) = of_bits binary32 (root_pattern (fine_units (suc m) e))
root_of (fin true (suc m) e) = nan

-- ---- trials

of_25 : root_of (fin false 25 (pos 0)) ≡ fin false 5 (pos 0)
unfolding root_of
of_25 = refl

of_2 : to_bits binary32 (root_of (fin false 1 (pos 1))) ≡ 0x3FB504F3
unfolding root_of to_bits
of_2 = refl

-- the smallest subnormal value, 2 ^ -149
of_smallest : to_bits binary32 (root_of (of_bits binary32 1)) ≡ 0x1A3504F3
unfolding root_of to_bits of_bits
of_smallest = refl

-- the largest finite value
of_largest : to_bits binary32 (root_of (of_bits binary32 0x7F7FFFFF)) ≡ 0x5F7FFFFF
unfolding root_of to_bits of_bits
of_largest = refl

of_minus_zero : to_bits binary32 (root_of (of_bits binary32 0x80000000)) ≡ 0x80000000
unfolding root_of to_bits of_bits
of_minus_zero = refl

of_infinity : root_of (of_bits binary32 0x7F800000) ≡ inf false
unfolding root_of of_bits
of_infinity = refl

of_minus_one : to_bits binary32 (root_of (of_bits binary32 0xBF800000)) ≡ 0x7FC00000
unfolding root_of to_bits of_bits
of_minus_one = refl

-- ---- the integer root

-- With r the root of n / 4, 2 * r is n's root or one below it.
twice_square : (r : ℕ) → 2 * r * (2 * r) ≡ r * r * 4
twice_square r = mul-mul-mul_comm 2 r 2 r ∙ mul_comm 4 (r * r)

even_le : (r n : ℕ) → r * r ≤ n / 4 → 2 * r * (2 * r) ≤ n
even_le r n h = le_trans (le_of_eq (twice_square r)) (quarter (r * r) h)
  where
    quarter : (x : ℕ) → x ≤ n / 4 → x * 4 ≤ n
    quarter x l = omega arith

next_lt : (r n : ℕ) → n / 4 < (r + 1) * (r + 1) → n < (2 * r + 1 + 1) * (2 * r + 1 + 1)
next_lt r n h =
    let same : 2 * r + 1 + 1 ≡ 2 * (r + 1) = omega arith in
    lt_of_lt_of_le (quarter ((r + 1) * (r + 1)) h) (le_of_eq (sym (ap (λ (x : ℕ). x * x) same ∙ twice_square (r + 1))))
  where
    quarter : (x : ℕ) → n / 4 < x → n < x * 4
    quarter x l = omega arith

quarter_lt : (d n : ℕ) → n < 4 ^ suc d → n / 4 < 4 ^ d
quarter_lt d n h = (div-lt_iff_lt-mul (zero-lt-suc 3)).1 (subst (λ (x : ℕ). n < x) (pow-suc 4 d) h)

pub isqrt-root : (d n : ℕ) → n < 4 ^ d → (isqrt d n * isqrt d n ≤ n) × (n < (isqrt d n + 1) * (isqrt d n + 1))
unfolding isqrt
isqrt-root zero n h = (zero-le, h)
isqrt-root (suc d) n h = go (isqrt d (n / 4)) (isqrt-root d (n / 4) (quarter_lt d n h))
  where
    go : (r : ℕ) → (r * r ≤ n / 4) × (n / 4 < (r + 1) * (r + 1))
        → let s = cond (leb ((2 * r + 1) * (2 * r + 1)) n) (2 * r + 1) (2 * r) in (s * s ≤ n) × (n < (s + 1) * (s + 1))
    go r ih = pick (leb ((2 * r + 1) * (2 * r + 1)) n) (leb→le ((2 * r + 1) * (2 * r + 1)) n) (nleb→lt ((2 * r + 1) * (2 * r + 1)) n)
      where
        pick : (t : Bool) → (T t → (2 * r + 1) * (2 * r + 1) ≤ n) → (T (not t) → n < (2 * r + 1) * (2 * r + 1))
            → let s = cond t (2 * r + 1) (2 * r) in (s * s ≤ n) × (n < (s + 1) * (s + 1))
        pick true y w = (y tt, next_lt r n ih.1)
        pick false y w = (even_le r n ih.0, w tt)

-- ---- the pattern

-- an input above zero has a significand m of 24 digits and an exponent e
record Scaled (q : ℕ) : Type 0 where
  m : ℕ
  e : ℕ
  is : q ≡ m * 2 ^ (e + 25)
  lo : 2 ^ 23 ≤ m
  hi : m < 2 ^ 24
  small : e ≤ 379

scaled_of : (b : ℕ) → 0 < b → b < 0x7F800000 → Scaled (magnitude b * 2 ^ 151)
scaled_of b p h = go (below_or_not b (2 ^ 23))
  where
    go : (b < 2 ^ 23) ⊎ (2 ^ 23 ≤ b) → Scaled (magnitude b * 2 ^ 151)
    go (inl l) =
        let top = leading_top 23 b p l in
        let j = top.0 in
        let place : j ≤ 22 = omega (arith, top.1) in
        let sum : j + (23 - j) ≡ 23 = omega arith in
        let m24 = lifted b j (23 - j) top.2 top.3 sum in
        record { m = b * 2 ^ (23 - j); e = 126 - (23 - j); is = subnormal_scaled b (23 - j) l (omega arith); lo = m24.0; hi = m24.1; small = omega arith }
    go (inr l) = record { m = 2 ^ 23 + b % 2 ^ 23; e = b / 2 ^ 23 + 125; is = normal_scaled b l; lo = omega arith; hi = omega arith; small = omega arith }

-- e counts its digits
size_is : (q : ℕ) (s : Scaled q) → size q ≡ s.e + 49
size_is q s = le_antisymm (size-le q (s.e + 49) below) (from (size q) s.e above)
  where
    from : (a b : ℕ) → (a ≤ b + 48 → ⊥) → b + 49 ≤ a
    from a b h = omega arith

    below : q < 2 ^ (s.e + 49)
    below =
        let sum : 24 + (s.e + 25) ≡ s.e + 49 = omega arith in
        lt_of_le_of_lt (le_of_eq s.is) (lt_of_lt_of_le (shl_lt 24 (s.e + 25) s.hi) (le_of_eq (ap (λ (x : ℕ). 2 ^ x) sum)))

    least : 2 ^ (s.e + 48) ≤ q
    least =
        let sum : s.e + 48 ≡ 23 + (s.e + 25) = omega arith in
        le_trans (le_of_eq (ap (λ (x : ℕ). 2 ^ x) sum ∙ pow-add 2 23 (s.e + 25))) (le_trans (mul-le-mul_right (2 ^ (s.e + 25)) s.lo) (le_of_eq (sym s.is)))

    above : size q ≤ s.e + 48 → ⊥
    above h = lt_irrefl q (lt_of_lt_of_le (size-lt q) (le_trans (pow_mono h) least))

-- what is cut off q are zeros
cut_is : (q : ℕ) (s : Scaled q) → q / (2 ^ (s.e / 2) * 2 ^ (s.e / 2)) ≡ s.m * 2 ^ (25 + s.e % 2)
cut_is q s =
    let p = 2 ^ (s.e / 2) * 2 ^ (s.e / 2) in
    ap (λ (x : ℕ). x / p) (s.is ∙ halved s.m s.e) ∙ mul-div_cancel (s.m * 2 ^ (25 + s.e % 2)) (mul-pos (pow_pos (s.e / 2)) (pow_pos (s.e / 2)))

-- m with 25 or 26 zeros after it is a radicand of 49 or 50 digits
radicand : (m r : ℕ) → 2 ^ 23 ≤ m → m < 2 ^ 24 → r < 2 → let n = m * 2 ^ (25 + r) in (2 ^ 48 ≤ n) × (n < 2 ^ 50) × (n % 2 ≡ 0)
radicand m zero lo hi h = omega arith
radicand m (suc zero) lo hi h = omega arith
radicand m (suc (suc r)) lo hi h = absurd (no_more r h)
  where
    no_more : (r : ℕ) → suc (suc r) < 2 → ⊥
    no_more r h = omega arith

-- the pattern by e, of which `size` tells
pattern_at : ℕ → ℕ → ℕ
pattern_at q k = k * 2 ^ 23 + (isqrt 25 (q / (2 ^ k * 2 ^ k)) + 1) / 2

pattern-is : (q : ℕ) (s : Scaled q) → root_pattern q ≡ pattern_at q (s.e / 2)
unfolding root_pattern pattern_at
pattern-is q s =
    let half : (size q - 49) / 2 ≡ s.e / 2 = ap (λ (x : ℕ). (x - 49) / 2) (size_is q s) ∙ back s.e in
    ap (λ (k : ℕ). k * 2 ^ 23 + (isqrt 25 (q / (2 ^ k * 2 ^ k)) + 1) / 2) half
  where
    back : (e : ℕ) → (e + 49 - 49) / 2 ≡ e / 2
    back e = omega arith

pattern-nearest : (q : ℕ) → Scaled q → Nearest q (root_pattern q)
unfolding pattern_at
pattern-nearest q s =
    let k = s.e / 2 in
    let n = s.m * 2 ^ (25 + s.e % 2) in
    let fit = radicand s.m (s.e % 2) s.lo s.hi (omega arith) in
    let root = isqrt-root 25 n fit.1 in
    let moved : n * (2 ^ k * 2 ^ k) ≡ q = sym (s.is ∙ halved s.m s.e) in
    let at : pattern_at q k ≡ k * 2 ^ 23 + (isqrt 25 n + 1) / 2 = ap (λ (x : ℕ). k * 2 ^ 23 + (isqrt 25 x + 1) / 2) (cut_is q s) in
    subst (λ (b : ℕ). Nearest q b) (sym (pattern-is q s ∙ at))
    (subst (λ (x : ℕ). Nearest x (k * 2 ^ 23 + (isqrt 25 n + 1) / 2)) moved
    (rounds_root n (isqrt 25 n) k fit.0 fit.1 fit.2 (half-small s.e s.small) root.0 root.1))
  where
    half-small : (e : ℕ) → e ≤ 379 → e / 2 ≤ 252
    half-small e h = omega arith

-- ---- every f32 has a root

-- the patterns of other values would be roots that are not finite, or zero
module _ (m : ℕ) (e : ℤ) (f : T (fits binary32 (fin false (suc m) e))) where
  abbrev x : Float
  x = fin false (suc m) e

  abbrev b : ℕ
  b = to_bits binary32 x

  its_own : Root x x → (0 < b) × (suc b < 0x7F800000)
  unfolding Root
  its_own n = (n.1.positive, n.1.finite)

  no_nan : Root x nan → ⊥
  unfolding Root to_bits
  no_nan n =
      let no : 0x7FC00001 < 0x7F800000 = n.1.finite in
      omega arith

  no_zero : b % 2 ^ 31 ≡ 0 → ⊥
  no_zero z =
      let n = its_own (root_of_zero x f z) in
      omega arith

  no_infinity : b ≡ 0x7F800000 → ⊥
  no_infinity z =
      let n = its_own (root_of_infinity x f z) in
      omega arith

  not_over : 0x7F800000 < b → ⊥
  not_over h = no_nan (root-below-zero x f h no_zero)

  -- a value above zero has a pattern above +0.0's and below infinity's
  pub positive-bits : (0 < b) × (b < 0x7F800000)
  positive-bits = bounds b no_zero no_infinity not_over
    where
      bounds : (b : ℕ) → (b % 2 ^ 31 ≡ 0 → ⊥) → (b ≡ 0x7F800000 → ⊥) → (0x7F800000 < b → ⊥) → (0 < b) × (b < 0x7F800000)
      bounds b z i o = omega arith

  pub units_are : fine_units (suc m) e ≡ magnitude b * 2 ^ 151
  units_are = fine_is (suc m) e (magnitude b) (bits-value x f positive-bits.1).1

  root-above-zero : Root x (of_bits binary32 (root_pattern (fine_units (suc m) e)))
  root-above-zero =
      let p = positive-bits in
      root_of_bits x (root_pattern (fine_units (suc m) e)) f p.0 p.1
      (subst (λ (q : ℕ). Nearest (magnitude b * 2 ^ 151) (root_pattern q)) (sym units_are) (pattern-nearest (magnitude b * 2 ^ 151) (scaled_of b p.0 p.1)))

pub root_of-root : (x : Float) → T (fits binary32 x) → Root x (root_of x)
unfolding Root root_of
root_of-root nan f = refl
root_of-root (inf false) f = refl
root_of-root (inf true) f = refl
root_of-root (fin s zero e) f = refl
root_of-root (fin false (suc m) e) f = root-above-zero m e f
root_of-root (fin true (suc m) e) f = refl

pub root_of-fits : (x : Float) → T (fits binary32 x) → T (fits binary32 (root_of x))
unfolding root_of
root_of-fits nan f = f
root_of-fits (inf false) f = f
root_of-fits (inf true) f = nan-fits binary32
root_of-fits (fin s zero e) f = f
root_of-fits (fin false (suc m) e) f = of_bits-fits binary32 (root_pattern (fine_units (suc m) e))
root_of-fits (fin true (suc m) e) f = nan-fits binary32

-- ---- and only one

-- values that fit are equal if their patterns are
same_bits : (r r' : Float) → T (fits binary32 r) → T (fits binary32 r') → to_bits binary32 r ≡ to_bits binary32 r' → r ≡ r'
same_bits r r' f f' e = sym (of_bits-to_bits binary32 r f) ∙ ap (of_bits binary32) e ∙ of_bits-to_bits binary32 r' f'

pub root_unique : (x r r' : Float) → Root x r → Root x r' → r ≡ r'
unfolding Root
root_unique nan r r' h h' = h ∙ sym h'
root_unique (inf false) r r' h h' = h ∙ sym h'
root_unique (inf true) r r' h h' = h ∙ sym h'
root_unique (fin s zero e) r r' h h' = h ∙ sym h'
root_unique (fin false (suc m) e) r r' h h' =
    same_bits r r' h.0 h'.0 (nearest_unique (fine_units (suc m) e) (to_bits binary32 r) (to_bits binary32 r') h.1 h'.1)
root_unique (fin true (suc m) e) r r' h h' = h ∙ sym h'

pub root_is : (x r : Float) → T (fits binary32 x) → Root x r → r ≡ root_of x
root_is x r f h = root_unique x r (root_of x) h (root_of-root x f)

pub root-fits : (x r : Float) → T (fits binary32 x) → Root x r → T (fits binary32 r)
root-fits x r f h = subst (λ (v : Float). T (fits binary32 v)) (sym (root_is x r f h)) (root_of-fits x f)
