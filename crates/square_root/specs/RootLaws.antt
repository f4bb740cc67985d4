-- Laws of the definitions in `Root`, in whole numbers: magnitudes grow with their patterns, an input has at most one nearest root, and an integer root of 25 digits, rounded to 24, is that root.
use Rattle.std.specs.Prelude.{ℕ, zero, suc, ◌+◌, ◌-◌, ◌*◌, ◌/◌, ◌%◌, ◌^◌, ◌<◌, ◌≤◌, Bool, cond, ◌⊎◌, ◌≡◌, refl, ltb}
use Rattle.std.proofs.Common.{zero-le, suc-le-suc, le_refl, le_trans, le_of_lt, le_of_eq, lt_of_lt_of_le, lt_of_le_of_lt, lt_irrefl, le_antisymm, add-mul, mul_assoc, mul_right_comm, mul-one, one-mul, suc-mul, mul-pos, mul-le-mul, mul-le-mul_right, mul-lt-mul_of_pos_right, pow-suc, arith, inl, inr, sym, ap, ap₂, ◌∙◌, subst, lt→ltb, pow_pos, pow_mono, pow-add, shl_lt}
use Rattle.std.proofs.Math.Nat.{mul-mul-mul_comm}
use Rattle.std.proofs.Math.Decide.{dec_lt}
use Rattle.std.proofs.Math.Arith.{le→nltb}
use Rattle.std.specs.Float.Ieee.Bits.{is_true, is_false}
use Rattle.square_root.specs.Root.{magnitude, halfway_square, Nearest}

pub below_or_not : (a b : ℕ) → (a < b) ⊎ (b ≤ a)
below_or_not a b = go (dec_lt a b)
  where
    other : (a < b → ⊥) → b ≤ a
    other h = omega arith

    go : Dec (a < b) → (a < b) ⊎ (b ≤ a)
    go (yes h) = inl h
    go (no h) = inr (other h)

-- ---- magnitudes

subnormal : (b : ℕ) → b < 2 ^ 23 → magnitude b ≡ b
unfolding magnitude
subnormal b h = ap (λ (t : Bool). cond t b ((2 ^ 23 + b % 2 ^ 23) * 2 ^ (b / 2 ^ 23 - 1))) (is_true (ltb b (2 ^ 23)) (lt→ltb b (2 ^ 23) h))

pub normal : (b : ℕ) → 2 ^ 23 ≤ b → magnitude b ≡ (2 ^ 23 + b % 2 ^ 23) * 2 ^ (b / 2 ^ 23 - 1)
unfolding magnitude
normal b h = ap (λ (t : Bool). cond t b ((2 ^ 23 + b % 2 ^ 23) * 2 ^ (b / 2 ^ 23 - 1))) (is_false (ltb b (2 ^ 23)) (le→nltb b (2 ^ 23) h))

-- A significand q of 24 digits, moved up k places. It may be 2 ^ 24 too: the carry goes into the exponent's field.
pub magnitude-at : (k q : ℕ) → 2 ^ 23 ≤ q → q ≤ 2 ^ 24 → magnitude (k * 2 ^ 23 + q) ≡ q * 2 ^ k
magnitude-at k q lo hi = normal (k * 2 ^ 23 + q) (omega arith) ∙ go (below_or_not q (2 ^ 24))
  where
    go : (q < 2 ^ 24) ⊎ (2 ^ 24 ≤ q) → (2 ^ 23 + (k * 2 ^ 23 + q) % 2 ^ 23) * 2 ^ ((k * 2 ^ 23 + q) / 2 ^ 23 - 1) ≡ q * 2 ^ k
    go (inl h) =
        let digits : 2 ^ 23 + (k * 2 ^ 23 + q) % 2 ^ 23 ≡ q = omega arith in
        let field : (k * 2 ^ 23 + q) / 2 ^ 23 - 1 ≡ k = omega arith in
        ap₂ (λ (x y : ℕ). x * 2 ^ y) digits field
    go (inr h) =
        let digits : 2 ^ 23 + (k * 2 ^ 23 + q) % 2 ^ 23 ≡ 2 ^ 23 = omega arith in
        let field : (k * 2 ^ 23 + q) / 2 ^ 23 - 1 ≡ suc k = omega arith in
        let whole : q ≡ 2 ^ 24 = omega arith in
        ap₂ (λ (x y : ℕ). x * 2 ^ y) digits field ∙ ap (λ (x : ℕ). 2 ^ 23 * x) (pow-suc 2 k) ∙ twice (2 ^ k) ∙ ap (λ (x : ℕ). x * 2 ^ k) (sym whole)
      where
        twice : (x : ℕ) → 2 ^ 23 * (x * 2) ≡ 2 ^ 24 * x
        twice x = omega arith

-- below 2 ^ 24 a pattern counts the units itself
pub magnitude-low : (b : ℕ) → b ≤ 2 ^ 24 → magnitude b ≡ b
magnitude-low b h = go (below_or_not b (2 ^ 23))
  where
    same : 0 * 2 ^ 23 + b ≡ b
    same = omega arith

    go : (b < 2 ^ 23) ⊎ (2 ^ 23 ≤ b) → magnitude b ≡ b
    go (inl l) = subnormal b l
    go (inr l) = ap magnitude (sym same) ∙ magnitude-at 0 b l h ∙ mul-one b

-- from a pattern to the next the magnitude grows by a unit of the pattern's last digit
pub magnitude-step : (b : ℕ) → magnitude (suc b) ≡ magnitude b + 2 ^ (b / 2 ^ 23 - 1)
magnitude-step b = go (below_or_not b (2 ^ 23))
  where
    go : (b < 2 ^ 23) ⊎ (2 ^ 23 ≤ b) → magnitude (suc b) ≡ magnitude b + 2 ^ (b / 2 ^ 23 - 1)
    go (inl h) =
        let field : b / 2 ^ 23 - 1 ≡ 0 = omega arith in
        let one : suc b ≡ b + 1 = omega arith in
        magnitude-low (suc b) (omega arith) ∙ one ∙ ap₂ (λ (x y : ℕ). x + 2 ^ y) (sym (subnormal b h)) (sym field)
    go (inr h) =
        let q = 2 ^ 23 + b % 2 ^ 23 in
        let k = b / 2 ^ 23 - 1 in
        let next : suc b ≡ k * 2 ^ 23 + suc q = omega arith in
        ap magnitude next
        ∙ magnitude-at k (suc q) (omega arith) (omega arith)
        ∙ suc-mul q (2 ^ k)
        ∙ ap (λ (x : ℕ). x + 2 ^ k) (sym (normal b h))

above : (a b : ℕ) → 0 < b → a < a + b
above a b h = omega arith

pub magnitude-next : (b : ℕ) → magnitude b < magnitude (suc b)
magnitude-next b = subst (λ (x : ℕ). magnitude b < x) (sym (magnitude-step b)) (above (magnitude b) (2 ^ (b / 2 ^ 23 - 1)) (pow_pos (b / 2 ^ 23 - 1)))

-- so a greater pattern is a greater magnitude
pub magnitude_grows : (b c : ℕ) → b < c → magnitude b < magnitude c
magnitude_grows b zero h = absurd (nothing-below b h)
  where
    nothing-below : (b : ℕ) → b < 0 → ⊥
    nothing-below b h = omega arith
magnitude_grows b (suc c) h = go (below_or_not b c) (magnitude_grows b c)
  where
    go : (b < c) ⊎ (c ≤ b) → (b < c → magnitude b < magnitude c) → magnitude b < magnitude (suc c)
    go (inl l) more = le_trans (more l) (le_of_lt (magnitude-next c))
    go (inr l) more =
        let same : b ≡ c = omega arith in
        subst (λ (x : ℕ). magnitude x < magnitude (suc c)) (sym same) (magnitude-next c)

pub magnitude_pos : (b : ℕ) → 0 < b → 0 < magnitude b
magnitude_pos b h = lt_of_le_of_lt (le_of_eq (sym (magnitude-low 0 (omega arith)))) (magnitude_grows 0 b h)

-- ---- squares and powers

pub square_le : {a b : ℕ} → a ≤ b → a * a ≤ b * b
square_le h = mul-le-mul h h

pub square_lt : {a b : ℕ} → a < b → a * a < b * b
square_lt {a} {b} h = lt_of_le_of_lt (mul-le-mul (le_refl a) (le_of_lt h)) (mul-lt-mul_of_pos_right h (lt_of_le_of_lt zero-le h))

-- the root is below a bound whose square is above the radicand
pub root_lt : (a b : ℕ) → a * a < b * b → a < b
root_lt a b h = go (below_or_not a b)
  where
    go : (a < b) ⊎ (b ≤ a) → a < b
    go (inl l) = l
    go (inr l) = absurd (lt_irrefl (b * b) (lt_of_le_of_lt (square_le l) h))

-- a power of two below another has a smaller exponent
pub exponent_lt : (a b : ℕ) → 2 ^ a < 2 ^ b → a < b
exponent_lt a b h = go (below_or_not a b)
  where
    go : (a < b) ⊎ (b ≤ a) → a < b
    go (inl l) = l
    go (inr l) = absurd (lt_irrefl (2 ^ a) (lt_of_lt_of_le h (pow_mono l)))

scaled : (s p : ℕ) → s * p * (s * p) ≡ s * s * (p * p)
scaled s p = mul-mul-mul_comm s p s p

-- ---- halfway points

unfoldable halfway : ℕ → ℕ
halfway b = magnitude b + magnitude (suc b)

square_is : (b : ℕ) → halfway_square b ≡ halfway b * halfway b
unfolding halfway_square halfway
square_is b = refl

pub halfway_grows : (b c : ℕ) → b < c → halfway_square b < halfway_square c
unfolding halfway_square
halfway_grows b c h = square_lt (sum (magnitude b) (magnitude c) (magnitude (suc b)) (magnitude (suc c)) (magnitude_grows b c h) (magnitude_grows (suc b) (suc c) (suc-le-suc h)))
  where
    sum : (a b c d : ℕ) → a < b → c < d → a + c < b + d
    sum a b c d h l = omega arith

-- ---- there is at most one nearest root

-- Of two, the halfway point below the greater is no lower than the one above the smaller. Where it is one point, the input is that tie, and both patterns would be even.
no_two_lem : (q b c : ℕ) → Nearest q b → Nearest q c → b < c → ⊥
no_two_lem q b c m n h = go (below_or_not (suc b) c)
  where
    parity : b % 2 ≡ 0 → suc b % 2 ≡ 0 → ⊥
    parity e o = omega arith

    go : (suc b < c) ⊎ (c ≤ suc b) → ⊥
    go (inl l) = lt_irrefl q (lt_of_le_of_lt m.below (lt_of_lt_of_le (halfway_grows b (c - 1) (omega arith)) n.above))
    go (inr l) =
        let next : c ≡ suc b = omega arith in
        let here : c - 1 ≡ b = omega arith in
        let under : halfway_square b ≤ q = subst (λ (x : ℕ). halfway_square x ≤ q) here n.above in
        let tie : halfway_square b ≡ q = le_antisymm under m.below in
        parity (m.tie_below (sym tie)) (subst (λ (x : ℕ). x % 2 ≡ 0) next (n.tie_above (ap halfway_square here ∙ tie)))

pub nearest_unique : (q b c : ℕ) → Nearest q b → Nearest q c → b ≡ c
nearest_unique q b c m n = go (below_or_not b c) (below_or_not c b)
  where
    go : (b < c) ⊎ (c ≤ b) → (c < b) ⊎ (b ≤ c) → b ≡ c
    go (inl h) g = absurd (no_two_lem q b c m n h)
    go (inr h) (inl l) = absurd (no_two_lem q c b n m l)
    go (inr h) (inr l) = le_antisymm l h

-- ---- an integer root s of 25 digits, rounded to the 24 of (s + 1) / 2 and moved up k places: an odd s is at or above the halfway point

odd_square : (s : ℕ) → s % 2 ≡ 1 → s * s % 2 ≡ 1
odd_square s h =
    let split : s ≡ s / 2 * 2 + 1 = omega arith in
    let product : s * s ≡ s / 2 * s * 2 + s = ap (λ (x : ℕ). x * s) split ∙ add-mul (s / 2 * 2) 1 s ∙ ap₂ ◌+◌ (mul_right_comm (s / 2) 2 s) (one-mul s) in
    ap (λ (x : ℕ). x % 2) product ∙ keeps (s / 2 * s)
  where
    keeps : (x : ℕ) → (x * 2 + s) % 2 ≡ 1
    keeps x = omega arith

abbrev rounded : ℕ → ℕ → ℕ
rounded s k = k * 2 ^ 23 + (s + 1) / 2

-- the integer root is no lower than the halfway point below the rounded root, and where it is that point, it is odd
lower : (s k : ℕ) → 2 ^ 24 ≤ s → s < 2 ^ 25 → (halfway (rounded s k - 1) < s * 2 ^ k) ⊎ ((s % 2 ≡ 1) × (halfway (rounded s k - 1) ≡ s * 2 ^ k))
unfolding halfway
lower s k lo hi = go (below_or_not (s % 2) 1)
  where
    back : suc (rounded s k - 1) ≡ rounded s k
    back = omega arith

    at : magnitude (rounded s k) ≡ (s + 1) / 2 * 2 ^ k
    at = magnitude-at k ((s + 1) / 2) (omega arith) (omega arith)

    go : (s % 2 < 1) ⊎ (1 ≤ s % 2) → (magnitude (rounded s k - 1) + magnitude (suc (rounded s k - 1)) < s * 2 ^ k) ⊎ ((s % 2 ≡ 1) × (magnitude (rounded s k - 1) + magnitude (suc (rounded s k - 1)) ≡ s * 2 ^ k))
    go (inl e) = inl (halves (magnitude (rounded s k - 1)) (magnitude (suc (rounded s k - 1))) (s * 2 ^ k) (magnitude-next (rounded s k - 1)) doubled)
      where
        halves : (a b c : ℕ) → a < b → b + b ≡ c → a + b < c
        halves a b c h l = omega arith

        even : (s + 1) / 2 + (s + 1) / 2 ≡ s
        even = omega arith

        doubled : magnitude (suc (rounded s k - 1)) + magnitude (suc (rounded s k - 1)) ≡ s * 2 ^ k
        doubled = ap (λ (x : ℕ). magnitude x + magnitude x) back ∙ ap (λ (x : ℕ). x + x) at ∙ sym (add-mul ((s + 1) / 2) ((s + 1) / 2) (2 ^ k)) ∙ ap (λ (x : ℕ). x * 2 ^ k) even
    go (inr o) = inr (omega arith, ap₂ ◌+◌ (ap magnitude one_less ∙ magnitude-at k ((s + 1) / 2 - 1) (omega arith) (omega arith)) (ap magnitude back ∙ at) ∙ sym (add-mul ((s + 1) / 2 - 1) ((s + 1) / 2) (2 ^ k)) ∙ ap (λ (x : ℕ). x * 2 ^ k) odd)
      where
        one_less : rounded s k - 1 ≡ k * 2 ^ 23 + ((s + 1) / 2 - 1)
        one_less = omega arith

        odd : (s + 1) / 2 - 1 + (s + 1) / 2 ≡ s
        odd = omega arith

-- the next integer is no higher than the halfway point above the rounded root
upper : (s k : ℕ) → 2 ^ 24 ≤ s → s < 2 ^ 25 → (s + 1) * 2 ^ k ≤ halfway (rounded s k)
unfolding halfway
upper s k lo hi = le_trans grown (le_of_eq (sym sum))
  where
    at : magnitude (rounded s k) ≡ (s + 1) / 2 * 2 ^ k
    at = magnitude-at k ((s + 1) / 2) (omega arith) (omega arith)

    sum : magnitude (rounded s k) + magnitude (suc (rounded s k)) ≡ (s + 1) / 2 * 2 ^ k + ((s + 1) / 2 * 2 ^ k + 2 ^ (rounded s k / 2 ^ 23 - 1))
    sum = ap₂ ◌+◌ at (magnitude-step (rounded s k) ∙ ap (λ (x : ℕ). x + 2 ^ (rounded s k / 2 ^ 23 - 1)) at)

    -- with x for 2 ^ k and y for the last digit's unit, which is no less
    bound : (x y : ℕ) → x ≤ y → (s + 1) * x ≤ (s + 1) / 2 * x + ((s + 1) / 2 * x + y)
    bound x y h =
        let cut : s + 1 ≤ (s + 1) / 2 + ((s + 1) / 2 + 1) = omega arith in
        le_trans (mul-le-mul_right x cut)
        (le_trans (le_of_eq (add-mul ((s + 1) / 2) ((s + 1) / 2 + 1) x ∙ ap (λ (z : ℕ). (s + 1) / 2 * x + z) (add-mul ((s + 1) / 2) 1 x ∙ ap (λ (z : ℕ). (s + 1) / 2 * x + z) (one-mul x))))
        (more ((s + 1) / 2 * x)))
      where
        more : (a : ℕ) → a + (a + x) ≤ a + (a + y)
        more a = omega arith

    grown : (s + 1) * 2 ^ k ≤ (s + 1) / 2 * 2 ^ k + ((s + 1) / 2 * 2 ^ k + 2 ^ (rounded s k / 2 ^ 23 - 1))
    grown = bound (2 ^ k) (2 ^ (rounded s k / 2 ^ 23 - 1)) (pow_mono (omega arith))

module _ (n s k : ℕ) (low : s * s ≤ n) (high : n < (s + 1) * (s + 1)) (lo : 2 ^ 24 ≤ s) (hi : s < 2 ^ 25) where
  -- An even n is no odd integer's square.
  over_lower : n % 2 ≡ 0 → halfway_square (rounded s k - 1) < n * (2 ^ k * 2 ^ k)
  over_lower even = subst (λ (x : ℕ). x < n * (2 ^ k * 2 ^ k)) (sym (square_is (rounded s k - 1))) (go (lower s k lo hi))
    where
      h : ℕ
      h = halfway (rounded s k - 1)

      more : s % 2 ≡ 1 → s * s < n
      more o = strict (s * s) low (odd_square s o)
        where
          strict : (x : ℕ) → x ≤ n → x % 2 ≡ 1 → x < n
          strict x l u = omega arith

      go : (h < s * 2 ^ k) ⊎ ((s % 2 ≡ 1) × (h ≡ s * 2 ^ k)) → h * h < n * (2 ^ k * 2 ^ k)
      go (inl l) = lt_of_lt_of_le (square_lt l) (le_trans (le_of_eq (scaled s (2 ^ k))) (mul-le-mul_right (2 ^ k * 2 ^ k) low))
      go (inr o) =
          lt_of_le_of_lt (le_of_eq (ap (λ (x : ℕ). x * x) o.1 ∙ scaled s (2 ^ k))) (mul-lt-mul_of_pos_right (more o.0) (mul-pos (pow_pos k) (pow_pos k)))

  under_upper : n * (2 ^ k * 2 ^ k) < halfway_square (rounded s k)
  under_upper =
      lt_of_lt_of_le (mul-lt-mul_of_pos_right high (mul-pos (pow_pos k) (pow_pos k)))
      (le_trans (le_of_eq (sym (scaled (s + 1) (2 ^ k)))) (le_trans (square_le (upper s k lo hi)) (le_of_eq (sym (square_is (rounded s k))))))

  -- The rounding is to nearest, and ties do not arise.
  rounds : n % 2 ≡ 0 → k ≤ 252 → Nearest (n * (2 ^ k * 2 ^ k)) (rounded s k)
  rounds even fits = record {
    positive = omega arith;
    finite = omega arith;
    above = le_of_lt (over_lower even);
    below = le_of_lt under_upper;
    tie_above = λ e. absurd (lt_irrefl (n * (2 ^ k * 2 ^ k)) (subst (λ (x : ℕ). x < n * (2 ^ k * 2 ^ k)) e (over_lower even)));
    tie_below = λ e. absurd (lt_irrefl (n * (2 ^ k * 2 ^ k)) (subst (λ (x : ℕ). n * (2 ^ k * 2 ^ k) < x) (sym e) under_upper));
  }

-- ---- radicands of 49 or 50 digits

-- the root of such a radicand has 25 digits
pub root_under : (n s : ℕ) → n < 2 ^ 50 → s * s ≤ n → s < 2 ^ 25
root_under n s h l = root_lt s (2 ^ 25) (lt_of_le_of_lt l h)

pub root_over : (n s : ℕ) → 2 ^ 48 ≤ n → n < (s + 1) * (s + 1) → 2 ^ 24 ≤ s
root_over n s h l =
    let over : 2 ^ 24 < s + 1 = root_lt (2 ^ 24) (s + 1) (lt_of_le_of_lt h l) in
    omega arith

pub rounds_root : (n s k : ℕ) → 2 ^ 48 ≤ n → n < 2 ^ 50 → n % 2 ≡ 0 → k ≤ 252 → s * s ≤ n → n < (s + 1) * (s + 1) → Nearest (n * (2 ^ k * 2 ^ k)) (k * 2 ^ 23 + (s + 1) / 2)
rounds_root n s k lo hi even fits low high = rounds n s k low high (root_over n s lo high) (root_under n s hi low) even fits

-- ---- the input as a significand m of 24 digits and an exponent e, m * 2 ^ (e + 25) units of 2 ^ -300; e is halved

pub halved : (m e : ℕ) → m * 2 ^ (e + 25) ≡ m * 2 ^ (25 + e % 2) * (2 ^ (e / 2) * 2 ^ (e / 2))
halved m e =
    let parts : e + 25 ≡ 25 + e % 2 + (e / 2 + e / 2) = omega arith in
    ap (λ (x : ℕ). m * 2 ^ x) parts
    ∙ ap (λ (x : ℕ). m * x) (pow-add 2 (25 + e % 2) (e / 2 + e / 2) ∙ ap (λ (x : ℕ). 2 ^ (25 + e % 2) * x) (pow-add 2 (e / 2) (e / 2)))
    ∙ sym (mul_assoc m (2 ^ (25 + e % 2)) (2 ^ (e / 2) * 2 ^ (e / 2)))

pub halved_at : (m e r : ℕ) → e % 2 ≡ r → m * 2 ^ (e + 25) ≡ m * 2 ^ (25 + r) * (2 ^ (e / 2) * 2 ^ (e / 2))
halved_at m e r h = halved m e ∙ ap (λ (x : ℕ). m * 2 ^ (25 + x) * (2 ^ (e / 2) * 2 ^ (e / 2))) h

-- a normal pattern
pub normal_scaled : (b : ℕ) → 2 ^ 23 ≤ b → magnitude b * 2 ^ 151 ≡ (2 ^ 23 + b % 2 ^ 23) * 2 ^ (b / 2 ^ 23 + 125 + 25)
normal_scaled b h =
    let sum : b / 2 ^ 23 - 1 + 151 ≡ b / 2 ^ 23 + 125 + 25 = omega arith in
    ap (λ (x : ℕ). x * 2 ^ 151) (normal b h)
    ∙ mul_assoc (2 ^ 23 + b % 2 ^ 23) (2 ^ (b / 2 ^ 23 - 1)) (2 ^ 151)
    ∙ ap (λ (x : ℕ). (2 ^ 23 + b % 2 ^ 23) * x) (sym (pow-add 2 (b / 2 ^ 23 - 1) 151) ∙ ap (λ (x : ℕ). 2 ^ x) sum)

-- a subnormal pattern, moved up by d places
pub subnormal_scaled : (b d : ℕ) → b < 2 ^ 23 → d ≤ 126 → magnitude b * 2 ^ 151 ≡ b * 2 ^ d * 2 ^ (126 - d + 25)
subnormal_scaled b d h l =
    let sum : 151 ≡ d + (126 - d + 25) = omega arith in
    ap₂ (λ (x y : ℕ). x * 2 ^ y) (subnormal b h) sum ∙ ap (λ (x : ℕ). b * x) (pow-add 2 d (126 - d + 25)) ∙ sym (mul_assoc b (2 ^ d) (2 ^ (126 - d + 25)))

-- moved up so that its leading digit is the 24th
pub lifted : (b j d : ℕ) → 2 ^ j ≤ b → b < 2 ^ suc j → j + d ≡ 23 → (2 ^ 23 ≤ b * 2 ^ d) × (b * 2 ^ d < 2 ^ 24)
lifted b j d lo hi e =
    let next : suc j + d ≡ 24 = omega arith in (
      le_trans (le_of_eq (ap (λ (x : ℕ). 2 ^ x) (sym e) ∙ pow-add 2 j d)) (mul-le-mul_right (2 ^ d) lo),
      lt_of_lt_of_le (shl_lt (suc j) d hi) (le_of_eq (ap (λ (x : ℕ). 2 ^ x) next)),
    )
