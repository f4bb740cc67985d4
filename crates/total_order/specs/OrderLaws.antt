-- Laws of the total order and its key, for the values that an f32 holds: a value is found by its key, and keys are in the values' order.
-- The key is read as a sign and a pattern without the sign; that a larger magnitude has no smaller pattern is `pattern-mono`.
use Rattle.std.specs.Prelude.{ℕ, zero, suc, ◌+◌, ◌-◌, ◌*◌, ◌/◌, ◌%◌, ◌^◌, ◌≤◌, ◌<◌, ◌≡◌, refl, ◌⊎◌, Bool, true, false, not, ◌&&◌, ◌||◌, cond, T, leb, ltb, eqb, ℤ, Float}
use Rattle.std.proofs.Common.{sym, ap, ◌∙◌, inl, inr, arith, zero-add, zero-mul, add_assoc, mul-pos, lt_of_not-le, not-le_of_lt, le_refl, le_of_eq, le_of_lt, le_of_suc-le-suc, le_antisymm, le_trans, lt_of_le_of_lt, mul-le-mul_right, mul-lt-mul_of_pos_right, mul_right_comm, div-lt_iff_lt-mul, le-div_iff_mul-le, le-leb, lt-ltb, le-ltb, eq-eqb, ne_eqb, leb-true, leb-false, eqb-true, ltb→lt, pow_pos, pow-add}
use Rattle.std.proofs.lemmas.Bool.{lt-leb, eqb-false}
use Rattle.std.specs.Float.{nan, inf, fin, binary32}
use Rattle.std.specs.Float.Ieee.{up, down, size, below, level, lt, eq, fits, to_bits, of_bits}
use Rattle.std.specs.Float.Ieee.Bits.{of_bits-to_bits, to_bits-lt, of_bits-fits}
use Rattle.std.specs.Float.Ieee.Digits.{size-lt, size_reaches, size-le}
use Rattle.std.specs.Float.Ieee.Fits.{kept-lt, down_pos, and_r, nan-fits}
use Rattle.std.specs.Float.Ieee.Nearest.{div_mono}
use Rattle.total_order.specs.TotalOrder.{total_order, key_of, of_key}

-- ---- a value is found by its key

back : (b : ℕ) → b < 2 ^ 32 → of_key (cond (leb (2 ^ 31) b) (2 ^ 32 - suc b) (b + 2 ^ 31)) ≡ of_bits binary32 b
unfolding of_key
back b h = go (leb (2 ^ 31) b) (leb-true (2 ^ 31) b) (leb-false (2 ^ 31) b)
  where
    go : (t : Bool) → (t ≡ true → 2 ^ 31 ≤ b) → (t ≡ false → b < 2 ^ 31) → of_key (cond t (2 ^ 32 - suc b) (b + 2 ^ 31)) ≡ of_bits binary32 b
    go true high low =
        let k : 2 ^ 31 ≤ b = high refl in
        let under : 2 ^ 32 - suc b < 2 ^ 31 = omega arith in
        let e : 2 ^ 32 - suc (2 ^ 32 - suc b) ≡ b = omega arith in
        rw (lt-leb (2 ^ 31) (2 ^ 32 - suc b) under, e)
    go false high low =
        let over : 2 ^ 31 ≤ b + 2 ^ 31 = omega arith in
        let e : b + 2 ^ 31 - 2 ^ 31 ≡ b = omega arith in
        rw (le-leb (2 ^ 31) (b + 2 ^ 31) over, e)

pub of_key-key_of : (x : Float) → T (fits binary32 x) → of_key (key_of x) ≡ x
unfolding key_of
of_key-key_of x f = back (to_bits binary32 x) (to_bits-lt binary32 x f) ∙ of_bits-to_bits binary32 x f

pub of_key-fits : (k : ℕ) → T (fits binary32 (of_key k))
unfolding of_key
of_key-fits k = of_bits-fits binary32 (cond (leb (2 ^ 31) k) (k - 2 ^ 31) (2 ^ 32 - suc k))

-- different values have different keys
pub key_of_injective : (x y : Float) → T (fits binary32 x) → T (fits binary32 y) → key_of x ≡ key_of y → x ≡ y
key_of_injective x y f g e = sym (of_key-key_of x f) ∙ ap of_key e ∙ of_key-key_of y g

-- ---- a larger magnitude has no smaller pattern

-- the pattern of n units of the smallest value
pattern : ℕ → ℕ
pattern n = (size n - 24) * 2 ^ 23 + n / 2 ^ (size n - 24)

-- a magnitude that drops digits keeps a leading one
leads : (n : ℕ) → 0 < size n - 24 → 2 ^ 23 ≤ n / 2 ^ (size n - 24)
leads n h =
    (le-div_iff_mul-le (pow_pos (size n - 24))).1
    (rw (← pow-add 2 23 (size n - 24)) (size_reaches n (23 + (size n - 24)) (omega arith)))

farther : (k l q r : ℕ) → k < l → q < 2 ^ 24 → 2 ^ 23 ≤ r → k * 2 ^ 23 + q ≤ l * 2 ^ 23 + r
farther k l q r h u v = omega arith

pattern_mono : (a b : ℕ) → a ≤ b → pattern a ≤ pattern b
unfolding pattern
pattern_mono a b h = go (leb (size b - 24) (size a - 24)) (leb-true (size b - 24) (size a - 24)) (leb-false (size b - 24) (size a - 24))
  where
    sizes : size a ≤ size b
    sizes = size-le a (size b) (lt_of_le_of_lt h (size-lt b))

    go : (t : Bool) → (t ≡ true → size b - 24 ≤ size a - 24) → (t ≡ false → size a - 24 < size b - 24) → pattern a ≤ pattern b
    go true same less =
        let l : size b - 24 ≤ size a - 24 = same refl in
        let e : size a - 24 ≡ size b - 24 = omega (arith, sizes) in
        let q : a / 2 ^ (size b - 24) ≤ b / 2 ^ (size b - 24) =
        div_mono a (2 ^ (size b - 24)) b (2 ^ (size b - 24)) (pow_pos (size b - 24)) (pow_pos (size b - 24)) (mul-le-mul_right (2 ^ (size b - 24)) h) in
        rw e (omega arith)
    go false same less =
        farther (size a - 24) (size b - 24) (a / 2 ^ (size a - 24)) (b / 2 ^ (size b - 24)) (less refl) (kept-lt 24 a) (leads b (omega (arith, less refl)))

pattern_lt : (n : ℕ) → n < 2 ^ 277 → pattern n < 0x7F800000
unfolding pattern
pattern_lt n h = omega (arith, size-le n 277 h, kept-lt 24 n)

-- ---- a value as a sign and a pattern without the sign

sign : Float → Bool
sign nan = false
sign (inf s) = s
sign (fin s m e) = s

bare : Float → ℕ
bare nan = 0x7FC00000
bare (inf s) = 0x7F800000
bare (fin s m e) = pattern (m * up e * 2 ^ 149 / down e)

signed : Bool → ℕ → ℕ
signed true b = 2 ^ 31 - suc b
signed false b = b + 2 ^ 31

-- a finite value is below 2 ^ 128
below_top : (s : Bool) (m : ℕ) (e : ℤ) → T (fits binary32 (fin s m e)) → m * up e < 2 ^ 128 * down e
unfolding fits
below_top s zero e f = rw zero-mul (mul-pos (pow_pos 128) (down_pos e))
below_top s (suc m) e f =
    ltb→lt (suc m * up e) (2 ^ 128 * down e)
    (and_r (eqb (suc m % 2) 1 && ltb (suc m) (2 ^ 24) && leb (down e) (2 ^ 149)) (ltb (suc m * up e) (2 ^ 128 * down e)) f)

scaled : (a d p q : ℕ) → 0 < q → a < p * d → a * q < p * q * d
scaled a d p q z h = rw (← mul_right_comm p d q) (mul-lt-mul_of_pos_right h z)

fin_lt : (s : Bool) (m : ℕ) (e : ℤ) → T (fits binary32 (fin s m e)) → bare (fin s m e) < 0x7F800000
unfolding bare
fin_lt s m e f =
    pattern_lt (m * up e * 2 ^ 149 / down e)
    ((div-lt_iff_lt-mul (down_pos e)).1 (scaled (m * up e) (down e) (2 ^ 128) (2 ^ 149) (pow_pos 149) (below_top s m e f)))

bare_le : (x : Float) → T (fits binary32 x) → bare x ≤ 0x7FC00000
unfolding bare
bare_le nan f = omega arith
bare_le (inf s) f = omega arith
bare_le (fin s m e) f = omega (arith, fin_lt s m e f)

-- the key of a pattern with a sign
turned : (s : Bool) (b c : ℕ) → b < 2 ^ 31 → c ≡ cond s (2 ^ 31) 0 + b → cond (leb (2 ^ 31) c) (2 ^ 32 - suc c) (c + 2 ^ 31) ≡ signed s b
unfolding signed
turned true b c h e =
    let over : 2 ^ 31 ≤ c = omega arith in
    rw (le-leb (2 ^ 31) c over) (omega arith)
turned false b c h e =
    let under : c < 2 ^ 31 = omega arith in
    rw (lt-leb (2 ^ 31) c under) (omega arith)

key_of-signed : (x : Float) → T (fits binary32 x) → key_of x ≡ signed (sign x) (bare x)
unfolding key_of sign bare signed pattern
key_of-signed nan f = refl
key_of-signed (inf true) f = refl
key_of-signed (inf false) f = refl
key_of-signed (fin s m e) f =
    let n = m * up e * 2 ^ 149 / down e in
    turned s (bare (fin s m e)) (to_bits binary32 (fin s m e)) (omega (arith, fin_lt s m e f))
    (add_assoc (cond s (2 ^ 31) 0) ((size n - 24) * 2 ^ 23) (n / 2 ^ (size n - 24)))

bare_lt : (x : Float) → T (fits binary32 x) → bare x < 2 ^ 31
bare_lt x f = omega (arith, bare_le x f)

signed_lt : (s : Bool) (b : ℕ) → b < 2 ^ 31 → signed s b < 2 ^ 32
unfolding signed
signed_lt true b h = omega arith
signed_lt false b h = omega arith

-- a key is a u32
pub key_of_lt : (x : Float) → T (fits binary32 x) → key_of x < 2 ^ 32
key_of_lt x f = rw (key_of-signed x f) (signed_lt (sign x) (bare x) (bare_lt x f))

-- ---- the order of keys, and the total order, by signs and patterns

ordered : Bool → ℕ → Bool → ℕ → Bool
ordered false a false b = leb a b
ordered false a true b = false
ordered true a false b = true
ordered true a true b = leb b a

leb-same : (a b c d : ℕ) → (a ≤ b → c ≤ d) → (c ≤ d → a ≤ b) → leb a b ≡ leb c d
leb-same a b c d p q = go (leb a b) (leb-true a b) (leb-false a b)
  where
    go : (t : Bool) → (t ≡ true → a ≤ b) → (t ≡ false → b < a) → t ≡ leb c d
    go true under over = sym (le-leb c d (p (under refl)))
    go false under over = sym (lt-leb c d (lt_of_not-le (λ h. not-le_of_lt (over refl) (q h))))

signed-order : (s t : Bool) (a b : ℕ) → a < 2 ^ 31 → b < 2 ^ 31 → ordered s a t b ≡ leb (signed s a) (signed t b)
unfolding ordered signed
signed-order false false a b h k = leb-same a b (a + 2 ^ 31) (b + 2 ^ 31) (λ l. omega arith) (λ l. omega arith)
signed-order false true a b h k = sym (lt-leb (a + 2 ^ 31) (2 ^ 31 - suc b) (omega arith))
signed-order true false a b h k = sym (le-leb (2 ^ 31 - suc a) (b + 2 ^ 31) (omega arith))
signed-order true true a b h k = leb-same b a (2 ^ 31 - suc a) (2 ^ 31 - suc b) (λ l. omega arith) (λ l. omega arith)

-- magnitudes of two finite values, brought to one denominator, are in the order of their patterns
cross_mono : (m n : ℕ) (e d : ℤ) → m * up e * down d ≤ n * up d * down e → pattern (m * up e * 2 ^ 149 / down e) ≤ pattern (n * up d * 2 ^ 149 / down d)
cross_mono m n e d h =
    pattern_mono (m * up e * 2 ^ 149 / down e) (n * up d * 2 ^ 149 / down d)
    (div_mono (m * up e * 2 ^ 149) (down e) (n * up d * 2 ^ 149) (down d) (down_pos e) (down_pos d)
    (rw (mul_right_comm (m * up e) (2 ^ 149) (down d), mul_right_comm (n * up d) (2 ^ 149) (down e)) (mul-le-mul_right (2 ^ 149) h)))

-- two that fit and have one pattern are one magnitude
fits-sign : (s t : Bool) (m : ℕ) (e : ℤ) → T (fits binary32 (fin s m e)) → T (fits binary32 (fin t m e))
unfolding fits
fits-sign s t zero e f = f
fits-sign s t (suc m) e f = f

to_bits_bare : (s : Bool) (m : ℕ) (e : ℤ) → to_bits binary32 (fin false m e) ≡ bare (fin s m e)
unfolding to_bits bare pattern
to_bits_bare s m e = rw zero-add

fin_same : (s t : Bool) (m n : ℕ) (e d : ℤ) → T (fits binary32 (fin s m e)) → T (fits binary32 (fin t n d))
    → bare (fin s m e) ≡ bare (fin t n d) → m * up e * down d ≡ n * up d * down e
fin_same s t m n e d f g q =
    let x : fin false m e ≡ fin false n d =
    sym (of_bits-to_bits binary32 (fin false m e) (fits-sign s false m e f))
    ∙ ap (of_bits binary32) (to_bits_bare s m e ∙ q ∙ sym (to_bits_bare t n d))
    ∙ of_bits-to_bits binary32 (fin false n d) (fits-sign t false n d g) in
    let k : m ≡ n = cc in
    let l : e ≡ d = cc in
    rw (k, l)

cross_order : (s t : Bool) (m n : ℕ) (e d : ℤ) → T (fits binary32 (fin s m e)) → T (fits binary32 (fin t n d))
    → leb (m * up e * down d) (n * up d * down e) ≡ leb (bare (fin s m e)) (bare (fin t n d))
unfolding bare
cross_order s t m n e d f g =
    leb-same (m * up e * down d) (n * up d * down e) (bare (fin s m e)) (bare (fin t n d)) (cross_mono m n e d)
    (λ h. le_of_suc-le-suc (lt_of_not-le (λ l. not-le_of_lt l (le_of_eq (fin_same s t m n e d f g (le_antisymm h (cross_mono n m d e (le_of_lt l))))))))

-- ---- what `totalOrder` says of two finite values

lt_or_eq : (a b : ℕ) → ltb a b || ((eqb a b && true) && true) ≡ leb a b
lt_or_eq a b = go (leb b a) (leb-true b a) (leb-false b a) (eqb a b) (eqb-true a b) (eqb-false a b)
  where
    go : (t : Bool) → (t ≡ true → b ≤ a) → (t ≡ false → a < b) → (u : Bool) → (u ≡ true → a ≡ b) → (u ≡ false → a ≡ b → ⊥)
        → ltb a b || ((u && true) && true) ≡ leb a b
    go false over under u same other = rw (lt-ltb a b (under refl), le-leb a b (le_of_lt (under refl)))
    go true over under true same other = rw (le-ltb a b (over refl), le-leb a b (le_of_eq (same refl)))
    go true over under false same other =
        let l : b ≤ a = over refl in
        let n : b < a = lt_of_not-le (λ h. other refl (le_antisymm h l)) in
        rw (le-ltb a b l, lt-leb a b n)

either_zero : (a b : ℕ) → ltb 0 (a + b) || ((eqb a b && eqb a 0) && true) ≡ true
either_zero zero b = go b
  where
    go : (b : ℕ) → ltb 0 (0 + b) || ((eqb 0 b && true) && true) ≡ true
    go zero = refl
    go (suc b) = rw (lt-ltb 0 (0 + suc b) (omega arith))
either_zero (suc a) b = rw (lt-ltb 0 (suc a + b) (omega arith))

and_false : (t : Bool) → t && false ≡ false
and_false true = refl
and_false false = refl

eqb_swap : (a b : ℕ) → eqb a b ≡ eqb b a
eqb_swap a b = go (eqb a b) (eqb-true a b) (eqb-false a b)
  where
    go : (t : Bool) → (t ≡ true → a ≡ b) → (t ≡ false → a ≡ b → ⊥) → t ≡ eqb b a
    go true same other = sym (eq-eqb b a (sym (same refl)))
    go false same other = sym (ne_eqb b a (λ e. other refl (sym e)))

fin_order : (s t : Bool) (a b : ℕ) → below s a t b || (level s a t b && (s || not t)) ≡ ordered s a t b
unfolding ordered
fin_order false false a b = lt_or_eq a b
fin_order false true a b = and_false (eqb a b && eqb a 0)
fin_order true false a b = either_zero a b
fin_order true true a b = rw (eqb_swap a b) (lt_or_eq b a)

-- ---- the laws

ordered_fin : (s t : Bool) (m n : ℕ) (e d : ℤ) → T (fits binary32 (fin s m e)) → T (fits binary32 (fin t n d))
    → ordered s (m * up e * down d) t (n * up d * down e) ≡ ordered s (bare (fin s m e)) t (bare (fin t n d))
unfolding ordered
ordered_fin false false m n e d f g = cross_order false false m n e d f g
ordered_fin false true m n e d f g = refl
ordered_fin true false m n e d f g = refl
ordered_fin true true m n e d f g = cross_order true true n m d e g f

before_nan : (s : Bool) (b : ℕ) → b ≤ 0x7FC00000 → true ≡ ordered s b false 0x7FC00000
unfolding ordered
before_nan true b h = refl
before_nan false b h = sym (le-leb b 0x7FC00000 h)

total_order-signed : (x y : Float) → T (fits binary32 x) → T (fits binary32 y) → total_order x y ≡ ordered (sign x) (bare x) (sign y) (bare y)
unfolding total_order ordered sign bare lt eq
total_order-signed x nan f g = before_nan (sign x) (bare x) (bare_le x f)
total_order-signed nan (inf true) f g = refl
total_order-signed nan (inf false) f g = refl
total_order-signed nan (fin true n d) f g = refl
total_order-signed nan (fin false n d) f g = sym (lt-leb 0x7FC00000 (bare (fin false n d)) (omega (arith, fin_lt false n d g)))
total_order-signed (inf true) (inf true) f g = refl
total_order-signed (inf true) (inf false) f g = refl
total_order-signed (inf false) (inf true) f g = refl
total_order-signed (inf false) (inf false) f g = refl
total_order-signed (inf true) (fin true n d) f g = sym (le-leb (bare (fin true n d)) 0x7F800000 (le_of_lt (fin_lt true n d g)))
total_order-signed (inf true) (fin false n d) f g = refl
total_order-signed (inf false) (fin true n d) f g = refl
total_order-signed (inf false) (fin false n d) f g = sym (lt-leb 0x7F800000 (bare (fin false n d)) (fin_lt false n d g))
total_order-signed (fin true m e) (inf true) f g = sym (lt-leb 0x7F800000 (bare (fin true m e)) (fin_lt true m e f))
total_order-signed (fin true m e) (inf false) f g = refl
total_order-signed (fin false m e) (inf true) f g = refl
total_order-signed (fin false m e) (inf false) f g = sym (le-leb (bare (fin false m e)) 0x7F800000 (le_of_lt (fin_lt false m e f)))
total_order-signed (fin s m e) (fin t n d) f g =
    fin_order s t (m * up e * down d) (n * up d * down e) ∙ ordered_fin s t m n e d f g

-- keys are in total order
pub total_order-key : (x y : Float) → T (fits binary32 x) → T (fits binary32 y) → total_order x y ≡ leb (key_of x) (key_of y)
total_order-key x y f g =
    total_order-signed x y f g
    ∙ signed-order (sign x) (sign y) (bare x) (bare y) (bare_lt x f) (bare_lt y g)
    ∙ rw (key_of-signed x f, key_of-signed y g)

-- so it is a total order: reflexive, antisymmetric, transitive, total, and NaN is its last
pub total_order_refl : (x : Float) → T (fits binary32 x) → total_order x x ≡ true
total_order_refl x f = total_order-key x x f f ∙ le-leb (key_of x) (key_of x) (le_refl (key_of x))

pub total_order_le : (x y : Float) → T (fits binary32 x) → T (fits binary32 y) → total_order x y ≡ true → key_of x ≤ key_of y
total_order_le x y f g t = leb-true (key_of x) (key_of y) (sym (total_order-key x y f g) ∙ t)

pub total_order_lt : (x y : Float) → T (fits binary32 x) → T (fits binary32 y) → total_order x y ≡ false → key_of y < key_of x
total_order_lt x y f g t = leb-false (key_of x) (key_of y) (sym (total_order-key x y f g) ∙ t)

pub total_order_antisym : (x y : Float) → T (fits binary32 x) → T (fits binary32 y) → total_order x y ≡ true → total_order y x ≡ true → x ≡ y
total_order_antisym x y f g t u = key_of_injective x y f g (le_antisymm (total_order_le x y f g t) (total_order_le y x g f u))

pub total_order_trans : (x y z : Float) → T (fits binary32 x) → T (fits binary32 y) → T (fits binary32 z)
    → total_order x y ≡ true → total_order y z ≡ true → total_order x z ≡ true
total_order_trans x y z f g h t u =
    total_order-key x z f h ∙ le-leb (key_of x) (key_of z) (le_trans (total_order_le x y f g t) (total_order_le y z g h u))

pub total_order-total : (x y : Float) → T (fits binary32 x) → T (fits binary32 y) → (total_order x y ≡ true) ⊎ (total_order y x ≡ true)
total_order-total x y f g = go (leb (key_of x) (key_of y)) (total_order-key x y f g) (leb-false (key_of x) (key_of y))
  where
    go : (t : Bool) → total_order x y ≡ t → (t ≡ false → key_of y < key_of x) → (total_order x y ≡ true) ⊎ (total_order y x ≡ true)
    go true e over = inl e
    go false e over = inr (total_order-key y x g f ∙ le-leb (key_of y) (key_of x) (le_of_lt (over refl)))

pub nan_last : (x : Float) → total_order x nan ≡ true
unfolding total_order
nan_last x = refl

pub nan_last_only : (x : Float) → T (fits binary32 x) → total_order nan x ≡ true → x ≡ nan
nan_last_only x f t = total_order_antisym x nan f (nan-fits binary32) (nan_last x) t
