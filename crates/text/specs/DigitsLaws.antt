-- `decimalOf n` is the only text that is n in decimal, and `hexOf n` the only one that is n in eight hexadecimal digits.
--
-- A text of digits has a value below the base to its length, and two texts of one length and one value are the same. Without a leading
-- zero the value is at least the base to the length less one, so that the value gives the length.
use Rattle.std.specs.Prelude.{ℕ, zero, suc, ◌+◌, ◌-◌, ◌*◌, ◌/◌, ◌%◌, ◌^◌, ◌≤◌, ◌<◌, ◌≡◌, refl, ◌⊎◌, Bool, true, false, cond, ◌&&◌, List, [], ◌∷◌, ◌++◌, length, get_or, leb, ltb}
use Rattle.std.proofs.Common.{le_antisymm, not-suc-le-zero, suc-ne-zero, suc-mul, add-mul, mul_assoc, mul_comm, mul-one, mul-le-mul_right, pow-suc, mod-lt, div-add-mod', div-lt_iff_lt-mul, arith, sym, ap, ap₂, ◌∙◌, subst, inl, inr, length-append, ltb-true, ltb-false, leb-true, leb-false, lt-ltb, le-ltb, le-leb}
use Rattle.std.proofs.Math.Nat.{suc_inj, pow-zero, pow-le-pow_right, div-eq_of_lt, mul-add-div_right}
use Rattle.text.specs.Digits.{digit_of, AllDigits, digits_value, Decimal, Hex8, digit_char, last_digits, tens, digit_places, decimal_of, hex_of}

-- ---- a digit and its character

digit_low : (c : ℕ) → 48 ≤ c → c < 58 → digit_of c ≡ c - 48
unfolding digit_of
digit_low c h g = ap₂ (λ (a b : Bool). cond (a && b) (c - 48) (cond (leb 97 c && ltb c 103) (c - 87) 16)) (le-leb 48 c h) (lt-ltb c 58 g)

digit_high : (c : ℕ) → 97 ≤ c → c < 103 → digit_of c ≡ c - 87
unfolding digit_of
digit_high c h g =
    ap₂ (λ (a b : Bool). cond (a && b) (c - 48) (cond (leb 97 c && ltb c 103) (c - 87) 16)) (le-leb 48 c (omega arith)) (le-ltb c 58 (omega arith))
    ∙ ap₂ (λ (a b : Bool). cond (a && b) (c - 87) 16) (le-leb 97 c h) (lt-ltb c 103 g)

Within : ℕ → Type 0
Within c = ((48 ≤ c) × (c < 58)) ⊎ ((97 ≤ c) × (c < 103))

digit_within : (c : ℕ) → digit_of c < 16 → Within c
unfolding digit_of Within
digit_within c = low (leb 48 c) (ltb c 58) refl refl
  where
    high : (a b : Bool) → leb 97 c ≡ a → ltb c 103 ≡ b → cond (a && b) (c - 87) 16 < 16 → ((48 ≤ c) × (c < 58)) ⊎ ((97 ≤ c) × (c < 103))
    high true true p q h = inr (leb-true 97 c p, ltb-true c 103 q)
    high true false p q h = absurd (omega arith)
    high false b p q h = absurd (omega arith)

    low : (a b : Bool) → leb 48 c ≡ a → ltb c 58 ≡ b → cond (a && b) (c - 48) (cond (leb 97 c && ltb c 103) (c - 87) 16) < 16
        → ((48 ≤ c) × (c < 58)) ⊎ ((97 ≤ c) × (c < 103))
    low true true p q h = inl (leb-true 48 c p, ltb-true c 58 q)
    low true false p q h = high (leb 97 c) (ltb c 103) refl refl h
    low false b p q h = high (leb 97 c) (ltb c 103) refl refl h

-- different digits have different characters
digit_one : (c e : ℕ) → digit_of c < 16 → digit_of e < 16 → digit_of c ≡ digit_of e → c ≡ e
unfolding Within
digit_one c e h g = pick (digit_within c h) (digit_within e g)
  where
    pick : Within c → Within e → digit_of c ≡ digit_of e → c ≡ e
    pick (inl p) (inl q) s = omega (arith, digit_low c p.0 p.1, digit_low e q.0 q.1)
    pick (inl p) (inr q) s = omega (arith, digit_low c p.0 p.1, digit_high e q.0 q.1)
    pick (inr p) (inl q) s = omega (arith, digit_high c p.0 p.1, digit_low e q.0 q.1)
    pick (inr p) (inr q) s = omega (arith, digit_high c p.0 p.1, digit_high e q.0 q.1)

pub char_low : (d : ℕ) → d < 10 → digit_char d ≡ 48 + d
unfolding digit_char
char_low d h = ap (λ (b : Bool). cond b (48 + d) (87 + d)) (lt-ltb d 10 h)

pub char_high : (d : ℕ) → 10 ≤ d → digit_char d ≡ 87 + d
unfolding digit_char
char_high d h = ap (λ (b : Bool). cond b (48 + d) (87 + d)) (le-ltb d 10 h)

digit_char_lem : (d : ℕ) → d < 16 → digit_of (digit_char d) ≡ d
digit_char_lem d h = pick (ltb d 10) refl
  where
    pick : (b : Bool) → ltb d 10 ≡ b → digit_of (digit_char d) ≡ d
    pick true e =
        let g = ltb-true d 10 e in
        let k : digit_of (48 + d) ≡ 48 + d - 48 = digit_low (48 + d) (omega arith) (omega arith) in
        omega (arith, ap digit_of (char_low d g))
    pick false e =
        let g = ltb-false d 10 e in
        let k : digit_of (87 + d) ≡ 87 + d - 87 = digit_high (87 + d) (omega arith) (omega arith) in
        omega (arith, ap digit_of (char_high d g))

-- ---- the value of a text

-- a number below the base and one below a power, put together
below_next : (d b p v : ℕ) → d < b → v < p → d * p + v < p * b
below_next d b p v h g =
    let m : suc d * p ≤ b * p = mul-le-mul_right p h in
    omega (arith, suc-mul d p, mul_comm b p)

same_parts : (d e p v w : ℕ) → v < p → w < p → d * p + v ≡ e * p + w → (d ≡ e) × (v ≡ w)
same_parts d e p v w h g s =
    let o : 0 < p = omega arith in
    let i : d + v / p ≡ e + w / p = sym (mul-add-div_right o d v) ∙ ap (λ (n : ℕ). n / p) s ∙ mul-add-div_right o e w in
    let j : d ≡ e = omega (arith, div-eq_of_lt h, div-eq_of_lt g) in
    (j, omega (arith, ap (λ (n : ℕ). n * p) j))

pub digits_lt : (base : ℕ) (t : List ℕ) → AllDigits base t → digits_value base t < base ^ length t
unfolding AllDigits digits_value
digits_lt base [] a = omega (arith, pow-zero base)
digits_lt base (c ∷ cs) (h, hs) =
    let g = below_next (digit_of c) base (base ^ length cs) (digits_value base cs) h (digits_lt base cs hs) in
    omega (arith, pow-suc base (length cs))

-- a text of digits is given by its length and its value
pub digits-one : (base : ℕ) → base ≤ 16 → (t u : List ℕ) → AllDigits base t → AllDigits base u → length t ≡ length u → digits_value base t ≡ digits_value base u
    → t ≡ u
unfolding AllDigits digits_value
digits-one base m [] [] a b l v = refl
digits-one base m [] (d ∷ ds) a b l v = absurd (suc-ne-zero (length ds) (sym l))
digits-one base m (c ∷ cs) [] a b l v = absurd (suc-ne-zero (length cs) l)
digits-one base m (c ∷ cs) (d ∷ ds) (h, hs) (g, gs) l v =
    let k : length cs ≡ length ds = suc_inj l in
    let low : digits_value base ds < base ^ length cs = subst (λ (n : ℕ). digits_value base ds < base ^ n) (sym k) (digits_lt base ds gs) in
    let s : digit_of c * base ^ length cs + digits_value base cs ≡ digit_of d * base ^ length cs + digits_value base ds =
    v ∙ ap (λ (n : ℕ). digit_of d * base ^ n + digits_value base ds) (sym k) in
    let parts = same_parts (digit_of c) (digit_of d) (base ^ length cs) (digits_value base cs) (digits_value base ds) (digits_lt base cs hs) low s in
    ap₂ (λ (x : ℕ) (xs : List ℕ). x ∷ xs) (digit_one c d (omega arith) (omega arith) parts.0) (digits-one base m cs ds hs gs k parts.1)

-- the first digit 0: the value is below the power of the rest; not 0: it is not below
zero-first : (base k : ℕ) (t : List ℕ) → AllDigits base t → length t ≡ suc k → digit_of (get_or t 0 0) ≡ 0 → digits_value base t < base ^ k
unfolding AllDigits digits_value
zero-first base k [] a l z = absurd (suc-ne-zero k (sym l))
zero-first base k (c ∷ cs) (h, hs) l z =
    let e : length cs ≡ k = suc_inj l in
    let g = digits_lt base cs hs in
    let o : digit_of c * base ^ length cs ≡ 0 * base ^ length cs = ap (λ (n : ℕ). n * base ^ length cs) z in
    omega (arith, ap (λ (n : ℕ). base ^ n) e)

full_first : (base k : ℕ) (t : List ℕ) → length t ≡ suc k → (digit_of (get_or t 0 0) ≡ 0 → ⊥) → base ^ k ≤ digits_value base t
unfolding digits_value
full_first base k [] l z = absurd (suc-ne-zero k (sym l))
full_first base k (c ∷ cs) l z =
    let e : length cs ≡ k = suc_inj l in
    let o : 1 ≤ digit_of c = omega arith in
    let m : 1 * base ^ length cs ≤ digit_of c * base ^ length cs = mul-le-mul_right (base ^ length cs) o in
    omega (arith, ap (λ (n : ℕ). base ^ n) e)

-- ---- the last digits of a number

pub length-last_digits : (base k n : ℕ) → length (last_digits base k n) ≡ k
unfolding last_digits
length-last_digits base zero n = refl
length-last_digits base (suc k) n =
    let e = length-last_digits base k (n / base) in
    omega (arith, length-append (last_digits base k (n / base)) (digit_char (n % base) ∷ []))

all_snoc : (base : ℕ) (t : List ℕ) (c : ℕ) → AllDigits base t → digit_of c < base → AllDigits base (t ++ (c ∷ []))
unfolding AllDigits
all_snoc base [] c a h = (h, tt)
all_snoc base (x ∷ xs) c (g, gs) h = (g, all_snoc base xs c gs h)

pub all-last_digits : (base k n : ℕ) → 0 < base → base ≤ 16 → AllDigits base (last_digits base k n)
unfolding AllDigits last_digits
all-last_digits base zero n o m = tt
all-last_digits base (suc k) n o m =
    let r : n % base < base = mod-lt n o in
    let d : digit_of (digit_char (n % base)) < base = rw (digit_char_lem (n % base) (omega arith)) r in
    all_snoc base (last_digits base k (n / base)) (digit_char (n % base)) (all-last_digits base k (n / base) o m) d

value_snoc : (base : ℕ) (t : List ℕ) (c : ℕ) → digits_value base (t ++ (c ∷ [])) ≡ digits_value base t * base + digit_of c
unfolding digits_value
value_snoc base [] c = omega (arith, mul-one (digit_of c), ap (λ (n : ℕ). digit_of c * n) (pow-zero base))
value_snoc base (x ∷ xs) c =
    let l : length (xs ++ (c ∷ [])) ≡ suc (length xs) = omega (arith, length-append xs (c ∷ [])) in
    let p : base ^ length (xs ++ (c ∷ [])) ≡ base ^ length xs * base = ap (λ (n : ℕ). base ^ n) l ∙ pow-suc base (length xs) in
    let q : digit_of x * base ^ length (xs ++ (c ∷ [])) ≡ digit_of x * base ^ length xs * base =
    ap (λ (n : ℕ). digit_of x * n) p ∙ sym (mul_assoc (digit_of x) (base ^ length xs) base) in
    omega (arith, value_snoc base xs c, add-mul (digit_of x * base ^ length xs) (digits_value base xs) base)

pub value-last_digits : (base k n : ℕ) → 0 < base → base ≤ 16 → n < base ^ k → digits_value base (last_digits base k n) ≡ n
unfolding last_digits digits_value
value-last_digits base zero n o m h = omega (arith, pow-zero base)
value-last_digits base (suc k) n o m h =
    let g : n / base < base ^ k = (div-lt_iff_lt-mul o).1 (subst (λ (p : ℕ). n < p) (pow-suc base k) h) in
    let v : digits_value base (last_digits base k (n / base)) ≡ n / base = value-last_digits base k (n / base) o m g in
    let r : n % base < base = mod-lt n o in
    let d : digit_of (digit_char (n % base)) ≡ n % base = digit_char_lem (n % base) (omega arith) in
    value_snoc base (last_digits base k (n / base)) (digit_char (n % base)) ∙ ap₂ (λ (a b : ℕ). a * base + b) v d ∙ div-add-mod' n base

-- ---- how many digits a number has

-- as many steps as the number are enough
tens-enough : (s n : ℕ) → n ≤ s → n < 10 ^ tens s n
unfolding tens
tens-enough zero n h = omega arith
tens-enough (suc s) zero h = omega arith
tens-enough (suc s) (suc n) h =
    let l : suc n / 10 ≤ s = omega arith in
    let g = tens-enough s (suc n / 10) l in
    omega (arith, pow-suc 10 (tens s (suc n / 10)))

tens_needed : (s n : ℕ) → 0 < tens s n → 10 ^ tens s n ≤ n * 10
unfolding tens
tens_needed zero n h = absurd (omega arith)
tens_needed (suc s) zero h = absurd (omega arith)
tens_needed (suc s) (suc n) h = pick (tens s (suc n / 10)) refl (tens_needed s (suc n / 10))
  where
    pick : (t : ℕ) → tens s (suc n / 10) ≡ t → (0 < tens s (suc n / 10) → 10 ^ tens s (suc n / 10) ≤ suc n / 10 * 10)
        → 10 ^ suc (tens s (suc n / 10)) ≤ suc n * 10
    pick zero e rest = let p = ap (λ (k : ℕ). 10 ^ suc k) e in omega arith
    pick (suc t) e rest = let g = rest (omega arith) in omega (arith, pow-suc 10 (tens s (suc n / 10)))

-- any number of steps that is enough gives the same
tens-same : (s r n : ℕ) → n ≤ s → n ≤ r → tens s n ≡ tens r n
unfolding tens
tens-same zero zero n h g = refl
tens-same zero (suc r) zero h g = refl
tens-same zero (suc r) (suc n) h g = absurd (not-suc-le-zero h)
tens-same (suc s) zero zero h g = refl
tens-same (suc s) zero (suc n) h g = absurd (not-suc-le-zero g)
tens-same (suc s) (suc r) zero h g = refl
tens-same (suc s) (suc r) (suc n) h g = ap suc (tens-same s r (suc n / 10) (omega arith) (omega arith))

pub tens-step : (n : ℕ) → 0 < n → tens n n ≡ suc (tens (n / 10) (n / 10))
unfolding tens
tens-step zero h = absurd (not-suc-le-zero h)
tens-step (suc n) h = ap suc (tens-same n (suc n / 10) (suc n / 10) (omega arith) (omega arith))

pub tens-none : (n : ℕ) → n ≤ 0 → tens n n ≡ 0
unfolding tens
tens-none zero h = refl
tens-none (suc n) h = absurd (not-suc-le-zero h)

pub places-step : (n : ℕ) → digit_places n ≡ suc (tens (n / 10) (n / 10))
unfolding digit_places
places-step n = ap suc (tens-same n (n / 10) (n / 10) (omega arith) (omega arith))

pub lt_places : (n : ℕ) → n < 10 ^ digit_places n
unfolding digit_places
lt_places n = let g = tens-enough n (n / 10) (omega arith) in omega (arith, pow-suc 10 (tens n (n / 10)))

-- ---- the texts that compute meet the definitions

pub decimal-is : (n : ℕ) → Decimal n (decimal_of n)
unfolding decimal_of digit_places
decimal-is n =
    let t = tens n (n / 10) in
    let l : length (last_digits 10 (suc t) n) ≡ suc t = length-last_digits 10 (suc t) n in
    let o : 0 < 10 = omega arith in
    let m : 10 ≤ 16 = omega arith in
    let a : AllDigits 10 (last_digits 10 (suc t) n) = all-last_digits 10 (suc t) n o m in
    let v : digits_value 10 (last_digits 10 (suc t) n) ≡ n = value-last_digits 10 (suc t) n o m (lt_places n) in
    record {
      digits = a;
      number = v;
      some = omega arith;
      lead = λ h z.
          let k : 0 < t = omega arith in
          let u = zero-first 10 t (last_digits 10 (suc t) n) a l z in
          omega (arith, tens_needed n (n / 10) k);
    }

pub hex-is : (n : ℕ) → n < 2 ^ 32 → Hex8 n (hex_of n)
unfolding hex_of
hex-is n h = record {
  digits = all-last_digits 16 8 n (omega arith) (omega arith);
  number = value-last_digits 16 8 n (omega arith) (omega arith) h;
  eight = length-last_digits 16 8 n;
}

-- ---- and no other text does

-- a number below ten to the k has at most k digits
pub decimal-short : (n k : ℕ) (t : List ℕ) → Decimal n t → 0 < k → n < 10 ^ k → length t ≤ k
decimal-short n k t d o h = pick (leb (length t) k) refl
  where
    pick : (b : Bool) → leb (length t) k ≡ b → length t ≤ k
    pick true q = leb-true (length t) k q
    pick false q =
        let g = leb-false (length t) k q in
        let e : length t ≡ suc (length t - 1) = omega arith in
        let low : 10 ^ (length t - 1) ≤ digits_value 10 t = full_first 10 (length t - 1) t e (d.lead (omega arith)) in
        let p : 10 ^ k ≤ 10 ^ (length t - 1) = pow-le-pow_right (omega arith) (omega arith) in
        absurd (omega (arith, d.number))

pub decimal-one : (n : ℕ) (t u : List ℕ) → Decimal n t → Decimal n u → t ≡ u
decimal-one n t u d e =
    let l : length t ≤ length u = decimal-short n (length u) t d e.some (subst (λ (k : ℕ). k < 10 ^ length u) e.number (digits_lt 10 u e.digits)) in
    let g : length u ≤ length t = decimal-short n (length t) u e d.some (subst (λ (k : ℕ). k < 10 ^ length t) d.number (digits_lt 10 t d.digits)) in
    digits-one 10 (omega arith) t u d.digits e.digits (le_antisymm l g) (d.number ∙ sym e.number)

pub hex-one : (n : ℕ) (t u : List ℕ) → Hex8 n t → Hex8 n u → t ≡ u
hex-one n t u d e = digits-one 16 (omega arith) t u d.digits e.digits (d.eight ∙ sym e.eight) (d.number ∙ sym e.number)

-- ---- lengths

pub length-decimal_of : (n : ℕ) → length (decimal_of n) ≡ digit_places n
unfolding decimal_of
length-decimal_of n = length-last_digits 10 (digit_places n) n

pub length-hex_of : (n : ℕ) → length (hex_of n) ≡ 8
unfolding hex_of
length-hex_of n = length-last_digits 16 8 n

pub decimal_le_10 : (n : ℕ) → n < 2 ^ 32 → length (decimal_of n) ≤ 10
decimal_le_10 n h = decimal-short n 10 (decimal_of n) (decimal-is n) (omega arith) (omega arith)

pub decimal_le_20 : (n : ℕ) → n < 2 ^ 64 → length (decimal_of n) ≤ 20
decimal_le_20 n h = decimal-short n 20 (decimal_of n) (decimal-is n) (omega arith) (omega arith)

pub places_le_20 : (n : ℕ) → n < 2 ^ 64 → digit_places n ≤ 20
places_le_20 n h = omega (arith, length-decimal_of n, decimal_le_20 n h)

pub hex_lt : (n : ℕ) (t : List ℕ) → Hex8 n t → n < 2 ^ 32
hex_lt n t d = omega (arith, d.number, digits_lt 16 t d.digits, ap (λ (k : ℕ). 16 ^ k) d.eight)
