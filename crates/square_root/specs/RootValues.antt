-- A bit pattern's value is `magnitude` of the pattern without its sign, in units of 2 ^ -149. So the root of a value is read off its pattern, case by case.
use Rattle.std.specs.Prelude.{ℕ, zero, suc, ◌+◌, ◌*◌, ◌/◌, ◌%◌, ◌^◌, ◌<◌, ◌≤◌, Bool, true, false, not, ◌⊎◌, ◌≡◌, refl, ℤ, T, leb, ltb, eqb, Float}
use Rattle.std.proofs.Common.{mul_assoc, mul-one, mul_right_comm, mul-pos, mul-div_cancel, zero-mul, lt_irrefl, arith, inl, inr, sym, ap, ◌∙◌, subst, le→leb, lt→ltb, eqb→eq}
use Rattle.std.proofs.Math.Dec.{not_T}
use Rattle.std.proofs.Math.Arith.{lt→nleb, le→nltb}
use Rattle.std.specs.Float.{nan, inf, fin, binary32}
use Rattle.std.specs.Float.Ieee.{up, down, odd, fits, is_nan, of_fields, of_bits, nan_bits, to_bits}
use Rattle.std.specs.Float.Ieee.Bits.{is_true, is_false, cond_no, of_bits-to_bits, to_bits-lt, to_bits-of_bits, of_bits-fits, nan_bits_is, nan_bits_above}
use Rattle.std.specs.Float.Ieee.Exact.{HasValue, odd_sign}
use Rattle.std.specs.Float.Ieee.Fits.{down_pos}
use Rattle.float_bits.specs.NanLaws.{nan_of_is_nan}
use Rattle.square_root.specs.Root.{magnitude, Nearest, fine_units, Root}
use Rattle.square_root.specs.RootLaws.{below_or_not, magnitude-at, magnitude-low, magnitude_pos}

-- ---- from a pattern to its value

fields_value : (s : Bool) (x t : ℕ) → x < 255 → t < 2 ^ 23 → HasValue (of_fields binary32 s x t) s (magnitude (x * 2 ^ 23 + t)) (2 ^ 149)
unfolding of_fields
fields_value s zero t X H =
    let same : 0 * 2 ^ 23 + t ≡ t = omega arith in
    subst (λ (a : ℕ). HasValue (of_fields binary32 s 0 t) s a (2 ^ 149)) (mul-one t ∙ sym (ap magnitude same ∙ magnitude-low t (omega arith))) (odd_sign 24 s t 0 149)
fields_value s (suc x) t X H =
    let same : suc x * 2 ^ 23 + t ≡ x * 2 ^ 23 + (2 ^ 23 + t) = omega arith in
    subst (λ (v : Float). HasValue v s (magnitude (suc x * 2 ^ 23 + t)) (2 ^ 149)) (sym (cond_no (eqb (suc x) 255) _ _ (not_T (eqb (suc x) 255) (λ e. other (eqb→eq (suc x) 255 e)))))
    (subst (λ (a : ℕ). HasValue (odd 24 s (2 ^ 23 + t) x 149) s a (2 ^ 149)) (sym (ap magnitude same ∙ magnitude-at x (2 ^ 23 + t) (omega arith) (omega arith))) (odd_sign 24 s (2 ^ 23 + t) x 149))
  where
    other : suc x ≡ 255 → ⊥
    other e = omega arith

pub pattern-value : (b : ℕ) → b % 2 ^ 31 < 0x7F800000 → HasValue (of_bits binary32 b) (leb (2 ^ 31) b) (magnitude (b % 2 ^ 31)) (2 ^ 149)
unfolding of_bits
pattern-value b h =
    let joined : b % 2 ^ 31 / 2 ^ 23 * 2 ^ 23 + b % 2 ^ 23 ≡ b % 2 ^ 31 = omega arith in
    subst (λ (a : ℕ). HasValue (of_fields binary32 (leb (2 ^ 31) b) (b % 2 ^ 31 / 2 ^ 23) (b % 2 ^ 23)) (leb (2 ^ 31) b) (magnitude a) (2 ^ 149)) joined
    (fields_value (leb (2 ^ 31) b) (b % 2 ^ 31 / 2 ^ 23) (b % 2 ^ 23) (omega arith) (omega arith))

-- a nonzero value has a nonzero significand
never-zero : (a e c : ℕ) (u : ℕ) → 0 < a → 0 < e → 0 * u * c ≡ a * e → ⊥
never-zero a e c u p q h =
    let nothing : 0 * u * c ≡ 0 = ap (λ (x : ℕ). x * c) (zero-mul u) ∙ zero-mul c in
    lt_irrefl 0 (subst (λ (x : ℕ). 0 < x) (sym h ∙ nothing) (mul-pos p q))

-- ---- the root of a value, by its pattern

-- the magnitude in units of 2 ^ -300
pub fine_is : (m : ℕ) (e : ℤ) (a : ℕ) → m * up e * 2 ^ 149 ≡ a * down e → fine_units m e ≡ a * 2 ^ 151
unfolding fine_units
fine_is m e a h =
    let product : m * up e * 2 ^ 300 ≡ a * 2 ^ 151 * down e = sym (mul_assoc (m * up e) (2 ^ 149) (2 ^ 151)) ∙ ap (λ (x : ℕ). x * 2 ^ 151) h ∙ mul_right_comm a (down e) (2 ^ 151) in
    ap (λ (x : ℕ). x / down e) product ∙ mul-div_cancel (a * 2 ^ 151) (down_pos e)

-- A value above zero, with the magnitude a in units of 2 ^ -149, has the root that is nearest to a * 2 ^ 151 units of 2 ^ -300.
root-positive : (x r : Float) (a : ℕ) → HasValue x false a (2 ^ 149) → 0 < a → T (fits binary32 r) → Nearest (a * 2 ^ 151) (to_bits binary32 r) → Root x r
unfolding Root
root-positive nan r a v p f n = absurd v
root-positive (inf s) r a v p f n = absurd v
root-positive (fin s zero e) r a v p f n = absurd (never-zero a (down e) (2 ^ 149) (up e) p (down_pos e) v.1)
root-positive (fin false (suc m) e) r a v p f n = (f, subst (λ (q : ℕ). Nearest q (to_bits binary32 r)) (sym (fine_is (suc m) e a v.1)) n)
root-positive (fin true (suc m) e) r a v p f n = absurd (subst T v.0 tt)

root_negative : (x : Float) (a c : ℕ) → HasValue x true a c → 0 < a → Root x nan
unfolding Root
root_negative nan a c v p = absurd v
root_negative (inf s) a c v p = absurd v
root_negative (fin s zero e) a c v p = absurd (never-zero a (down e) c (up e) p (down_pos e) v.1)
root_negative (fin false (suc m) e) a c v p = absurd (subst T (sym v.0) tt)
root_negative (fin true (suc m) e) a c v p = refl

-- a root's pattern is one of a finite value, so it is no NaN's
pub finite-pattern : (b : ℕ) → b < 0x7F800000 → not (nan_bits binary32 b) ≡ true
finite-pattern b h =
    let least : b % 2 ^ 31 ≤ 0x7F800000 = omega arith in
    ap not (nan_bits_above binary32 b ∙ is_false (ltb 0x7F800000 (b % 2 ^ 31)) (le→nltb 0x7F800000 (b % 2 ^ 31) least))

no_nan : (b : ℕ) → b < 0x7F800000 → T (not (is_nan (of_bits binary32 b)))
no_nan b h = subst T (sym (finite-pattern b h) ∙ ap not (nan_bits_is binary32 b)) tt

pub bits-written : (b : ℕ) → b < 0x7F800000 → to_bits binary32 (of_bits binary32 b) ≡ b
bits-written b h = to_bits-of_bits binary32 b (omega arith) (no_nan b h)

less : (b : ℕ) → suc b < 0x7F800000 → b < 0x7F800000
less b h = omega arith

-- by patterns: above zero and finite
pub bits-value : (x : Float) → T (fits binary32 x) → to_bits binary32 x < 0x7F800000 → HasValue x false (magnitude (to_bits binary32 x)) (2 ^ 149)
bits-value x f h =
    let b = to_bits binary32 x in
    let plain : b % 2 ^ 31 ≡ b = omega arith in
    let sign : leb (2 ^ 31) b ≡ false = is_false (leb (2 ^ 31) b) (lt→nleb (2 ^ 31) b (omega arith)) in
    let whole : b % 2 ^ 31 < 0x7F800000 = omega arith in
    subst (λ (v : Float). HasValue v false (magnitude b) (2 ^ 149)) (of_bits-to_bits binary32 x f)
    (subst (λ (s : Bool). HasValue (of_bits binary32 b) s (magnitude b) (2 ^ 149)) sign
    (subst (λ (a : ℕ). HasValue (of_bits binary32 b) (leb (2 ^ 31) b) (magnitude a) (2 ^ 149)) plain (pattern-value b whole)))

pub root_of_bits : (x : Float) (r : ℕ) → T (fits binary32 x) → 0 < to_bits binary32 x → to_bits binary32 x < 0x7F800000 → Nearest (magnitude (to_bits binary32 x) * 2 ^ 151) r → Root x (of_bits binary32 r)
root_of_bits x r f p h n =
    root-positive x (of_bits binary32 r) (magnitude (to_bits binary32 x)) (bits-value x f h) (magnitude_pos (to_bits binary32 x) p) (of_bits-fits binary32 r)
    (subst (λ (b : ℕ). Nearest (magnitude (to_bits binary32 x) * 2 ^ 151) b) (sym (bits-written r (less r n.finite))) n)

-- zero, of either sign
zero_pattern : (b : ℕ) → b < 2 ^ 32 → b % 2 ^ 31 ≡ 0 → Root (of_bits binary32 b) (of_bits binary32 b)
unfolding Root of_bits
zero_pattern b l h = go (below_or_not b (2 ^ 31))
  where
    go : (b < 2 ^ 31) ⊎ (2 ^ 31 ≤ b) → Root (of_bits binary32 b) (of_bits binary32 b)
    go (inl k) =
        let e : b ≡ 0 = omega arith in
        subst (λ (c : ℕ). Root (of_bits binary32 c) (of_bits binary32 c)) (sym e) refl
    go (inr k) =
        let e : b ≡ 2 ^ 31 = omega arith in
        subst (λ (c : ℕ). Root (of_bits binary32 c) (of_bits binary32 c)) (sym e) refl

infinity_pattern : (b : ℕ) → b ≡ 0x7F800000 → Root (of_bits binary32 b) (of_bits binary32 b)
unfolding Root of_bits
infinity_pattern b e = subst (λ (c : ℕ). Root (of_bits binary32 c) (of_bits binary32 c)) (sym e) refl

pub root_of_nan : (x : Float) → x ≡ nan → Root x nan
unfolding Root
root_of_nan x h = subst (λ (v : Float). Root v nan) (sym h) refl

-- below zero: a pattern with the sign's bit that is not -0.0's, or a NaN's
negative_pattern : (b : ℕ) → b < 2 ^ 32 → 0x7F800000 < b → (b % 2 ^ 31 ≡ 0 → ⊥) → Root (of_bits binary32 b) nan
unfolding Root of_bits
negative_pattern b l h z = go (below_or_not (b % 2 ^ 31) 0x7F800000) (below_or_not 0x7F800000 (b % 2 ^ 31))
  where
    go : (b % 2 ^ 31 < 0x7F800000) ⊎ (0x7F800000 ≤ b % 2 ^ 31) → (0x7F800000 < b % 2 ^ 31) ⊎ (b % 2 ^ 31 ≤ 0x7F800000) → Root (of_bits binary32 b) nan
    go (inl u) v =
        let sign : leb (2 ^ 31) b ≡ true = is_true (leb (2 ^ 31) b) (le→leb (2 ^ 31) b (omega arith)) in
        root_negative (of_bits binary32 b) (magnitude (b % 2 ^ 31)) (2 ^ 149) (subst (λ (s : Bool). HasValue (of_bits binary32 b) s (magnitude (b % 2 ^ 31)) (2 ^ 149)) sign (pattern-value b u)) (magnitude_pos (b % 2 ^ 31) (omega arith))
    go (inr u) (inl v) =
        root_of_nan (of_bits binary32 b) (nan_of_is_nan (of_bits binary32 b) (sym (nan_bits_is binary32 b) ∙ nan_bits_above binary32 b ∙ is_true (ltb 0x7F800000 (b % 2 ^ 31)) (lt→ltb 0x7F800000 (b % 2 ^ 31) v)))
    go (inr u) (inr v) =
        let e : b ≡ 0xFF800000 = omega arith in
        subst (λ (c : ℕ). Root (of_bits binary32 c) nan) (sym e) refl

module _ (x : Float) (f : T (fits binary32 x)) where
  pub root_of_zero : to_bits binary32 x % 2 ^ 31 ≡ 0 → Root x x
  root_of_zero z = subst (λ (v : Float). Root v v) (of_bits-to_bits binary32 x f) (zero_pattern (to_bits binary32 x) (to_bits-lt binary32 x f) z)

  pub root_of_infinity : to_bits binary32 x ≡ 0x7F800000 → Root x x
  root_of_infinity e = subst (λ (v : Float). Root v v) (of_bits-to_bits binary32 x f) (infinity_pattern (to_bits binary32 x) e)

  pub root-below-zero : 0x7F800000 < to_bits binary32 x → (to_bits binary32 x % 2 ^ 31 ≡ 0 → ⊥) → Root x nan
  root-below-zero h z = subst (λ (v : Float). Root v nan) (of_bits-to_bits binary32 x f) (negative_pattern (to_bits binary32 x) (to_bits-lt binary32 x f) h z)
