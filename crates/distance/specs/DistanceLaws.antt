-- Laws of `distance`.
use Rattle.std.specs.Prelude.{ℕ, zero, suc, ◌*◌, ◌^◌, ◌<◌, ◌≡◌, refl, ◌⊎◌, Bool, true, false, List, [], ◌∷◌, T, eqb, ℤ, pos, negsuc, length, Float}
use Rattle.std.proofs.Common.{ap, inl, inr, arith, zero-add, zero-mul, mul-pos, eq-eqb, ne_eqb, lt-ltb, eqb→eq}
use Rattle.std.proofs.Math.Nat.{sub-zero}
use Rattle.std.proofs.Math.Pow.{pow-lt}
use Rattle.std.specs.Float.{nan, inf, fin, binary32}
use Rattle.std.specs.Float.Ieee.{up, down, of_bits, round, sum, add, sub, mul, fits}
use Rattle.std.specs.Float.Ieee.Fits.{cond-fits, inf-fits, mul-fits, sub-fits, up_pos}
use Rattle.vector.specs.Vector.{dot_from, zero32, dot}
use Rattle.distance.specs.Distance.{one32, distance}

-- by cases of the lengths
pub distance-alike : (xs ys : List Float) → length xs ≡ length ys → distance xs ys ≡ sub binary32 one32 (dot xs ys)
unfolding distance
distance-alike xs ys h = rw (eq-eqb (length xs) (length ys) h)

pub distance-apart : (xs ys : List Float) → (length xs ≡ length ys → ⊥) → distance xs ys ≡ inf false
unfolding distance
distance-apart xs ys h = rw (ne_eqb (length xs) (length ys) h)

-- a distance is an f32
pub distance-fits : (xs ys : List Float) → T (fits binary32 (distance xs ys))
unfolding distance
distance-fits xs ys = cond-fits binary32 (eqb (length xs) (length ys)) (sub binary32 one32 (dot xs ys)) (inf false) (sub-fits binary32 one32 (dot xs ys)) (inf-fits binary32 false)

-- ---- 'A sum begun at +0.0 or -0.0 gives the same distance': two sums are equal, or they are the two zeros

abbrev minus_zero : Float
minus_zero = fin true 0 (pos 0)

abbrev plus_zero : Float
plus_zero = fin false 0 (pos 0)

abbrev Alike : Float → Float → Type 0
Alike a b = (a ≡ b) ⊎ ((a ≡ minus_zero) × (b ≡ plus_zero))

-- a zero added to b / c above zero
sum-zero : (s t : Bool) (b c : ℕ) → 0 < b → sum binary32 s 0 t b c ≡ round binary32 t b c
unfolding sum
sum-zero true true b c h = rw (zero-add b)
sum-zero false false b c h = rw (zero-add b)
sum-zero true false b c h = rw (lt-ltb 0 b h, sub-zero b)
sum-zero false true b c h = rw (lt-ltb 0 b h, sub-zero b)

-- a zero that fits is written in one way
fits-zero : (t : Bool) (d : ℤ) → T (fits binary32 (fin t 0 d)) → d ≡ pos 0
unfolding fits
fits-zero t (pos zero) f = refl
fits-zero t (pos (suc k)) f =
    let e : 2 ^ suc k * 1 ≡ 1 = eqb→eq (2 ^ suc k * 1) 1 f in
    absurd (omega (arith, pow-lt {i = 0} {j = suc k} (omega arith)))
fits-zero t (negsuc k) f =
    let e : 1 * 2 ^ suc k ≡ 1 = eqb→eq (1 * 2 ^ suc k) 1 f in
    absurd (omega (arith, pow-lt {i = 0} {j = suc k} (omega arith)))

add-two-zeros : (t : Bool) → Alike (add binary32 minus_zero (fin t 0 (pos 0))) (add binary32 plus_zero (fin t 0 (pos 0)))
unfolding add
add-two-zeros true = inr (refl, refl)
add-two-zeros false = inl refl

add-zeros : (p : Float) → T (fits binary32 p) → Alike (add binary32 minus_zero p) (add binary32 plus_zero p)
unfolding add
add-zeros nan f = inl refl
add-zeros (inf t) f = inl refl
add-zeros (fin t zero d) f = rw (fits-zero t d f) (add-two-zeros t)
add-zeros (fin t (suc n) d) f =
    let h : 0 < suc n * up d * 1 = omega (arith, mul-pos {m = suc n} {n = up d} (omega arith) (up_pos d)) in
    inl
    (rw (
      zero-mul (down d),
      sum-zero true t (suc n * up d * 1) (1 * down d) h,
      sum-zero false t (suc n * up d * 1) (1 * down d) h,
    ))

add-alike : (a b p : Float) → T (fits binary32 p) → Alike a b → Alike (add binary32 a p) (add binary32 b p)
add-alike a b p f (inl e) = inl (ap (λ (x : Float). add binary32 x p) e)
add-alike a b p f (inr e) = rw (e.0, e.1) (add-zeros p f)

dot_from-alike : (a b : Float) (xs ys : List Float) → Alike a b → Alike (dot_from a xs ys) (dot_from b xs ys)
unfolding dot_from
dot_from-alike a b [] ys h = h
dot_from-alike a b (x ∷ xs) [] h = h
dot_from-alike a b (x ∷ xs) (y ∷ ys) h =
    let p = mul binary32 x y in
    dot_from-alike (add binary32 a p) (add binary32 b p) xs ys (add-alike a b p (mul-fits binary32 x y) h)

sub_alike : (a b : Float) → Alike a b → sub binary32 one32 a ≡ sub binary32 one32 b
unfolding sub one32
sub_alike a b (inl e) = ap (sub binary32 one32) e
sub_alike a b (inr e) = rw (e.0, e.1)

pub distance_from_minus_zero : (xs ys : List Float)
    → sub binary32 one32 (dot_from (of_bits binary32 0x80000000) xs ys) ≡ sub binary32 one32 (dot_from zero32 xs ys)
unfolding of_bits zero32
distance_from_minus_zero xs ys =
    sub_alike (dot_from (of_bits binary32 0x80000000) xs ys) (dot_from zero32 xs ys)
    (dot_from-alike (of_bits binary32 0x80000000) zero32 xs ys (inr (refl, refl)))
