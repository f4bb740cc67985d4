-- Laws of vectors: which values are f32s, and lengths.
use Rattle.std.specs.Prelude.{ℕ, zero, suc, ◌+◌, ◌≤◌, ◌<◌, min, ◌≡◌, refl, Bool, true, false, cond, List, [], ◌∷◌, map, T, length, drop, Float}
use Rattle.std.proofs.Common.{sym, ◌∙◌, arith, add-one, drop-cons}
use Rattle.std.proofs.lemmas.List.{length-map}
use Rattle.std.proofs.Math.Seq.{drop-nil}
use Rattle.std.specs.Float.{nan, binary32}
use Rattle.std.specs.Float.Ieee.{add, mul, div, lt, fits}
use Rattle.std.specs.Float.Ieee.Bits.{of_bits-fits}
use Rattle.std.specs.Float.Ieee.Fits.{add-fits}
use Rattle.vector.specs.Vector.{dot_from, dot_step, zero32, dot, threshold, divided_by}

-- ---- a sum of products is an f32

pub dot_from-fits : (a : Float) (xs ys : List Float) → T (fits binary32 a) → T (fits binary32 (dot_from a xs ys))
unfolding dot_from
dot_from-fits a [] ys f = f
dot_from-fits a (x ∷ xs) [] f = f
dot_from-fits a (x ∷ xs) (y ∷ ys) f = dot_from-fits (add binary32 a (mul binary32 x y)) xs ys (add-fits binary32 a (mul binary32 x y))

pub dot-fits : (xs ys : List Float) → T (fits binary32 (dot xs ys))
unfolding dot zero32
dot-fits xs ys = dot_from-fits zero32 xs ys (of_bits-fits binary32 0)

-- ---- a sum of products, component by component: what is due from the place i on is one step, then what is due from the next place

dot_from-cons : (s : Float) (xs ys : List Float) (i : ℕ) → i < length xs → i < length ys
    → dot_from s (drop i xs) (drop i ys) ≡ dot_from (dot_step s xs ys i) (drop (suc i) xs) (drop (suc i) ys)
unfolding dot_from
dot_from-cons s xs ys i h k = rw (drop-cons xs i nan, drop-cons ys i nan)

pub dot_from_turn : (x s : Float) (xs ys : List Float) (n i : ℕ) → x ≡ dot_from s (drop i xs) (drop i ys) → n ≡ min (length xs) (length ys) → i < n
    → x ≡ dot_from (dot_step s xs ys i) (drop (i + 1) xs) (drop (i + 1) ys)
dot_from_turn x s xs ys n i e m h = e ∙ dot_from-cons s xs ys i (omega arith) (omega arith) ∙ rw add-one

dot_from-nil : (s : Float) (xs : List Float) → dot_from s xs [] ≡ s
unfolding dot_from
dot_from-nil s [] = refl
dot_from-nil s (x ∷ xs) = refl

due-none : (s : Float) (xs ys : List Float) (i : ℕ) → min (length xs) (length ys) ≤ i → dot_from s (drop i xs) (drop i ys) ≡ s
unfolding dot_from
due-none s [] ys i h = rw (drop-nil i)
due-none s (x ∷ xs) [] i h = rw (drop-nil i) (dot_from-nil s (drop i (x ∷ xs)))
due-none s (x ∷ xs) (y ∷ ys) zero h = absurd (omega arith)
due-none s (x ∷ xs) (y ∷ ys) (suc i) h = due-none s xs ys i (omega arith)

pub dot_from-end : (x s : Float) (xs ys : List Float) (n i : ℕ) → x ≡ dot_from s (drop i xs) (drop i ys) → n ≡ min (length xs) (length ys) → n ≤ i → s ≡ x
dot_from-end x s xs ys n i e m h = sym (e ∙ due-none s xs ys i (omega arith))

-- ---- what is stored is as long as the vector

pub length-divided_by : (n : Float) (v : List Float) → length (divided_by n v) ≡ length v
unfolding divided_by
length-divided_by n v = go (lt threshold n)
  where
    go : (t : Bool) → length (cond t (map (λ x. div binary32 x n) v) v) ≡ length v
    go true = length-map v (λ x. div binary32 x n)
    go false = refl
