-- Vectors: finiteness, the norm, and what is stored of a vector (document 01, 'Root and length' and refusal 8).
use Rattle.std.specs.Prelude.{ℕ, Bool, true, false, ◌&&◌, cond, ◌≡◌, List, [], ◌∷◌, map, get_or, Float}
use Rattle.std.specs.Float.{nan, inf, fin, binary32}
use Rattle.std.specs.Float.Ieee.{of_bits, add, mul, div, lt}
use Rattle.square_root.specs.Root.{Root}

-- IEEE 754's classes: zero, subnormal and normal values are finite; infinities and NaN are not.
unfoldable pub finite : Float → Bool
finite nan = false
finite (inf s) = false
finite (fin s m e) = true

-- what refusal 8 asks: every component is finite
unfoldable pub all_finite : List Float → Bool
unfolding finite
all_finite [] = true
all_finite (x ∷ xs) = finite x && all_finite xs

-- The left-to-right sum of products begun at a, each operation rounded once, never fused; it ends with the shorter list.
unfoldable pub dot_from : Float → List Float → List Float → Float
unfolding add mul
dot_from a [] ys = a
dot_from a (x ∷ xs) [] = a
dot_from a (x ∷ xs) (y ∷ ys) = dot_from (add binary32 a (mul binary32 x y)) xs ys

-- one step of it: s with the product of the components at place i added
abbrev pub dot_step : Float → List Float → List Float → ℕ → Float
dot_step s xs ys i = add binary32 s (mul binary32 (get_or xs i nan) (get_or ys i nan))

-- +0.0
unfoldable pub zero32 : Float
unfolding of_bits
zero32 = of_bits binary32 0

-- the sum of products from +0.0
unfoldable pub dot : List Float → List Float → Float
unfolding dot_from zero32
dot xs ys = dot_from zero32 xs ys

-- 'Norm: root of the left-to-right sum of squares': n is the norm of v
unfoldable pub Norm : List Float → Float → Type 0
unfolding Root dot
Norm v n = Root (dot v v) n

-- the f32 1e-10
unfoldable pub threshold : Float
unfolding of_bits
threshold = of_bits binary32 0x2EDBE6FF

-- 'A norm above f32 1e-10 divides each component; otherwise they are stored undivided.'
unfoldable pub divided_by : Float → List Float → List Float
unfolding lt threshold div
divided_by n v = cond (lt threshold n) (map (λ x. div binary32 x n) v) v

-- w is what is stored of v, where squares is the sum of its squares
pub record Normalized (squares : Float) (v w : List Float) : Type 0 where
  pub norm : Float
  pub root : Root squares norm
  pub stored : w ≡ divided_by norm v
