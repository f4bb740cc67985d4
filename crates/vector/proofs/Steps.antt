-- What a pass over a vector tells, component by component: of the first i and of those from the place i on, together of all. Assumes nothing.
use Prim.Native.Nat.{ℕ, suc, ◌+◌, ◌-◌, ◌≤◌, ◌<◌, min}
use mathlib.Core.Path.{◌≡◌, refl, sym, ap, ◌∙◌}
use mathlib.Core.Bool.{Bool, ◌&&◌, and_assoc, and-true}
use mathlib.Core.List.{List}
use native.Mathlib.Numerals.{add-one}
use native.Mathlib.Omega.{arith}
use lib.ListN.{length, get_or, drop, drop_of_length-le}
use lib.Seq.{drop-cons}
use Rattle.std.specs.Float.{Float, nan, inf, fin, float_is_finite}
use Rattle.vector.specs.Vector.{finite, all_finite, dot, dot_from, dot_step}
use Rattle.vector.specs.VectorLaws.{dot_from_turn, dot_from-end}

-- the library's test is the definition
pub finite_is : (x : Float) → float_is_finite x ≡ finite x
unfolding finite float_is_finite
finite_is nan = refl
finite_is (inf s) = refl
finite_is (fin s m e) = refl

-- all components are finite just if the first i are and those left are; the sum of squares is what is left, summed on from s
abbrev pub ScannedTo : List Float → Bool → Float → ℕ → Type 0
ScannedTo v f s i = (all_finite v ≡ f && all_finite (drop i v)) × (dot v v ≡ dot_from s (drop i v) (drop i v))

all_finite-cons : (v : List Float) (i : ℕ) → i < length v → all_finite (drop i v) ≡ finite (get_or v i nan) && all_finite (drop (suc i) v)
unfolding all_finite
all_finite-cons v i h = rw (drop-cons v i nan)

all_finite_turn : (x all one : Bool) (v : List Float) (i : ℕ) → x ≡ all && all_finite (drop i v) → i < length v → one ≡ all && finite (get_or v i nan)
    → x ≡ one && all_finite (drop (i + 1) v)
all_finite_turn x all one v i e h f =
    e ∙ ap (λ (b : Bool). all && b) (all_finite-cons v i h) ∙ sym (and_assoc all (finite (get_or v i nan)) (all_finite (drop (suc i) v))) ∙ rw (f, add-one)

all_finite-end : (x all : Bool) (v : List Float) (i : ℕ) → x ≡ all && all_finite (drop i v) → length v ≤ i → all ≡ x
unfolding all_finite
all_finite-end x all v i e h = sym (e ∙ rw (drop_of_length-le v h) (and-true all))

-- one component more
pub scanned_turn : (v : List Float) (f g : Bool) (s t : Float) (i j : ℕ) → ScannedTo v f s i → i < length v → g ≡ f && finite (get_or v i nan)
    → t ≡ dot_step s v v i → j ≡ i + 1 → ScannedTo v g t j
scanned_turn v f g s t i j e h one sum next =
    (rw next (all_finite_turn _ f g v i e.0 h one), rw (next, sum) (dot_from_turn _ s v v (length v) i e.1 (let m : length v ≡ min (length v) (length v) = omega arith in m) h))

-- four components more
pub scanned_four : (v : List Float) (f g : Bool) (s : Float) (i : ℕ) → ScannedTo v f s i → 4 ≤ length v - i
    → g ≡ (finite (get_or v i nan) && (finite (get_or v (i + 1) nan) && (finite (get_or v (i + 2) nan) && finite (get_or v (i + 3) nan))))
    → ScannedTo v (f && g) (dot_step (dot_step (dot_step (dot_step s v v i) v v (i + 1)) v v (i + 2)) v v (i + 3)) (i + 4)
scanned_four v f g s i e h told =
    let a = finite (get_or v i nan) in
    let b = finite (get_or v (i + 1) nan) in
    let c = finite (get_or v (i + 2) nan) in
    let d = finite (get_or v (i + 3) nan) in
    let one = scanned_turn v f (f && a) s (dot_step s v v i) i (i + 1) e (omega arith) refl refl refl in
    let two = scanned_turn v (f && a) ((f && a) && b) _ _ (i + 1) (i + 2) one (omega arith) refl refl (omega arith) in
    let three = scanned_turn v ((f && a) && b) (((f && a) && b) && c) _ _ (i + 2) (i + 3) two (omega arith) refl refl (omega arith) in
    let grouped : f && g ≡ (((f && a) && b) && c) && d =
    ap (λ (x : Bool). f && x) told ∙ sym (and_assoc f a (b && (c && d))) ∙ sym (and_assoc (f && a) b (c && d)) ∙ sym (and_assoc ((f && a) && b) c d) in
    scanned_turn v (((f && a) && b) && c) (f && g) _ _ (i + 3) (i + 4) three (omega arith) grouped refl (omega arith)

-- none is left
pub scanned_end : (v : List Float) (f : Bool) (s : Float) (i : ℕ) → ScannedTo v f s i → length v ≤ i → (f ≡ all_finite v) × (s ≡ dot v v)
scanned_end v f s i e h = (
  all_finite-end _ f v i e.0 h,
  dot_from-end _ s v v (length v) i e.1 (let m : length v ≡ min (length v) (length v) = omega arith in m) h,
)
