-- A sum of products of vectors of one length, component by component. What is still due from the place i on is one step, then what is due from the
-- next place.
use Prim.Native.Nat.{ℕ, ◌+◌, ◌-◌, ◌≤◌, ◌<◌, min}
use mathlib.Core.Path.{◌≡◌, refl}
use mathlib.Core.List.{List}
use native.Mathlib.Omega.{arith}
use lib.ListN.{length, drop}
use lib.Ieee.{Float}
use Rattle.vector.specs.Vector.{dot_from, dot_step}
use Rattle.vector.specs.VectorLaws.{dot_from_turn, dot_from-end}

-- the lengths are equal, and x is what is due from i on, begun at s
abbrev pub Due : Float → Float → List Float → List Float → ℕ → Type 0
Due x s xs ys i = (length ys ≡ length xs) × (x ≡ dot_from s (drop i xs) (drop i ys))

min-same : {m n : ℕ} → n ≡ m → m ≡ min m n
min-same e = omega arith

pub due-step : (x s t : Float) (xs ys : List Float) (i j : ℕ) → Due x s xs ys i → i < length xs → t ≡ dot_step s xs ys i → j ≡ i + 1 → Due x t xs ys j
due-step x s t xs ys i j e h f k = (e.0, rw (f, k) (dot_from_turn x s xs ys (length xs) i e.1 (min-same e.0) h))

-- four steps, as a turn of `dot_four` takes them
pub due-four : (x s t u v w : Float) (xs ys : List Float) (i : ℕ) → Due x s xs ys i → 4 ≤ length xs - i
    → t ≡ dot_step s xs ys i → u ≡ dot_step t xs ys (i + 1) → v ≡ dot_step u xs ys (i + 2) → w ≡ dot_step v xs ys (i + 3) → Due x w xs ys (i + 4)
due-four x s t u v w xs ys i e h ft fu fv fw =
    let one = due-step x s t xs ys i (i + 1) e (omega arith) ft refl in
    let two = due-step x t u xs ys (i + 1) (i + 2) one (omega arith) fu (omega arith) in
    let three = due-step x u v xs ys (i + 2) (i + 3) two (omega arith) fv (omega arith) in
    due-step x v w xs ys (i + 3) (i + 4) three (omega arith) fw (omega arith)

pub due-end : (x s : Float) (xs ys : List Float) (i : ℕ) → Due x s xs ys i → length xs ≤ i → s ≡ x
due-end x s xs ys i e h = dot_from-end x s xs ys (length xs) i e.1 (min-same e.0) h
