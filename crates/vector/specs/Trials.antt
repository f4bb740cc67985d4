-- Values beside document 01's trial echoes (those are crates/trial_table/specs/Table.antt), computed from the definitions.
use Rattle.std.specs.Prelude.{ℕ, ◌≡◌, refl, true, false, List, [], ◌∷◌, map, Float}
use Rattle.std.specs.Float.{binary32}
use Rattle.std.specs.Float.Ieee.{of_bits, to_bits}
use Rattle.vector.specs.Vector.{all_finite, dot}
use Rattle.vector.specs.Normalized.{normalized}

-- a vector by its patterns, and the pattern of the sum of its squares
of_patterns : List ℕ → List Float
unfolding of_bits
of_patterns patterns = map (of_bits binary32) patterns

squares_of : List ℕ → ℕ
unfolding of_patterns dot to_bits
squares_of patterns = to_bits binary32 (dot (of_patterns patterns) (of_patterns patterns))

-- (1e30, -1e30): both are finite, the sum of their squares is infinite, and they are stored as (0.0, -0.0)
overflow :
    (all_finite (of_patterns (0x7149F2CA ∷ 0xF149F2CA ∷ [])) ≡ true)
    × (squares_of (0x7149F2CA ∷ 0xF149F2CA ∷ []) ≡ 0x7F800000)
    × (map (to_bits binary32) (normalized (of_patterns (0x7149F2CA ∷ 0xF149F2CA ∷ []))) ≡ 0 ∷ 0x80000000 ∷ [])
unfolding of_patterns squares_of all_finite normalized to_bits
overflow = (refl, refl, refl)

-- from left to right: after 1 each 2^-24 is rounded away; before it the two add up to 2^-23
order :
    (squares_of (0x3F800000 ∷ 0x39800000 ∷ 0x39800000 ∷ []) ≡ 0x3F800000)
    × (squares_of (0x39800000 ∷ 0x39800000 ∷ 0x3F800000 ∷ []) ≡ 0x3F800001)
unfolding squares_of
order = (refl, refl)

-- an infinity or a NaN at the first, the last and a middle place
not_finite :
    (all_finite (of_patterns (0x7F800000 ∷ 0 ∷ [])) ≡ false)
    × (all_finite (of_patterns (0 ∷ 0xFF800000 ∷ [])) ≡ false)
    × (all_finite (of_patterns (0 ∷ 0x7FC00000 ∷ 0 ∷ [])) ≡ false)
unfolding of_patterns all_finite
not_finite = (refl, refl, refl)
