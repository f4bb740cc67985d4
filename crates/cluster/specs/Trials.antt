-- The clusters of document 01's worked example: (1, 0), (0, 1) and (0.6, 0.8), B 2.
use Rattle.std.specs.Prelude.{List, [], ◌∷◌, map, ◌≡◌, refl, Float}
use Rattle.std.specs.Float.{binary32}
use Rattle.std.specs.Float.Ieee.{of_bits}
use Rattle.cluster.specs.Clusters.{clusters}

unfoldable pub sample : List (List Float)
unfolding of_bits
sample =
    map (map (of_bits binary32))
    ((0x3F800000 ∷ 0 ∷ []) ∷ (0 ∷ 0x3F800000 ∷ []) ∷ (0x3F19999A ∷ 0x3F4CCCCD ∷ []) ∷ [])

pub split : clusters 2 2 sample (0 ∷ 1 ∷ 2 ∷ []) ≡ (0 ∷ []) ∷ (1 ∷ 2 ∷ []) ∷ []
unfolding clusters sample
split = refl
