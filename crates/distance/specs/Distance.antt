-- The distance of two stored vectors (document 01, 'Distance'; `cosine_distance_normalized`).
use Rattle.std.specs.Prelude.{false, cond, List, length, eqb, Float}
use Rattle.std.specs.Float.{inf, binary32}
use Rattle.std.specs.Float.Ieee.{of_bits, sub}
use Rattle.vector.specs.Vector.{dot}

-- 1.0
unfoldable pub one32 : Float
unfolding of_bits
one32 = of_bits binary32 0x3F800000

-- '1.0 minus the left-to-right sum of products, never fused'; as in the Rust, vectors of different lengths are at distance infinity.
unfoldable pub distance : List Float → List Float → Float
unfolding one32 sub dot
distance xs ys = cond (eqb (length xs) (length ys)) (sub binary32 one32 (dot xs ys)) (inf false)
