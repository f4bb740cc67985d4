-- Steps of the loops that write place by place, and the place of the next vector.
use Prim.Native.Nat.{ℕ, suc, ◌+◌, ◌-◌, ◌*◌, ◌<◌, ◌≤◌}
use mathlib.Core.Path.{◌≡◌}
use mathlib.Core.List.{List}
use native.Mathlib.Nat.{suc-mul, mul_comm, mul-le-mul, mul-le-mul_right, le_of_lt}
use native.Mathlib.Omega.{arith}
use mir.Syntax.{w64}
use mir.Val.{Fits}
use lib.ListN.{set, replicate}
use lib.Seq.{sets}

-- one place more of a run of one number
pub fill_step : (l : List ℕ) (place i count x : ℕ) → i < count
    → sets l (place + i) (replicate (count - i) x) ≡ sets (set l (place + i) x) (place + (i + 1)) (replicate (count - (i + 1)) x)
fill_step l place i count x h =
    let e : count - i ≡ suc (count - (i + 1)) = omega arith in
    let f : place + (i + 1) ≡ suc (place + i) = omega arith in
    rw (e, f)

-- ---- the place of the next vector

pub place-fits : (n d : ℕ) → n < 4096 → d ≤ 128 → Fits w64 (n * d)
place-fits n d h g = let bound : n * d ≤ 4096 * 128 = mul-le-mul (le_of_lt h) g in record { fits = omega arith }

-- a vector below the count has its whole part among the floats
pub place-room : (n d v m b : ℕ) → n < v → n * d + d ≤ d * (v + m + b)
place-room n d v m b h =
    let k : suc n * d ≤ (v + m + b) * d = mul-le-mul_right d (omega arith) in
    omega (arith, suc-mul n d, mul_comm (v + m + b) d)
