-- One more than the power of ten that the number reaches.
use Prim.Native.Nat.{ℕ, zero, suc, max, ◌*◌, ◌/◌, ◌^◌, ◌≤◌, ◌<◌}
use mathlib.Core.Path.{◌≡◌}
use native.Mathlib.Nat.{pow-suc, pow-zero}
use native.Mathlib.Omega.{arith}
use Rattle.text.specs.Digits.{tens, digit_places}
use Rattle.text.specs.DigitsLaws.{tens-step, tens-none, places-step}
use Rattle.text.proofs.digits.decimal_places.Goals as goal

tens-power : (k m : ℕ) → 10 ^ k ≤ m → m < 10 * 10 ^ k → tens m m ≡ suc k
tens-power zero m a b = let p = pow-zero 10 in omega (arith, tens-step m (omega arith), tens-none (m / 10) (omega arith))
tens-power (suc k) m a b =
    let p = pow-suc 10 k in
    let rest = tens-power k (m / 10) (omega arith) (omega arith) in
    omega (arith, tens-step m (omega arith))

places-power : (k n m : ℕ) → m ≡ max n 1 → 10 ^ k ≤ m → m < 10 * 10 ^ k → suc k ≡ digit_places n
places-power zero n m e a b = let p = pow-zero 10 in omega (arith, places-step n, tens-none (n / 10) (omega arith))
places-power (suc k) n m e a b =
    let p = pow-suc 10 k in
    let rest = tens-power k (n / 10) (omega arith) (omega arith) in
    omega (arith, places-step n)

pub returns : goal.returns
returns c = omega (arith, places-power c.ilog10.result c.args.n c.max.result c.max.ensures c.ilog10.ensures.power_le c.ilog10.ensures.next_power_gt)
