use Prim.Native.Nat.{◌/◌, ◌^◌, ◌<◌}
use native.Mathlib.Omega.{arith}
use Rattle.square_root.proofs.Newton.{step-positive, step-below, step-above, quotient_below}
use Rattle.square_root.proofs.integer_root.Goals as goal

pub loop-s-init : goal.loop-s-init
loop-s-init c =
    let above : 0 < c.args.guess = omega (arith, c.requires.bound.0) in
    -- n / guess is below 2 ^ 26
    let small : c.args.n / c.args.guess < 2 ^ 26 = quotient_below c.args.n c.args.guess (2 ^ 24) (2 ^ 26) c.requires.bound.0 (omega (arith, c.requires.n_bound)) in
    (omega (arith, small, c.requires.bound.1), step-above c.args.n c.args.guess above)

pub loop-s-smaller : goal.loop-s-smaller
loop-s-smaller c = step-below c.args.n c.loop-s.s c.loop-s-test.true

pub loop-s-preserved : goal.loop-s-preserved
loop-s-preserved c =
    let n = c.args.n in
    let s = c.loop-s.s in
    let low = step-below n s c.loop-s-test.true in
    (omega (arith, low, c.loop-s.invariant.0), step-above n s (step-positive n s c.loop-s-test.true))

pub returns : goal.returns
returns c = (c.loop-s-test.false, c.loop-s.invariant.1)
