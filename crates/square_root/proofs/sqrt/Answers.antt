-- `sqrt` meets its contract. The tests on the pattern split the values as `Root` does: the NaN, the zeros, what is below zero, infinity, and the
-- finite values above zero, whose roots `root_pattern` gives.
use Prim.Native.Nat.{◌<◌}
use borrow.Author.Rules.{rules}
use native.Mathlib.Omega.{arith}
use mathlib.Core.Path.{sym, subst, ◌∙◌}
use lib.Dec.{T}
use Rattle.float_bits.specs.NanLaws.{nan_of_is_nan}
use Rattle.square_root.specs.Root.{Root}
use Rattle.square_root.specs.RootValues.{root_of_nan, root_of_zero, root_of_infinity, root-below-zero, root_of_bits, finite-pattern}
use Rattle.square_root.proofs.sqrt.Goals as goal

pub returns-then-is_nan : goal.returns-then-is_nan
returns-then-is_nan c =
    subst (Root c.args.x) (sym c.quiet_nan.ensures) (root_of_nan c.args.x (nan_of_is_nan c.args.x (sym c.is_nan.ensures.value ∙ c.if-is_nan.true)))

pub returns-then-bits-eq0 : goal.returns-then-bits-eq0
returns-then-bits-eq0 c = root_of_zero c.args.x (search rules) (omega arith)

pub returns-then-bits-gt2139095040 : goal.returns-then-bits-gt2139095040
returns-then-bits-gt2139095040 c =
    subst (Root c.args.x) (sym c.quiet_nan-then-bits-gt2139095040.ensures) (root-below-zero c.args.x (search rules) (omega arith) (omega arith))

pub returns-then-bits-eq2139095040 : goal.returns-then-bits-eq2139095040
returns-then-bits-eq2139095040 c =
    root_of_infinity c.args.x (search rules) (omega arith)

pub float_from_bits-result : goal.float_from_bits-result
float_from_bits-result c =
    let below : c.root_pattern.result < 0x7F800000 = omega (arith, c.root_pattern.ensures.finite) in
    subst T (sym (finite-pattern c.root_pattern.result below)) tt

pub returns : goal.returns
returns c =
    root_of_bits c.args.x c.root_pattern.result (search rules) (omega arith) (omega arith) c.root_pattern.ensures
