use Prim.Native.Nat.{ℕ, suc, ◌-◌}
use mathlib.Core.Path.{◌≡◌, sym, ap, ◌∙◌}
use native.Mathlib.Omega.{arith}
use Rattle.node_filters.specs.Filters.{filters_made}
use Rattle.node_filters.proofs.FiltersLaws.{made-next, made_none}
use Rattle.node_filters.proofs.make_filters.Goals as goal

pub loop-i-preserved : goal.loop-i-preserved
loop-i-preserved c =
    let args = c.args in
    let at-loop = c.loop-i in
    let t = c.loop-i-test.true in
    let j : suc (at-loop.i - 1) ≡ at-loop.i = omega arith in
    made-next args.places args.numbers.now at-loop.hashes c.make_filter.new.hashes (at-loop.i - 1) c.make_filter.ensures
    ∙ ap (λ (k : ℕ). filters_made args.places args.numbers.now k at-loop.hashes) j
    ∙ at-loop.invariant

pub returns : goal.returns
returns c =
    let args = c.args in
    let at-loop = c.loop-i in
    let z : 0 ≡ at-loop.i = omega arith in
    sym (made_none args.places args.numbers.now at-loop.hashes)
    ∙ ap (λ (k : ℕ). filters_made args.places args.numbers.now k at-loop.hashes) z
    ∙ at-loop.invariant
