-- The bytes before the place and the last N meet, so that where both are the name's, all are.
use mathlib.Core.Path.{refl, sym, ◌∙◌}
use Rattle.std.proofs.Common.{length, ◌-◌, arith}
use Rattle.leaf_hits.proofs.Names.{fronts_more, part_differs, ends-same}
use Rattle.leaf_hits.proofs.same_by.Goals as goal

pub loop-at-init : goal.loop-at-init
loop-at-init g c = record { held = omega arith; equal = refl }

pub overflow_sub-name : goal.overflow_sub-name
overflow_sub-name g c = c.loop-at.invariant.held

pub returns-then-not-same_at : goal.returns-then-not-same_at
returns-then-not-same_at g c = sym (part_differs g.row.N c.loop-at.at c.args.bytes.now c.args.name.now (sym c.same_at.ensures ∙ c.if-not-same_at.true))

pub loop-at-smaller : goal.loop-at-smaller
loop-at-smaller g c = omega (arith, c.loop-at-test.true, c.requires.positive)

pub loop-at-preserved : goal.loop-at-preserved
loop-at-preserved g c = record {
  held = omega (arith, c.loop-at-test.true);
  equal = fronts_more g.row.N c.loop-at.at c.args.bytes.now c.args.name.now (sym c.same_at.ensures ∙ c.if-not-same_at.false) c.loop-at.invariant.equal;
}

pub returns : goal.returns
returns g c =
    let long = c.requires.same_length in
    ends-same g.row.N c.loop-at.at (length c.args.name.now - g.row.N) c.args.bytes.now c.args.name.now long (omega (arith, long, c.requires.length_bound))
    (omega (arith, long, c.loop-at-test.false)) c.loop-at.invariant.equal c.same_at-2.result c.same_at-2.ensures
