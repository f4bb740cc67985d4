use native.Mathlib.Omega.{arith}
use lib.ListN.{get_or}
use Rattle.text.specs.LinesLaws.{hit_le_20, lines_none, written-hit}
use Rattle.text.proofs.write_hits.Goals as goal

pub loop-i-init : goal.loop-i-init
loop-i-init c =
    let a = c.args in
    (omega arith, lines_none a.ids.now a.distances.now a.out.now a.at (omega arith))

pub loop-i-preserved : goal.loop-i-preserved
loop-i-preserved c =
    let l = c.loop-i in
    let a = c.args in
    let w = c.write_hit-place.ensures in
    let h = hit_le_20 (get_or a.ids.now l.i 0) c.to_bits.result (omega (arith, c.type_inv.ids l.i)) in
    (omega (arith, w.end), written-hit a.ids.now a.distances.now l.i c.to_bits.result c.to_bits.ensures l.invariant.1 w)
