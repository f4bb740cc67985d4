use Prim.Native.Nat.{◌+◌, ◌*◌}
use native.Mathlib.Omega.{arith}
use mathlib.Core.Path.{◌∙◌}
use mathlib.Core.List.{map}
use lib.IntN.{pos}
use lib.ListN.{get_or, length-map}
use lib.Ieee.{Float, binary32, div, of_int}
use Rattle.lists.specs.Lists.{part}
use Rattle.lists.specs.Parts.{length_part}
use Rattle.cluster.specs.VectorsLaws.{row-end}
use Rattle.kmeans.specs.Means.{divided}
use Rattle.kmeans.proofs.Centring.{centres-none, writing_end}
use Rattle.kmeans.proofs.Averaging.{length-each_centre, each_turn, each_kept, counted, not_counted, number_in_float}
use Rattle.kmeans.proofs.means.divide_sums.Goals as goal
use Rattle.kmeans.proofs.means.divide_sums.Goals.{then-size-gt0, else-size-gt0}

pub loop-j-init : goal.loop-j-init
loop-j-init c =
    let p = c.args in
    centres-none p.dimension p.k p.centres_at p.floats.now _ (length-each_centre p.k (divided p.counts.now) _) c.requires.dimension_in_bounds

pub int_to_float-size : goal.int_to_float-size
int_to_float-size c =
    number_in_float _ (c.requires.by_index c.loop-j.j c.loop-j-test.true)

pub divide-requires : goal.divide-requires
divide-requires c =
    -- the centre of a turn is within the floats
    let end = row-end c.args.dimension c.loop-j.j c.args.k c.loop-j-test.true in
    omega (arith, c.requires.dimension_in_bounds, c.loop-j.auto.floats)

pub loop-j-preserved : goal.loop-j-preserved
loop-j-preserved c =
    let p = c.args in
    let l = c.loop-j in
    let size = get_or p.counts.now l.j 0 in
    let at = p.centres_at + l.j * p.dimension in
    let end = row-end p.dimension l.j p.k c.loop-j-test.true in
    let own = part at p.dimension l.floats in
    let f = λ (x : Float). div binary32 x (of_int binary32 (pos size)) in
    elim c.if-size-gt0.branch [
      | then-size-gt0 w ↦
          rw w.floats-is
          (each_turn p.dimension p.k p.centres_at p.floats.now (divided p.counts.now) c.requires.dimension_in_bounds l.floats w.divide.new.floats l.j (map f own) l.invariant l.auto.floats c.loop-j-test.true
          w.divide.ensures (counted size _ _ w.if-size-gt0.true)
          (length-map own f ∙ length_part at p.dimension l.floats (omega (arith, end, c.requires.dimension_in_bounds, l.auto.floats))))
      | else-size-gt0 w ↦
          rw w.floats-is
          (each_kept p.dimension p.k p.centres_at p.floats.now (divided p.counts.now) c.requires.dimension_in_bounds l.floats l.j l.invariant l.auto.floats c.loop-j-test.true
          (not_counted size _ _ w.if-size-gt0.false))
    ]

pub returns : goal.returns
returns c =
    let p = c.args in
    let l = c.loop-j in
    writing_end p.dimension p.k p.centres_at p.floats.now _ (length-each_centre p.k (divided p.counts.now) _) c.requires.dimension_in_bounds l.floats l.j l.invariant c.loop-j-test.false
