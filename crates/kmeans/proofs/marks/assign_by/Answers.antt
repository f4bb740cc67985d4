use Prim.Native.Nat.{◌*◌}
use mathlib.Core.Path.{ap, ◌∙◌}
use lib.ListN.{get_or, drop}
use Rattle.lists.specs.Parts.{lent-run}
use Rattle.cluster.specs.Clusters.{nearest}
use Rattle.cluster.specs.Vectors.{vectors_from}
use Rattle.cluster.specs.VectorsLaws.{length-vectors_in}
use Rattle.kmeans.proofs.Marking.{assign_turn, assign_end, mark-fits, lent-whole}
use Rattle.kmeans.proofs.marks.assign_by.Goals as goal

pub overflow_cast-work : goal.overflow_cast-work
overflow_cast-work g c =
    let p = c.args in
    let whole = lent-whole _ p.ids.now p.dimension p.count _ _ c.loop-i.i c.requires.behind_vectors c.loop-i-test.true in
    let chosen = c.requires.gives _ c.centre_of.result whole c.centre_of.ensures in
    record { fits = mark-fits _ _ p.k _ (length-vectors_in p.dimension p.k (drop p.centres_at p.floats.now)) chosen c.requires.le_k c.requires.k_bound }

pub loop-i-preserved : goal.loop-i-preserved
loop-i-preserved g c =
    let p = c.args in
    let room = c.requires.behind_vectors in
    let whole = lent-whole _ p.ids.now p.dimension p.count _ _ c.loop-i.i room c.loop-i-test.true in
    let mark =
    c.requires.gives _ c.centre_of.result whole c.centre_of.ensures
    ∙ ap (λ v. nearest v (vectors_from p.dimension p.k p.centres_at p.floats.now))
    (lent-run (get_or p.ids.now c.loop-i.i 0 * p.dimension) p.dimension p.floats.now) in
    assign_turn _ _ _ _ _ _ room.below _ _ _ c.loop-i.invariant c.loop-i-test.true mark

pub returns : goal.returns
returns g c = assign_end _ _ _ _ _ _ c.requires.behind_vectors.below _ _ c.loop-i.invariant c.loop-i-test.false
