-- `split::split_ids` meets its contract: the marks of the third round sort the ids into the clusters.
use Prim.Native.Nat.{◌*◌, ◌≤◌}
use native.Mathlib.Omega.{arith}
use lib.ListN.{length}
use Rattle.build_tree.proofs.Dividing.{clustering_end}
use Rattle.build_tree.proofs.split.split_ids.Goals as goal

pub returns : goal.returns
returns c =
    let a = c.args in
    let p = c.requires in
    let w = c.simple_kmeans.auto.work in
    let room : 2 * length a.ids.now ≤ length c.simple_kmeans.new.work = omega (arith, w, p.ids_in_bounds) in
    clustering_end p.limits c.centres_at.ensures c.min-k.ensures room c.simple_kmeans.ensures c.sort_by_mark.ensures.value c.sort_by_mark.ensures.work_after
