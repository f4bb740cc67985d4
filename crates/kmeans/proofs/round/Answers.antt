-- `round` meets its contract: the marks that `assign` writes are those by which `recentre_by_marks` recentres, and it leaves the work list.
use native.Mathlib.Omega.{arith}
use Rattle.kmeans.proofs.Centring.{assigned_stand, assigned_alike}
use Rattle.kmeans.proofs.round.Goals as goal

pub assign-requires : goal.assign-requires
assign-requires c =
    let pre = c.requires in
    record {
      behind_vectors = pre.behind_vectors;
      le_k = pre.le_k;
      k_bound = pre.k_bound;
      dimension_bound = pre.dimension_bound;
      ids_in_bounds = omega (arith, pre.ids_in_bounds);
    }

pub recentre_by_marks-requires : goal.recentre_by_marks-requires
recentre_by_marks-requires c =
    let p = c.args in
    let pre = c.requires in
    record {
      behind_vectors = pre.behind_vectors;
      le_k = pre.le_k;
      k_bound = pre.k_bound;
      marks_value = assigned_stand p.floats.now p.ids.now p.work.now c.assign.new.work p.dimension p.count p.centres_at p.k c.assign.ensures pre.ids_in_bounds;
    }

pub returns : goal.returns
returns c =
    let p = c.args in record {
      centred = c.recentre_by_marks.ensures;
      alike_but = assigned_alike p.floats.now p.ids.now p.work.now c.assign.new.work p.dimension p.count p.centres_at p.k
          c.assign.ensures c.requires.ids_in_bounds;
    }
