-- `simple_kmeans` meets its contract: every step leaves the vectors, so all rounds are over the same ones.
use mathlib.Core.Path.{◌∙◌}
use native.Mathlib.Omega.{arith}
use Rattle.kmeans.proofs.Centring.{room-kept, kmeans_end}
use Rattle.kmeans.proofs.simple_kmeans.Goals as goal

pub round-requires : goal.round-requires
round-requires c =
    record {
      behind_vectors = room-kept _ _ _ _ _ _ _ c.requires.behind_vectors c.first_centres.auto.floats;
      le_k = c.requires.le_k;
      k_bound = c.requires.k_bound;
      dimension_bound = c.requires.dimension_bound;
      ids_in_bounds = c.requires.ids_in_bounds;
    }

pub round-requires-2 : goal.round-requires-2
round-requires-2 c =
    let one = c.round.auto in record {
      behind_vectors = room-kept _ _ _ _ _ _ _ c.requires.behind_vectors (one.floats ∙ c.first_centres.auto.floats);
      le_k = c.requires.le_k;
      k_bound = c.requires.k_bound;
      dimension_bound = c.requires.dimension_bound;
      ids_in_bounds = omega (arith, one.work, c.requires.ids_in_bounds);
    }

pub assign-requires : goal.assign-requires
assign-requires c =
    let one = c.round.auto in
    let two = c.round-2.auto in record {
      behind_vectors = room-kept _ _ _ _ _ _ _ c.requires.behind_vectors (two.floats ∙ one.floats ∙ c.first_centres.auto.floats);
      le_k = c.requires.le_k;
      k_bound = c.requires.k_bound;
      dimension_bound = c.requires.dimension_bound;
      ids_in_bounds = omega (arith, one.work, two.work, c.requires.ids_in_bounds);
    }

pub returns : goal.returns
returns c =
    let p = c.args in
    let first = c.first_centres in
    let one = c.round in
    let two = c.round-2 in
    let third = c.assign in
    kmeans_end p.dimension p.count p.centres_at p.k p.ids.now p.floats.now first.new.floats one.new.floats two.new.floats p.work.now
    one.new.work two.new.work third.new.work c.requires.behind_vectors.behind c.requires.k_in_bounds
    (omega (arith, one.auto.work, two.auto.work, c.requires.ids_in_bounds)) first.ensures one.ensures.centred one.ensures.alike_but two.ensures.centred
    two.ensures.alike_but third.ensures
