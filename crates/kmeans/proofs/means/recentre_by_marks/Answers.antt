-- `means::recentre_by_marks` meets its contract: the sum of a cluster, begun at 0 and divided by how often its mark occurs, is its mean.
use Prim.Native.Nat.{◌*◌}
use native.Mathlib.Omega.{arith}
use Rattle.kmeans.proofs.Centring.{room-kept}
use Rattle.kmeans.proofs.Averaging.{marks-below, marks-size, count-few, get_d_zeros, means_are}
use Rattle.kmeans.proofs.means.recentre_by_marks.Goals as goal

pub count_marks-requires : goal.count_marks-requires
count_marks-requires c =
    let p = c.args in
    -- marks are below k, and there are as many as ids
    let low = marks-below p.dimension p.count p.k p.centres_at p.floats.now p.ids.now p.marks.now c.requires.marks_value c.requires.le_k in
    let size = marks-size p.dimension p.count p.k p.centres_at p.floats.now p.ids.now p.marks.now c.requires.marks_value in
    record {
      by_index = λ i h. omega (arith, low i h, c.requires.k_bound);
      marks_len_bound = omega (arith, size, c.requires.behind_vectors.few);
      by_index_2 = λ j. get_d_zeros 64 j;
    }

pub add_to_centres-requires : goal.add_to_centres-requires
add_to_centres-requires c =
    let p = c.args in
    -- marks are below k, and there are as many as ids
    let low = marks-below p.dimension p.count p.k p.centres_at p.floats.now p.ids.now p.marks.now c.requires.marks_value c.requires.le_k in
    let size = marks-size p.dimension p.count p.k p.centres_at p.floats.now p.ids.now p.marks.now c.requires.marks_value in
    record {
      behind_vectors = room-kept p.floats.now c.begin_sums.new.floats p.ids.now p.dimension p.count p.centres_at (p.k * p.dimension) c.requires.behind_vectors c.begin_sums.auto.floats;
      marks_len = size;
      by_index = low;
    }

pub divide_sums-requires : goal.divide_sums-requires
divide_sums-requires c =
    let p = c.args in
    -- there are as many as ids
    let size = marks-size p.dimension p.count p.k p.centres_at p.floats.now p.ids.now p.marks.now c.requires.marks_value in
    record {
      dimension_in_bounds = omega (arith, c.requires.behind_vectors.within, c.add_to_centres.auto.floats, c.begin_sums.auto.floats);
      k_in_bounds = omega (arith, c.requires.k_bound, c.count_marks.auto.counts);
      by_index = λ j h. omega (arith, c.count_marks.ensures j (omega (arith, c.requires.k_bound)), count-few j c.args.marks.now, size, c.requires.behind_vectors.few);
    }

pub returns : goal.returns
returns c =
    let p = c.args in
    means_are p.dimension p.count p.k p.centres_at p.ids.now p.marks.now c.count_marks.new.counts p.floats.now
    c.begin_sums.new.floats c.add_to_centres.new.floats c.divide_sums.new.floats c.requires.behind_vectors.behind c.requires.marks_value
    (λ j h. c.count_marks.ensures j (omega (arith, c.requires.k_bound))) c.begin_sums.ensures c.add_to_centres.ensures c.divide_sums.ensures
