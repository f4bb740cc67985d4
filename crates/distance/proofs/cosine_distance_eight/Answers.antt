-- `cosine_distance_eight` meets its contract: the front four and the back four, each as `cosine_distance_four` gives them.
use Rattle.distance.proofs.Fours.{eight, front_of, back_of, equal, distances}
use Rattle.lists.specs.Tests.{and_left, and_right}
use Rattle.distance.proofs.cosine_distance_eight.Goals as goal

pub dot_eight-sums-requires : goal.dot_eight-sums-requires
dot_eight-sums-requires c =
    let one = c.all_equal-front_equal in
    let two = c.all_equal-back_equal in
    let front = equal _ _ _ _ _ one.result one.ensures (and_left one.result two.result c.if-front_equal-back_equal.true) in
    let back = equal _ _ _ _ _ two.result two.ensures (and_right one.result two.result c.if-front_equal-back_equal.true) in
    record {
      a_len = front.a_len;
      b_len = front.b_len;
      c_len = front.c_len;
      d_len = front.d_len;
      e_len = back.a_len;
      f_len = back.b_len;
      g_len = back.c_len;
      h_len = back.d_len;
    }

pub returns-then-front_equal-back_equal : goal.returns-then-front_equal-back_equal
returns-then-front_equal-back_equal c =
    let both = c.dot_eight-sums in
    let one = c.all_equal-front_equal in
    let two = c.all_equal-back_equal in
    let front = equal _ _ _ _ _ one.result one.ensures (and_left one.result two.result c.if-front_equal-back_equal.true) in
    let back = equal _ _ _ _ _ two.result two.ensures (and_right one.result two.result c.if-front_equal-back_equal.true) in
    eight
    (distances _ _ _ _ _ both.result.front c.from_ones.result front (front_of both.ensures) c.from_ones.ensures)
    (distances _ _ _ _ _ both.result.back c.from_ones-then-front_equal-back_equal.result back (back_of both.ensures) c.from_ones-then-front_equal-back_equal.ensures)
