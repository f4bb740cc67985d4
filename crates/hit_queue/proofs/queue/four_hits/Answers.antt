-- `four_hits` meets its contract: each of the four numbers is held, so its vector is within the floats. Assumes nothing.
use Rattle.hit_queue.proofs.Measuring.{Held, vector-held, hit-is}
use Rattle.hit_queue.specs.Promises.{NumberAt}
use Rattle.std.proofs.Common.{ℕ, get_or, refl}
use Rattle.hit_queue.proofs.queue.four_hits.Goals.{Start}
use Rattle.hit_queue.proofs.queue.four_hits.Goals as goal

-- a number read is that of a vector held
held : (w : Start) (place : ℕ) → NumberAt w.args.counts w.args.list.now place
    → Held w.args.shape w.args.floats.now w.args.numbers.now (get_or w.args.list.now place 0)
held w place n =
    let a = w.args in
    vector-held a.shape a.counts a.floats.now a.numbers.now w.requires.lent _ n.held

pub distances_at-four-requires : goal.distances_at-four-requires
distances_at-four-requires c =
    let w = (goal.at.distances_at-four-requires c).Start in
    record {
      dimension_in_bounds = (held w c.args.a c.requires.first).0;
      dimension_in_bounds_2 = (held w c.args.b c.requires.second).0;
      dimension_in_bounds_3 = (held w c.args.c c.requires.third).0;
      dimension_in_bounds_4 = (held w c.args.d c.requires.fourth).0;
    }

pub hits_of-requires : goal.hits_of-requires
hits_of-requires c =
    let w = (goal.at.hits_of-requires c).Start in
    record {
      listed = (held w c.args.a c.requires.first).1;
      listed_2 = (held w c.args.b c.requires.second).1;
      listed_3 = (held w c.args.c c.requires.third).1;
      listed_4 = (held w c.args.d c.requires.fourth).1;
    }

pub returns : goal.returns
returns c =
    let a = c.args in
    let four = c.distances_at-four.ensures in
    let hits = c.hits_of.ensures in
    let is = hit-is a.shape a.floats.now a.numbers.now a.query.now in record {
      a_value = is _ _ _ _ hits.a_value four.a_value refl;
      b_value = is _ _ _ _ hits.b_value four.b_value refl;
      c_value = is _ _ _ _ hits.c_value four.c_value refl;
      d_value = is _ _ _ _ hits.d_value four.d_value refl;
    }
