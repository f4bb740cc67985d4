-- `eight_hits` meets its contract: each of the eight numbers is held, so its vector is within the floats. Assumes nothing.
use Rattle.hit_queue.proofs.Measuring.{Held, vector-held, hit-is}
use Rattle.walk.specs.StoreView.{hit_at}
use Rattle.lists.specs.Parts.{four_mapped}
use Rattle.std.proofs.Common.{◌≡◌, ℕ, ◌+◌, ◌≤◌, ◌<◌, get_or, List, ap, arith, refl}
use Rattle.hit_queue.proofs.queue.eight_hits.Goals.{Start}
use Rattle.hit_queue.proofs.queue.eight_hits.Goals as goal

-- a number read is that of a vector held
held : (w : Start) (place : ℕ) → w.args.at ≤ place → place < w.args.at + 8
    → Held w.args.shape w.args.floats.now w.args.numbers.now (get_or w.args.list.now place 0)
held w place low high =
    let a = w.args in
    vector-held a.shape a.counts a.floats.now a.numbers.now w.requires.lent _ (w.requires.held place low high)

-- a place counted from the fifth
behind : (l : List ℕ) (at k : ℕ) → get_or l (at + (4 + k)) 0 ≡ get_or l (at + 4 + k) 0
behind l at k = ap (λ (n : ℕ). get_or l n 0) (let t : at + (4 + k) ≡ at + 4 + k = omega arith in t)

pub eight_distances_at-eight-requires : goal.eight_distances_at-eight-requires
eight_distances_at-eight-requires c =
    let w = (goal.at.eight_distances_at-eight-requires c).Start in
    record {
      dimension_in_bounds = (held w c.args.at (omega arith) (omega arith)).0;
      dimension_in_bounds_2 = (held w (c.args.at + 1) (omega arith) (omega arith)).0;
      dimension_in_bounds_3 = (held w (c.args.at + 2) (omega arith) (omega arith)).0;
      dimension_in_bounds_4 = (held w (c.args.at + 3) (omega arith) (omega arith)).0;
      dimension_in_bounds_5 = (held w (c.args.at + 4) (omega arith) (omega arith)).0;
      dimension_in_bounds_6 = (held w (c.args.at + 5) (omega arith) (omega arith)).0;
      dimension_in_bounds_7 = (held w (c.args.at + 6) (omega arith) (omega arith)).0;
      dimension_in_bounds_8 = (held w (c.args.at + 7) (omega arith) (omega arith)).0;
    }

pub hits_of-requires : goal.hits_of-requires
hits_of-requires c =
    let w = (goal.at.hits_of-requires c).Start in
    record {
      listed = (held w c.args.at (omega arith) (omega arith)).1;
      listed_2 = (held w (c.args.at + 1) (omega arith) (omega arith)).1;
      listed_3 = (held w (c.args.at + 2) (omega arith) (omega arith)).1;
      listed_4 = (held w (c.args.at + 3) (omega arith) (omega arith)).1;
    }

pub hits_of-requires-2 : goal.hits_of-requires-2
hits_of-requires-2 c =
    let w = (goal.at.hits_of-requires-2 c).Start in
    record {
      listed = (held w (c.args.at + 4) (omega arith) (omega arith)).1;
      listed_2 = (held w (c.args.at + 5) (omega arith) (omega arith)).1;
      listed_3 = (held w (c.args.at + 6) (omega arith) (omega arith)).1;
      listed_4 = (held w (c.args.at + 7) (omega arith) (omega arith)).1;
    }

pub returns : goal.returns
returns c =
    let a = c.args in
    let l = a.list.now in
    let far = c.eight_distances_at-eight.ensures in
    let front = c.hits_of.ensures in
    let back = c.hits_of-2.ensures in
    let f = hit_at a.shape a.floats.now a.numbers.now a.query.now in
    let is = hit-is a.shape a.floats.now a.numbers.now a.query.now in record {
      d_value = four_mapped f l a.at 0 _ _ _ _ (omega (arith, c.requires.inside))
          (is _ _ _ _ front.a_value far.a_value refl)
          (is _ _ _ _ front.b_value far.b_value refl)
          (is _ _ _ _ front.c_value far.c_value refl)
          (is _ _ _ _ front.d_value far.d_value refl);
      d_value_2 = four_mapped f l (a.at + 4) 0 _ _ _ _ (omega (arith, c.requires.inside))
          (is _ _ _ _ back.a_value far.a_value_2 refl)
          (is _ _ _ _ back.b_value far.b_value_2 (behind l a.at 1))
          (is _ _ _ _ back.c_value far.c_value_2 (behind l a.at 2))
          (is _ _ _ _ back.d_value far.d_value_2 (behind l a.at 3));
    }
