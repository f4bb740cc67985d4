use Prim.Native.Nat.{ℕ, ◌+◌, ◌*◌, ◌≤◌}
use native.Mathlib.Omega.{arith}
use lib.ListN.{length, get_or, length-append}
use Rattle.std.proofs.Common.{rules}
use Rattle.std.proofs.lemmas.Slice.Zip.{zip_turn, zip_end}
use Rattle.cluster.specs.VectorsLaws.{row-end, vector-before}
use Rattle.kmeans.proofs.Averaging.{summing_next, summing_all}
use Rattle.kmeans.proofs.means.add_to_centres.Goals as goal
use Rattle.kmeans.proofs.means.add_to_centres.Goals.{In-Some}

-- the vector of a turn's id ends before the centres begin, and its mark is a centre's, which is within the floats
record Room (from to d at size : ℕ) : Type 0 where
  pub before : from * d + d ≤ at
  pub within : at + to * d + d ≤ size

room : (c : In-Some) → Room c.in-Some.field-0-0.now c.in-Some.field-0-1.now c.args.dimension c.args.centres_at (length c.args.floats.now)
room c =
    let p = c.args in
    let behind = c.requires.behind_vectors in
    let turn = zip_turn p.ids.now p.marks.now c.loop-id.yielded _ _ c.next.new.self _ (search rules) (search rules) c.loop-id.yielded_by _ c.in-Some.is c.next.ensures.steps in
    let end = row-end p.dimension (get_or p.marks.now (length c.loop-id.yielded) 0) p.k (c.requires.by_index _ turn.1) in
    rw (turn.2 0, turn.3 0) (record {
      before = vector-before p.dimension p.count p.centres_at _ behind.behind (behind.below _ turn.0);
      within = omega (arith, end, behind.within);
    })

pub overflow_mul-from : goal.overflow_mul-from
overflow_mul-from c = let r = room ((goal.at.overflow_mul-from c).In-Some) in omega (arith, r.before)

pub overflow_mul-to : goal.overflow_mul-to
overflow_mul-to c = let r = room ((goal.at.overflow_mul-to c).In-Some) in omega (arith, r.within)

pub overflow_add-to : goal.overflow_add-to
overflow_add-to c = let r = room ((goal.at.overflow_add-to c).In-Some) in omega (arith, r.within)

pub add-requires : goal.add-requires
add-requires c =
    let r = room ((goal.at.add-requires c).In-Some) in
    record {
      dimension_bound = omega (arith, r.before);
      dimension_in_bounds = omega (arith, r.within, c.loop-id.auto.floats);
    }

pub loop-id-preserved : goal.loop-id-preserved
loop-id-preserved c =
    let p = c.args in
    let l = c.loop-id in
    let turn = zip_turn p.ids.now p.marks.now l.yielded _ _ c.next.new.self _ (search rules) (search rules) l.yielded_by _ c.in-Some.is c.next.ensures.steps in
    let added = rw (turn.3 0, turn.2 0) at c.add.ensures in
    let next = summing_next p.dimension p.count p.k p.centres_at p.ids.now p.marks.now p.floats.now c.requires.behind_vectors c.requires.marks_len
    l.floats c.add.new.floats (length l.yielded) l.invariant l.auto.floats turn.0 (c.requires.by_index _ turn.1) added in
    simp length-append next

pub returns : goal.returns
returns c =
    let p = c.args in
    let l = c.loop-id in
    let all = zip_end p.ids.now p.marks.now l.yielded _ _ c.next.new.self _ (search rules) (search rules) l.yielded_by c.in-None.is c.next.ensures.steps in
    summing_all p.dimension p.count p.k p.centres_at p.ids.now p.marks.now p.floats.now c.requires.behind_vectors c.requires.marks_len
    l.floats (length l.yielded) l.invariant (omega (arith, all, c.requires.marks_len))
