use Rattle.std.specs.Prelude.{Ok, Err}
use Rattle.std.proofs.Common.{◌≡◌, subst, ◌+◌, ◌-◌, ◌≤◌, arith}
use Rattle.lists.specs.Lists.{part}
use Rattle.lists.specs.Parts.{length_part}
use Rattle.walk.proofs.Damage.{is_damage}
use Rattle.leaf_hits.specs.Gathering.{gathered_none, gathered_few}
use Rattle.leaf_hits.specs.Promises.{GathersHash}
use Rattle.leaf_hits.proofs.LeafLists.{gathers_further, damage-further}
use Rattle.leaf_hits.proofs.gather_entries.Goals.{At-loop-read}
use Rattle.leaf_hits.proofs.gather_entries.Goals as goal

-- no more were gathered than read
few : (t : At-loop-read) → t.loop-read.total ≤ t.args.before + t.loop-read.read
few t =
    let a = t.args in
    omega (
      arith,
      gathered_few _ _ _ _ _ _ _ _ _ t.loop-read.invariant.gathered,
      length_part a.block.start t.loop-read.read a.lists.numbers.now (omega (arith, t.requires.block, t.loop-read.invariant.within)),
    )

pub loop-read-init : goal.loop-read-init
loop-read-init c = record {
  within = omega arith;
  gathered = gathered_none _ _ _ _ _ _ (omega (arith, c.requires.few));
}

pub gather_four-requires : goal.gather_four-requires
gather_four-requires c =
    let f = few ((goal.at.gather_four-requires c).At-loop-read) in
    record {
      owners_held = c.requires.owners_held;
      hashes_held = c.requires.hashes_held;
      block = omega arith;
      few = omega (arith, f, c.requires.few);
      room = omega (arith, c.requires.room);
    }

pub gather_rest-requires : goal.gather_rest-requires
gather_rest-requires c =
    let f = few ((goal.at.gather_rest-requires c).At-loop-read) in
    record {
      owners_held = c.requires.owners_held;
      hashes_held = c.requires.hashes_held;
      block = omega arith;
      few = omega (arith, f, c.requires.few);
      room = omega (arith, c.requires.room);
    }

pub loop-read-preserved : goal.loop-read-preserved
loop-read-preserved c = record {
  within = omega arith;
  gathered = gathers_further _ _ _ _ c.args.lists.numbers.now c.args.block.start _ c.loop-read.read 4 _ _ _ _ (Ok c.in_ok-total.total) c.loop-read.invariant.gathered c.in_ok-total.ensures;
}

pub returns-in_err-total : goal.returns-in_err-total
returns-in_err-total c =
    let a = c.args in
    rw (is_damage c.from_residual.result c.from_residual.ensures.0)
    (damage-further _ _ _ _ a.lists.numbers.now a.block.start _ (c.loop-read.read + 4) _ (omega arith)
    (gathers_further _ _ _ _ a.lists.numbers.now a.block.start _ c.loop-read.read 4 _ _ _ c.gather_four.new.found (Err (record {})) c.loop-read.invariant.gathered c.in_err-total.ensures))

pub returns : goal.returns
returns c =
    let a = c.args in
    let all : c.loop-read.read + (a.block.count - c.loop-read.read) ≡ a.block.count = omega arith in
    subst (λ n. GathersHash a.counts a.lists.numbers.now a.lists.hashes.now a.hash a.owners_at (part a.block.start n a.lists.numbers.now)
    a.before a.found.now c.gather_rest.result c.gather_rest.new.found) all
    (gathers_further _ _ _ _ a.lists.numbers.now a.block.start _ c.loop-read.read _ _ _ _ _ c.gather_rest.result c.loop-read.invariant.gathered c.gather_rest.ensures)
