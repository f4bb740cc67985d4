use Rattle.std.specs.Prelude.{Ok, Err}
use Rattle.std.proofs.Common.{◌+◌, arith}
use Rattle.walk.proofs.Damage.{is_damage}
use Rattle.leaf_hits.specs.Gathering.{gathered_none}
use Rattle.leaf_hits.proofs.LeafLists.{gathers_further, damage-further}
use Rattle.leaf_hits.proofs.add_entries.Goals as goal

pub loop-read-init : goal.loop-read-init
loop-read-init c = record {
  within = omega arith;
  added = gathered_none _ _ _ _ _ _ c.requires.hits.few;
}

pub loop-read-preserved : goal.loop-read-preserved
loop-read-preserved c = record {
  within = omega arith;
  added = gathers_further _ _ _ _ c.args.lists.numbers.now c.args.block.start _ c.loop-read.read c.min-chunk.result _ _ _ _ (Ok c.in_ok-total.total) c.loop-read.invariant.added
      c.in_ok-total.ensures;
}

pub returns-in_err-total : goal.returns-in_err-total
returns-in_err-total c =
    let a = c.args in
    rw (is_damage c.from_residual.result c.from_residual.ensures.0)
    (damage-further _ _ _ _ a.lists.numbers.now a.block.start _ (c.loop-read.read + c.min-chunk.result) _ (omega arith)
    (gathers_further _ _ _ _ a.lists.numbers.now a.block.start _ c.loop-read.read c.min-chunk.result _ _ _ c.add_chunk.new.found (Err (record {})) c.loop-read.invariant.added
    c.in_err-total.ensures))
