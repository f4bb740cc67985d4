-- `look::block_at` meets its contract. Assumes nothing.
use native.Mathlib.Omega.{arith}
use Rattle.walk.proofs.Looks.{block_out, block_in}
use Rattle.walk.proofs.StoreViewLaws.{block_empty}
use lib.ListN.{get_or}
use mathlib.Core.Path.{refl}
use Rattle.walk.proofs.look.block_at.Goals as goal

pub returns-then-count-eq0 : goal.returns-then-count-eq0
returns-then-count-eq0 c =
    let a = c.args in
    rw c.if-count-eq0.true (block_empty (get_or a.numbers.now a.at 0) a.held, record { is = refl; room = omega (arith, c.requires.room) })

pub returns-then-held-start : goal.returns-then-held-start
returns-then-held-start c = block_out _ _ c.args.held c.if-count-eq0.false c.if-held-start.true

pub returns : goal.returns
returns c = (
  block_in _ _ c.args.held c.if-held-start.false,
  record { is = refl; room = omega (arith, c.requires.room, c.if-held-start.false) },
)
