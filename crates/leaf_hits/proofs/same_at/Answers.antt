-- The test of the library is that of the two parts.
use Rattle.std.proofs.Common.{arith}
use Rattle.leaf_hits.proofs.Names.{same-at}
use Rattle.leaf_hits.proofs.same_at.Goals as goal

pub returns : goal.returns
returns g c =
    same-at g.row.N c.args.at c.args.bytes.now c.args.name.now c.requires.bytes_in_bounds _ (omega arith) c.starts_with.result
    c.starts_with.ensures.value
