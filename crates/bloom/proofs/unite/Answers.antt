-- Word by word; both have four.
use Rattle.std.proofs.Common.{rules}
use Rattle.bloom.proofs.Four.{unite_all}
use Rattle.bloom.proofs.unite.Goals as goal

pub returns : goal.returns
returns c =
    let items = c.from_fn.ensures.items in
    unite_all c.args.filter c.args.other c.from_fn.result (search rules) (search rules) items.long (λ i h. let call = items.at i 0 h in search rules)
