-- Each place is below the length, which the stores before it keep; the stores one after the other are `sets`.
use Rattle.curator_c.proofs.Laws.{flag_is}
use Rattle.curator_c.proofs.state.write_state.Goals as goal

pub returns : goal.returns
returns c = let e = flag_is c.args.index.built c.from.result c.from.ensures in rw e
