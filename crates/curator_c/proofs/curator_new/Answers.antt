-- What is kept is what `new` answers.
use Rattle.curator_c.proofs.curator_new.Goals as goal

pub returns : goal.returns
returns c =
    record { answer = c.new.result; creates = c.new.ensures; returns = c.keep.ensures }
