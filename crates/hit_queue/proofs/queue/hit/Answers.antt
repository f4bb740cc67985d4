-- `hit` meets its contract. Assumes nothing.
use Rattle.record_queue.specs.RecordsLaws.{value-is}
use Rattle.std.proofs.Common.{ap, ◌∙◌, ◌+◌, ◌*◌, ◌^◌, get_or}
use Rattle.hit_queue.proofs.queue.hit.Goals as goal

pub returns : goal.returns
returns c =
    let a = c.args in
    value-is _ ∙ ap (λ key. key * 2 ^ 64 + (get_or a.numbers.now a.vector 0 * 2 ^ 32 + a.vector)) c.key.ensures
