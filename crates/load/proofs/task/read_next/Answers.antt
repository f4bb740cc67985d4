-- No record, or the task of the one that was read.
use Rattle.std.proofs.Common.{refl, sym, subst, arith}
use Rattle.std.specs.Prelude.{Some}
use Rattle.echo_file.specs.ReadsLaws.{bytes_of}
use Rattle.load.specs.declared.task.Task.{Task}
use Rattle.load.specs.Code.{CarriesNext, Asks}
use Rattle.load.proofs.Laws.{bad_carried, task_asks}
use Rattle.load.proofs.task.read_next.Goals as goal

pub returns-in_default : goal.returns-in_default
returns-in_default c =
    let file = c.args.file.now in
    λ lent. bad_carried file c.args.at (Some c.args.index) lent _ lent (bytes_of file (λ i. omega (arith, c.type_inv.file i))) c.in_default.ensures (refl, refl)

pub returns : goal.returns
returns c =
    let file = c.args.file.now in
    subst (λ (t : Task). Asks file (CarriesNext c.args.index file c.args.at) t) (sym c.task_of.ensures)
    (task_asks c.args.index file c.args.at c.in-Some.located c.requires c.in-Some.ensures)
