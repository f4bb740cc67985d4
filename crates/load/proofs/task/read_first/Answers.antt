-- No record, one that is not settings, or settings that `new` is asked about.
use Rattle.std.proofs.Common.{refl, subst, arith}
use Rattle.std.specs.Prelude.{None, Some}
use Rattle.echo_file.specs.declared.Located.{Located}
use Rattle.echo_file.specs.Reads.{Reads}
use Rattle.echo_file.specs.ReadsLaws.{bytes_of}
use Rattle.load.specs.Step.{known}
use Rattle.load.proofs.Laws.{stands-carried, bad_carried, first_misplaced}
use Rattle.load.proofs.task.read_first.Goals as goal

pub returns-in_default : goal.returns-in_default
returns-in_default c =
    let file = c.args.file.now in
    λ lent. bad_carried file c.args.at None lent _ lent (bytes_of file (λ i. omega (arith, c.type_inv.file i))) c.in_default.ensures (refl, refl)

pub returns-in_default-located : goal.returns-in_default-located
returns-in_default-located c =
    let file = c.args.file.now in
    λ lent. first_misplaced file c.args.at lent _ c.in-Some.located c.in_default-located.not-Settings c.in-Some.ensures refl

pub returns : goal.returns
returns c =
    let file = c.args.file.now in
    λ lent. stands-carried file c.args.at None lent _ lent _ _
    (subst (λ (l : Located). Reads (known None) file c.args.at (Some l)) c.in-Settings.is c.in-Some.ensures)
    (c.open.ensures, refl)
