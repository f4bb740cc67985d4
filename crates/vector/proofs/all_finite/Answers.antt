-- `all_finite` meets its contract: each of the four is looked at.
use Rattle.vector.proofs.Steps.{finite_is}
use Rattle.vector.proofs.all_finite.Goals as goal

pub returns : goal.returns
returns c =
    rw (
      c.is_finite.ensures.value,
      c.is_finite-2.ensures.value,
      c.is_finite-3.ensures.value,
      c.is_finite-4.ensures.value,
      finite_is c.args.a,
      finite_is c.args.b,
      finite_is c.args.c,
      finite_is c.args.d,
    )
