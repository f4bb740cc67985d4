-- What is still to be written into the list, the digits of the rest, gives what is due. A turn writes the last of them.
use Rattle.text.specs.Digits.{last_digits}
use lib.Seq.{sets}
use mathlib.Core.Path.{◌≡◌}
use Rattle.text.proofs.digits.write_digits.Given as goal

abbrev pub invariant-loop-i : goal.invariant-loop-i
invariant-loop-i l = sets l.out l.at (last_digits l.base l.i l.rest) ≡ sets l.initial.out l.at (last_digits l.base l.count l.n)
