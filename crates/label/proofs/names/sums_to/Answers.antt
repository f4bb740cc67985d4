-- The lengths left are the next one and those after it.
use Rattle.std.proofs.Common.{sym, ap, add-one, arith, drop_of_length-le, ne_eqb}
use Rattle.lists.specs.Lists.{total}
use Rattle.label.specs.NameLaws.{total-drop}
use Rattle.label.proofs.Steps.{same-eqb}
use Rattle.label.proofs.names.sums_to.Goals as goal

pub returns-then-left-next : goal.returns-then-left-next
returns-then-left-next c =
    let args = c.args in
    let left = total-drop args.lengths.now c.loop-byte.byte-index c.loop-byte-test.true in
    sym (ne_eqb (total args.lengths.now) args.sum (λ e. omega arith))

pub loop-byte-preserved : goal.loop-byte-preserved
loop-byte-preserved c =
    let left = total-drop c.args.lengths.now c.loop-byte.byte-index c.loop-byte-test.true in
    rw add-one (omega arith)

pub returns : goal.returns
unfolding total
returns c =
    let args = c.args in
    let none = ap total (drop_of_length-le args.lengths.now c.loop-byte-test.false) in
    same-eqb c.loop-byte.left 0 (total args.lengths.now) args.sum (λ e. omega arith) (λ e. omega arith)
