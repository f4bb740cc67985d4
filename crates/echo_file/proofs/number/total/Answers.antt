use native.Mathlib.Numerals.{add-one}
use native.Mathlib.Omega.{arith}
use mathlib.Core.Path.{◌≡◌, ap}
use lib.ListN.{drop, drop_of_length-le}
use Rattle.lists.specs.Counting.{sum_of}
use Rattle.lists.specs.Lists.{total}
use Rattle.echo_file.proofs.Steps.{total-drop}
use Rattle.echo_file.proofs.number.total.Goals as goal

pub loop-length-preserved : goal.loop-length-preserved
loop-length-preserved c =
    let left = total-drop c.args.lengths.now c.loop-length.length-index (omega arith) in
    let byte = c.type_inv.lengths c.loop-length.length-index in
    (rw add-one (omega arith), omega arith)

pub returns : goal.returns
unfolding total sum_of
returns c =
    let none : total (drop c.loop-length.length-index c.args.lengths.now) ≡ 0 = ap total (drop_of_length-le c.args.lengths.now (omega arith)) in
    omega arith
