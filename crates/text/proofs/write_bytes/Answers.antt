-- The text is copied over the places that it takes.
use Prim.Native.Nat.{◌+◌}
use mathlib.Core.Path.{refl, ap, ◌∙◌}
use native.Mathlib.Omega.{arith}
use lib.ListN.{length}
use lib.Seq.{sets}
use Rattle.lists.specs.Parts.{lent-part}
use Rattle.text.specs.LinesLaws.{line_written}
use Rattle.text.proofs.write_bytes.Goals as goal

pub returns : goal.returns
returns c =
    let a = c.args in
    let copy = c.copy_from_slice in
    line_written a.out.now a.at a.text.now _ (a.at + length a.text.now)
    (lent-part a.out.now a.at (a.at + length a.text.now) copy.new.self (omega arith) (omega arith) (ap length copy.ensures.after ∙ omega arith)
    ∙ ap (sets a.out.now a.at) copy.ensures.after)
    refl (omega arith)
