-- The part that is lent comes back as what is stored (`lent-part`).
use Prim.Native.Nat.{◌+◌}
use mathlib.Core.Path.{subst}
use native.Mathlib.Omega.{arith}
use lib.Ieee.{Float}
use lib.ListN.{length}
use Rattle.vector.specs.Vector.{Normalized}
use Rattle.lists.specs.Parts.{lent-part}
use Rattle.curator.proofs.StateLaws.{length-stored}
use Rattle.curator.proofs.add.write_vector.Goals as goal

pub returns : goal.returns
returns c =
    let args = c.args in
    let stored = c.normalize.new.out in
    let h = subst (λ (s : Float). Normalized s args.vector.now stored) c.requires.squares_value c.normalize.ensures in
    let n = length-stored h in
    let end = args.place + length args.vector.now in
    record {
      stored = stored;
      normalized = h;
      floats = lent-part args.floats.now args.place end stored (omega arith) (omega arith) (omega arith);
    }
