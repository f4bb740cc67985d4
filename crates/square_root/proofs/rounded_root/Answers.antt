-- `rounded_root` meets its contract: an integer root of 25 digits, rounded, is nearest (`rounds-root`).
use Prim.Native.Nat.{◌^◌, ◌<◌}
use Rattle.square_root.specs.RootLaws.{root_under, rounds_root}
use Rattle.square_root.proofs.rounded_root.Goals as goal

-- the integer root has at most 25 digits
small : (c : goal.After-integer_root-s) → c.integer_root-s.result < 2 ^ 25
small c = root_under c.args.n c.integer_root-s.result c.requires.bound.1 c.integer_root-s.ensures.0

pub returns : goal.returns
returns c =
    let h = c.requires.bound in
    rounds_root c.args.n c.integer_root-s.result c.args.k h.0 h.1 h.2 h.3 c.integer_root-s.ensures.0 c.integer_root-s.ensures.1
