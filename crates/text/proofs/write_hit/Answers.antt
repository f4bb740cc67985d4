-- The id has at most ten digits, so that the line fits. The parts are written one after the other.
use native.Mathlib.Omega.{arith}
use lib.ListN.{length-set}
use Rattle.text.specs.DigitsLaws.{decimal_le_10, length-hex_of}
use Rattle.text.specs.Lines.{codes, hit_line}
use Rattle.text.specs.LinesLaws.{written_then, written_byte}
use Rattle.text.proofs.write_hit.Goals as goal

pub write_decimal-space-requires : goal.write_decimal-space-requires
write_decimal-space-requires c = omega (arith, decimal_le_10 c.args.id (omega arith))

pub bounds-out-space : goal.bounds-out-space
bounds-out-space c = omega (arith, decimal_le_10 c.args.id (omega arith))

pub write_hex-feed-requires : goal.write_hex-feed-requires
write_hex-feed-requires c = simp length-set (omega (arith, decimal_le_10 c.args.id (omega arith)))

pub bounds-out-feed : goal.bounds-out-feed
bounds-out-feed c =
    let m = c.write_decimal-space.new.out in
    omega (arith, decimal_le_10 c.args.id (omega arith), length-hex_of c.args.bits, length-set m c.write_decimal-space.result 32)

pub returns : goal.returns
unfolding hit_line codes
returns c =
    let id = written_byte 32 (omega (arith, decimal_le_10 c.args.id (omega arith))) c.write_decimal-space.ensures in
    written_byte 10 (let m = c.write_decimal-space.new.out in
    omega (arith, decimal_le_10 c.args.id (omega arith), length-hex_of c.args.bits, length-set m c.write_decimal-space.result 32)) (written_then id c.write_hex-feed.ensures)
