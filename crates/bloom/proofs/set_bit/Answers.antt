-- A one shifted by less than 64 is the power of 2, and `bit_or` with that is the definition's word.
-- Assumes nothing.
use mathlib.Core.Path.{◌≡◌, sym, ap, ◌∙◌}
use Prim.Native.Nat.{◌*◌, ◌/◌, ◌%◌, ◌^◌}
use native.Mathlib.Nat.{one-mul}
use native.Mathlib.Omega.{arith}
use lib.Bits.{bit_or}
use lib.Dec.{lit<}
use lib.ListN.{get_or, set}
use lib.Pow.{shl_exact}
use Rattle.bloom.specs.Filter.{set_bit}
use Rattle.bloom.proofs.FilterLaws.{set_word_bit-is}
use Rattle.bloom.proofs.set_bit.Goals as goal

pub returns : goal.returns
unfolding set_bit
returns c =
    let filter = c.args.filter.now in
    let i = c.args.k / 64 in
    let j = c.args.k % 64 in
    let shifted : 1 * 2 ^ j % 2 ^ 64 ≡ 2 ^ j = shl_exact {a = 1} 1 j 64 (lit< tt) (omega arith) ∙ one-mul (2 ^ j) in
    ap (set filter i) (ap (bit_or (get_or filter i 0)) shifted ∙ sym (set_word_bit-is (get_or filter i 0) j))
