use Prim.Native.Nat.{ℕ, ◌+◌}
use mathlib.Core.Path.{sym, ap, ◌∙◌}
use mathlib.Core.List.{List}
use native.Mathlib.Omega.{arith}
use lib.ListN.{get_or}
use Rattle.node_table.specs.TableLaws.{written_next, written_none, get_d_written_other}
use Rattle.entry_leaves.proofs.find_leaves.Goals as goal

pub loop-k-init : goal.loop-k-init
loop-k-init c = sym (written_none (λ k. c.args.at + k) (λ k. get_or c.args.work.now (get_or c.args.numbers.now (c.args.owners + k) 0) 0) c.args.work.now)

pub loop-k-preserved : goal.loop-k-preserved
loop-k-preserved c =
    let at-loop = c.loop-k in
    let args = c.args in
    let k = at-loop.k in
    let owner = get_or args.numbers.now (args.owners + k) 0 in
    let b = c.requires.by_index k (omega arith) in
    let p : ℕ → ℕ = λ k. args.at + k in
    let f : ℕ → ℕ = λ k. get_or args.work.now (get_or args.numbers.now (args.owners + k) 0) 0 in
    written_next p f args.work.now k (get_or at-loop.work owner 0) at-loop.work at-loop.invariant
    (ap (λ (r : List ℕ). get_or r owner 0) at-loop.invariant ∙ get_d_written_other p f k args.work.now owner (λ i g w. omega arith))
