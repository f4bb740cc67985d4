use Prim.Native.Nat.{ℕ, ◌+◌}
use mathlib.Core.Path.{◌≡◌, sym, ap, ap₂, ◌∙◌}
use mathlib.Core.List.{List}
use native.Mathlib.Omega.{arith}
use Rattle.node_table.specs.Table.{cell_at, cell, column, start_at, block_start}
use Rattle.node_table.specs.TableLaws.{written_next, written_none, get_d_written_other, sum_to-next, sum_to-suc, sum-none}
use Rattle.node_table.proofs.set_starts.Goals as goal

-- the counts stay
count_kept : (at i : ℕ) (l m : List ℕ) → m ≡ column at i (block_start at l) l → cell (at + 1) m i ≡ cell (at + 1) l i
count_kept at i l m h =
    ap (λ (r : List ℕ). cell (at + 1) r i) h ∙ get_d_written_other (cell_at at) (block_start at l) i l (cell_at (at + 1) i) (λ j b w. omega arith)

pub overflow_add-sum : goal.overflow_add-sum
overflow_add-sum c =
    let at-loop = c.loop-i in
    let args = c.args in
    let e = count_kept args.at at-loop.i args.numbers.now at-loop.numbers at-loop.invariant.0 in
    let b = sum_to-next (cell (args.at + 1) args.numbers.now) at-loop.i args.nodes c.loop-i-test.true in
    omega arith

pub loop-i-init : goal.loop-i-init
loop-i-init c = (sym (written_none (cell_at c.args.at) (block_start c.args.at c.args.numbers.now) c.args.numbers.now), sum-none (cell (c.args.at + 1) c.args.numbers.now))

pub loop-i-preserved : goal.loop-i-preserved
unfolding block_start
loop-i-preserved c =
    let at-loop = c.loop-i in
    let args = c.args in
    let i = at-loop.i in
    let l = args.numbers.now in
    let e = count_kept args.at i l at-loop.numbers at-loop.invariant.0 in (
      written_next (cell_at args.at) (block_start args.at l) l i c.start_of.result at-loop.numbers at-loop.invariant.0
          (c.start_of.ensures ∙ ap₂ start_at at-loop.invariant.1 e),
      ap₂ (λ (a b : ℕ). a + b) at-loop.invariant.1 e ∙ sym (sum_to-suc (cell (args.at + 1) l) i),
    )
