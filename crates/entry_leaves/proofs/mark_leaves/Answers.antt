use Prim.Native.Nat.{ℕ, ◌+◌, ◌-◌, ◌≤◌}
use mathlib.Core.Path.{◌≡◌, ap, ◌∙◌}
use mathlib.Core.List.{List}
use native.Mathlib.Omega.{arith}
use lib.ListN.{length, get_or, take, drop}
use Rattle.lists.specs.Parts.{length_part, get_d_part, lent-run, part_element}
use Rattle.node_table.specs.Table.{cell, sum_to}
use Rattle.node_table.specs.TableLaws.{sum_to-next, sum_to-suc, sum-none}
use Rattle.entry_leaves.specs.LeavesLaws.{marked-none, marked_next}
use Rattle.entry_leaves.proofs.mark_leaves.Goals.{In-loop-i}
use Rattle.entry_leaves.proofs.mark_leaves.Goals as goal

-- the block of node i
record Block (counts : ℕ → ℕ) (nodes i from size : ℕ) : Type 0 where
  in_sum : sum_to counts i + counts i ≤ sum_to counts nodes
  in_order : from + counts i ≤ size

block : (c : In-loop-i) → Block (cell c.args.at c.args.numbers.now) c.args.nodes c.loop-i.i c.loop-i.from (length c.args.numbers.now)
block c =
    let args = c.args in
    let n = sum_to-next (cell args.at args.numbers.now) c.loop-i.i args.nodes c.loop-i-test.true in
    let f = c.loop-i.invariant.0 in
    let p = c.requires.nodes_in_bounds_2 in
    record { in_sum = n; in_order = omega arith }

pub loop-i-init : goal.loop-i-init
loop-i-init c =
    let args = c.args in
    let z = sum-none (cell args.at args.numbers.now) in
    (omega arith, marked-none (λ k. get_or args.numbers.now (args.order + k) 0) (cell args.at args.numbers.now) args.work.now)

pub mark_leaf-requires : goal.mark_leaf-requires
mark_leaf-requires c =
    let b = block ((goal.at.mark_leaf-requires c).In-loop-i) in
    let l = c.args.numbers.now in
    let from = c.loop-i.from in
    let w = cell c.args.at l c.loop-i.i in
    let sum = sum_to (cell c.args.at l) c.loop-i.i in
    λ k h.
    let x = part_element from w l k 0 (lent-run from w l) b.in_order h in
    let place : from + k ≡ c.args.order + (sum + k) = omega (arith, c.loop-i.invariant.0) in
    let y = x.1 ∙ ap (λ (j : ℕ). get_or l j 0) place in
    let v = c.requires.by_index (sum + k) (omega (arith, x.0, b.in_sum)) in
    omega (arith, y, v)

pub loop-i-preserved : goal.loop-i-preserved
loop-i-preserved c =
    let b = block ((goal.at.loop-i-preserved c).In-loop-i) in
    let l = c.args.numbers.now in
    let at-loop = c.loop-i in
    let from = at-loop.from in
    let counts : ℕ → ℕ = cell c.args.at l in
    let w = counts at-loop.i in
    let sum = sum_to counts at-loop.i in
    let is = lent-run from w l in (
      let t = sum_to-suc counts at-loop.i in omega (arith, t, at-loop.invariant.0),
      marked_next (λ k. get_or l (c.args.order + k) 0) counts at-loop.i c.args.work.now at-loop.work c.mark_leaf.new.work (take (from + w - from) (drop from l)) at-loop.invariant.1
          c.mark_leaf.ensures (ap (λ (r : List ℕ). length r) is ∙ length_part from w l b.in_order)
          (λ k h.
          let place : from + k ≡ c.args.order + (sum + k) = omega (arith, at-loop.invariant.0) in
          ap (λ (r : List ℕ). get_or r k 0) is ∙ get_d_part from w l k 0 (omega (arith, h)) ∙ ap (λ (j : ℕ). get_or l j 0) place),
    )

pub overflow_add-next-in-loop-i : goal.overflow_add-next-in-loop-i
overflow_add-next-in-loop-i c = let b = block ((goal.at.overflow_add-next-in-loop-i c).In-loop-i) in omega arith

pub offset_bounds-numbers-from : goal.offset_bounds-numbers-from
offset_bounds-numbers-from c = let b = block ((goal.at.offset_bounds-numbers-from c).In-loop-i) in omega arith

pub slice_bounds-mark_leaf-end : goal.slice_bounds-mark_leaf-end
slice_bounds-mark_leaf-end c = let b = block ((goal.at.slice_bounds-mark_leaf-end c).In-loop-i) in omega arith
