use Prim.Native.Nat.{ℕ, suc, ◌+◌, ◌-◌, ◌*◌, ◌<◌}
use mathlib.Core.Path.{◌≡◌, sym, ap, ◌∙◌, subst}
use mathlib.Core.List.{List}
use native.Mathlib.Omega.{arith}
use lib.ListN.{length, get_or, set, drop}
use lib.Seq.{sets}
use Rattle.lists.specs.Lists.{part}
use Rattle.lists.specs.Parts.{length_part, get_d_sets_before, lent-run}
use Rattle.tree.specs.Links.{link_up}
use Rattle.node_table.specs.Table.{cell, cells}
use Rattle.child_links.proofs.Linking.{Linking, linking_start, linking_next, Turn, turn_of}
use Rattle.node_table.specs.TableLaws.{length-cells, get_d_cells}
use Rattle.child_links.proofs.link_children.Goals.{In-loop-i}
use Rattle.child_links.proofs.link_children.Goals as goal

turn : (c : In-loop-i)
    → Turn (cells c.args.at c.args.nodes c.args.numbers.now) c.args.numbers.now c.args.work.now
    c.args.nodes c.args.links c.loop-i.numbers c.loop-i.work c.loop-i.top c.loop-i.end (c.loop-i.i - 1) (cell c.args.at c.loop-i.numbers (c.loop-i.i - 1))
turn c =
    let args = c.args in
    let at-loop = c.loop-i in
    let l = args.numbers.now in
    let cs = cells args.at args.nodes l in
    let i = at-loop.i - 1 in
    let some = c.loop-i-test.true in
    let h : i < args.nodes = omega arith in
    let j : at-loop.i ≡ suc i = omega arith in
    let linking = at-loop.invariant in
    let apart = c.requires.nodes_bound in
    turn_of cs l args.work.now args.nodes args.links at-loop.numbers at-loop.work at-loop.top at-loop.end i at-loop.i (cell args.at at-loop.numbers i)
    c.requires.child_counts (length-cells args.at args.nodes l) c.requires.nodes_in_bounds_2 j h linking
    (ap (λ (r : List ℕ). cell args.at r i) linking.numbers_is
    ∙ get_d_sets_before l (args.links + at-loop.end) (link_up at-loop.i (drop at-loop.i cs)).links (args.at + 6 * i) 0 (omega arith)
    ∙ sym (get_d_cells args.at args.nodes l i h))

pub overflow_sub-end : goal.overflow_sub-end
overflow_sub-end c =
    let n = length-cells c.args.at c.args.nodes c.args.numbers.now in
    let o = c.requires.child_counts.one_root in
    omega arith

pub loop-i-init : goal.loop-i-init
loop-i-init c =
    let args = c.args in
    let cs = cells args.at args.nodes args.numbers.now in
    subst (λ (k : ℕ). Linking cs args.numbers.now args.work.now args.links args.numbers.now args.work.now k (k - 1) k)
    (length-cells args.at args.nodes args.numbers.now) (linking_start cs args.numbers.now args.work.now args.links c.requires.child_counts)

pub copy_to-requires : goal.copy_to-requires
copy_to-requires c =
    let t = turn ((goal.at.copy_to-requires c).In-loop-i) in
    let at-loop = c.loop-i in
    let w = cell c.args.at at-loop.numbers (at-loop.i - 1) in
    let long = ap (λ (r : List ℕ). length r) (lent-run at-loop.top w at-loop.work) ∙ length_part at-loop.top w at-loop.work (omega arith) in
    let a = c.requires.nodes_in_bounds in
    omega arith

pub bounds-work-top : goal.bounds-work-top
bounds-work-top c = let t = turn ((goal.at.bounds-work-top c).In-loop-i) in omega arith

pub loop-i-preserved : goal.loop-i-preserved
loop-i-preserved c =
    let t = turn ((goal.at.loop-i-preserved c).In-loop-i) in
    let args = c.args in
    let at-loop = c.loop-i in
    let copy = c.copy_to in
    let w = cell c.args.at at-loop.numbers (at-loop.i - 1) in
    let l = args.numbers.now in
    let cs = cells args.at args.nodes l in
    let n = length-cells args.at args.nodes l in
    let i = at-loop.i - 1 in
    let fits = c.requires.nodes_in_bounds_2 in
    let is : copy.new.numbers ≡ sets at-loop.numbers (args.links + (at-loop.end - get_or cs i 0)) (part at-loop.top (get_or cs i 0) at-loop.work) =
    copy.ensures ∙ ap (λ (r : List ℕ). sets at-loop.numbers (args.links + (at-loop.end - w)) r) (lent-run at-loop.top w at-loop.work)
    ∙ ap (λ (k : ℕ). sets at-loop.numbers (args.links + (at-loop.end - k)) (part at-loop.top k at-loop.work)) t.count_is in
    let next = linking_next cs l args.work.now args.links c.requires.child_counts at-loop.numbers at-loop.work at-loop.top at-loop.end i t.small (omega (arith, n, fits)) t.before copy.new.numbers is in
    subst (λ (k : ℕ). Linking cs l args.work.now args.links copy.new.numbers (set at-loop.work (at-loop.top + k - 1) i) (at-loop.top + k - 1) (at-loop.end - k) i)
    (sym t.count_is) next

pub returns-clause-work_unchanged : goal.returns-clause-work_unchanged
returns-clause-work_unchanged c =
    let args = c.args in
    let n = length-cells args.at args.nodes args.numbers.now in
    ap (λ (k : ℕ). drop k c.loop-i.work) (sym n) ∙ c.loop-i.invariant.work_is ∙ ap (λ (k : ℕ). drop k args.work.now) n

pub overflow_sub-end-in-loop-i : goal.overflow_sub-end-in-loop-i
overflow_sub-end-in-loop-i c = let t = turn ((goal.at.overflow_sub-end-in-loop-i c).In-loop-i) in omega arith

pub overflow_add-rest : goal.overflow_add-rest
overflow_add-rest c = let t = turn ((goal.at.overflow_add-rest c).In-loop-i) in omega arith

pub overflow_add-links : goal.overflow_add-links
overflow_add-links c = let t = turn ((goal.at.overflow_add-links c).In-loop-i) in omega arith

pub offset_bounds-work-top : goal.offset_bounds-work-top
offset_bounds-work-top c = let t = turn ((goal.at.offset_bounds-work-top c).In-loop-i) in omega arith

pub slice_bounds-copy_to-end : goal.slice_bounds-copy_to-end
slice_bounds-copy_to-end c = let t = turn ((goal.at.slice_bounds-copy_to-end c).In-loop-i) in omega arith

pub overflow_sub-top : goal.overflow_sub-top
overflow_sub-top c = let t = turn ((goal.at.overflow_sub-top c).In-loop-i) in omega arith

pub offset_bounds-work-top-in-loop-i : goal.offset_bounds-work-top-in-loop-i
offset_bounds-work-top-in-loop-i c = let t = turn ((goal.at.offset_bounds-work-top-in-loop-i c).In-loop-i) in omega arith
