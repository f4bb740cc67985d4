-- The starts leave the counts as they were.
-- Assumes nothing.
use Prim.Native.Nat.{ℕ, ◌+◌}
use mathlib.Core.Path.{sym, ap₂, ◌∙◌, subst}
use mathlib.Core.List.{List}
use native.Mathlib.Omega.{arith}
use lib.Seq.{sets}
use Rattle.tree.specs.Links.{link_up}
use Rattle.node_table.specs.Table.{block_start}
use Rattle.child_links.specs.Promises.{ChildCounts}
use Rattle.node_table.specs.TableLaws.{length-cells, sum-cells, cells-kept}
use Rattle.child_links.proofs.link_nodes.Goals as goal

pub set_starts-requires : goal.set_starts-requires
set_starts-requires c =
    let args = c.args in
    let fit = c.requires.nodes_bound in
    let long = c.requires.nodes_in_bounds in
    let small = c.requires.nodes_bound_2 in
    let sum = sum-cells (args.table + 1) args.nodes args.numbers.now in
    let one = c.requires.child_counts.one_root in
    let n = length-cells (args.table + 1) args.nodes args.numbers.now in
    record {
      nodes_bound = omega arith;
      nodes_bound_2 = omega arith;
    }

pub link_children-requires : goal.link_children-requires
link_children-requires c =
    let args = c.args in
    let starts = c.set_starts in
    let n = starts.auto.numbers in
    let fit = c.requires.nodes_bound in
    let long = c.requires.nodes_in_bounds in
    let kept = cells-kept args.table args.nodes (block_start args.table args.numbers.now) args.numbers.now starts.new.numbers starts.ensures in
    record {
      nodes_bound = omega arith;
      nodes_in_bounds = omega arith;
      nodes_in_bounds_2 = c.requires.nodes_in_bounds_2;
      nodes_bound_2 = c.requires.nodes_bound_2;
      child_counts = subst (λ (cs : List ℕ). ChildCounts cs) (sym kept) c.requires.child_counts;
    }

pub returns : goal.returns
returns c =
    let args = c.args in
    let starts = c.set_starts in
    let link = c.link_children in
    let kept = cells-kept args.table args.nodes (block_start args.table args.numbers.now) args.numbers.now starts.new.numbers starts.ensures in
    record {
      numbers_after = link.ensures.numbers_after ∙ ap₂ (λ (r cs : List ℕ). sets r args.links (link_up 0 cs).links) starts.ensures kept;
      work_unchanged = link.ensures.work_unchanged;
    }
