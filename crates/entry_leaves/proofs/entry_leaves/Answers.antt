-- One pass after the other.
-- Assumes nothing.
use Prim.Native.Nat.{ℕ, ◌+◌}
use mathlib.Core.Path.{ap, ◌∙◌}
use mathlib.Core.List.{List}
use native.Mathlib.Omega.{arith}
use lib.ListN.{get_or}
use Rattle.node_table.specs.Table.{written}
use Rattle.entry_leaves.specs.Leaves.{leaves_marked}
use Rattle.entry_leaves.proofs.entry_leaves.Goals as goal

pub mark_leaves-requires : goal.mark_leaves-requires
mark_leaves-requires c =
    let long = c.requires.entries_in_bounds in
    record {
      nodes_in_bounds = c.requires.nodes_in_bounds;
      nodes_bound = c.requires.nodes_bound;
      nodes_in_bounds_2 = c.requires.nodes_in_bounds_2;
      by_index = λ k b. let h = c.requires.by_index k b in omega arith;
    }

pub find_leaves-requires : goal.find_leaves-requires
find_leaves-requires c =
    let n = c.mark_leaves.auto.work in
    let long = c.requires.entries_in_bounds in
    record {
      entries_in_bounds = omega arith;
      entries_in_bounds_2 = c.requires.entries_in_bounds_2;
      by_index = c.requires.by_index_2;
    }

pub returns : goal.returns
unfolding leaves_marked
returns c =
    let args = c.args in
    c.find_leaves.ensures
    ∙ ap (λ (r : List ℕ). written (λ k. args.at + k) (λ k. get_or r (get_or args.numbers.now (args.owners + k) 0) 0) args.entries r) c.mark_leaves.ensures
