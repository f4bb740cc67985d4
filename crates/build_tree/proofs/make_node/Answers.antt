-- `make_node` meets its contract: the header is cleared, the centroid is the mean of the group's ids, and then the group is a leaf or is split.
use mathlib.Core.Path.{sym, ◌∙◌}
use native.Mathlib.Omega.{arith}
use Rattle.build_tree.proofs.Stepping.{group_fits, levels-some, mean_room, leaf_end, lent₁, splits, inner_end}
use Rattle.build_tree.proofs.make_node.Goals as goal

pub slice_bounds-mean_into-end : goal.slice_bounds-mean_into-end
slice_bounds-mean_into-end c =
    let h = c.take_header-head.ensures in
    let fits = group_fits c.requires.tree_lent c.requires.waits c.order_at.ensures (h.size_value, (h.levels_value, h.numbers_after)) in
    omega arith

pub overflow_sub-head : goal.overflow_sub-head
overflow_sub-head c =
    let h = c.take_header-head.ensures in
    let some = levels-some c.requires.tree_lent c.requires.waits c.order_at.ensures (h.size_value, (h.levels_value, h.numbers_after)) c.args.leaf_size c.centroids_at.ensures c.nodes_at.ensures c.mean_into.ensures (sym c.is_leaf.ensures ∙ c.if-is_leaf.false) in
    omega arith

pub mean_into-requires : goal.mean_into-requires
mean_into-requires c =
    let h = c.take_header-head.ensures in
    mean_room c.requires.tree_lent c.requires.waits c.order_at.ensures (h.size_value, (h.levels_value, h.numbers_after)) c.centroids_at.ensures

pub returns-then-is_leaf : goal.returns-then-is_leaf
returns-then-is_leaf c =
    let h = c.take_header-head.ensures in
    leaf_end c.requires.tree_lent c.requires.waits c.order_at.ensures (h.size_value, (h.levels_value, h.numbers_after)) c.args.leaf_size c.centroids_at.ensures c.nodes_at.ensures c.mean_into.ensures (sym c.is_leaf.ensures ∙ c.if-is_leaf.true) c.write_six.ensures

pub split_node-requires : goal.split_node-requires
split_node-requires c =
    let h = c.take_header-head.ensures in
    record {
      tree_lent = lent₁ c.requires.tree_lent c.requires.waits c.order_at.ensures (h.size_value, (h.levels_value, h.numbers_after)) c.args.leaf_size c.centroids_at.ensures c.nodes_at.ensures c.mean_into.ensures (sym c.is_leaf.ensures ∙ c.if-is_leaf.false) c.mean_into.auto.floats;
      splits = splits c.requires.tree_lent c.requires.waits c.order_at.ensures (h.size_value, (h.levels_value, h.numbers_after)) c.args.leaf_size c.centroids_at.ensures c.nodes_at.ensures c.mean_into.ensures (sym c.is_leaf.ensures ∙ c.if-is_leaf.false);
    }

pub returns : goal.returns
returns c =
    let h = c.take_header-head.ensures in
    inner_end c.requires.tree_lent c.requires.waits c.order_at.ensures (h.size_value, (h.levels_value, h.numbers_after)) c.args.leaf_size c.centroids_at.ensures c.nodes_at.ensures c.mean_into.ensures (sym c.is_leaf.ensures ∙ c.if-is_leaf.false) c.split_node.ensures
