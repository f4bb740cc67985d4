-- `split::split_node` meets its contract: the clusters are copied to the group's place, and their number is the count of the children.
use native.Mathlib.Omega.{arith}
use Rattle.build_tree.proofs.Dividing.{length-lent_ids, split-room, split-work, split-few, divided}
use Rattle.build_tree.proofs.split.split_node.Goals as goal

pub split_ids-children-requires : goal.split_ids-children-requires
split_ids-children-requires c =
    let a = c.args in
    let p = c.requires in
    let k = length-lent_ids p.tree_lent p.splits in
    let room = split-room p.tree_lent p.splits in
    let work = split-work p.tree_lent p.splits in
    let v = p.tree_lent.limits.vectors_high in
    let h = p.tree_lent.held in
    record {
      limits = p.tree_lent.limits;
      behind_vectors = room;
      n_bound = omega (arith, v, h);
      in_bounds = omega (arith, k, p.splits.filled);
      ids_len_bound = omega (arith, k, v, h, p.splits.many);
      ids_in_bounds = work;
      levels_bound = p.splits.few;
    }

pub write_six-requires : goal.write_six-requires
write_six-requires c =
    let a = c.args in
    let p = c.requires in
    let d = c.split_ids-children in
    let few = split-few p.tree_lent p.splits d.ensures in
    record {
      at_in_bounds = omega (arith, p.splits.room, c.copy_to.auto.numbers);
      children_bound = few;
      start_bound = omega arith;
      size_bound = omega arith;
    }

pub returns : goal.returns
returns c =
    let a = c.args in
    let p = c.requires in
    let d = c.split_ids-children in
    divided p.tree_lent p.splits d.ensures c.copy_to.ensures c.write_six.ensures
