-- `push_one` meets its contract: the list of one. Assumes nothing.
-- ---- the places that needs go back to (primed: the same place, from another one)
use Rattle.waiting_nodes.proofs.Pushing.{child_held, node-is}
use Rattle.lists.specs.Parts.{one_mapped}
use Rattle.waiting_nodes.specs.Promises.{node_for, PushedNodes}
use Rattle.walk.proofs.LentLaws.{vector-within}
use mathlib.Core.List.{List}
use mathlib.Core.Path.{refl, subst}
use native.Mathlib.Omega.{arith}
use lib.ListN.{get_or}
use Prim.Native.Nat.{ℕ, ◌+◌, ◌<◌}
use Rattle.waiting_nodes.proofs.push_one.Goals.{Start}
use Rattle.waiting_nodes.proofs.push_one.Goals as goal

low : (r : Start) → get_or r.args.numbers.now r.args.at 0 < r.args.shape.nodes
low r = child_held r.args.shape r.args.numbers.now r.args.at 1 0 r.args.at _ r.requires.children (omega arith) (omega arith) refl

pub distance_key-key-requires : goal.distance_key-key-requires
distance_key-key-requires c =
    vector-within c.args.shape c.args.floats.now _ (c.args.shape.vectors + c.args.shape.nodes) c.requires.nodes.limits c.requires.floats_enough
    (let k = low ((goal.at.distance_key-key-requires c).Start) in omega (arith, k)) (omega arith)

pub push_node-requires : goal.push_node-requires
push_node-requires c =
    record { nodes = c.requires.nodes; below = low ((goal.at.push_node-requires c).Start) }

pub returns : goal.returns
returns c =
    let p = c.push_node in
    let k = c.distance_key-key in
    subst (λ (l : List ℕ). PushedNodes c.args.shape c.args.work.now c.args.waiting l p.new.work)
    (one_mapped (node_for c.args.shape c.args.floats.now c.args.query.now) c.args.numbers.now c.args.at 0 _ c.requires.children.inside
    (node-is c.args.shape c.args.floats.now c.args.query.now k.result _ _ _ k.ensures refl refl))
    p.ensures
