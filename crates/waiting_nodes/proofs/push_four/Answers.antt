-- `push_four` meets its contract: one node after the other, their distances side by side. Assumes nothing.
use Rattle.waiting_nodes.proofs.Pushing.{child_held, node-is}
use Rattle.lists.specs.Parts.{four_mapped}
use Rattle.waiting_nodes.specs.Promises.{node_for, PushNodes, PushedNodes}
use Rattle.waiting_nodes.specs.PushLaws.{pushed-append}
use Rattle.total_order.specs.TotalOrder.{key_of}
use Rattle.record_queue.specs.Records.{records, Heap}
use Rattle.walk.proofs.LentLaws.{vector-within}
use lib.ListN.{length}
use mathlib.Core.List.{List, [], ◌∷◌}
use mathlib.Core.Path.{◌≡◌, refl, ap, ◌∙◌, subst}
use native.Mathlib.Omega.{arith}
use lib.ListN.{get_or}
use Prim.Native.Nat.{ℕ, ◌+◌, ◌*◌, ◌≤◌, ◌<◌}
use Rattle.waiting_nodes.proofs.push_four.Goals.{After-push_node, After-push_node-2, After-push_node-3, Start}
use Rattle.waiting_nodes.proofs.push_four.Goals as goal

-- a number read is that of a node
low : (r : Start) (k at : ℕ) → k < 4 → at ≡ r.args.at + k → get_or r.args.numbers.now at 0 < r.args.shape.nodes
low r k at h e =
    child_held r.args.shape r.args.numbers.now r.args.at 4 k at _ r.requires.children h e refl

-- a centroid lies within the floats
within : (r : Start) (i : ℕ) → i < r.args.shape.nodes
    → (r.args.shape.vectors + i) * r.args.shape.dimension + r.args.shape.dimension ≤ length r.args.floats.now
within r i h =
    vector-within r.args.shape r.args.floats.now (r.args.shape.vectors + i) (r.args.shape.vectors + r.args.shape.nodes) r.requires.nodes.limits r.requires.floats_enough (omega (arith, h)) (omega arith)

-- each is pushed
abbrev Pushed1 : Type 0
Pushed1 = After-push_node

abbrev Pushed2 : Type 0
Pushed2 = After-push_node-2

abbrev Pushed3 : Type 0
Pushed3 = After-push_node-3

after1 : (p : Pushed1) → PushNodes p.args.shape p.push_node.new.work (p.args.waiting + 1) 1
after1 p =
    let e = p in
    let q = p.push_node.ensures in
    record { size = omega (arith, e.requires.nodes.size, q.size); limits = e.requires.nodes.limits; room = omega (arith, e.requires.nodes.room); queue = q.queue }

after2 : (p : Pushed2) → PushNodes p.args.shape p.push_node-2.new.work (p.args.waiting + 2) 1
after2 p =
    let q = p.push_node-2.ensures in
    let q1 = p.push_node.ensures in
    record {
      size = omega (arith, p.requires.nodes.size, q.size, q1.size);
      limits = p.requires.nodes.limits;
      room = omega (arith, p.requires.nodes.room);
      queue = subst (λ (n : ℕ). Heap (records 2 n p.push_node-2.new.work)) (let t : p.args.waiting + 1 + 1 ≡ p.args.waiting + 2 = omega arith in t) q.queue;
    }

after3 : (p : Pushed3) → PushNodes p.args.shape p.push_node-3.new.work (p.args.waiting + 3) 1
after3 p =
    let q = p.push_node-3.ensures in
    let q2 = p.push_node-2.ensures in
    let q1 = p.push_node.ensures in
    record {
      size = omega (arith, p.requires.nodes.size, q.size, q2.size, q1.size);
      limits = p.requires.nodes.limits;
      room = omega (arith, p.requires.nodes.room);
      queue = subst (λ (n : ℕ). Heap (records 2 n p.push_node-3.new.work)) (let t : p.args.waiting + 2 + 1 ≡ p.args.waiting + 3 = omega arith in t) q.queue;
    }

pub distances_at-four-requires : goal.distances_at-four-requires
distances_at-four-requires c =
    let r = (goal.at.distances_at-four-requires c).Start in
    record {
      dimension_in_bounds = within r _ (low r 0 _ (omega arith) (omega arith));
      dimension_in_bounds_2 = within r _ (low r 1 _ (omega arith) (omega arith));
      dimension_in_bounds_3 = within r _ (low r 2 _ (omega arith) (omega arith));
      dimension_in_bounds_4 = within r _ (low r 3 _ (omega arith) (omega arith));
    }

pub push_node-requires : goal.push_node-requires
push_node-requires c =
    let w = c.requires.nodes in
    record { nodes = record { size = w.size; limits = w.limits; room = omega (arith, w.room); queue = w.queue }; below = low ((goal.at.push_node-requires c).Start) 0 _ (omega arith) (omega arith) }

pub push_node-requires-2 : goal.push_node-requires-2
push_node-requires-2 c = record { nodes = after1 ((goal.at.push_node-requires-2 c).After-push_node); below = low ((goal.at.push_node-requires-2 c).Start) 1 _ (omega arith) (omega arith) }

pub push_node-requires-3 : goal.push_node-requires-3
push_node-requires-3 c = record { nodes = after2 ((goal.at.push_node-requires-3 c).After-push_node-2); below = low ((goal.at.push_node-requires-3 c).Start) 2 _ (omega arith) (omega arith) }

pub push_node-requires-4 : goal.push_node-requires-4
push_node-requires-4 c = record { nodes = after3 ((goal.at.push_node-requires-4 c).After-push_node-3); below = low ((goal.at.push_node-requires-4 c).Start) 3 _ (omega arith) (omega arith) }

pub returns : goal.returns
returns c =
    let s = c.args.shape in
    let w = c.args.work.now in
    let q = c.args.waiting in
    let f = node_for s c.args.floats.now c.args.query.now in
    let at = c.distances_at-four.ensures in
    let node = node-is s c.args.floats.now c.args.query.now in
    let first_two = pushed-append s w c.push_node.new.work c.push_node-2.new.work q (q + 1) (_ ∷ []) (_ ∷ []) refl c.push_node.ensures c.push_node-2.ensures in
    let first_three = pushed-append s w c.push_node-2.new.work c.push_node-3.new.work q (q + 2) (_ ∷ _ ∷ []) (_ ∷ []) refl first_two c.push_node-3.ensures in
    let all = pushed-append s w c.push_node-3.new.work c.push_node-4.new.work q (q + 3) (_ ∷ _ ∷ _ ∷ []) (_ ∷ []) refl first_three c.push_node-4.ensures in
    subst (λ (l : List ℕ). PushedNodes s w q l c.push_node-4.new.work)
    (four_mapped f c.args.numbers.now c.args.at 0 _ _ _ _ c.requires.children.inside
    (node _ _ _ _ (c.key.ensures ∙ ap key_of at.a_value) refl refl)
    (node _ _ _ _ (c.key-2.ensures ∙ ap key_of at.b_value) refl refl)
    (node _ _ _ _ (c.key-3.ensures ∙ ap key_of at.c_value) refl refl)
    (node _ _ _ _ (c.key-4.ensures ∙ ap key_of at.d_value) refl refl))
    all
