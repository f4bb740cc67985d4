-- `begin` meets its contract: cleared marks, the root marked, and the root pushed. Assumes nothing.
use Rattle.best_first_walk.specs.Walks.{root_marked}
use Rattle.best_first_walk.proofs.Steps.{view_key, begins}
use Rattle.walk.proofs.LentLaws.{vector-within}
use Rattle.store.specs.Lent.{store_of}
use Rattle.waiting_nodes.specs.Promises.{PushedNodes}
use Rattle.walk.specs.StoreView.{store_view}
use Rattle.store.specs.Store.{marks_at}
use Rattle.record_queue.specs.RecordsLaws.{heap-none}
use lib.Seq.{sets, length-sets}
use lib.ListN.{length, replicate, length-set}
use mathlib.Core.List.{[], ◌∷◌}
use mathlib.Core.Path.{◌≡◌, sym, subst₂, ◌∙◌}
use native.Mathlib.Omega.{arith}
use native.Mathlib.Nat.{add-zero}
use Prim.Native.Nat.{◌+◌, ◌*◌, ◌^◌}
use Rattle.best_first_walk.proofs.begin.Goals as goal
use Rattle.best_first_walk.proofs.begin.Goals.{After-mark_root}

marked-size : (m : After-mark_root) → length (root_marked m.args.shape m.args.counts m.args.work.now) ≡ length m.args.work.now
marked-size m =
    length-set (sets m.args.work.now (marks_at m.args.shape) (replicate m.args.counts.nodes 0)) (marks_at m.args.shape) 1
    ∙ length-sets m.args.work.now (marks_at m.args.shape) (replicate m.args.counts.nodes 0)

pub distance_key-key-requires : goal.distance_key-key-requires
distance_key-key-requires c =
    vector-within c.args.shape c.args.floats.now c.args.shape.vectors (c.args.shape.vectors + c.args.shape.nodes) c.requires.within.limits c.requires.floats_enough (omega (arith, c.requires.within.limits.nodes_low)) (omega arith)

pub push_node-requires : goal.push_node-requires
push_node-requires c =
    record {
      nodes = record {
        size = rw c.mark_root.ensures (omega (arith, marked-size ((goal.at.push_node-requires c).After-mark_root), c.requires.work_enough));
        limits = c.requires.within.limits;
        room = c.requires.within.limits.nodes_low;
        queue = heap-none 2 _;
      };
      below = c.requires.within.limits.nodes_low;
    }

pub returns : goal.returns
returns c =
    λ hit numbers hashes text wanted.
    let view = store_view c.args.shape c.args.counts (store_of c.args.floats.now numbers hashes text) c.args.query.now wanted in
    let key = view_key c.args.shape c.args.counts c.args.floats.now numbers hashes text c.args.query.now wanted 0 c.args.shape.vectors _ (sym (add-zero c.args.shape.vectors)) c.distance_key-key.ensures in
    begins c.args.shape c.args.counts hit view c.args.work.now _ c.requires.within.nodes c.requires.some c.requires.work_enough
    (subst₂ (λ work key. PushedNodes c.args.shape work 0 ((key * 2 ^ 64 + 0) ∷ []) c.push_node.new.work) c.mark_root.ensures key c.push_node.ensures)
