-- 02, K6: 'After every accepted build of an unbuilt index an inner node's filter equals the pool of its children's.' Why: such a build lays out the nodes of
-- the tree of what is held.
use Rattle.std.specs.Prelude.{ℕ, ◌≤◌, ◌<◌, false, List, ◌≡◌}
use Rattle.std.proofs.Common.{sym, subst}
use Rattle.store.specs.Store.{Store, node_field}
use Rattle.std.specs.Prelude.{Ok}
use Rattle.curator.specs.declared.CuratorIndex.{CuratorIndex}
use Rattle.curator.specs.Limits.{index_shape}
use Rattle.curator.specs.Calls.{held_vectors, held_entries, splitting_of}
use Rattle.curator.specs.Changes.{held_nodes, Builds}
use Rattle.build.specs.BuildLaws.{builds-accepted}
use Rattle.build.specs.FitLaws.{fine_ready, fine_few, nodes_fit}
use Rattle.build.specs.Pooled.{Pooled}
use Rattle.build.proofs.PooledLaws.{laid_pooled}

-- of every state, store and work list: each node below the node count whose count of children is not 0
pub build_pools : (index : CuratorIndex) (store : Store) (work : List ℕ) (index' : CuratorIndex) (store' : Store) (work' : List ℕ)
    → Builds index store work (Ok index') store' work' → index.built ≡ false
    → (i : ℕ) → i < index'.counts.nodes → 1 ≤ node_field (index_shape index) store'.numbers i 1
    → Pooled (index_shape index) index'.counts.nodes store' i
unfolding held_nodes
build_pools index store work index' store' work' builds u =
    let (f, i-is, laid) = builds-accepted index store work index' store' work' builds u in
    let r = fine_ready index store work f u in
    let fit = nodes_fit index store work r (fine_few index store work f u) in
    subst (λ (k : CuratorIndex). (i : ℕ) → i < k.counts.nodes → 1 ≤ node_field (index_shape index) store'.numbers i 1 → Pooled (index_shape index) k.counts.nodes store' i)
    (sym i-is)
    (laid_pooled (index_shape index) (splitting_of index.dimension index.params) (held_vectors index store) (held_entries index store) store.numbers store.hashes
    r.sound.limits.branching_low fit r.long.numbers r.long.hashes store' laid.numbers laid.hashes)
