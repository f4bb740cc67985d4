-- Where the nodes of a tree stand in the lent lists (document 01, 'The store').
use Rattle.std.specs.Prelude.{ℕ, ◌+◌, List, [], ◌∷◌, Float, length}
use Rattle.std.proofs.lemmas.List.Edits.{sets}
use Rattle.lists.specs.Lists.{joined}
use Rattle.store.specs.declared.Shape.{Shape}
use Rattle.store.specs.Store.{centroids_at, centres_at, order_at, nodes_at, links_at, entry_order_at, filters_at}
use Rattle.tree.specs.Nodes.{Node}

-- 'an empty block has start 0 and count 0': the start of a block that would begin at a place
unfoldable pub start_of : ℕ → List ℕ → ℕ
start_of at [] = 0
start_of at (x ∷ block) = at

-- 'six per node (start and count of children, vectors, entries)', 'blocks by node number, each block starting where the one before ended'
unfoldable pub six_from : ℕ → ℕ → ℕ → List Node → List ℕ
unfolding start_of
six_from c v e [] = []
six_from c v e (node ∷ rest) =
    start_of c node.children ∷ length node.children ∷ start_of v node.ids ∷ length node.ids ∷ start_of e node.entries
    ∷ length node.entries
    ∷ six_from (c + length node.children) (v + length node.ids) (e + length node.entries) rest

-- the numbers with the nodes written: leaf order of vectors, six per node, child links, leaf order of entries
unfoldable pub numbers_of : Shape → List Node → List ℕ → List ℕ
unfolding joined six_from
numbers_of s nodes numbers =
    sets
    (sets (sets (sets numbers (order_at s) (joined (λ node. node.ids) nodes)) (nodes_at s) (six_from 0 0 0 nodes)) (links_at s) (joined (λ node. node.children) nodes))
    (entry_order_at s) (joined (λ node. node.entries) nodes)

-- the hashes with the nodes' filters written
unfoldable pub hashes_of : Shape → List Node → List ℕ → List ℕ
unfolding joined
hashes_of s nodes hashes = sets hashes (filters_at s) (joined (λ node. node.filter) nodes)

-- the floats with the nodes' centroids written; the cluster centres, which are free, are a list of their own
unfoldable pub floats_of : Shape → List Node → List Float → List Float → List Float
unfolding joined
floats_of s nodes centres floats = sets (sets floats (centroids_at s) (joined (λ node. node.centroid) nodes)) (centres_at s) centres
