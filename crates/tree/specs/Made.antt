-- The six numbers of each node as they stand once all nodes are made and before the finishing passes: the count of children, and the block of vectors of
-- a leaf; the start of the children and the block of entries are still 0.
use Rattle.std.specs.Prelude.{ℕ, ◌+◌, List, [], ◌∷◌, length}
use Rattle.tree.specs.Nodes.{Node}
use Rattle.tree.specs.Layout.{start_of}

unfoldable pub made_from : ℕ → List Node → List ℕ
unfolding start_of
made_from v [] = []
made_from v (node ∷ rest) =
    0 ∷ length node.children ∷ start_of v node.ids ∷ length node.ids ∷ 0 ∷ 0 ∷ made_from (v + length node.ids) rest
