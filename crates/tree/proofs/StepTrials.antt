-- The worked example of document 01 node by node: three vectors, five nodes; labels `a`, `b` and `a`, one on each vector.
use Rattle.std.specs.Prelude.{[], ◌∷◌, map, ◌≡◌, refl}
use Rattle.cluster.specs.Trials.{sample}
use Rattle.tree.proofs.Trials.{two}
use Rattle.tree.specs.Nodes.{Entries, nodes_of}
use Rattle.tree.specs.Layout.{six_from}
use Rattle.tree.proofs.Steps.{made, root_group}
use Rattle.tree.specs.Links.{link_up}

-- three entries, each owned by the vector with its number
abbrev labels : Entries
labels = record { owners = 0 ∷ 1 ∷ 2 ∷ []; hashes = 7 ∷ 8 ∷ 7 ∷ [] }

pub made_five : map (λ g. g.ids) (made two sample (root_group two sample ∷ []))
    ≡ (0 ∷ 1 ∷ 2 ∷ []) ∷ (0 ∷ []) ∷ (1 ∷ 2 ∷ []) ∷ (1 ∷ []) ∷ (2 ∷ []) ∷ []
unfolding made sample
made_five = refl

pub levels_five : map (λ g. g.levels) (made two sample (root_group two sample ∷ [])) ≡ 16 ∷ 15 ∷ 15 ∷ 14 ∷ 14 ∷ []
unfolding made sample
levels_five = refl

pub links_five : link_up 0 (2 ∷ 0 ∷ 2 ∷ 0 ∷ 0 ∷ []) ≡ record { stack = 0 ∷ []; links = 1 ∷ 2 ∷ 3 ∷ 4 ∷ [] }
unfolding link_up
links_five = refl

pub six_five : six_from 0 0 0 (nodes_of two sample labels)
    ≡ 0 ∷ 2 ∷ 0 ∷ 0 ∷ 0 ∷ 0 ∷ 0 ∷ 0 ∷ 0 ∷ 1 ∷ 0 ∷ 1 ∷ 2 ∷ 2 ∷ 0 ∷ 0 ∷ 0 ∷ 0 ∷ 0 ∷ 0 ∷ 1 ∷ 1 ∷ 1 ∷ 1 ∷ 0 ∷ 0 ∷ 2 ∷ 1 ∷ 2 ∷ 1 ∷ []
unfolding six_from nodes_of sample
six_five = refl

-- the root's filter has the bits of both hashes
pub filters_five : map (λ node. node.filter) (nodes_of two sample labels)
    ≡ (385 ∷ 0 ∷ 0 ∷ 0 ∷ []) ∷ (129 ∷ 0 ∷ 0 ∷ 0 ∷ []) ∷ (385 ∷ 0 ∷ 0 ∷ 0 ∷ []) ∷ (257 ∷ 0 ∷ 0 ∷ 0 ∷ []) ∷ (129 ∷ 0 ∷ 0 ∷ 0 ∷ []) ∷ []
unfolding nodes_of sample
filters_five = refl
