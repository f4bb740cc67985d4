-- Where the parts of a small store stand, computed: one vector with one label, a root and its one child, room for a node more.
use Rattle.std.specs.Prelude.{ℕ, List, [], ◌∷◌, ◌≡◌, refl}
use Rattle.store.specs.declared.Shape.{Shape}
use Rattle.store.specs.Store.{node_field, child_links, node_filter, entry_name, live_marks}

small : Shape
small = record { dimension = 1; branching = 1; vectors = 1; entries = 1; nodes = 3; text = 9 }

-- document id, owner, leaf order; the six of the root, of its child and of none; links; leaf order of entries; start and length of the entry's text; live
-- mark
numbers : List ℕ
numbers = 7 ∷ 0 ∷ 0 ∷ 0 ∷ 1 ∷ 0 ∷ 0 ∷ 0 ∷ 0 ∷ 0 ∷ 0 ∷ 0 ∷ 1 ∷ 0 ∷ 1 ∷ 9 ∷ 9 ∷ 9 ∷ 9 ∷ 9 ∷ 9 ∷ 1 ∷ 9 ∷ 9 ∷ 0 ∷ 2 ∷ 4 ∷ 6 ∷ []

-- the entry's hash; the filters of the root, of its child and of none
hashes : List ℕ
hashes = 77 ∷ 1 ∷ 2 ∷ 3 ∷ 4 ∷ 5 ∷ 6 ∷ 7 ∷ 8 ∷ 9 ∷ 9 ∷ 9 ∷ 9 ∷ []

-- how many vectors and entries the child has
vectors_of_child : node_field small numbers 1 3 ≡ 1
unfolding small numbers
vectors_of_child = refl

entries_of_child : node_field small numbers 1 5 ≡ 1
unfolding small numbers
entries_of_child = refl

links_of_root : child_links small numbers 0 ≡ 1 ∷ []
unfolding small numbers
links_of_root = refl

links_of_child : child_links small numbers 1 ≡ []
unfolding small numbers
links_of_child = refl

filter_of_root : node_filter small hashes 0 ≡ 1 ∷ 2 ∷ 3 ∷ 4 ∷ []
unfolding small hashes
filter_of_root = refl

filter_of_child : node_filter small hashes 1 ≡ 5 ∷ 6 ∷ 7 ∷ 8 ∷ []
unfolding small hashes
filter_of_child = refl

-- label text: the entry's is `silt`, with bytes of others around it
name_of_entry : entry_name small numbers (1 ∷ 2 ∷ 115 ∷ 105 ∷ 108 ∷ 116 ∷ 3 ∷ 4 ∷ 5 ∷ []) 0 ≡ 115 ∷ 105 ∷ 108 ∷ 116 ∷ []
unfolding small numbers
name_of_entry = refl

-- the mark of the vector stands last
marks : live_marks small 1 numbers ≡ 6 ∷ []
unfolding small numbers
marks = refl
