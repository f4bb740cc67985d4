-- How a tree that is being made stands in the leaf order and in the six numbers of each node. The leaves made so far stand in front, in their final
-- form; behind them the groups that wait to become nodes, left to right, each with a header in its first place.
use Rattle.std.specs.Prelude.{ℕ, zero, suc, ◌+◌, ◌-◌, ◌*◌, ◌/◌, ◌%◌, Bool, true, cond, List, [], ◌∷◌, ◌++◌, map, leb, ltb, Float, length, get_or}
use Rattle.lists.specs.Lists.{part, joined, count_from}
use Rattle.cluster.specs.Clusters.{mean_of}
use Rattle.kmeans.specs.Marks.{with_mark}
use Rattle.tree.specs.Tree.{Splitting}
use Rattle.tree.specs.Layout.{start_of}
use Rattle.tree.proofs.Steps.{Group, is_leaf, child_groups}

-- A group's header: its first id, which is below 4096, 4096 times one less than its size, and 2^24 times how many more levels may be split.
abbrev pub header : ℕ → ℕ → ℕ → ℕ
header levels size id = id + 4096 * (size - 1) + 16777216 * levels

-- the ids of a group, with the header in the first place
unfoldable pub headed : ℕ → List ℕ → List ℕ
headed levels [] = []
headed levels (id ∷ ids) = header levels (suc (length ids)) id ∷ ids

-- groups that wait, as they stand in the leaf order
unfoldable pub encoded : List Group → List ℕ
unfolding headed joined
encoded waiting = joined (λ g. headed g.levels g.ids) waiting

-- the group whose header stands at a place
unfoldable pub group_at : List ℕ → ℕ → Group
group_at numbers at =
    let head = get_or numbers at 0 in
    record { levels = head / 16777216; ids = head % 4096 ∷ part (suc at) (head / 4096 % 4096) numbers }

abbrev pub non_empty_list : List ℕ → Bool
non_empty_list l = ltb 0 (length l)

-- whether a group with a number of levels and a size becomes a leaf: 'at most `max_leaf_size` ids or depth above 15'
unfoldable pub leaf_by : ℕ → ℕ → ℕ → Bool
leaf_by leaf zero size = true
leaf_by leaf (suc levels) size = leb size leaf

-- the ids with the mark 0, those with the mark 1, and so on, for k marks
unfoldable pub sorted : ℕ → List ℕ → List ℕ → List (List ℕ)
unfolding with_mark count_from
sorted k marks ids = map (λ j. with_mark j marks ids) (count_from 0 k)

-- the ids that a group's node keeps: a leaf's are the group's, an inner node has none
unfoldable pub own : Splitting → Group → List ℕ
unfolding is_leaf
own s g = cond (is_leaf s g.levels g.ids) g.ids []

-- what stands in a group's place once its node is made: a leaf's ids, or the groups of the children
unfoldable pub stands : Splitting → List (List Float) → Group → List ℕ
unfolding own encoded child_groups
stands s vectors g = own s g ++ encoded (child_groups s vectors g)

-- the six numbers of a group's node, as they are made: start and count of children, vectors, entries. The leaf order is filled up to v.
unfoldable pub six : Splitting → List (List Float) → ℕ → Group → List ℕ
unfolding own child_groups start_of
six s vectors v g = 0 ∷ length (child_groups s vectors g) ∷ start_of v (own s g) ∷ length (own s g) ∷ 0 ∷ 0 ∷ []

-- the six numbers of the nodes of groups, one after the other
unfoldable pub sixes : Splitting → List (List Float) → ℕ → List Group → List ℕ
unfolding six
sixes s vectors v [] = []
sixes s vectors v (g ∷ rest) = six s vectors v g ++ sixes s vectors (v + length (own s g)) rest

-- the ids of the leaves among the nodes of groups, and the centroids
unfoldable pub leaves : Splitting → List Group → List ℕ
unfolding own joined
leaves s groups = joined (own s) groups

unfoldable pub centroids : Splitting → List (List Float) → List Group → List Float
unfolding mean_of joined
centroids s vectors groups = joined (λ g. mean_of s.dimension vectors g.ids) groups
