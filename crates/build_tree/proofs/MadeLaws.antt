-- Laws of what is made of groups: six numbers, leaves and centroids, one group more, and all of them; and the children's groups may wait.
use Prim.Native.Nat.{ℕ, zero, suc, ◌+◌, ◌*◌, ◌≤◌, ◌<◌}
use Rattle.std.proofs.Math.Path.{◌≡◌, refl, sym, ap, ap₂}
use Rattle.std.proofs.Common.{subst, ◌∙◌, inl, inr}
use Rattle.std.specs.Prelude.{◌⊎◌, Bool, true, false, Float, get_or}
use Rattle.std.proofs.Math.Bool.{cond}
use mathlib.Core.List.{List, [], ◌∷◌, ◌++◌, map, append_assoc, append-nil, Memᴰ}
use Rattle.std.proofs.Math.Nat.{add-zero}
use native.Mathlib.Omega.{arith}
use Rattle.std.proofs.Math.ListN.{length, length-append}
use Rattle.lists.specs.Lists.{joined}
use Rattle.lists.specs.Counting.{get_d_Memᴰ, Memᴰ_get_d, joined_snoc, joined-map, joined-Memᴰ}
use Rattle.lists.specs.Tests.{which}
use Rattle.lists.specs.Partition.{perm_length, perm_Memᴰ}
use Rattle.cluster.specs.Clusters.{mean_of}
use Rattle.cluster.specs.ClustersLaws.{length-mean_of}
use Rattle.tree.specs.Tree.{Splitting, groups}
use Rattle.tree.proofs.TreeLaws.{group_some, perm_groups}
use Rattle.tree.specs.Nodes.{Entries, Node, nodes_of}
use Rattle.tree.specs.Layout.{start_of}
use Rattle.tree.proofs.LayoutLaws.{length_blocks}
use Rattle.tree.specs.Made.{made_from}
use Rattle.tree.proofs.Steps.{Group, is_leaf, split_group, child_groups, child_groups_leaf, child_groups-split, split_perm, made, root_group, made-ids, made_counts, made-centroids}
use Rattle.waiting_groups.specs.Waiting.{encoded, own, stands, six, sixes, leaves, centroids}
use Rattle.waiting_groups.specs.WaitingLaws.{length-encoded}
use Rattle.build_tree.specs.Promises.{SoundGroup}

every_map : {A B : Type 0} (P : B → Type 0) (f : A → B) (l : List A) → ((x : A) → Memᴰ x l → P (f x)) → (y : B) → Memᴰ y (map f l) → P y
every_map P f [] h y m = absurd (mathlib.Core.List.Memᴰ.not-nil m)
every_map {A} {B} P f (x ∷ xs) h y m = go (mathlib.Core.List.Memᴰ.cases_cons m) (every_map P f xs (λ z n. h z (mathlib.Core.List.Memᴰ.tail n)) y)
  where
    go : (y ≡ f x) ⊎ Memᴰ y (map f xs) → (Memᴰ y (map f xs) → P y) → P y
    go (inl q) later = subst P (sym q) (h x (mathlib.Core.List.Memᴰ.head refl))
    go (inr n) later = later n

module _ (s : Splitting) (vectors : List (List Float)) where
  pub own_leaf : (g : Group) → is_leaf s g.levels g.ids ≡ true → own s g ≡ g.ids
  unfolding own
  own_leaf g h = ap (λ (b : Bool). cond b g.ids []) h

  pub own_inner : (g : Group) → is_leaf s g.levels g.ids ≡ false → own s g ≡ []
  unfolding own
  own_inner g h = ap (λ (b : Bool). cond b g.ids []) h

  -- ---- one group

  -- A leaf's ids stay, and the children's groups have the ids of an inner node.
  pub own-children : 1 ≤ s.branching → (g : Group) → length (own s g) + length (joined (λ child. child.ids) (child_groups s vectors g)) ≡ length g.ids
  unfolding joined
  own-children b g = go (which (is_leaf s g.levels g.ids))
    where
      go : (is_leaf s g.levels g.ids ≡ true) ⊎ (is_leaf s g.levels g.ids ≡ false)
          → length (own s g) + length (joined (λ child. child.ids) (child_groups s vectors g)) ≡ length g.ids
      go (inl h) =
          ap₂ (λ (x : List ℕ) (y : List Group). length x + length (joined (λ child. child.ids) y)) (own_leaf g h) (child_groups_leaf s vectors g h)
          ∙ add-zero (length g.ids)
      go (inr h) =
          let a = ap (λ (l : List ℕ). length l) (own_inner g h) in
          let p = perm_length (split_perm s vectors b g h) in
          omega arith

  pub length-stands : 1 ≤ s.branching → (g : Group) → length (stands s vectors g) ≡ length g.ids
  unfolding stands
  length-stands b g =
      let a = length-append (own s g) (encoded (child_groups s vectors g)) in
      let e = length-encoded (child_groups s vectors g) in
      let c = own-children b g in
      omega arith

  -- the children's groups may wait
  member_below : (n : ℕ) (ids group : List ℕ) → 1 ≤ s.branching → ((i : ℕ) → i < length ids → get_or ids i 0 < n) → Memᴰ group (groups s vectors ids)
      → (i : ℕ) → i < length group → get_or group i 0 < n
  member_below n ids group b below m i h =
      let inAll : Memᴰ (get_or group i 0) (joined (λ group. group) (groups s vectors ids)) =
      joined-Memᴰ (λ group. group) (get_or group i 0) m (get_d_Memᴰ group i 0 h)
      in
      let at = Memᴰ_get_d 0 (perm_Memᴰ (perm_groups s vectors ids b) inAll) in
      subst (λ (x : ℕ). x < n) at.2 (below at.0 at.1)

  split-sound : (n levels : ℕ) (ids : List ℕ) → 1 ≤ s.branching → levels ≤ 16 → ((i : ℕ) → i < length ids → get_or ids i 0 < n) → (child : Group)
      → Memᴰ child (split_group s vectors levels ids) → SoundGroup n child
  unfolding split_group
  split-sound n zero ids b few below child m = absurd (mathlib.Core.List.Memᴰ.not-nil m)
  split-sound n (suc levels) ids b few below child m =
      every_map (SoundGroup n) (λ group. record { levels = levels; ids = group }) (groups s vectors ids)
      (λ group k. record { few = omega arith; filled = group_some s vectors ids group k; below = member_below n ids group b below k }) child m

  pub children-sound : (n : ℕ) (g : Group) → 1 ≤ s.branching → SoundGroup n g → (child : Group) → Memᴰ child (child_groups s vectors g) → SoundGroup n child
  children-sound n g b sound child m = go (which (is_leaf s g.levels g.ids))
    where
      go : (is_leaf s g.levels g.ids ≡ true) ⊎ (is_leaf s g.levels g.ids ≡ false) → SoundGroup n child
      go (inl h) = absurd (mathlib.Core.List.Memᴰ.not-nil (subst (λ (l : List Group). Memᴰ child l) (child_groups_leaf s vectors g h) m))
      go (inr h) =
          split-sound n g.levels g.ids b sound.few sound.below child
          (subst (λ (l : List Group). Memᴰ child l) (child_groups-split s vectors g h) m)

  -- ---- one group more

  pub leaves_snoc : (past : List Group) (g : Group) → leaves s (past ++ (g ∷ [])) ≡ leaves s past ++ own s g
  unfolding leaves
  leaves_snoc past g = joined_snoc (own s) past g

  pub centroids_snoc : (past : List Group) (g : Group) → centroids s vectors (past ++ (g ∷ [])) ≡ centroids s vectors past ++ mean_of s.dimension vectors g.ids
  unfolding centroids
  centroids_snoc past g = joined_snoc (λ g. mean_of s.dimension vectors g.ids) past g

  pub length-centroids : (past : List Group) → length (centroids s vectors past) ≡ length past * s.dimension
  unfolding centroids
  length-centroids past =
      length_blocks (λ g. mean_of s.dimension vectors g.ids) s.dimension past (λ g m. length-mean_of s.dimension vectors g.ids)

  pub length-sixes : (v : ℕ) (past : List Group) → length (sixes s vectors v past) ≡ 6 * length past
  unfolding sixes six
  length-sixes v [] = refl
  length-sixes v (g ∷ past) = let e = length-sixes (v + length (own s g)) past in omega arith

  pub sixes_snoc : (v : ℕ) (past : List Group) (g : Group)
      → sixes s vectors v (past ++ (g ∷ [])) ≡ sixes s vectors v past ++ six s vectors (v + length (leaves s past)) g
  unfolding sixes leaves joined
  sixes_snoc v [] g = append-nil (six s vectors v g) ∙ ap (λ (k : ℕ). six s vectors k g) (sym (add-zero v))
  sixes_snoc v (x ∷ past) g =
      let a = length-append (own s x) (leaves s past) in
      let e : v + length (own s x) + length (leaves s past) ≡ v + length (own s x ++ leaves s past) = omega arith in
      ap (λ (r : List ℕ). six s vectors v x ++ r) (sixes_snoc (v + length (own s x)) past g)
      ∙ sym (append_assoc (six s vectors v x) (sixes s vectors (v + length (own s x)) past) (six s vectors (v + length (own s x) + length (leaves s past)) g))
      ∙ ap (λ (k : ℕ). (six s vectors v x ++ sixes s vectors (v + length (own s x)) past) ++ six s vectors k g) e

  -- the order: what stands in a group's place, and the groups behind it
  pub order-step : (past : List Group) (g : Group) (rest : List Group)
      → leaves s past ++ (stands s vectors g ++ encoded rest) ≡ leaves s (past ++ (g ∷ [])) ++ (encoded (child_groups s vectors g) ++ encoded rest)
  unfolding stands
  order-step past g rest =
      let p : List ℕ = leaves s past in
      let o : List ℕ = own s g in
      let e : List ℕ = encoded (child_groups s vectors g) in
      ap (λ (r : List ℕ). p ++ r) (append_assoc o e (encoded rest))
      ∙ sym (append_assoc p o (e ++ encoded rest))
      ∙ ap (λ (r : List ℕ). r ++ (e ++ encoded rest)) (sym (leaves_snoc past g))

  -- ---- all groups

  nodes-six : (v : ℕ) (nodes : List Node) (gs : List Group) → map (λ node. node.ids) nodes ≡ map (own s) gs
      → map (λ node. length node.children) nodes ≡ map (λ g. length (child_groups s vectors g)) gs → made_from v nodes ≡ sixes s vectors v gs
  unfolding made_from sixes six
  nodes-six v [] [] p q = refl
  nodes-six v [] (g ∷ gs) p q = let z : ◌≡◌ {A = ℕ} 0 1 = cc in absurd (omega arith)
  nodes-six v (node ∷ nodes) [] p q = let z : ◌≡◌ {A = ℕ} 0 1 = cc in absurd (omega arith)
  nodes-six v (node ∷ nodes) (g ∷ gs) p q =
      let a : node.ids ≡ own s g = cc in
      let b : length node.children ≡ length (child_groups s vectors g) = cc in
      let p' : map (λ node. node.ids) nodes ≡ map (own s) gs = cc in
      let q' : map (λ node. length node.children) nodes ≡ map (λ g. length (child_groups s vectors g)) gs = cc in
      ap₂ (λ (x : ℕ) (y : List ℕ). 0 ∷ x ∷ start_of v y ∷ length y ∷ 0 ∷ 0 ∷ made_from (v + length y) nodes) b a
      ∙ ap (λ (r : List ℕ). 0 ∷ length (child_groups s vectors g) ∷ start_of v (own s g) ∷ length (own s g) ∷ 0 ∷ 0 ∷ r)
      (nodes-six (v + length (own s g)) nodes gs p' q')

  abbrev all_made : List Group
  all_made = made s vectors (root_group s vectors ∷ [])

  pub six-all : (e : Entries) → made_from 0 (nodes_of s vectors e) ≡ sixes s vectors 0 all_made
  unfolding own
  six-all e = nodes-six 0 (nodes_of s vectors e) all_made (made-ids s vectors e) (made_counts s vectors e)

  pub leaves_all : (e : Entries) → joined (λ node. node.ids) (nodes_of s vectors e) ≡ leaves s all_made
  unfolding own leaves
  leaves_all e =
      sym (joined-map (λ (l : List ℕ). l) (λ node. node.ids) (nodes_of s vectors e))
      ∙ ap (joined (λ (l : List ℕ). l)) (made-ids s vectors e)
      ∙ joined-map (λ (l : List ℕ). l) (own s) all_made

  pub centroids-all : (e : Entries) → joined (λ node. node.centroid) (nodes_of s vectors e) ≡ centroids s vectors all_made
  unfolding centroids
  centroids-all e =
      sym (joined-map (λ (l : List Float). l) (λ node. node.centroid) (nodes_of s vectors e))
      ∙ ap (joined (λ (l : List Float). l)) (made-centroids s vectors e)
      ∙ joined-map (λ (l : List Float). l) (λ g. mean_of s.dimension vectors g.ids) all_made
