-- The rows' tree is sound in the walk's sense. Due below a node are the hits of the rows below it that the search is about: a leaf gives its own, an inner
-- node's are its children's, since every id is in one of them once, and a denied node has none, since a filter denies no hash below it. So the walk over
-- the tree is never damaged, a whole one has found all that is due, and as many openings as nodes suffice.
use Prim.Native.Nat.{ℕ, suc, ◌+◌, ◌≤◌, ◌<◌}
use Rattle.std.proofs.Common.{le_refl, arith, inl, inr, ◌∙◌}
use Rattle.std.specs.Prelude.{Bool, true, false, cond, ◌⊎◌, ◌≡◌, Float, get_or}
use mathlib.Core.List.Memᴰ
use mathlib.Core.List.{List, [], ◌∷◌, map, map-map, Memᴰ}
use Rattle.std.proofs.Math.Path.{refl, sym, ap, subst}
use Rattle.std.proofs.Math.ListN.{length, length-map}
use Rattle.lists.specs.Lists.{joined, count_from}
use Rattle.lists.specs.Counting.{get_d_Memᴰ, length-count_from, joined-map, map-joined}
use Rattle.lists.specs.Partition.{List-as-Permᴰ, List·Permᴰ·trans, Permᴰ·refl, Permᴰ·symm, Permᴰ·map, perm_of_eq, perm_append, perm_length, Different, once-left, once_right, once_perm}
use Rattle.record_queue.specs.Sorted.{sort}
use Rattle.record_queue.specs.SortedLaws.{perm_sort}
use Rattle.tree.specs.Tree.{Tree, Forest, leaf, inner, none, more, Splitting, tree_of, size}
use Rattle.tree.specs.Nodes.{Node, no_node, Entries, roots, entries_of, filter_of}
use Rattle.tree.proofs.TreeLaws.{kept_ids, leaf_ids, forest_ids, Fair, once-tree_of, fair_tree_of, perm_leaf_ids, kept-grow, size-some, size-tree_of}
use Rattle.tree.proofs.NodeLaws.{trees_of}
use Rattle.tree.proofs.NodeEntryLaws.{entries_of-nil, entries_of_perm, entries_of-append}
use Rattle.tree.proofs.NodeFilterLaws.{perm_children-ids}
use Rattle.tree.proofs.Subtrees.{subs, forest_subs, subs-cons, length-subs, children_of, own_ids, subs-children, child_range, children_tile, fair_sub}
use Rattle.tree.proofs.NumberedNodes.{root_node, get_d_nodes_of}
use Rattle.walk.specs.Walk.{hits, shown}
use Rattle.walk.specs.Wanted.{Sought, LeafList, vector_list, entry_list, denies, list_read, given, held_in}
use Rattle.walk.proofs.SoundWalk.{SoundView, Local, Inner, Tiled}
use Rattle.curator.specs.Calls.{splitting_of}
use Rattle.runs.specs.Model.{Setting, Model, row_hashes, row_vectors, row_entries, node_count, model_nodes, model_counts, row_hit, row_read, node_list, leaf_hits, node_gives, tree_view}
use Rattle.runs.proofs.State.{Allowed, Within, limits, some-nodes}
use Rattle.runs.proofs.Held.{length-vectors}
use Rattle.runs.proofs.WantedLaws.{list_over, given-parts, given-fewer, denied-gives, entries-all}
use Rattle.runs.proofs.Views.{tree_shown, gives_none, gives-some}

-- the hits due for the rows with some numbers
unfoldable pub due : Model → List Float → Sought → List ℕ → List ℕ
due m query wanted ids = map (row_hit m query) (given wanted (row_read m) (list_over (list_read wanted) m ids))

-- ---- no id is twice below a node

once_either : (xs ys : List Tree) (sub : Tree) → Memᴰ sub xs ⊎ Memᴰ sub ys → (Memᴰ sub xs → Different (leaf_ids sub))
    → (Memᴰ sub ys → Different (leaf_ids sub)) → Different (leaf_ids sub)
once_either xs ys sub (inl k) f g = f k
once_either xs ys sub (inr k) f g = g k

once-first : (t sub : Tree) {l : List Tree} → Different (leaf_ids t) → (sub ≡ t) ⊎ Memᴰ sub l → (Memᴰ sub l → Different (leaf_ids sub)) → Different (leaf_ids sub)
once-first t sub h (inl e) later = subst (λ (x : Tree). Different (leaf_ids x)) (sym e) h
once-first t sub h (inr k) later = later k

mutual
  unfolding subs forest_subs leaf_ids forest_ids

  once-sub : (t sub : Tree) → Different (leaf_ids t) → Memᴰ sub (subs t) → Different (leaf_ids sub)
  once-sub (leaf ids) sub h k = once-first (leaf ids) sub h (Memᴰ.cases_cons k) (λ n. absurd (Memᴰ.not-nil n))
  once-sub (inner ids f) sub h k = once-first (inner ids f) sub h (Memᴰ.cases_cons k) (λ n. once_forest f sub h n)

  once_forest : (f : Forest) (sub : Tree) → Different (forest_ids f) → Memᴰ sub (forest_subs f) → Different (leaf_ids sub)
  once_forest none sub h k = absurd (Memᴰ.not-nil k)
  once_forest (more t f) sub h k =
      once_either (subs t) (forest_subs f) sub (Memᴰ.append_cases (subs t) k)
      (λ n. once-sub t sub (once-left (leaf_ids t) (forest_ids f) h) n) (λ n. once_forest f sub (once_right (leaf_ids t) (forest_ids f) h) n)

-- ---- due of parts

entries-parts : (e : Entries) (l : List (List ℕ)) → Different (joined (λ ids. ids) l) → List-as-Permᴰ (joined (entries_of e) l) (entries_of e (joined (λ ids. ids) l))
unfolding joined
entries-parts e [] h = perm_of_eq (sym (entries_of-nil e))
entries-parts e (ids ∷ l) h =
    List·Permᴰ·trans (perm_append (Permᴰ·refl (entries_of e ids)) (entries-parts e l (once_right ids (joined (λ x. x) l) h)))
    (entries_of-append e ids (joined (λ x. x) l) h)

-- the lists of some leaves, joined, are the list over all their rows
lists-parts : (list : LeafList) (m : Model) (ids : List ℕ) (l : List (List ℕ)) → List-as-Permᴰ (joined (λ x. x) l) ids → Different ids
    → List-as-Permᴰ (joined (list_over list m) l) (list_over list m ids)
unfolding list_over
lists-parts vector_list m ids l p h = p
lists-parts entry_list m ids l p h =
    let e = row_entries m in
    List·Permᴰ·trans (entries-parts e l (once_perm (joined (λ x. x) l) ids p h)) (perm_of_eq (entries_of_perm e (joined (λ x. x) l) ids p))

pub due-parts : (m : Model) (query : List Float) (wanted : Sought) (ids : List ℕ) (l : List (List ℕ)) → List-as-Permᴰ (joined (λ x. x) l) ids → Different ids
    → List-as-Permᴰ (joined (due m query wanted) l) (due m query wanted ids)
unfolding due
due-parts m query wanted ids l p h =
    let mine : List ℕ → List ℕ = λ x. given wanted (row_read m) (list_over (list_read wanted) m x) in
    List·Permᴰ·trans (perm_of_eq (sym (map-joined (row_hit m query) mine l)))
    (Permᴰ·map (row_hit m query) (given-parts wanted m ids l (lists-parts (list_read wanted) m ids l p h)))

-- ---- the tree

module _ (s : Setting) (m : Model) where
  abbrev split : Splitting
  split = splitting_of s.dimension s.params

  abbrev row_tree : Tree
  row_tree = tree_of split (row_vectors m)

  -- the subtree with a number
  abbrev pub subtree : ℕ → Tree
  subtree i = get_or (subs row_tree) i (leaf [])

  -- the hits due at and below the node with a number, how many nodes its subtree has, and which numbers are nodes'
  abbrev pub due_below : List Float → Sought → ℕ → List ℕ
  due_below query wanted i = due m query wanted (kept_ids (subtree i))

  abbrev pub size_at : ℕ → ℕ
  size_at i = size (subtree i)

  abbrev pub IsNode : ℕ → Type 0
  IsNode i = i < node_count s m

module _ (s : Setting) (m : Model) (a : Allowed s) (w : Within s m) where
  one_branch : 1 ≤ (splitting_of s.dimension s.params).branching
  one_branch = (limits s a).branching_low

  in_subs : (i : ℕ) → IsNode s m i → Memᴰ (subtree s m i) (subs (row_tree s m))
  unfolding node_count
  in_subs i h = get_d_Memᴰ (subs (row_tree s m)) i (leaf []) (subst (λ (n : ℕ). i < n) (sym (length-subs (row_tree s m))) h)

  fair_at : (i : ℕ) → IsNode s m i → Fair (subtree s m i)
  fair_at i h = fair_sub (row_tree s m) (subtree s m i) (fair_tree_of (split s m) (row_vectors m) one_branch) (in_subs i h)

  once-at : (i : ℕ) → IsNode s m i → Different (kept_ids (subtree s m i))
  once-at i h =
      once_perm (kept_ids (subtree s m i)) (leaf_ids (subtree s m i)) (Permᴰ·symm (perm_leaf_ids (subtree s m i) (fair_at i h)))
      (once-sub (row_tree s m) (subtree s m i) (once-tree_of (split s m) (row_vectors m) one_branch) (in_subs i h))

  node-is : (i : ℕ) → IsNode s m i → get_or (model_nodes s m) i no_node ≡ root_node (split s m) (row_vectors m) (row_entries m) i (subtree s m i)
  unfolding model_nodes node_count
  node-is i h = get_d_nodes_of (split s m) (row_vectors m) (row_entries m) i no_node (leaf []) h

  -- ---- what a node shows is what is due

  denied-none : (query : List Float) (wanted : Sought) (ids filter : List ℕ) → filter ≡ filter_of (row_entries m) ids → denies wanted filter ≡ true
      → due m query wanted ids ≡ []
  unfolding due
  denied-none query wanted ids filter f e = ap (map (row_hit m query)) (denied-gives wanted m ids filter f e)

  node-list : (list : LeafList) (node : Node) (ids : List ℕ) → node.ids ≡ ids → node.entries ≡ entries_of (row_entries m) ids
      → node_list list node ≡ list_over list m ids
  unfolding list_over
  node-list vector_list node ids e f = e
  node-list entry_list node ids e f = f

  leaf_due : (query : List Float) (wanted : Sought) (node : Node) (ids : List ℕ) → node.ids ≡ ids → node.entries ≡ entries_of (row_entries m) ids
      → leaf_hits m query wanted node ≡ due m query wanted ids
  unfolding leaf_hits due
  leaf_due query wanted node ids e f = ap (λ (l : List ℕ). map (row_hit m query) (given wanted (row_read m) l)) (node-list (list_read wanted) node ids e f)

  -- the children of the node with a number, and what is laid out at it
  root-children : (i : ℕ) → IsNode s m i → (get_or (model_nodes s m) i no_node).children ≡ roots (suc i) (children_of (subtree s m i))
  unfolding root_node
  root-children i h = ap (λ (n : Node). n.children) (node-is i h)

  root-filter : (i : ℕ) → IsNode s m i → (get_or (model_nodes s m) i no_node).filter ≡ filter_of (row_entries m) (kept_ids (subtree s m i))
  unfolding root_node
  root-filter i h = ap (λ (n : Node). n.filter) (node-is i h)

  root-ids : (i : ℕ) → IsNode s m i → (get_or (model_nodes s m) i no_node).ids ≡ own_ids (subtree s m i)
  unfolding root_node
  root-ids i h = ap (λ (n : Node). n.ids) (node-is i h)

  root-entries : (i : ℕ) → IsNode s m i → (get_or (model_nodes s m) i no_node).entries ≡ entries_of (row_entries m) (own_ids (subtree s m i))
  unfolding root_node
  root-entries i h = ap (λ (n : Node). n.entries) (node-is i h)

  -- a tree without children lays out the ids that it keeps
  childless_ids : (t : Tree) (i : ℕ) → Fair t → roots i (children_of t) ≡ [] → own_ids t ≡ kept_ids t
  unfolding children_of own_ids kept_ids roots Fair forest_ids
  childless_ids (leaf ids) i f e = refl
  childless_ids (inner ids none) i f e = no_ids ids (perm_length f.0)
    where
      no_ids : (l : List ℕ) → 0 ≡ length l → [] ≡ l
      no_ids [] n = refl
      no_ids (x ∷ l) n = absurd (omega arith)
  childless_ids (inner ids (more t r)) i f e = absurd (let n : suc (length (roots (i + size t) r)) ≡ 0 = ap length e in omega arith)

  -- a tree's children have, as a bag, the ids that it keeps
  children-ids : (t : Tree) (i c : ℕ) (cs : List ℕ) → Fair t → roots i (children_of t) ≡ c ∷ cs
      → List-as-Permᴰ (joined (λ x. x) (map kept_ids (trees_of (children_of t)))) (kept_ids t)
  unfolding children_of kept_ids roots Fair
  children-ids (leaf ids) i c cs f e = absurd (let n : 0 ≡ suc (length cs) = ap length e in omega arith)
  children-ids (inner ids kids) i c cs f e = List·Permᴰ·trans (perm_children-ids kids f.1) f.0

  inner_shows : (query : List Float) (wanted : Sought) (i c : ℕ) (cs : List ℕ) → IsNode s m i → roots (suc i) (children_of (subtree s m i)) ≡ c ∷ cs
      → Inner (due_below s m query wanted) (size_at s m) (IsNode s m) i (roots (suc i) (children_of (subtree s m i)))
  unfolding node_count
  inner_shows query wanted i c cs h e =
      let t = row_tree s m in
      let kids = roots (suc i) (children_of (subtree s m i)) in
      let trees = trees_of (children_of (subtree s m i)) in
      let lists : map (λ k. kept_ids (subtree s m k)) kids ≡ map kept_ids trees =
      sym (map-map kept_ids (subtree s m) kids) ∙ ap (map kept_ids) (subs-children t i (leaf []) h) in
      let all : joined (due_below s m query wanted) kids ≡ joined (due m query wanted) (map kept_ids trees) =
      sym (joined-map (due m query wanted) (λ k. kept_ids (subtree s m k)) kids) ∙ ap (joined (due m query wanted)) lists in
      record {
        tiled =
            children_tile t i (leaf []) h (λ from l. Tiled (size_at s m) from (i + size_at s m i) l) (le_refl (i + size_at s m i)) (λ k l rest. (le_refl k, rest));
        valid = λ k n. (child_range t i (leaf []) k h n).2;
        gives =
            ap sort all
            ∙ perm_sort (due-parts m query wanted (kept_ids (subtree s m i)) (map kept_ids trees) (children-ids (subtree s m i) (suc i) c cs (fair_at i h) e) (once-at i h));
      }

  gives-due : (query : List Float) (wanted : Sought) (i : ℕ) (cs : List ℕ) → IsNode s m i → roots (suc i) (children_of (subtree s m i)) ≡ cs
      → Local (due_below s m query wanted) (size_at s m) (IsNode s m) i (node_gives m query wanted (get_or (model_nodes s m) i no_node) cs)
  gives-due query wanted i [] h e =
      let node = get_or (model_nodes s m) i no_node in
      let same : own_ids (subtree s m i) ≡ kept_ids (subtree s m i) = childless_ids (subtree s m i) (suc i) (fair_at i h) e in
      subst (Local (due_below s m query wanted) (size_at s m) (IsNode s m) i) (sym (gives_none m query wanted node))
      (ap sort (leaf_due query wanted node (kept_ids (subtree s m i)) (root-ids i h ∙ same) (root-entries i h ∙ ap (entries_of (row_entries m)) same)))
  gives-due query wanted i (c ∷ cs) h e =
      subst (Local (due_below s m query wanted) (size_at s m) (IsNode s m) i) (sym (gives-some m query wanted (get_or (model_nodes s m) i no_node) c cs))
      (subst (Inner (due_below s m query wanted) (size_at s m) (IsNode s m) i) e (inner_shows query wanted i c cs h e))

  shows-due : (query : List Float) (wanted : Sought) (i : ℕ) → IsNode s m i
      → Local (due_below s m query wanted) (size_at s m) (IsNode s m) i (shown (tree_view s m query wanted) i)
  shows-due query wanted i h =
      let node = get_or (model_nodes s m) i no_node in
      subst (Local (due_below s m query wanted) (size_at s m) (IsNode s m) i) (sym (tree_shown s m query wanted i)) (go (denies wanted node.filter) refl)
    where
      go : (b : Bool) → denies wanted (get_or (model_nodes s m) i no_node).filter ≡ b
          → Local (due_below s m query wanted) (size_at s m) (IsNode s m) i
          (cond b (hits []) (node_gives m query wanted (get_or (model_nodes s m) i no_node) (get_or (model_nodes s m) i no_node).children))
      go true e = ap sort (sym (denied-none query wanted (kept_ids (subtree s m i)) (get_or (model_nodes s m) i no_node).filter (root-filter i h) e))
      go false e = gives-due query wanted i (get_or (model_nodes s m) i no_node).children h (sym (root-children i h))

  -- ---- the root

  root_kept : kept_ids (subtree s m 0) ≡ count_from 0 (length m.rows)
  unfolding tree_of
  root_kept =
      ap (λ (l : List Tree). kept_ids (get_or l 0 (leaf []))) (subs-cons (row_tree s m))
      ∙ kept-grow (split s m) (row_vectors m) 16 (count_from 0 (length (row_vectors m))) ∙ ap (count_from 0) (length-vectors m)

  pub root-due : (query : List Float) (wanted : Sought) → due_below s m query wanted 0 ≡ due m query wanted (count_from 0 (length m.rows))
  root-due query wanted = ap (due m query wanted) root_kept

  pub root-size : size_at s m 0 ≡ node_count s m
  unfolding node_count
  root-size = ap (λ (l : List Tree). size (get_or l 0 (leaf []))) (subs-cons (row_tree s m))

  -- no more is due than is held
  list_length : (list : LeafList) → length (list_over list m (count_from 0 (length m.rows))) ≡ held_in list (model_counts s m)
  unfolding list_over
  list_length vector_list = length-count_from 0 (length m.rows)
  list_length entry_list = ap length (entries-all m) ∙ length-count_from 0 (length (row_hashes m))

  room : (query : List Float) (wanted : Sought) → length (due m query wanted (count_from 0 (length m.rows))) ≤ (tree_view s m query wanted).most
  unfolding due tree_view
  room query wanted =
      let l = list_over (list_read wanted) m (count_from 0 (length m.rows)) in
      omega (arith, length-map (given wanted (row_read m) l) (row_hit m query), given-fewer wanted (row_read m) l, list_length (list_read wanted))

  -- the tree of the rows is sound
  pub sound_tree : (query : List Float) (wanted : Sought) → SoundView (tree_view s m query wanted) (due_below s m query wanted) (size_at s m) (IsNode s m)
  unfolding node_count
  sound_tree query wanted =
      record {
        first = some-nodes s m;
        sized = λ i h. size-some (subtree s m i);
        numbered = λ i h.
            (let b = size-tree_of (split s m) (row_vectors m) one_branch in
            omega (arith, h, b, length-vectors m, w.vectors, (limits s a).vectors_high));
        shows = shows-due query wanted;
        room = subst (λ (l : List ℕ). length l ≤ (tree_view s m query wanted).most) (sym (root-due query wanted)) (room query wanted);
      }
