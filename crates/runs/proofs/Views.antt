-- The store's view and the view of the rows' tree are the same at every node number: a node's six numbers, blocks, filter and centroid are read back
-- from the layout, and its hits from what is held. So both walks are one, and nothing that a run has built shows damage. Both strike the same hits, by the
-- live marks that are held.
use Prim.Native.Nat.{ℕ, zero, suc, ◌+◌, ◌-◌, ◌*◌, ◌^◌, ◌≤◌, ◌<◌}
use Rattle.std.proofs.Common.{mul_comm, add-mul, mul-le-mul_right, suc-mul, arith, ◌∙◌, le-leb, lt-ltb, eq-eqb, ne_eqb}
use Rattle.std.proofs.Math.Nat.{zero-add}
use Rattle.std.specs.Prelude.{Bool, false, not, ◌≡◌, eqb, Float}
use Rattle.std.proofs.Math.Bool.{true, ◌&&◌, cond}
use mathlib.Core.List.{List, [], ◌∷◌, map, Memᴰ}
use Rattle.std.proofs.Math.Path.{refl, sym, ap, ap₂, subst}
use Rattle.std.proofs.Math.Dec.{ltb}
use Rattle.std.proofs.Math.ListN.{length, get_or}
use Rattle.lists.specs.Lists.{part, joined, count_from}
use Rattle.lists.specs.Maps.{map_on, get_d_map}
use Rattle.lists.specs.Tests.{chosen, all_pass, all_pass_lem}
use Rattle.lists.specs.Counting.{get_d_Memᴰ, get_d_count_from, length-count_from}
use Rattle.lists.specs.Parts.{get_d_part, part-part}
use Rattle.distance.specs.Distance.{distance}
use Rattle.total_order.specs.TotalOrder.{key_of}
use Rattle.store.specs.declared.Shape.{Shape}
use Rattle.store.specs.Store.{Store, vector_at, nodes_at, links_at, starts_at, lengths_at, filters_at, node_field, entry_start, entry_length, entry_name}
use Rattle.label.specs.Names.{starts_from, lengths_of_names, bytes_of_names}
use Rattle.label.specs.TextLaws.{name-read, name-end}
use Rattle.tree.specs.Tree.{tree_of}
use Rattle.tree.specs.Nodes.{Node, no_node, nodes_of, entries_of}
use Rattle.tree.specs.Layout.{start_of, six_from}
use Rattle.tree.proofs.NodeLaws.{length_ids, id_below, length-links}
use Rattle.tree.proofs.NodeEntryLaws.{length-entries, entry_below}
use Rattle.tree.proofs.NumberedNodes.{node-entries, node-children}
use Rattle.tree.proofs.LayoutLaws.{block_at, row_read_lem, start-read, start-end, six_get_d, six_of, length-six_from, length_blocks}
use Rattle.walk.specs.Walk.{Shown, children, hits, damage, shown, walk}
use Rattle.walk.proofs.SameWalkLaws.{same-below}
use Rattle.walk.specs.Answer.{vector_of, hit_of, is_live}
use Rattle.walk.specs.Wanted.{Sought, LeafList, vector_list, entry_list, denies, list_read, passes, given, held_in}
use Rattle.walk.proofs.WantedLaws.{Reading, SameNumber, numbers-same, passes_same, given-same, given-read}
use Rattle.walk.specs.StoreView.{block_held, hit_at, field_of, part_of, end_in, entry_read, children_shown, list_shown, leaf_shown, node_shown, live_in, store_view}
use Rattle.walk.proofs.StoreViewLaws.{store-shown, store-children-below}
use Rattle.curator.specs.Calls.{splitting_of}
use Rattle.runs.specs.Model.{Setting, Model, ModelRow, no_row, row_hashes, row_names, row_bytes, row_vectors, row_entries, node_count, model_nodes, model_counts, setting_shape, row_hit, row_live, row_read, node_list, leaf_hits, node_gives, tree_view}
use Rattle.runs.proofs.State.{Allowed, Within, limits, some-nodes}
use Rattle.runs.proofs.Held.{Held, live_mark, owner-below, owners-length, names-length, length-vectors}
use Rattle.runs.proofs.Built.{StandsAt, Laid, NodeFacts}
use Rattle.runs.proofs.WantedLaws.{held-passes}

block_held_lem : (start count held : ℕ) → start + count ≤ held → block_held start count held ≡ true
unfolding block_held
block_held_lem start zero held h = refl
block_held_lem start (suc count) held h = le-leb (start + suc count) held h

-- the tree's view, case by case
pub gives_none : (m : Model) (query : List Float) (wanted : Sought) (node : Node) → node_gives m query wanted node [] ≡ hits (leaf_hits m query wanted node)
unfolding node_gives
gives_none m query wanted node = refl

pub gives-some : (m : Model) (query : List Float) (wanted : Sought) (node : Node) (c : ℕ) (cs : List ℕ)
    → node_gives m query wanted node (c ∷ cs) ≡ children (c ∷ cs)
unfolding node_gives
gives-some m query wanted node c cs = refl

pub tree_shown : (s : Setting) (m : Model) (query : List Float) (wanted : Sought) (i : ℕ)
    → shown (tree_view s m query wanted) i
    ≡ cond (denies wanted (get_or (model_nodes s m) i no_node).filter) (hits [])
    (node_gives m query wanted (get_or (model_nodes s m) i no_node) (get_or (model_nodes s m) i no_node).children)
unfolding shown tree_view
tree_shown s m query wanted i = refl

module _ (s : Setting) (m : Model) (store : Store) (a : Allowed s) (w : Within s m) (facts : NodeFacts s m) (held : Held s m store)
    (laid : Laid s m store) where
  abbrev shape : Shape
  shape = setting_shape s

  -- ---- what is held, by number

  vector-at : (i : ℕ) → i < length m.rows → vector_at s.dimension store.floats i ≡ (get_or m.rows i no_row).vector
  unfolding row_vectors
  vector-at i h =
      let n = length m.rows in
      let long : i < length (count_from 0 n) = subst (λ (k : ℕ). i < k) (sym (length-count_from 0 n)) h in
      ap (vector_at s.dimension store.floats) (sym (get_d_count_from 0 n i 0 h ∙ zero-add i))
      ∙ sym (get_d_map (vector_at s.dimension store.floats) (count_from 0 n) i 0 [] long)
      ∙ ap (λ (l : List (List Float)). get_or l i []) held.vectors
      ∙ get_d_map (λ r. r.vector) m.rows i no_row [] h

  document-at : (i : ℕ) → i < length m.rows → get_or store.numbers i 0 ≡ (get_or m.rows i no_row).document
  document-at i h =
      ap (λ (k : ℕ). get_or store.numbers k 0) (sym (zero-add i)) ∙ sym (get_d_part 0 (length m.rows) store.numbers i 0 h)
      ∙ ap (λ (l : List ℕ). get_or l i 0) held.documents ∙ get_d_map (λ r. r.document) m.rows i no_row 0 h

  owner_at : (e : ℕ) → e < length (row_hashes m) → get_or store.numbers (s.capacities.vectors + e) 0 ≡ get_or (row_entries m).owners e 0
  unfolding row_entries
  owner_at e h =
      sym (get_d_part s.capacities.vectors (length (row_hashes m)) store.numbers e 0 h) ∙ ap (λ (l : List ℕ). get_or l e 0) held.owners

  hash_at : (e : ℕ) → e < length (row_hashes m) → get_or store.hashes e 0 ≡ get_or (row_entries m).hashes e 0
  unfolding row_entries
  hash_at e h =
      ap (λ (k : ℕ). get_or store.hashes k 0) (sym (zero-add e)) ∙ sym (get_d_part 0 (length (row_hashes m)) store.hashes e 0 h)
      ∙ ap (λ (l : List ℕ). get_or l e 0) held.hashes

  hit-at : (query : List Float) (i : ℕ) → i < length m.rows → hit_at shape store.floats store.numbers query i ≡ row_hit m query i
  unfolding row_hit
  hit-at query i h = ap₂ (λ (v : List Float) (d : ℕ). hit_of (distance query v) d i) (vector-at i h) (document-at i h)

  -- ---- what is laid out, by node number

  abbrev node_at : ℕ → Node
  node_at i = get_or (model_nodes s m) i no_node

  field_at : (i field : ℕ) → i < length (model_nodes s m) → field < 6
      → node_field shape store.numbers i field
      ≡ get_or (six_of (block_at (λ node. node.children) (model_nodes s m) i) (block_at (λ node. node.ids) (model_nodes s m) i) (block_at (λ node. node.entries) (model_nodes s m) i) (node_at i)) field 0
  field_at i field h g =
      let N = model_nodes s m in
      let at = nodes_at shape in
      let n = length-six_from 0 0 0 N in
      let e : at + i * 6 + field ≡ at + (i * 6 + field) = omega arith in
      ap (λ (k : ℕ). get_or store.numbers k 0) e
      ∙ sym (get_d_part at (length (six_from 0 0 0 N)) store.numbers (i * 6 + field) 0 (omega arith))
      ∙ ap (λ (l : List ℕ). get_or l (i * 6 + field) 0) laid.six
      ∙ six_get_d N i no_node field h g

  block-at : (f : Node → List ℕ) (at i : ℕ) → part at (length (joined f (model_nodes s m))) store.numbers ≡ joined f (model_nodes s m)
      → i < length (model_nodes s m)
      → part (at + start_of (block_at f (model_nodes s m) i) (f (node_at i))) (length (f (node_at i))) store.numbers ≡ f (node_at i)
  block-at f at i e h =
      let N = model_nodes s m in
      let block = f (node_at i) in
      sym (part-part at (length (joined f N)) (start_of (block_at f N i) block) (length block) store.numbers (start-end f N i no_node h))
      ∙ ap (λ (l : List ℕ). part (start_of (block_at f N i) block) (length block) l) e
      ∙ start-read f N i no_node h

  centroid-at : (i : ℕ) → i < length (model_nodes s m) → vector_at s.dimension store.floats (s.capacities.vectors + i) ≡ (node_at i).centroid
  centroid-at i h =
      let N = model_nodes s m in
      let d = s.dimension in
      let v = s.capacities.vectors in
      let e = length_blocks (λ node. node.centroid) d N facts.wide in
      let p = suc-mul i d in
      let q = mul-le-mul_right d h in
      let n : (v + i) * d ≡ d * v + i * d = add-mul v i d ∙ ap (λ (k : ℕ). k + i * d) (mul_comm v d) in
      ap (λ (k : ℕ). part k d store.floats) n
      ∙ sym (part-part (d * v) (length (joined (λ node. node.centroid) N)) (i * d) d store.floats (omega arith))
      ∙ ap (λ (l : List Float). part (i * d) d l) laid.centroids
      ∙ row_read_lem (λ node. node.centroid) d N i no_node facts.wide h

  filter-at : (i : ℕ) → i < length (model_nodes s m) → part (filters_at shape + i * 4) 4 store.hashes ≡ (node_at i).filter
  filter-at i h =
      let N = model_nodes s m in
      let e = length_blocks (λ node. node.filter) 4 N facts.four in
      sym (part-part (filters_at shape) (length (joined (λ node. node.filter) N)) (i * 4) 4 store.hashes (omega arith))
      ∙ ap (λ (l : List ℕ). part (i * 4) 4 l) laid.filters
      ∙ row_read_lem (λ node. node.filter) 4 N i no_node facts.four h

  -- ---- what a node shows

  -- members of a node's lists are numbers of rows, entries, nodes
  ids-below : (i x : ℕ) → i < length (model_nodes s m) → Memᴰ x (node_at i).ids → x < length m.rows
  unfolding model_nodes
  ids-below i x h k =
      subst (λ (n : ℕ). x < n) (length-vectors m)
      (id_below (splitting_of s.dimension s.params) (row_vectors m) (row_entries m) (limits s a).branching_low (node_at i) x (get_d_Memᴰ (model_nodes s m) i no_node h) k)

  entries_below : (i x : ℕ) → i < length (model_nodes s m) → Memᴰ x (node_at i).entries → x < length (row_hashes m)
  unfolding model_nodes nodes_of
  entries_below i x h k =
      let sp = splitting_of s.dimension s.params in
      let of : (node_at i).entries ≡ entries_of (row_entries m) (node_at i).ids =
      node-entries sp (row_vectors m) (row_entries m) 0 (tree_of sp (row_vectors m)) (node_at i) (get_d_Memᴰ (model_nodes s m) i no_node h) in
      subst (λ (n : ℕ). x < n) (owners-length m) (entry_below (row_entries m) (node_at i).ids x (subst (Memᴰ x) of k))

  children-between : (i x : ℕ) → i < node_count s m → Memᴰ x (node_at i).children → (i < x) × (x < node_count s m)
  unfolding model_nodes nodes_of node_count
  children-between i x h k =
      let sp = splitting_of s.dimension s.params in
      node-children sp (row_vectors m) (row_entries m) (tree_of sp (row_vectors m)) i no_node x h k

  ids-held : length (joined (λ node. node.ids) (model_nodes s m)) ≡ length m.rows
  unfolding model_nodes
  ids-held = length_ids (splitting_of s.dimension s.params) (row_vectors m) (row_entries m) (limits s a).branching_low ∙ length-vectors m

  entries-held : length (joined (λ node. node.entries) (model_nodes s m)) ≡ length (row_hashes m)
  unfolding model_nodes
  entries-held =
      length-entries (splitting_of s.dimension s.params) (row_vectors m) (row_entries m) (limits s a).branching_low
      (λ k b. subst (λ (n : ℕ). get_or (row_entries m).owners k 0 < n) (sym (length-vectors m)) (owner-below m k b))
      ∙ owners-length m

  owned : (x : ℕ) → x < length (row_hashes m) → get_or (row_entries m).owners x 0 < length m.rows
  owned x h = owner-below m x (subst (λ (n : ℕ). x < n) (sym (owners-length m)) h)

  -- the label of an entry is read back
  start-at : (e : ℕ) → e < length (row_hashes m) → entry_start shape store.numbers e ≡ get_or (starts_from 0 (row_names m)) e 0
  start-at e h = sym (get_d_part (starts_at shape) (length (row_hashes m)) store.numbers e 0 h) ∙ ap (λ (l : List ℕ). get_or l e 0) held.starts

  length_at : (e : ℕ) → e < length (row_hashes m) → entry_length shape store.numbers e ≡ get_or (lengths_of_names (row_names m)) e 0
  length_at e h = sym (get_d_part (lengths_at shape) (length (row_hashes m)) store.numbers e 0 h) ∙ ap (λ (l : List ℕ). get_or l e 0) held.lengths

  named : (e : ℕ) → e < length (row_hashes m) → e < length (row_names m)
  named e h = subst (λ (n : ℕ). e < n) (sym (names-length m)) h

  end-held : (e : ℕ) → e < length (row_hashes m) → end_in shape store.numbers e ≤ row_bytes m
  unfolding row_bytes
  end-held e h = omega (arith, start-at e h, length_at e h, name-end (row_names m) e (named e h))

  name-at : (e : ℕ) → e < length (row_hashes m) → entry_name shape store.numbers store.text e ≡ get_or (row_names m) e []
  unfolding row_bytes
  name-at e h =
      let start = get_or (starts_from 0 (row_names m)) e 0 in
      let long = get_or (lengths_of_names (row_names m)) e 0 in
      ap₂ (λ (a n : ℕ). part a n store.text) (start-at e h) (length_at e h)
      ∙ ap (λ (a : ℕ). part a long store.text) (sym (zero-add start))
      ∙ sym (part-part 0 (length (bytes_of_names (row_names m))) start long store.text (name-end (row_names m) e (named e h)))
      ∙ ap (part start long) held.text
      ∙ name-read (row_names m) e (named e h)

  -- a list of which all is held gives the same hits
  list-shown : (query : List Float) (wanted : Sought) (l : List ℕ) → ((x : ℕ) → Memᴰ x l → x < held_in (list_read wanted) (model_counts s m))
      → list_shown shape (model_counts s m) store query wanted l ≡ hits (map (row_hit m query) (given wanted (row_read m) l))
  unfolding list_shown
  list-shown query wanted l below =
      let c = model_counts s m in
      let held_by = entry_read shape (model_counts s m) store in
      let end = end_in shape store.numbers in
      let reads : Reading = record { entries = entry_read shape (model_counts s m) store; end = end_in shape store.numbers } in
      let rows : Reading = record { entries = row_read m; end = end_in shape store.numbers } in
      let hit = hit_at shape store.floats store.numbers query in
      let Same : ℕ → Type 0 = λ v. hit_at shape store.floats store.numbers query v ≡ row_hit m query v in
      let same : (x : ℕ) → Memᴰ x l → SameNumber wanted (model_counts s m) reads rows Same x =
      λ x k. numbers-same c reads rows Same wanted owner_at hash_at (λ e h. refl) (λ e h n. name-at e h) (hit-at query) x in
      let pass : all_pass (passes wanted (model_counts s m) held_by end) l ≡ true =
      passes_same c reads rows Same wanted l same ∙ held-passes wanted c (row_read m) end l below owned end-held in
      chosen (all_pass (passes wanted c held_by end) l) (hits (map hit (given wanted held_by l))) damage pass
      ∙ ap hits
      (map_on hit (row_hit m query) (given wanted held_by l) (given-read c reads rows Same wanted l same pass)
      ∙ ap (map (row_hit m query)) (given-same c reads rows Same wanted l same pass))

  -- ---- the lists of a node

  -- their numbers are held, all of them together are as many as are held, and where they stand
  list-below : (list : LeafList) (i x : ℕ) → i < length (model_nodes s m) → Memᴰ x (node_list list (node_at i)) → x < held_in list (model_counts s m)
  list-below vector_list i x h k = ids-below i x h k
  list-below entry_list i x h k = entries_below i x h k

  list_held : (list : LeafList) → length (joined (node_list list) (model_nodes s m)) ≡ held_in list (model_counts s m)
  list_held vector_list = ids-held
  list_held entry_list = entries-held

  list-stands : (list : LeafList) → StandsAt (part_of shape list) (joined (node_list list) (model_nodes s m)) store.numbers
  list-stands vector_list = laid.order
  list-stands entry_list = laid.entries

  list-start : (list : LeafList) (i : ℕ) → i < length (model_nodes s m)
      → node_field shape store.numbers i (field_of list) ≡ start_of (block_at (node_list list) (model_nodes s m) i) (node_list list (node_at i))
  unfolding six_of
  list-start vector_list i h = field_at i 2 h (omega arith)
  list-start entry_list i h = field_at i 4 h (omega arith)

  list_count : (list : LeafList) (i : ℕ) → i < length (model_nodes s m)
      → node_field shape store.numbers i (field_of list + 1) ≡ length (node_list list (node_at i))
  unfolding six_of
  list_count vector_list i h = field_at i 3 h (omega arith)
  list_count entry_list i h = field_at i 5 h (omega arith)

  leaf_shown_lem : (query : List Float) (wanted : Sought) (i : ℕ) → i < length (model_nodes s m)
      → leaf_shown shape (model_counts s m) store query wanted i ≡ hits (leaf_hits m query wanted (node_at i))
  unfolding leaf_shown leaf_hits
  leaf_shown_lem query wanted i h =
      let N = model_nodes s m in
      let list = list_read wanted in
      let l = node_list (list_read wanted) (node_at i) in
      let at = start_of (block_at (node_list list) N i) l in
      let held = held_in list (model_counts s m) in
      let shows = list_shown shape (model_counts s m) store query wanted in
      ap₂ (λ (f g : ℕ). cond (block_held f g held) (shows (part (part_of shape list + f) g store.numbers)) damage) (list-start list i h) (list_count list i h)
      ∙ chosen (block_held at (length l) held) (shows (part (part_of shape list + at) (length l) store.numbers)) damage
      (block_held_lem at (length l) held (subst (λ (n : ℕ). at + length l ≤ n) (list_held list) (start-end (node_list list) N i no_node h)))
      ∙ ap shows (block-at (node_list list) (part_of shape list) i (list-stands list) h)
      ∙ list-shown query wanted l (λ x k. list-below list i x h k)

  -- ---- the children of a node

  children-shown : (i : ℕ) → i < node_count s m
      → children_shown shape (model_counts s m) store i (node_at i).children ≡ children (node_at i).children
  unfolding children_shown
  children-shown i h =
      let cs = (node_at i).children in
      let n = node_count s m in
      chosen (all_pass (λ child. ltb i child && ltb child n) cs) (children cs) damage
      (all_pass_lem (λ child. ltb i child && ltb child n) cs
      (λ x k. let b = children-between i x h k in ap₂ ◌&&◌ (lt-ltb i x b.0) (lt-ltb x n b.1)))

  -- child links held: one for each node but the root
  links-held : length (joined (λ node. node.children) (model_nodes s m)) ≡ node_count s m - 1
  unfolding model_nodes node_count
  links-held = length-links (splitting_of s.dimension s.params) (row_vectors m) (row_entries m)

  -- what a node shows by its start and count of children
  by_fields : List Float → Sought → ℕ → ℕ → ℕ → Shown
  by_fields query wanted i start count =
      cond (eqb count 0) (leaf_shown shape (model_counts s m) store query wanted i)
      (cond (block_held start count (node_count s m))
      (children_shown shape (model_counts s m) store i (part (links_at shape + start) count store.numbers)) damage)

  by_fields_lem : (query : List Float) (wanted : Sought) (i : ℕ)
      → node_shown shape (model_counts s m) store query wanted i
      ≡ by_fields query wanted i (node_field shape store.numbers i 0) (node_field shape store.numbers i 1)
  unfolding node_shown by_fields
  by_fields_lem query wanted i = refl

  fields : (query : List Float) (wanted : Sought) (i : ℕ) → i < length (model_nodes s m)
      → node_shown shape (model_counts s m) store query wanted i
      ≡ by_fields query wanted i (start_of (block_at (λ node. node.children) (model_nodes s m) i) (node_at i).children) (length (node_at i).children)
  unfolding six_of
  fields query wanted i h = by_fields_lem query wanted i ∙ ap₂ (by_fields query wanted i) (field_at i 0 h (omega arith)) (field_at i 1 h (omega arith))

  gives_inner : (query : List Float) (wanted : Sought) (i c : ℕ) (cs : List ℕ) → (node_at i).children ≡ c ∷ cs → i < length (model_nodes s m) → i < node_count s m
      → by_fields query wanted i (start_of (block_at (λ node. node.children) (model_nodes s m) i) (node_at i).children) (length (node_at i).children) ≡ children (node_at i).children
  unfolding by_fields
  gives_inner query wanted i c cs e h g =
      let N = model_nodes s m in
      let sh = setting_shape s in
      let ks = (node_at i).children in
      let at = start_of (block_at (λ node. node.children) N i) ks in
      let long : length ks ≡ suc (length cs) = ap length e in
      let inner = cond (block_held at (length ks) (node_count s m)) (children_shown sh (model_counts s m) store i (part (links_at sh + at) (length ks) store.numbers)) damage in
      ap (λ (b : Bool). cond b (leaf_shown sh (model_counts s m) store query wanted i) inner) (ne_eqb (length ks) 0 (λ z. omega arith))
      ∙ chosen (block_held at (length ks) (node_count s m)) (children_shown sh (model_counts s m) store i (part (links_at sh + at) (length ks) store.numbers)) damage
      (block_held_lem at (length ks) (node_count s m) (let t = start-end (λ node. node.children) N i no_node h in omega (arith, t, links-held)))
      ∙ ap (children_shown sh (model_counts s m) store i) (block-at (λ node. node.children) (links_at sh) i laid.links h)
      ∙ children-shown i g

  gives_leaf : (query : List Float) (wanted : Sought) (i : ℕ) → (node_at i).children ≡ [] → i < length (model_nodes s m)
      → by_fields query wanted i (start_of (block_at (λ node. node.children) (model_nodes s m) i) (node_at i).children) (length (node_at i).children) ≡ hits (leaf_hits m query wanted (node_at i))
  unfolding by_fields
  gives_leaf query wanted i e h =
      let N = model_nodes s m in
      let sh = setting_shape s in
      let ks = (node_at i).children in
      let at = start_of (block_at (λ node. node.children) N i) ks in
      chosen (eqb (length ks) 0) (leaf_shown sh (model_counts s m) store query wanted i)
      (cond (block_held at (length ks) (node_count s m)) (children_shown sh (model_counts s m) store i (part (links_at sh + at) (length ks) store.numbers)) damage)
      (eq-eqb (length ks) 0 (ap length e))
      ∙ leaf_shown_lem query wanted i h

  node-shown : (query : List Float) (wanted : Sought) (i : ℕ) → i < length (model_nodes s m) → i < node_count s m
      → node_shown shape (model_counts s m) store query wanted i ≡ node_gives m query wanted (node_at i) (node_at i).children
  node-shown query wanted i h g = fields query wanted i h ∙ go (node_at i).children refl
    where
      go : (cs : List ℕ) → (node_at i).children ≡ cs
          → by_fields query wanted i (start_of (block_at (λ node. node.children) (model_nodes s m) i) (node_at i).children) (length (node_at i).children)
          ≡ node_gives m query wanted (node_at i) (node_at i).children
      go [] e = gives_leaf query wanted i e h ∙ sym (ap (node_gives m query wanted (node_at i)) e ∙ gives_none m query wanted (node_at i))
      go (c ∷ cs) e = gives_inner query wanted i c cs e h g ∙ ap children e
          ∙ sym (ap (node_gives m query wanted (node_at i)) e ∙ gives-some m query wanted (node_at i) c cs)

  most-same : (query : List Float) (wanted : Sought)
      → (store_view shape (model_counts s m) store query wanted).most ≡ (tree_view s m query wanted).most
  unfolding store_view tree_view
  most-same query wanted = refl

  key-same : (query : List Float) (wanted : Sought) (i : ℕ) → i < length (model_nodes s m)
      → (store_view shape (model_counts s m) store query wanted).key i ≡ (tree_view s m query wanted).key i
  unfolding store_view tree_view
  key-same query wanted i h = ap (λ (v : List Float). key_of (distance query v)) (centroid-at i h)

  -- The walk over the store is the walk over the rows' tree
  pub same_walks : (query : List Float) (wanted : Sought) (ef : ℕ) → node_count s m ≤ s.capacities.nodes
      → walk (store_view shape (model_counts s m) store query wanted) ef ≡ walk (tree_view s m query wanted) ef
  same_walks query wanted ef fits =
      let v = store_view shape (model_counts s m) store query wanted in
      let n = node_count s m in
      let small : node_count s m ≤ 2 ^ 64 = omega (arith, fits, (limits s a).nodes_high) in
      let within : (i : ℕ) → i < node_count s m → i < length (model_nodes s m) = λ i h. subst (λ (k : ℕ). i < k) (sym facts.count) h in
      same-below v (tree_view s m query wanted) n small (some-nodes s m) (store-children-below shape (model_counts s m) store query wanted)
      (most-same query wanted) (λ i h. key-same query wanted i (within i h))
      (λ i h. store-shown shape (model_counts s m) store query wanted i
      ∙ ap₂ (λ (f : List ℕ) (sh : Shown). cond (denies wanted f) (hits []) sh) (filter-at i (within i h)) (node-shown query wanted i (within i h) h)
      ∙ sym (tree_shown s m query wanted i))
      ef

-- ---- the hits that are struck

-- past the rows there is no mark, and no live row
mark-at : (rows : List ModelRow) (i : ℕ) → get_or (map live_mark rows) i 0 ≡ live_mark (get_or rows i no_row)
mark-at [] i = refl
mark-at (r ∷ rows) zero = refl
mark-at (r ∷ rows) (suc i) = mark-at rows i

-- '0 is withdrawn, anything else live'
mark-live : (live : Bool) → not (eqb (cond live 1 0) 0) ≡ live
mark-live true = refl
mark-live false = refl

pub same_live : (s : Setting) (m : Model) (store : Store) → Held s m store → live_in (setting_shape s) (model_counts s m) store ≡ row_live m
unfolding is_live row_live
same_live s m store held =
    let at : (hit : ℕ) → live_in (setting_shape s) (model_counts s m) store hit ≡ row_live m hit = λ hit.
    (ap (λ (marks : List ℕ). not (eqb (get_or marks (vector_of hit) 0) 0)) held.live
    ∙ ap (λ (mark : ℕ). not (eqb mark 0)) (mark-at m.rows (vector_of hit)) ∙ mark-live (get_or m.rows (vector_of hit) no_row).live) in
    λ i hit. at hit i
