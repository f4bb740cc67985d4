-- The passes one after the other make of the lists of an index whose nodes are made those of the layout.
use Prim.Native.Nat.{ℕ, zero, suc, ◌+◌, ◌-◌, ◌*◌, ◌≤◌, ◌<◌}
use mathlib.Core.Path.{◌≡◌, refl, sym, ap, ap₂, ◌∙◌, subst}
use mathlib.Core.List.{List, [], ◌∷◌, map}
use native.Mathlib.Omega.{arith}
use lib.ListN.{length, get_or, set, drop}
use lib.Seq.{sets, length-sets, take-length, drop-drop, drop-set-lt}
use Rattle.lists.specs.Lists.{part, joined, count_from}
use Rattle.lists.specs.Counting.{sum_of, sum_of-map, length-joined}
use Rattle.lists.specs.Partition.{count, List-as-Permᴰ, once_perm, once-count_from}
use Rattle.lists.specs.Parts.{length_part, get_d_part, get_d_sets_before, set-sets-before, sets_self}
use Rattle.store.specs.declared.Shape.{Shape}
use Rattle.store.specs.Store.{owners_at, order_at, nodes_at, links_at, entry_order_at, work_size}
use Rattle.tree.specs.Nodes.{Entries, Node, no_node}
use Rattle.tree.specs.Layout.{six_from, numbers_of}
use Rattle.tree.proofs.NodeLaws.{length_ids, length-nodes_of}
use Rattle.tree.proofs.NodeEntryLaws.{perm_entries}
use Rattle.tree.specs.Links.{Linked, link_up}
use Rattle.tree.proofs.LinksLaws.{link_up-nodes_of, length-linked}
use Rattle.tree.proofs.LayoutLaws.{block_at, block_read, block-end, NodesFit, nodes_of-fit}
use Rattle.tree.specs.Made.{made_from}
use Rattle.node_table.specs.Table.{written, cell_at, cell, cells, column, sum_to, block_start}
use Rattle.child_links.specs.Promises.{ChildCounts}
use Rattle.entry_leaves.specs.Leaves.{marked, leaves_marked}
use Rattle.entry_order.specs.EntryOrder.{class_start, class_place}
use Rattle.label_entries.specs.Promises.{held, Room, AllMade, nodes_made}
use Rattle.node_table.specs.TableLaws.{DistinctPlaces, length-written, get_d_written_other, get_d_written-same, sum_to_congr}
use Rattle.entry_leaves.specs.LeavesLaws.{length_marked}
use Rattle.label_entries.proofs.Classes.{class_to, length_class_all, sum_to-block, sorted-is}
use Rattle.label_entries.proofs.Rows.{cells_are, id_count, table_is}
use Rattle.label_entries.proofs.Owners.{marked-at, order_distinct, order_below, In, leaf_of, classes-are}

-- places written before a run
pub written-sets : (p f : ℕ → ℕ) (n : ℕ) (l : List ℕ) (at : ℕ) (vs : List ℕ) → ((i : ℕ) → i < n → p i < at)
    → written p f n (sets l at vs) ≡ sets (written p f n l) at vs
unfolding written
written-sets p f zero l at vs h = refl
written-sets p f (suc n) l at vs h =
    ap (λ (r : List ℕ). set r (p n) (f n)) (written-sets p f n l at vs (λ i b. h i (let k : i < suc n = omega arith in k)))
    ∙ set-sets-before (written p f n l) (p n) (f n) at vs (h n (let k : n < suc n = omega arith in k))

-- places written in the front
drop-written : (p f : ℕ → ℕ) (n : ℕ) (l : List ℕ) (m : ℕ) → ((i : ℕ) → i < n → p i < m) → drop m (written p f n l) ≡ drop m l
unfolding written
drop-written p f zero l m h = refl
drop-written p f (suc n) l m h =
    drop-set-lt m (written p f n l) (p n) (f n) (h n (let k : n < suc n = omega arith in k))
    ∙ drop-written p f n l m (λ i b. h i (let k : i < suc n = omega arith in k))

drop-marked : (places counts : ℕ → ℕ) (n : ℕ) (l : List ℕ) (m : ℕ) → ((p : ℕ) → p < sum_to counts n → places p < m)
    → drop m (marked places counts n l) ≡ drop m l
unfolding marked sum_to
drop-marked places counts zero l m h = refl
drop-marked places counts (suc n) l m h =
    drop-written (λ k. places (sum_to counts n + k)) (λ k. n) (counts n) (marked places counts n l) m
    (λ k b. h (sum_to counts n + k) (let x : sum_to counts n + k < sum_to counts n + counts n = omega arith in x))
    ∙ drop-marked places counts n l m (λ p b. h p (let x : p < sum_to counts n + counts n = omega arith in x))

pub drop-later : (l m : List ℕ) (a b : ℕ) → a ≤ b → drop a l ≡ drop a m → drop b l ≡ drop b m
drop-later l m a b h e =
    let k : a + (b - a) ≡ b = omega arith in
    ap (λ (j : ℕ). drop j l) (sym k) ∙ sym (drop-drop (b - a) a l) ∙ ap (drop (b - a)) e ∙ drop-drop (b - a) a m ∙ ap (λ (j : ℕ). drop j m) k

module _ (s : Shape) (n e rows : ℕ) (numbers hashes work₀ : List ℕ) (room : Room s n e rows numbers hashes work₀) (made : AllMade s n e rows numbers hashes) where
  abbrev pub entries : Entries
  entries = held s e numbers hashes

  abbrev pub nodes : List Node
  nodes = nodes_made s n e rows numbers hashes made

  pub owners-count : length entries.owners ≡ e
  owners-count =
      let a = room.numbers_long in
      let b = room.entries_fit in
      length_part (owners_at s) e numbers (omega arith)

  owner_at : (k : ℕ) → k < e → get_or entries.owners k 0 ≡ get_or numbers (owners_at s + k) 0
  owner_at k h = get_d_part (owners_at s) e numbers k 0 h

  owned : (k : ℕ) → k < length entries.owners → get_or entries.owners k 0 < length made.vectors
  owned k h =
      let c = owners-count in
      let k< : k < e = omega arith in
      let a = owner_at k k< in
      let b = made.owned k k< in
      let v = made.vector_count in
      omega arith

  pub fit : NodesFit s nodes
  fit =
      let v = made.vector_count in
      let a = room.vectors_fit in
      let b = room.entries_fit in
      let c = owners-count in
      let d = length-nodes_of made.splitting made.vectors entries in
      let f = made.count_of_nodes in
      let g = room.nodes_fit in
      nodes_of-fit s made.splitting made.vectors entries made.branching owned (omega arith) (omega arith) (omega arith)

  six : part (nodes_at s) (6 * length nodes) numbers ≡ made_from 0 nodes
  six = ap (λ (k : ℕ). part (nodes_at s) (6 * k) numbers) made.count_of_nodes ∙ made.six

  -- ---- child links

  counts_is : cells (nodes_at s + 1) rows numbers ≡ map (λ node. length node.children) nodes
  counts_is = ap (λ (k : ℕ). cells (nodes_at s + 1) k numbers) (sym made.count_of_nodes) ∙ cells_are (nodes_at s) numbers nodes six

  linked-is : link_up 0 (cells (nodes_at s + 1) rows numbers) ≡ record { stack = 0 ∷ []; links = joined (λ node. node.children) nodes }
  linked-is = ap (link_up 0) counts_is ∙ link_up-nodes_of made.splitting made.vectors entries

  pub links-is : (link_up 0 (cells (nodes_at s + 1) rows numbers)).links ≡ joined (λ node. node.children) nodes
  links-is = ap (λ (r : Linked). r.links) linked-is

  pub counts_ok : ChildCounts (cells (nodes_at s + 1) rows numbers)
  counts_ok =
      let cs = cells (nodes_at s + 1) rows numbers in
      let a : sum_of (λ c. c) cs ≡ length (link_up 0 cs).links =
      ap (sum_of (λ c. c)) counts_is ∙ sum_of-map (λ c. c) (λ node. length node.children) nodes
      ∙ sym (ap (λ (r : List ℕ). length r) links-is ∙ length-joined (λ node. node.children) nodes) in
      let b = length-linked 0 cs in
      let c : length (link_up 0 cs).stack ≡ 1 = ap (λ (r : Linked). length r.stack) linked-is in
      record { all_linked = sym a; one_root = omega arith }

  -- the numbers once the nodes are linked
  abbrev pub linked : List ℕ
  linked = sets (column (nodes_at s) rows (block_start (nodes_at s) numbers) numbers) (links_at s) (link_up 0 (cells (nodes_at s + 1) rows numbers)).links

  pub linked-front : (q : ℕ) → q < nodes_at s → get_or linked q 0 ≡ get_or numbers q 0
  linked-front q h =
      get_d_sets_before (column (nodes_at s) rows (block_start (nodes_at s) numbers) numbers) (links_at s) (link_up 0 (cells (nodes_at s + 1) rows numbers)).links q 0 (omega arith)
      ∙ get_d_written_other (cell_at (nodes_at s)) (block_start (nodes_at s) numbers) rows numbers q (λ i b w. omega arith)

  linked-ids : (i : ℕ) → i < rows → cell (nodes_at s + 3) linked i ≡ length (get_or nodes i no_node).ids
  linked-ids i h =
      let a = room.nodes_fit in
      let b = made.count_of_nodes in
      get_d_sets_before (column (nodes_at s) rows (block_start (nodes_at s) numbers) numbers) (links_at s) (link_up 0 (cells (nodes_at s + 1) rows numbers)).links (nodes_at s + 3 + 6 * i) 0 (omega arith)
      ∙ get_d_written_other (cell_at (nodes_at s)) (block_start (nodes_at s) numbers) rows numbers (nodes_at s + 3 + 6 * i) (λ i b w. omega arith)
      ∙ id_count (nodes_at s) numbers nodes no_node six i (omega arith)

  -- ---- the leaf of each entry

  abbrev pub places : ℕ → ℕ
  places k = get_or linked (order_at s + k) 0

  abbrev pub id_counts : ℕ → ℕ
  id_counts = cell (nodes_at s + 3) linked

  id_sums : (i : ℕ) → i ≤ rows → sum_to id_counts i ≡ block_at (λ node. node.ids) nodes i
  id_sums i h =
      let b = made.count_of_nodes in
      sum_to_congr id_counts (λ j. length (get_or nodes j no_node).ids) i (λ j c. linked-ids j (let k : j < rows = omega arith in k))
      ∙ sum_to-block (λ node. node.ids) nodes no_node i (omega arith)

  pub ids-sum : sum_to id_counts rows ≡ n
  ids-sum =
      id_sums rows (omega arith)
      ∙ ap (block_at (λ node. node.ids) nodes) (sym made.count_of_nodes)
      ∙ ap (sum_of (λ node. length node.ids)) (take-length nodes)
      ∙ sym (length-joined (λ node. node.ids) nodes)
      ∙ length_ids made.splitting made.vectors entries made.branching
      ∙ made.vector_count

  places_are : (p : ℕ) → p < n → places p ≡ get_or (joined (λ node. node.ids) nodes) p 0
  places_are p h =
      let a = room.vectors_fit in
      linked-front (order_at s + p) (omega arith) ∙ sym (get_d_part (order_at s) n numbers p 0 h) ∙ ap (λ (l : List ℕ). get_or l p 0) made.order

  pub places-below : (p : ℕ) → p < sum_to id_counts rows → places p < s.vectors
  places-below p h =
      let a = ids-sum in
      let v = made.vector_count in
      let b = places_are p (omega arith) in
      let c = order_below made.splitting made.vectors entries made.branching no_node p (omega arith) in
      let d = room.vectors_fit in
      omega arith

  pub owner-below : (k : ℕ) → k < e → get_or linked (owners_at s + k) 0 < s.vectors
  owner-below k h =
      let a = room.entries_fit in
      let b = linked-front (owners_at s + k) (omega arith) in
      let c = made.owned k h in
      let d = room.vectors_fit in
      omega arith

  module _ (work : List ℕ) (long : s.vectors + e ≤ length work) where
    abbrev pub marks : List ℕ
    marks = marked places id_counts rows work

    abbrev pub after : List ℕ
    after = leaves_marked s.vectors linked (nodes_at s + 3) rows (order_at s) (owners_at s) e work

    abbrev pub leaves : List ℕ
    leaves = part s.vectors e after

    mark-at : (id : ℕ) (i : In made.splitting made.vectors entries made.branching no_node id) → get_or marks id 0 ≡ i.leaf
    mark-at id i =
        let ids = (get_or nodes i.leaf no_node).ids in
        let order = joined (λ node. node.ids) nodes in
        let c = made.count_of_nodes in
        let v = made.vector_count in
        let leaf_lt : i.leaf < rows = omega (arith, i.leaf_lt) in
        let place_lt = i.place_lt in
        let a = linked-ids i.leaf leaf_lt in
        let b = id_sums i.leaf (omega arith) in
        let end = block-end (λ node. node.ids) nodes i.leaf no_node i.leaf_lt in
        let total = length_ids made.splitting made.vectors entries made.branching in
        let all = ids-sum in
        let q = sum_to id_counts i.leaf + i.place in
        let q< : sum_to id_counts i.leaf + i.place < n = omega arith in
        let is : places (sum_to id_counts i.leaf + i.place) ≡ id =
        places_are q q<
        ∙ ap (λ (k : ℕ). get_or order (k + i.place) 0) b
        ∙ sym (get_d_part (block_at (λ node. node.ids) nodes i.leaf) (length ids) order i.place 0 place_lt)
        ∙ ap (λ (l : List ℕ). get_or l i.place 0) (block_read (λ node. node.ids) nodes i.leaf no_node i.leaf_lt)
        ∙ i.is in
        ap (λ (k : ℕ). get_or marks k 0) (sym is)
        ∙ marked-at places id_counts rows work
        (subst (λ (k : ℕ). DistinctPlaces places k) (v ∙ sym all)
        (order_distinct made.splitting made.vectors entries made.branching no_node places (λ p h. places_are p (omega arith))))
        (λ p h. let x = places-below p h in omega arith)
        i.leaf i.place leaf_lt (omega arith)

    pub length-after : length after ≡ length work
    unfolding leaves_marked
    length-after =
        length-written (λ k. s.vectors + k) (λ k. get_or marks (get_or linked (owners_at s + k) 0) 0) e marks ∙ length_marked places id_counts rows work

    pub length-leaves : length leaves ≡ e
    length-leaves = let a = length-after in length_part s.vectors e after (omega arith)

    leaf_at : (k : ℕ) → k < e → get_or leaves k 0 ≡ get_or marks (get_or entries.owners k 0) 0
    unfolding leaves_marked
    leaf_at k h =
        let a = length_marked places id_counts rows work in
        let b = room.entries_fit in
        get_d_part s.vectors e after k 0 h
        ∙ get_d_written-same (λ k. s.vectors + k) (λ k. get_or marks (get_or linked (owners_at s + k) 0) 0) e marks k (λ i j x y w. omega arith) h (omega arith)
        ∙ ap (λ (x : ℕ). get_or marks x 0) (linked-front (owners_at s + k) (omega arith) ∙ sym (owner_at k h))

    leaves-are : (k : ℕ) → k < length entries.owners
        → (i : In made.splitting made.vectors entries made.branching no_node (get_or entries.owners k 0)) × (get_or leaves k 0 ≡ i.leaf)
    leaves-are k h =
        let c = owners-count in
        let i = leaf_of made.splitting made.vectors entries made.branching no_node (get_or entries.owners k 0) (owned k h) in
        (i, leaf_at k (omega arith) ∙ mark-at (get_or entries.owners k 0) i)

    pub leaves-below : (k : ℕ) → k < length leaves → get_or leaves k 0 < rows
    leaves-below k h =
        let a = length-leaves in
        let c = owners-count in
        let r = leaves-are k (omega arith) in
        let d = r.1 in
        let f = r.0.leaf_lt in
        let g = made.count_of_nodes in
        omega arith

    classes : (j : ℕ) → j < length nodes → (get_or nodes j no_node).entries ≡ class_to leaves (length leaves) j
    classes =
        classes-are made.splitting made.vectors entries made.branching no_node leaves (length-leaves ∙ sym owners-count) leaves-are

    -- ---- the numbers

    pub numbers_final : written (λ k. entry_order_at s + class_place leaves k) (λ k. k) (length leaves)
        (column (nodes_at s + 5) rows (λ i. count i leaves) (column (nodes_at s + 4) rows (class_start leaves) linked))
        ≡ numbers_of s nodes numbers
    unfolding numbers_of
    numbers_final =
        let l-count = length-leaves in
        let n-count = made.count_of_nodes in
        let m-fit = room.nodes_fit in
        let e-fit = room.entries_fit in
        let long-n = room.numbers_long in
        let f : Node → List ℕ = λ node. node.entries in
        let starts = column (nodes_at s) rows (block_start (nodes_at s) numbers) numbers in
        let links = (link_up 0 (cells (nodes_at s + 1) rows numbers)).links in
        let cnt : ℕ → ℕ = λ i. count i leaves in
        let table = column (nodes_at s + 5) rows cnt (column (nodes_at s + 4) rows (class_start leaves) linked) in
        let size-table : length table ≡ length numbers =
        length-written (cell_at (nodes_at s + 5)) cnt rows (column (nodes_at s + 4) rows (class_start leaves) linked)
        ∙ length-written (cell_at (nodes_at s + 4)) (class_start leaves) rows linked
        ∙ length-sets starts (links_at s) links
        ∙ length-written (cell_at (nodes_at s)) (block_start (nodes_at s) numbers) rows numbers in
        let perm = perm_entries made.splitting made.vectors entries made.branching owned in
        let all = subst (λ (k : ℕ). List-as-Permᴰ (joined f nodes) (count_from 0 k)) (owners-count ∙ sym l-count) perm in
        let once = once_perm (joined f nodes) (count_from 0 (length leaves)) all (once-count_from 0 (length leaves)) in
        let six-is : column (nodes_at s + 5) rows cnt (column (nodes_at s + 4) rows (class_start leaves) starts) ≡ sets numbers (nodes_at s) (six_from 0 0 0 nodes) =
        ap (λ (k : ℕ). column (nodes_at s + 5) k cnt (column (nodes_at s + 4) k (class_start leaves) (column (nodes_at s) k (block_start (nodes_at s) numbers) numbers))) (sym n-count)
        ∙ table_is (nodes_at s) numbers nodes no_node six (omega arith) leaves
        (λ j b. sym (ap (λ (r : List ℕ). length r) (classes j b) ∙ length_class_all leaves j)) in
        sorted-is f nodes no_node leaves classes (λ k b. let x = leaves-below k b in omega arith) all once (entry_order_at s) table (omega arith)
        ∙ ap (λ (r : List ℕ). sets r (entry_order_at s) (joined f nodes))
        (ap (column (nodes_at s + 5) rows cnt)
        (written-sets (cell_at (nodes_at s + 4)) (class_start leaves) rows starts (links_at s) links (λ i b. omega arith))
        ∙ written-sets (cell_at (nodes_at s + 5)) cnt rows (column (nodes_at s + 4) rows (class_start leaves) starts) (links_at s) links (λ i b. omega arith)
        ∙ ap₂ (λ (r x : List ℕ). sets r (links_at s) x) six-is links-is
        ∙ ap (λ (r : List ℕ). sets (sets r (nodes_at s) (six_from 0 0 0 nodes)) (links_at s) (joined (λ node. node.children) nodes))
        (sym (ap (sets numbers (order_at s)) (sym made.order) ∙ sets_self numbers (order_at s) n)))

    -- ---- the work list

    pub work_final : drop (work_size s) after ≡ drop (work_size s) work
    unfolding leaves_marked
    work_final =
        let b = room.entries_fit in
        drop-written (λ k. s.vectors + k) (λ k. get_or marks (get_or linked (owners_at s + k) 0) 0) e marks (work_size s) (λ k h. omega arith)
        ∙ drop-marked places id_counts rows work (work_size s) (λ p h. let x = places-below p h in omega arith)
