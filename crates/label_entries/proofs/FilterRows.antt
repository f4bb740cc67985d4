-- The filters, from the last node to the first, over numbers that have the nodes laid out.
use Prim.Native.Nat.{ℕ, zero, suc, ◌+◌, ◌-◌, ◌*◌, ◌≤◌, ◌<◌}
use mathlib.Core.Path.{◌≡◌, sym, ap, ap₂, ◌∙◌, subst}
use mathlib.Core.List.{List, map, Memᴰ}
use native.Mathlib.Nat.{zero-add}
use native.Mathlib.Omega.{arith}
use lib.Ieee.{Float}
use lib.ListN.{length, get_or, drop, length-drop}
use lib.Seq.{sets, drop-cons, drop-length, get_or-drop}
use Rattle.lists.specs.Lists.{part, joined}
use Rattle.lists.specs.Counting.{get_d_Memᴰ, every-Memᴰ, joined-cons, joined-nil}
use Rattle.lists.specs.Parts.{get_d_part, part-part, get_d_sets_before, part-sets-same, sets-append, sets_comm}
use Rattle.store.specs.declared.Shape.{Shape}
use Rattle.store.specs.Store.{nodes_at, links_at, entry_order_at, filters_at, numbers_size, hashes_size, node_field}
use Rattle.bloom.specs.Filter.{empty_filter, insert_all, union_all}
use Rattle.tree.specs.Tree.{Splitting, tree_of}
use Rattle.tree.specs.Nodes.{Entries, Node, no_node, nodes_of}
use Rattle.tree.specs.Layout.{start_of, numbers_of, hashes_of}
use Rattle.tree.proofs.TreeLaws.{fair_tree_of}
use Rattle.tree.proofs.NodeLaws.{length-nodes_of}
use Rattle.tree.proofs.NodeEntryLaws.{entry_below}
use Rattle.tree.proofs.NumberedNodes.{node-entries, node-filter-length, nodes_of-children, filter-at}
use Rattle.tree.proofs.LayoutLaws.{block_at, NodesFit, six_of, length-numbers_of, field_read, start-at, count_at, children-read, entries-read, start-end, length_blocks, row_read_lem}
use Rattle.node_table.specs.Table.{places_of, cell}
use Rattle.node_filters.specs.Filters.{entry_block, child_block, filter_made, filters_made}
use Rattle.node_filters.specs.Promises.{RowFits}
use Rattle.lists.specs.Maps.{map_same}
use Rattle.node_filters.proofs.FiltersLaws.{made-next, made_none}

-- a part of a run that was written
part_in_run : (l : List ℕ) (at : ℕ) (vs : List ℕ) (i n : ℕ) → at + length vs ≤ length l → i + n ≤ length vs → part (at + i) n (sets l at vs) ≡ part i n vs
part_in_run l at vs i n h g = sym (part-part at (length vs) i n (sets l at vs) g) ∙ ap (part i n) (part-sets-same l at vs h)

module _ (shape : Shape) (s : Splitting) (vectors : List (List Float)) (e : Entries) (b : 1 ≤ s.branching) (numbers hashes : List ℕ)
    (fit : NodesFit shape (nodes_of s vectors e)) (long : numbers_size shape ≤ length numbers) (room : hashes_size shape ≤ length hashes)
    (few : length e.owners ≤ shape.entries) (count : ℕ) (few' : count ≤ shape.entries) (owners : length e.owners ≡ count)
    (hashes_are : e.hashes ≡ part 0 count hashes) where
  abbrev nodes : List Node
  nodes = nodes_of s vectors e

  abbrev laid : List ℕ
  laid = numbers_of shape nodes numbers

  -- ---- the rows

  -- a cell of the table is one of the node's six numbers
  cell_field : (i field : ℕ) → cell (nodes_at shape + field) laid i ≡ node_field shape laid i field
  cell_field i field = let k : nodes_at shape + field + 6 * i ≡ nodes_at shape + i * 6 + field = omega arith in ap (λ (j : ℕ). get_or laid j 0) k

  first_field : (i : ℕ) → cell (nodes_at shape) laid i ≡ node_field shape laid i 0
  first_field i = let k : nodes_at shape + 6 * i ≡ nodes_at shape + i * 6 + 0 = omega arith in ap (λ (j : ℕ). get_or laid j 0) k

  child_start : (i : ℕ) → i < length nodes → cell (nodes_at shape) laid i ≡ start_of (block_at (λ node. node.children) nodes i) (get_or nodes i no_node).children
  child_start i h = first_field i ∙ start-at shape nodes numbers fit long i no_node h

  child_count_lem : (i : ℕ) → i < length nodes → cell (nodes_at shape + 1) laid i ≡ length (get_or nodes i no_node).children
  child_count_lem i h = cell_field i 1 ∙ count_at shape nodes numbers fit long i no_node h

  entry-start : (i : ℕ) → i < length nodes → cell (nodes_at shape + 4) laid i ≡ start_of (block_at (λ node. node.entries) nodes i) (get_or nodes i no_node).entries
  unfolding six_of
  entry-start i h = cell_field i 4 ∙ field_read shape nodes numbers fit long i no_node 4 h (omega arith)

  entry-count : (i : ℕ) → i < length nodes → cell (nodes_at shape + 5) laid i ≡ length (get_or nodes i no_node).entries
  unfolding six_of
  entry-count i h = cell_field i 5 ∙ field_read shape nodes numbers fit long i no_node 5 h (omega arith)

  children-are : (i : ℕ) → i < length nodes → child_block (places_of shape) laid i ≡ (get_or nodes i no_node).children
  children-are i h =
      ap₂ (λ (a n : ℕ). part (links_at shape + a) n laid) (first_field i) (cell_field i 1) ∙ children-read shape nodes numbers fit long i no_node h

  entries-are : (i : ℕ) → i < length nodes → entry_block (places_of shape) laid i ≡ (get_or nodes i no_node).entries
  entries-are i h =
      ap₂ (λ (a n : ℕ). part (entry_order_at shape + a) n laid) (entry-start i h) (entry-count i h) ∙ entries-read shape nodes numbers fit long i no_node h

  -- an entry is below the count, a child a later node
  entry_lt : (i k : ℕ) → i < length nodes → k < length (get_or nodes i no_node).entries → get_or (get_or nodes i no_node).entries k 0 < length e.owners
  unfolding nodes_of
  entry_lt i k h g =
      let node = get_or nodes i no_node in
      let is = node-entries s vectors e 0 (tree_of s vectors) node (get_d_Memᴰ nodes i no_node h) in
      entry_below e node.ids (get_or node.entries k 0)
      (subst (λ (l : List ℕ). Memᴰ (get_or node.entries k 0) l) is (get_d_Memᴰ node.entries k 0 g))

  child_range : (i k : ℕ) → i < length nodes → k < length (get_or nodes i no_node).children
      → (i < get_or (get_or nodes i no_node).children k 0) × (get_or (get_or nodes i no_node).children k 0 < length nodes)
  child_range i k h g =
      nodes_of-children s vectors e i no_node (get_or (get_or nodes i no_node).children k 0) h (get_d_Memᴰ (get_or nodes i no_node).children k 0 g)

  pub rows_fit : (i : ℕ) → i < length nodes → RowFits (places_of shape) laid (length nodes) i
  rows_fit i h =
      let size = length-numbers_of shape nodes numbers in
      let c-start = child_start i h in
      let c-count = child_count_lem i h in
      let e-start = entry-start i h in
      let e-count = entry-count i h in
      let c-end = start-end (λ node. node.children) nodes i no_node h in
      let e-end = start-end (λ node. node.entries) nodes i no_node h in
      let c-fit = fit.links_fit in
      let e-fit = fit.entries_fit in
      record {
        children_end = omega arith;
        entries_end = omega arith;
        entry_below =
            λ k g.
            let a = get_d_part (entry_order_at shape + cell (nodes_at shape + 4) laid i) (cell (nodes_at shape + 5) laid i) laid k 0 g in
            let x = ap (λ (l : List ℕ). get_or l k 0) (entries-are i h) in
            let lt = entry_lt i k h (omega arith) in
            omega arith;
        child_above =
            λ k g.
            let a = get_d_part (links_at shape + cell (nodes_at shape) laid i) (cell (nodes_at shape + 1) laid i) laid k 0 g in
            let x = ap (λ (l : List ℕ). get_or l k 0) (children-are i h) in
            let r = child_range i k h (omega arith) in
            omega (arith, a, x, r.0);
        child_below =
            λ k g.
            let a = get_d_part (links_at shape + cell (nodes_at shape) laid i) (cell (nodes_at shape + 1) laid i) laid k 0 g in
            let x = ap (λ (l : List ℕ). get_or l k 0) (children-are i h) in
            let r = child_range i k h (omega arith) in
            omega (arith, a, x, r.1);
      }

  -- ---- the filters

  four-at : (i : ℕ) → i < length nodes → length (get_or nodes i no_node).filter ≡ 4
  unfolding nodes_of
  four-at i h = node-filter-length s vectors e 0 (tree_of s vectors) (get_or nodes i no_node) (get_d_Memᴰ nodes i no_node h)

  four-later : (i : ℕ) (node : Node) → Memᴰ node (drop i nodes) → length node.filter ≡ 4
  four-later i =
      every-Memᴰ (λ node. length node.filter ≡ 4) (drop i nodes) no_node
      (λ k g.
      let n = length-drop i nodes in
      ap (λ (node : Node). length node.filter) (get_or-drop i nodes k no_node) ∙ four-at (i + k) (omega arith))

  -- the hashes with the filters from node i on
  abbrev filled : ℕ → List ℕ
  filled i = sets hashes (filters_at shape + 4 * i) (joined (λ node. node.filter) (drop i nodes))

  later-size : (i : ℕ) → length (joined (λ node. node.filter) (drop i nodes)) ≡ (length nodes - i) * 4
  later-size i = length_blocks (λ node. node.filter) 4 (drop i nodes) (four-later i) ∙ ap (λ (k : ℕ). k * 4) (length-drop i nodes)

  child_filter : (i c : ℕ) → i < c → c < length nodes → part (filters_at shape + 4 * c) 4 (filled (suc i)) ≡ (get_or nodes c no_node).filter
  child_filter i c h g =
      let size = later-size (suc i) in
      let m = fit.nodes_fit in
      let vs = joined (λ node. node.filter) (drop (suc i) nodes) in
      let j = c - suc i in
      let k : filters_at shape + 4 * c ≡ filters_at shape + 4 * suc i + (c - suc i) * 4 = omega arith in
      let back : suc i + (c - suc i) ≡ c = omega arith in
      let n = length-drop (suc i) nodes in
      ap (λ (a : ℕ). part a 4 (filled (suc i))) k
      ∙ part_in_run hashes (filters_at shape + 4 * suc i) vs ((c - suc i) * 4) 4 (omega arith) (omega arith)
      ∙ row_read_lem (λ node. node.filter) 4 (drop (suc i) nodes) (c - suc i) no_node (four-later (suc i)) (omega arith)
      ∙ ap (λ (node : Node). node.filter) (get_or-drop (suc i) nodes (c - suc i) no_node)
      ∙ ap (λ (a : ℕ). (get_or nodes a no_node).filter) back

  hash-read : (i x : ℕ) → x < count → get_or (filled i) x 0 ≡ get_or e.hashes x 0
  hash-read i x h =
      let z = zero-add x in
      get_d_sets_before hashes (filters_at shape + 4 * i) (joined (λ node. node.filter) (drop i nodes)) x 0 (omega arith)
      ∙ ap (λ (k : ℕ). get_or hashes k 0) (sym z)
      ∙ sym (get_d_part 0 count hashes x 0 h)
      ∙ ap (λ (l : List ℕ). get_or l x 0) (sym hashes_are)

  -- the filter that is made for node i is its own
  filter-is : (i : ℕ) → i < length nodes → filter_made (places_of shape) laid (filled (suc i)) i ≡ (get_or nodes i no_node).filter
  unfolding filter_made nodes_of
  filter-is i h =
      let n = length-nodes_of s vectors e in
      let node = get_or nodes i no_node in
      ap₂ (λ (x y : List ℕ). union_all (insert_all empty_filter (map (λ k. get_or (filled (suc i)) k 0) x)) (map (λ c. part (filters_at shape + 4 * c) 4 (filled (suc i))) y))
      (entries-are i h) (children-are i h)
      ∙ ap₂ (λ (x : List ℕ) (y : List (List ℕ)). union_all (insert_all empty_filter x) y)
      (map_same (λ k. get_or (filled (suc i)) k 0) (λ number. get_or e.hashes number 0) node.entries 0
      (λ k g. let lt = entry_lt i k h g in hash-read (suc i) (get_or node.entries k 0) (omega arith)))
      (map_same (λ c. part (filters_at shape + 4 * c) 4 (filled (suc i))) (λ c. (get_or nodes c no_node).filter) node.children 0
      (λ k g. let r = child_range i k h g in child_filter i (get_or node.children k 0) r.0 r.1))
      ∙ sym (filter-at s vectors e (tree_of s vectors) (fair_tree_of s vectors b) i no_node (omega arith))

  filled_next : (i : ℕ) → i < length nodes → sets (filled (suc i)) (filters_at shape + 4 * i) (get_or nodes i no_node).filter ≡ filled i
  filled_next i h =
      let f : Node → List ℕ = λ node. node.filter in
      let four = four-at i h in
      let rest = joined f (drop (suc i) nodes) in
      let k : filters_at shape + 4 * suc i ≡ filters_at shape + 4 * i + length (get_or nodes i no_node).filter = omega arith in
      sym (sets_comm hashes (filters_at shape + 4 * i) (get_or nodes i no_node).filter (filters_at shape + 4 * suc i) rest (omega arith))
      ∙ ap (λ (a : ℕ). sets (sets hashes (filters_at shape + 4 * i) (get_or nodes i no_node).filter) a rest) k
      ∙ sym (sets-append hashes (filters_at shape + 4 * i) (get_or nodes i no_node).filter rest)
      ∙ ap (sets hashes (filters_at shape + 4 * i)) (sym (joined-cons f (get_or nodes i no_node) (drop (suc i) nodes)) ∙ ap (joined f) (sym (drop-cons nodes i no_node h)))

  from_here : (i : ℕ) → i ≤ length nodes → filters_made (places_of shape) laid i (filled i) ≡ hashes_of shape nodes hashes
  unfolding hashes_of
  from_here zero h =
      let k : filters_at shape + 4 * 0 ≡ filters_at shape = omega arith in
      made_none (places_of shape) laid (filled 0) ∙ ap (λ (a : ℕ). sets hashes a (joined (λ node. node.filter) nodes)) k
  from_here (suc i) h =
      let g : i < length nodes = omega arith in
      sym (made-next (places_of shape) laid (filled (suc i)) (filled i) i
      (sym (ap (sets (filled (suc i)) (filters_at shape + 4 * i)) (filter-is i g) ∙ filled_next i g)))
      ∙ from_here i (omega arith)

  pub filters_final : filters_made (places_of shape) laid (length nodes) hashes ≡ hashes_of shape nodes hashes
  filters_final =
      let n = length nodes in
      ap (filters_made (places_of shape) laid n)
      (sym (ap (λ (l : List Node). sets hashes (filters_at shape + 4 * n) (joined (λ node. node.filter) l)) (drop-length nodes)
      ∙ ap (sets hashes (filters_at shape + 4 * n)) (joined-nil (λ node. node.filter))))
      ∙ from_here n (omega arith)
