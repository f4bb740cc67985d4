-- Where the nodes of a tree are laid out, the filter of each that has children is the pool of theirs: what is read back are the nodes' children and filters,
-- and among the nodes of a tree the law holds by their numbers.
use Rattle.std.specs.Prelude.{ℕ, ◌+◌, ◌*◌, ◌≤◌, ◌<◌, ◌≡◌, Float, length, get_or}
use mathlib.Core.List.{List, map, map-map, foldl, Memᴰ}
use Rattle.std.proofs.Common.{sym, ap, ap₂, subst, ◌∙◌, arith}
use Rattle.std.specs.Int.Bits.{bit_or}
use Rattle.lists.specs.Maps.{map_on}
use Rattle.lists.specs.Parts.{get_d_part}
use Rattle.bloom.specs.Filter.{empty_filter, union_all}
use Rattle.bloom.proofs.PoolLaws.{get_d_union_all, no_word}
use Rattle.store.specs.declared.Shape.{Shape}
use Rattle.store.specs.Store.{Store, filters_at, numbers_size, hashes_size, node_field, child_links, node_filter}
use Rattle.tree.specs.Tree.{Splitting}
use Rattle.tree.specs.Nodes.{Entries, no_node, nodes_of}
use Rattle.tree.proofs.NodeLaws.{length-nodes_of, length-links}
use Rattle.tree.proofs.NumberedNodes.{nodes_of-four, nodes_of-children, nodes_of_pool}
use Rattle.tree.specs.Layout.{start_of, numbers_of, hashes_of}
use Rattle.tree.proofs.LayoutLaws.{NodesFit, block_at, start-end, start-at, count_at, children-read, filter-read}
use Rattle.build.specs.Pooled.{Pooled}

-- ---- word by word

words_of : (s : Shape) (hashes links : List ℕ) (i w : ℕ) → w < 4
    → node_filter s hashes i ≡ union_all empty_filter (map (node_filter s hashes) links)
    → get_or hashes (filters_at s + i * 4 + w) 0 ≡ foldl bit_or 0 (map (λ child. get_or hashes (filters_at s + child * 4 + w) 0) links)
words_of s hashes links i w h e =
    let word : (k : ℕ) → get_or (node_filter s hashes k) w 0 ≡ get_or hashes (filters_at s + k * 4 + w) 0 = λ k. get_d_part (filters_at s + k * 4) 4 hashes w 0 h in
    sym (word i)
    ∙ ap (λ (f : List ℕ). get_or f w 0) e
    ∙ get_d_union_all empty_filter (map (node_filter s hashes) links) w
    ∙ ap₂ (λ (x : ℕ) (l : List ℕ). foldl bit_or x l) (no_word w)
    (map-map (λ filter. get_or filter w 0) (node_filter s hashes) links
    ∙ map_on (λ child. get_or (node_filter s hashes child) w 0) (λ child. get_or hashes (filters_at s + child * 4 + w) 0) links (λ child m. word child))

-- ---- a tree's nodes laid out

module _ (shape : Shape) (s : Splitting) (vectors : List (List Float)) (e : Entries) (numbers hashes : List ℕ) (some : 1 ≤ s.branching)
    (fit : NodesFit shape (nodes_of s vectors e)) (numbers_long : numbers_size shape ≤ length numbers) (hashes_long : hashes_size shape ≤ length hashes) where
  pub laid_pooled : (store : Store) → store.numbers ≡ numbers_of shape (nodes_of s vectors e) numbers → store.hashes ≡ hashes_of shape (nodes_of s vectors e) hashes
      → (i : ℕ) → i < length (nodes_of s vectors e) → 1 ≤ node_field shape store.numbers i 1 → Pooled shape (length (nodes_of s vectors e)) store i
  laid_pooled store n-are h-are i h inner =
      let nodes = nodes_of s vectors e in
      let node = get_or nodes i no_node in
      let start : node_field shape store.numbers i 0 ≡ start_of (block_at (λ node. node.children) nodes i) node.children =
      ap (λ (l : List ℕ). node_field shape l i 0) n-are ∙ start-at shape nodes numbers fit numbers_long i no_node h in
      let count : node_field shape store.numbers i 1 ≡ length node.children =
      ap (λ (l : List ℕ). node_field shape l i 1) n-are ∙ count_at shape nodes numbers fit numbers_long i no_node h in
      let links : child_links shape store.numbers i ≡ node.children =
      ap (λ (l : List ℕ). child_links shape l i) n-are ∙ children-read shape nodes numbers fit numbers_long i no_node h in
      let read : (k : ℕ) → k < length nodes → node_filter shape store.hashes k ≡ (get_or nodes k no_node).filter =
      λ k b.
      ap (λ (l : List ℕ). node_filter shape l k) h-are
      ∙ filter-read shape nodes hashes (nodes_of-four s vectors e) fit.nodes_fit hashes_long k no_node b in
      let below : (child : ℕ) → Memᴰ child node.children → (i < child) × (child < length nodes) = λ child m. nodes_of-children s vectors e i no_node child h m in
      let pool : node_filter shape store.hashes i ≡ union_all empty_filter (map (node_filter shape store.hashes) (child_links shape store.numbers i)) =
      read i h
      ∙ nodes_of_pool s vectors e some i no_node h (subst (λ (k : ℕ). 1 ≤ k) count inner)
      ∙ ap (union_all empty_filter) (sym (map_on (node_filter shape store.hashes) (λ c. (get_or nodes c no_node).filter) node.children (λ c m. read c (below c m).1)))
      ∙ ap (λ (l : List ℕ). union_all empty_filter (map (node_filter shape store.hashes) l)) (sym links) in
      let all = length-links s vectors e in
      let size_is = length-nodes_of s vectors e in
      let ends = start-end (λ node. node.children) nodes i no_node h in
      record {
        links_end = omega arith;
        links_count = ap length links ∙ sym count;
        children = λ child m. below child (subst (λ (l : List ℕ). Memᴰ child l) links m);
        filter = pool;
        words = λ w b. words_of shape store.hashes (child_links shape store.numbers i) i w b pool;
      }
