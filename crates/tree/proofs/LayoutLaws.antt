-- Reading the nodes of a tree back from the lent lists: the six numbers of a node, its blocks, its filter and its centroid.
use Prim.Native.Nat.{ℕ, zero, suc, ◌+◌, ◌*◌, ◌≤◌, ◌<◌}
use Rattle.std.specs.Prelude.{◌≡◌, refl, Float, get_or, take, drop}
use Rattle.std.proofs.Math.Path.{sym, ap}
use Rattle.std.proofs.Common.{ap₂, ◌∙◌, zero-add, add-zero, add_assoc, zero-mul, mul_comm, add-mul, mul-le-mul_right, not-suc-le-zero, le_of_suc-le-suc}
use mathlib.Core.List.{List, [], ◌∷◌, ◌++◌, Memᴰ}
use Rattle.std.proofs.Math.Nat.{suc-mul, mul-add}
use native.Mathlib.Omega.{arith}
use Rattle.std.proofs.Math.ListN.{length, length-append}
use Rattle.std.proofs.Math.Seq.{sets, length-sets, take-append_seam}
use Rattle.lists.specs.Lists.{part, joined}
use Rattle.lists.specs.Counting.{sum_of, get_d_Memᴰ}
use Rattle.lists.specs.Parts.{drop-sets, get_d_part, part-part, part-append_right, part-sets-same, part-sets-before}
use Rattle.store.specs.declared.Shape.{Shape}
use Rattle.store.specs.Store.{vector_at, centroids_at, centres_at, floats_size, order_at, nodes_at, links_at, entry_order_at, starts_at, numbers_size, filters_at, hashes_size, node_field, child_links, node_filter}
use Rattle.tree.specs.Tree.{Splitting, tree_of, size}
use Rattle.tree.specs.Nodes.{Entries, Node, nodes_of}
use Rattle.tree.specs.Layout.{start_of, six_from, numbers_of, hashes_of, floats_of}
use Rattle.tree.proofs.NodeLaws.{length-nodes_of, length_ids, length-links}
use Rattle.tree.proofs.NodeEntryLaws.{length-entries}

-- ---- blocks

module _ {B : Type 0} where
  -- where the block of the element at a place starts: after the blocks before it
  abbrev pub block_at : {A : Type 0} → (B → List A) → List B → ℕ → ℕ
  block_at f l i = sum_of (λ x. length (f x)) (take i l)

  pub block_read : {A : Type 0} (f : B → List A) (l : List B) (i : ℕ) (d : B) → i < length l
      → part (block_at f l i) (length (f (get_or l i d))) (joined f l) ≡ f (get_or l i d)
  unfolding joined sum_of
  block_read f [] i d h = absurd (not-suc-le-zero h)
  block_read f (x ∷ l) zero d h = take-append_seam (f x) (joined f l)
  block_read f (x ∷ l) (suc i) d h =
      part-append_right (block_at f l i) (length (f (get_or l i d))) (f x) (joined f l) ∙ block_read f l i d (le_of_suc-le-suc h)

  pub block-end : {A : Type 0} (f : B → List A) (l : List B) (i : ℕ) (d : B) → i < length l
      → block_at f l i + length (f (get_or l i d)) ≤ length (joined f l)
  unfolding joined sum_of
  block-end f [] i d h = absurd (not-suc-le-zero h)
  block-end f (x ∷ l) zero d h = let e = length-append (f x) (joined f l) in omega arith
  block-end f (x ∷ l) (suc i) d h =
      let e = length-append (f x) (joined f l) in
      let r = block-end f l i d (le_of_suc-le-suc h) in
      omega arith

  -- blocks of one width
  pub length_blocks : {A : Type 0} (f : B → List A) (width : ℕ) (l : List B) → ((x : B) → Memᴰ x l → length (f x) ≡ width)
      → length (joined f l) ≡ length l * width
  unfolding joined
  length_blocks f width [] h = sym (zero-mul width)
  length_blocks f width (x ∷ l) h =
      let e = length-append (f x) (joined f l) in
      let a : length (f x) ≡ width = h x (Memᴰ.head refl) in
      let b = length_blocks f width l (λ y m. h y (Memᴰ.tail m)) in
      let c = suc-mul (length l) width in
      omega arith

  pub block_at-width : {A : Type 0} (f : B → List A) (width : ℕ) (l : List B) (i : ℕ) → ((x : B) → Memᴰ x l → length (f x) ≡ width) → i ≤ length l
      → block_at f l i ≡ i * width
  unfolding sum_of
  block_at-width f width l zero h g = sym (zero-mul width)
  block_at-width f width [] (suc i) h g = absurd (not-suc-le-zero g)
  block_at-width f width (x ∷ l) (suc i) h g =
      let a : length (f x) ≡ width = h x (Memᴰ.head refl) in
      let b = block_at-width f width l i (λ y m. h y (Memᴰ.tail m)) (le_of_suc-le-suc g) in
      let c = suc-mul i width in
      omega arith

  pub row_read_lem : {A : Type 0} (f : B → List A) (width : ℕ) (l : List B) (i : ℕ) (d : B) → ((x : B) → Memᴰ x l → length (f x) ≡ width) → i < length l
      → part (i * width) width (joined f l) ≡ f (get_or l i d)
  row_read_lem f width l i d h g =
      ap₂ (λ (a b : ℕ). part a b (joined f l)) (sym (block_at-width f width l i h (omega arith))) (sym (h (get_or l i d) (get_d_Memᴰ l i d g)))
      ∙ block_read f l i d g

-- 'an empty block has start 0 and count 0'
pub start-part : (at : ℕ) (block l : List ℕ) → part at (length block) l ≡ block → part (start_of at block) (length block) l ≡ block
unfolding start_of
start-part at [] l h = refl
start-part at (x ∷ block) l h = h

pub start_le : (at : ℕ) (block : List ℕ) (n : ℕ) → at + length block ≤ n → start_of at block + length block ≤ n
unfolding start_of
start_le at [] n h = omega arith
start_le at (x ∷ block) n h = h

-- the block of the element at a place, from its start as it is laid out
pub start-read : {B : Type 0} (f : B → List ℕ) (l : List B) (i : ℕ) (d : B) → i < length l
    → part (start_of (block_at f l i) (f (get_or l i d))) (length (f (get_or l i d))) (joined f l) ≡ f (get_or l i d)
start-read f l i d h = start-part (block_at f l i) (f (get_or l i d)) (joined f l) (block_read f l i d h)

pub start-end : {B : Type 0} (f : B → List ℕ) (l : List B) (i : ℕ) (d : B) → i < length l
    → start_of (block_at f l i) (f (get_or l i d)) + length (f (get_or l i d)) ≤ length (joined f l)
start-end f l i d h = start_le (block_at f l i) (f (get_or l i d)) (length (joined f l)) (block-end f l i d h)

-- ---- six per node

-- the six numbers of a node whose blocks would begin at three places
unfoldable pub six_of : ℕ → ℕ → ℕ → Node → List ℕ
unfolding start_of
six_of c v e node =
    start_of c node.children ∷ length node.children ∷ start_of v node.ids ∷ length node.ids ∷ start_of e node.entries
    ∷ length node.entries
    ∷ []

-- six numbers with equal starts
six-same : {c c' v v' e e' : ℕ} (node : Node) → c ≡ c' → v ≡ v' → e ≡ e' → six_of c v e node ≡ six_of c' v' e' node
six-same node p q r = λ k. six_of (p k) (q k) (r k) node

pub six_from-cons : (c v e : ℕ) (node : Node) (rest : List Node)
    → six_from c v e (node ∷ rest)
    ≡ six_of c v e node ++ six_from (c + length node.children) (v + length node.ids) (e + length node.entries) rest
unfolding six_from six_of
six_from-cons c v e node rest = refl

pub length-six_from : (c v e : ℕ) (nodes : List Node) → length (six_from c v e nodes) ≡ 6 * length nodes
unfolding six_from
length-six_from c v e [] = refl
length-six_from c v e (node ∷ rest) =
    let r = length-six_from (c + length node.children) (v + length node.ids) (e + length node.entries) rest in omega arith

-- the six numbers of the node with a number
pub six-part : (c v e : ℕ) (nodes : List Node) (i : ℕ) (d : Node) → i < length nodes
    → part (i * 6) 6 (six_from c v e nodes)
    ≡ six_of (c + block_at (λ node. node.children) nodes i) (v + block_at (λ node. node.ids) nodes i) (e + block_at (λ node. node.entries) nodes i)
    (get_or nodes i d)
unfolding sum_of six_of
six-part c v e [] i d h = absurd (not-suc-le-zero h)
six-part c v e (node ∷ rest) zero d h =
    ap (λ (l : List ℕ). take 6 l) (six_from-cons c v e node rest)
    ∙ take-append_seam (six_of c v e node) (six_from (c + length node.children) (v + length node.ids) (e + length node.entries) rest)
    ∙ six-same node (sym (add-zero c)) (sym (add-zero v)) (sym (add-zero e))
six-part c v e (node ∷ rest) (suc i) d h =
    let n : suc i * 6 ≡ 6 + i * 6 = omega arith in
    ap₂ (λ (a : ℕ) (l : List ℕ). part a 6 l) n (six_from-cons c v e node rest)
    ∙ part-append_right (i * 6) 6 (six_of c v e node)
    (six_from (c + length node.children) (v + length node.ids) (e + length node.entries) rest)
    ∙ six-part (c + length node.children) (v + length node.ids) (e + length node.entries) rest i d (le_of_suc-le-suc h)
    ∙ six-same (get_or rest i d) (add_assoc c (length node.children) (block_at (λ node. node.children) rest i))
    (add_assoc v (length node.ids) (block_at (λ node. node.ids) rest i))
    (add_assoc e (length node.entries) (block_at (λ node. node.entries) rest i))

pub six_get_d : (nodes : List Node) (i : ℕ) (d : Node) (field : ℕ) → i < length nodes → field < 6
    → get_or (six_from 0 0 0 nodes) (i * 6 + field) 0
    ≡ get_or
    (six_of (block_at (λ node. node.children) nodes i) (block_at (λ node. node.ids) nodes i) (block_at (λ node. node.entries) nodes i) (get_or nodes i d))
    field 0
six_get_d nodes i d field h g =
    sym (get_d_part (i * 6) 6 (six_from 0 0 0 nodes) field 0 g)
    ∙ ap (λ (l : List ℕ). get_or l field 0)
    (six-part 0 0 0 nodes i d h
    ∙ six-same (get_or nodes i d) (zero-add (block_at (λ node. node.children) nodes i)) (zero-add (block_at (λ node. node.ids) nodes i))
    (zero-add (block_at (λ node. node.entries) nodes i)))

-- ---- in the numbers

-- what is laid out is within the capacities
pub record NodesFit (s : Shape) (nodes : List Node) : Type 0 where
  pub ids_fit : length (joined (λ node. node.ids) nodes) ≤ s.vectors
  pub nodes_fit : length nodes ≤ s.nodes
  pub links_fit : length (joined (λ node. node.children) nodes) ≤ s.nodes
  pub entries_fit : length (joined (λ node. node.entries) nodes) ≤ s.entries

-- the nodes of an index are, where its vectors, entries and nodes are within the capacities
pub nodes_of-fit : (shape : Shape) (s : Splitting) (vectors : List (List Float)) (e : Entries) → 1 ≤ s.branching
    → ((k : ℕ) → k < length e.owners → get_or e.owners k 0 < length vectors) → length vectors ≤ shape.vectors → length e.owners ≤ shape.entries
    → size (tree_of s vectors) ≤ shape.nodes → NodesFit shape (nodes_of s vectors e)
nodes_of-fit shape s vectors e b owned v n m =
    let i = length_ids s vectors e b in
    let l = length-entries s vectors e b owned in
    let k = length-nodes_of s vectors e in
    let c = length-links s vectors e in
    record { ids_fit = omega arith; nodes_fit = omega arith; links_fit = omega arith; entries_fit = omega arith }

pub length-numbers_of : (s : Shape) (nodes : List Node) (numbers : List ℕ) → length (numbers_of s nodes numbers) ≡ length numbers
unfolding numbers_of
length-numbers_of s nodes numbers =
    let ids = joined (λ node. node.ids) nodes in
    let one = sets numbers (order_at s) ids in
    let two = sets one (nodes_at s) (six_from 0 0 0 nodes) in
    let three = sets two (links_at s) (joined (λ node. node.children) nodes) in
    length-sets three (entry_order_at s) (joined (λ node. node.entries) nodes)
    ∙ length-sets two (links_at s) (joined (λ node. node.children) nodes)
    ∙ length-sets one (nodes_at s) (six_from 0 0 0 nodes)
    ∙ length-sets numbers (order_at s) ids

module _ (s : Shape) (nodes : List Node) (numbers : List ℕ) (fit : NodesFit s nodes) where
  six-fit : length (six_from 0 0 0 nodes) ≤ 6 * s.nodes
  six-fit = let e = length-six_from 0 0 0 nodes in let h = fit.nodes_fit in omega arith

  -- what stands behind the entry numbers stays
  pub numbers-behind : (at : ℕ) → starts_at s ≤ at → drop at (numbers_of s nodes numbers) ≡ drop at numbers
  unfolding numbers_of
  numbers-behind at h =
      let ids = joined (λ node. node.ids) nodes in
      let six = six_from 0 0 0 nodes in
      let links = joined (λ node. node.children) nodes in
      let entries = joined (λ node. node.entries) nodes in
      let one = sets numbers (order_at s) ids in
      let two = sets one (nodes_at s) six in
      let three = sets two (links_at s) links in
      drop-sets at three (entry_order_at s) entries (omega (arith, h, fit.entries_fit))
      ∙ drop-sets at two (links_at s) links (omega (arith, h, fit.links_fit))
      ∙ drop-sets at one (nodes_at s) six (omega (arith, h, fit.nodes_fit, length-six_from 0 0 0 nodes))
      ∙ drop-sets at numbers (order_at s) ids (omega (arith, h, fit.ids_fit))

module _ (s : Shape) (nodes : List Node) (numbers : List ℕ) (fit : NodesFit s nodes) (long : numbers_size s ≤ length numbers) where
  -- the parts that are written
  pub numbers-order : part (order_at s) (length (joined (λ node. node.ids) nodes)) (numbers_of s nodes numbers) ≡ joined (λ node. node.ids) nodes
  unfolding numbers_of
  numbers-order =
      let i = fit.ids_fit in
      let ids = joined (λ node. node.ids) nodes in
      let one = sets numbers (order_at s) ids in
      let two = sets one (nodes_at s) (six_from 0 0 0 nodes) in
      let three = sets two (links_at s) (joined (λ node. node.children) nodes) in
      part-sets-before (order_at s) (length ids) three (entry_order_at s) (joined (λ node. node.entries) nodes) (omega arith)
      ∙ part-sets-before (order_at s) (length ids) two (links_at s) (joined (λ node. node.children) nodes) (omega arith)
      ∙ part-sets-before (order_at s) (length ids) one (nodes_at s) (six_from 0 0 0 nodes) (omega arith)
      ∙ part-sets-same numbers (order_at s) ids (omega arith)

  pub numbers-six : part (nodes_at s) (length (six_from 0 0 0 nodes)) (numbers_of s nodes numbers) ≡ six_from 0 0 0 nodes
  unfolding numbers_of
  numbers-six =
      let i = six-fit s nodes numbers fit in
      let six = six_from 0 0 0 nodes in
      let one = sets numbers (order_at s) (joined (λ node. node.ids) nodes) in
      let two = sets one (nodes_at s) six in
      let three = sets two (links_at s) (joined (λ node. node.children) nodes) in
      let n = length-sets numbers (order_at s) (joined (λ node. node.ids) nodes) in
      part-sets-before (nodes_at s) (length six) three (entry_order_at s) (joined (λ node. node.entries) nodes) (omega arith)
      ∙ part-sets-before (nodes_at s) (length six) two (links_at s) (joined (λ node. node.children) nodes) (omega arith)
      ∙ part-sets-same one (nodes_at s) six (omega arith)

  pub numbers-links : part (links_at s) (length (joined (λ node. node.children) nodes)) (numbers_of s nodes numbers) ≡ joined (λ node. node.children) nodes
  unfolding numbers_of
  numbers-links =
      let i = fit.links_fit in
      let links = joined (λ node. node.children) nodes in
      let one = sets numbers (order_at s) (joined (λ node. node.ids) nodes) in
      let two = sets one (nodes_at s) (six_from 0 0 0 nodes) in
      let n = length-sets one (nodes_at s) (six_from 0 0 0 nodes) ∙ length-sets numbers (order_at s) (joined (λ node. node.ids) nodes) in
      part-sets-before (links_at s) (length links) (sets two (links_at s) links) (entry_order_at s) (joined (λ node. node.entries) nodes) (omega arith)
      ∙ part-sets-same two (links_at s) links (omega arith)

  pub numbers-entries : part (entry_order_at s) (length (joined (λ node. node.entries) nodes)) (numbers_of s nodes numbers) ≡ joined (λ node. node.entries) nodes
  unfolding numbers_of
  numbers-entries =
      let i = fit.entries_fit in
      let one = sets numbers (order_at s) (joined (λ node. node.ids) nodes) in
      let two = sets one (nodes_at s) (six_from 0 0 0 nodes) in
      let three = sets two (links_at s) (joined (λ node. node.children) nodes) in
      let n = length-sets two (links_at s) (joined (λ node. node.children) nodes)
      ∙ length-sets one (nodes_at s) (six_from 0 0 0 nodes)
      ∙ length-sets numbers (order_at s) (joined (λ node. node.ids) nodes)
      in
      part-sets-same three (entry_order_at s) (joined (λ node. node.entries) nodes) (omega arith)

  -- the node with a number: its six numbers and its blocks
  pub field_read : (i : ℕ) (d : Node) (field : ℕ) → i < length nodes → field < 6
      → node_field s (numbers_of s nodes numbers) i field
      ≡ get_or
      (six_of (block_at (λ node. node.children) nodes i) (block_at (λ node. node.ids) nodes i) (block_at (λ node. node.entries) nodes i) (get_or nodes i d))
      field 0
  field_read i d field h g =
      let n = length-six_from 0 0 0 nodes in
      let e : nodes_at s + i * 6 + field ≡ nodes_at s + (i * 6 + field) = omega arith in
      ap (λ (k : ℕ). get_or (numbers_of s nodes numbers) k 0) e
      ∙ sym (get_d_part (nodes_at s) (length (six_from 0 0 0 nodes)) (numbers_of s nodes numbers) (i * 6 + field) 0 (omega arith))
      ∙ ap (λ (l : List ℕ). get_or l (i * 6 + field) 0) numbers-six
      ∙ six_get_d nodes i d field h g

  block_in : (f : Node → List ℕ) (at i : ℕ) (d : Node) → part at (length (joined f nodes)) (numbers_of s nodes numbers) ≡ joined f nodes → i < length nodes
      → part (at + start_of (block_at f nodes i) (f (get_or nodes i d))) (length (f (get_or nodes i d))) (numbers_of s nodes numbers) ≡ f (get_or nodes i d)
  block_in f at i d h g =
      let block = f (get_or nodes i d) in
      sym (part-part at (length (joined f nodes)) (start_of (block_at f nodes i) block) (length block) (numbers_of s nodes numbers) (start-end f nodes i d g))
      ∙ ap (λ (l : List ℕ). part (start_of (block_at f nodes i) block) (length block) l) h
      ∙ start-read f nodes i d g

  pub start-at : (i : ℕ) (d : Node) → i < length nodes
      → node_field s (numbers_of s nodes numbers) i 0 ≡ start_of (block_at (λ node. node.children) nodes i) (get_or nodes i d).children
  unfolding six_of
  start-at i d h = field_read i d 0 h (omega arith)

  pub count_at : (i : ℕ) (d : Node) → i < length nodes → node_field s (numbers_of s nodes numbers) i 1 ≡ length (get_or nodes i d).children
  unfolding six_of
  count_at i d h = field_read i d 1 h (omega arith)

  pub children-read : (i : ℕ) (d : Node) → i < length nodes → child_links s (numbers_of s nodes numbers) i ≡ (get_or nodes i d).children
  children-read i d h =
      ap₂ (λ (start count : ℕ). part (links_at s + start) count (numbers_of s nodes numbers)) (start-at i d h) (count_at i d h)
      ∙ block_in (λ node. node.children) (links_at s) i d numbers-links h

  pub entries-read : (i : ℕ) (d : Node) → i < length nodes
      → part (entry_order_at s + start_of (block_at (λ node. node.entries) nodes i) (get_or nodes i d).entries) (length (get_or nodes i d).entries) (numbers_of s nodes numbers)
      ≡ (get_or nodes i d).entries
  entries-read i d h = block_in (λ node. node.entries) (entry_order_at s) i d numbers-entries h

-- ---- in the hashes

pub length-hashes_of : (s : Shape) (nodes : List Node) (hashes : List ℕ) → length (hashes_of s nodes hashes) ≡ length hashes
unfolding hashes_of
length-hashes_of s nodes hashes = length-sets hashes (filters_at s) (joined (λ node. node.filter) nodes)

module _ (s : Shape) (nodes : List Node) (hashes : List ℕ) (four : (node : Node) → Memᴰ node nodes → length node.filter ≡ 4) where
  pub filter-read : length nodes ≤ s.nodes → hashes_size s ≤ length hashes → (i : ℕ) (d : Node) → i < length nodes
      → node_filter s (hashes_of s nodes hashes) i ≡ (get_or nodes i d).filter
  unfolding hashes_of
  filter-read fit long i d h =
      let e = length_blocks (λ node. node.filter) 4 nodes four in
      let filters = joined (λ node. node.filter) nodes in
      sym (part-part (filters_at s) (length filters) (i * 4) 4 (sets hashes (filters_at s) filters) (omega arith))
      ∙ ap (λ (l : List ℕ). part (i * 4) 4 l) (part-sets-same hashes (filters_at s) filters (omega arith))
      ∙ row_read_lem (λ node. node.filter) 4 nodes i d four h

-- ---- in the floats

pub length-floats_of : (s : Shape) (nodes : List Node) (centres floats : List Float) → length (floats_of s nodes centres floats) ≡ length floats
unfolding floats_of
length-floats_of s nodes centres floats =
    length-sets (sets floats (centroids_at s) (joined (λ node. node.centroid) nodes)) (centres_at s) centres
    ∙ length-sets floats (centroids_at s) (joined (λ node. node.centroid) nodes)

module _ (s : Shape) (nodes : List Node) (centres floats : List Float) (wide : (node : Node) → Memᴰ node nodes → length node.centroid ≡ s.dimension)
    (fit : length nodes ≤ s.nodes) where
  -- the centroids end before the centres begin
  centroids-end : centroids_at s + length (joined (λ node. node.centroid) nodes) ≤ centres_at s
  centroids-end =
      let e = length_blocks (λ node. node.centroid) s.dimension nodes wide in
      let a = mul-le-mul_right s.dimension fit in
      let b = mul_comm s.nodes s.dimension in
      let c = mul-add s.dimension s.vectors s.nodes in
      omega arith

  pub floats-centroids : floats_size s ≤ length floats
      → part (centroids_at s) (length (joined (λ node. node.centroid) nodes)) (floats_of s nodes centres floats) ≡ joined (λ node. node.centroid) nodes
  unfolding floats_of
  floats-centroids long =
      let e = centroids-end in
      let c = mul-add s.dimension (s.vectors + s.nodes) s.branching in
      let centroids = joined (λ node. node.centroid) nodes in
      part-sets-before (centroids_at s) (length centroids) (sets floats (centroids_at s) centroids) (centres_at s) centres e
      ∙ part-sets-same floats (centroids_at s) centroids (omega arith)

  -- a centroid stands after the vectors, at its number times the dimension
  pub centroid-read : floats_size s ≤ length floats → (i : ℕ) (d : Node) → i < length nodes
      → vector_at s.dimension (floats_of s nodes centres floats) (s.vectors + i) ≡ (get_or nodes i d).centroid
  centroid-read long i d h =
      let e = length_blocks (λ node. node.centroid) s.dimension nodes wide in
      let centroids = joined (λ node. node.centroid) nodes in
      let a = suc-mul i s.dimension in
      let b = mul-le-mul_right s.dimension h in
      let n : (s.vectors + i) * s.dimension ≡ centroids_at s + i * s.dimension =
      add-mul s.vectors i s.dimension ∙ ap (λ (k : ℕ). k + i * s.dimension) (mul_comm s.vectors s.dimension)
      in
      ap (λ (k : ℕ). part k s.dimension (floats_of s nodes centres floats)) n
      ∙ sym (part-part (centroids_at s) (length centroids) (i * s.dimension) s.dimension (floats_of s nodes centres floats) (omega arith))
      ∙ ap (λ (l : List Float). part (i * s.dimension) s.dimension l) (floats-centroids long)
      ∙ row_read_lem (λ node. node.centroid) s.dimension nodes i d wide h
