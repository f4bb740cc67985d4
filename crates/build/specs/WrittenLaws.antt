-- What the making of the tree and the finishing passes write, in the words of the index: where the tree has too many nodes only free parts, and where
-- it is whole the layout of its nodes.
use Rattle.std.specs.Prelude.{ℕ, ◌+◌, ◌*◌, ◌≤◌, ◌<◌, ◌≡◌, refl, ltb, Float, get_or}
use mathlib.Core.List.{List, [], ◌∷◌}
use Rattle.std.proofs.Math.Path.{sym, ap, subst}
use Rattle.std.proofs.Common.{◌∙◌, arith}
use Rattle.std.proofs.Math.ListN.{length}
use Rattle.std.proofs.Math.Seq.{sets, length-sets}
use Rattle.lists.specs.Lists.{part, joined}
use Rattle.lists.specs.Frame.{freed_length, freed_more, freed_self, freed_twice}
use Rattle.lists.specs.Parts.{get_d_part, part-sets-before, part-sets-same, sets_comm, sets-sets-same}
use Rattle.store.specs.declared.Shape.{Shape}
use Rattle.store.specs.Store.{Store, owners_at, order_at, nodes_at, links_at, entry_order_at, numbers_size, work_size, work_part, order_part, nodes_part, links_part, entry_order_part, filters_part}
use Rattle.store.specs.Lent.{store_of}
use Rattle.cluster.specs.Vectors.{vectors_in}
use Rattle.cluster.specs.VectorsLaws.{length-vectors_in}
use Rattle.tree.specs.Tree.{tree_of, size}
use Rattle.tree.specs.Nodes.{Entries, Node, nodes_of}
use Rattle.tree.proofs.NodeLaws.{length-nodes_of, length_ids}
use Rattle.tree.specs.Layout.{six_from, numbers_of, hashes_of, floats_of}
use Rattle.tree.proofs.LayoutLaws.{length-six_from}
use Rattle.tree.specs.Made.{made_from}
use Rattle.std.specs.Prelude.{Option}
use Rattle.build_tree.specs.Promises.{Whole, Overfull}
use Rattle.label_entries.specs.Promises as finish
use Rattle.label_entries.specs.Promises.{held, AllMade, Finished}
use Rattle.curator.specs.declared.CuratorIndex.{CuratorIndex}
use Rattle.settings.specs.declared.refusal.Refusal.TheVariants as Refusal'
use Rattle.settings.specs.declared.refusal.StoreRefusal.TheVariants.{NodesFull}
use Rattle.curator.specs.Limits.{index_shape}
use Rattle.curator.specs.Calls.{held_vectors, held_entries, splitting_of}
use Rattle.curator.specs.Changes.{free_of, Left, too_many_nodes, held_nodes, LaidOut}
use Rattle.build.specs.Asked.{BuildReady}

-- ---- what is held, in the words of the crates below

abbrev pub vectors_of : CuratorIndex → List Float → List (List Float)
vectors_of index floats = vectors_in index.dimension index.counts.vectors floats

abbrev pub nodes_with : CuratorIndex → List Float → Entries → List Node
nodes_with index floats e = nodes_of (splitting_of index.dimension index.params) (vectors_of index floats) e

abbrev pub tree_size : CuratorIndex → List Float → ℕ
tree_size index floats = size (tree_of (splitting_of index.dimension index.params) (vectors_of index floats))

pub held-vectors-are : (index : CuratorIndex) (store : Store) → held_vectors index store ≡ vectors_of index store.floats
unfolding held_vectors vectors_in
held-vectors-are index store = refl

held-entries : (index : CuratorIndex) (store : Store)
    → held_entries index store ≡ held (index_shape index) index.counts.entries store.numbers store.hashes
unfolding held_entries
held-entries index store = refl

held-nodes : (index : CuratorIndex) (store : Store) → held_nodes index store ≡ nodes_with index store.floats (held_entries index store)
unfolding held_nodes
held-nodes index store =
    ap (λ (vectors : List (List Float)). nodes_of (splitting_of index.dimension index.params) vectors (held_entries index store)) (held-vectors-are index store)

pub too_many-is : (index : CuratorIndex) (store : Store) → too_many_nodes index store ≡ ltb index.capacities.nodes (tree_size index store.floats)
unfolding too_many_nodes
too_many-is index store =
    ap (λ (vectors : List (List Float)). ltb index.capacities.nodes (size (tree_of (splitting_of index.dimension index.params) vectors)))
    (held-vectors-are index store)

pub length-held : (index : CuratorIndex) (store : Store) → length (held_nodes index store) ≡ tree_size index store.floats
length-held index store = ap length (held-nodes index store) ∙ length-nodes_of _ _ (held_entries index store)

-- ---- row 13

-- the parts that no tree was written to are as they were
pub left_full : (index : CuratorIndex) (store : Store) (work numbers' : List ℕ) (floats' : List Float) (work' : List ℕ) (made : Option ℕ)
    → BuildReady index store work → Overfull (index_shape index) store.floats floats' store.numbers numbers' work work' made
    → Left (index_shape index) (Refusal'.Store NodesFull) store work (store_of floats' numbers' store.hashes store.text) work'
unfolding free_of
left_full index store work numbers' floats' work' made r o =
    let s = index_shape index in
    let room = r.long.numbers in
    record {
      floats = o.floats_free;
      numbers =
          freed_more (order_part s ∷ nodes_part s ∷ links_part s ∷ []) (entry_order_part s) store.numbers numbers' (omega arith)
          (freed_more (order_part s ∷ nodes_part s ∷ []) (links_part s) store.numbers numbers' (omega arith) o.numbers_free);
      hashes = freed_self (filters_part s) store.hashes r.long.hashes;
      text = refl;
      work = o.work_free;
    }

-- ---- all nodes made

length-made_from : (v : ℕ) (nodes : List Node) → length (made_from v nodes) ≡ 6 * length nodes
unfolding made_from
length-made_from v [] = refl
length-made_from v (node ∷ rest) = let h = length-made_from (v + length node.ids) rest in omega arith

part-written : {A : Type 0} (l xs : List A) (a n : ℕ) → length xs ≡ n → a + n ≤ length l → part a n (sets l a xs) ≡ xs
part-written l xs a n e h = ap (λ (k : ℕ). part a k (sets l a xs)) (sym e) ∙ part-sets-same l a xs (omega arith)

-- nodes laid out over numbers that have the leaf order and some six per node already
laid_over : (s : Shape) (nodes : List Node) (numbers made : List ℕ) → length (joined (λ node. node.ids) nodes) ≤ s.vectors
    → made ≡ sets (sets numbers (order_at s) (joined (λ node. node.ids) nodes)) (nodes_at s) (made_from 0 nodes)
    → numbers_of s nodes made ≡ numbers_of s nodes numbers
unfolding numbers_of
laid_over s nodes numbers made h e =
    let ids = joined (λ node. node.ids) nodes in
    let six = six_from 0 0 0 nodes in
    let before = made_from 0 nodes in
    let ordered = sets numbers (order_at s) ids in
    ap (λ (l : List ℕ). sets (sets l (links_at s) (joined (λ node. node.children) nodes)) (entry_order_at s) (joined (λ node. node.entries) nodes))
    (ap (λ (l : List ℕ). sets (sets l (order_at s) ids) (nodes_at s) six) e
    ∙ ap (λ (l : List ℕ). sets l (nodes_at s) six) (sym (sets_comm ordered (order_at s) ids (nodes_at s) before (omega arith)))
    ∙ ap (λ (l : List ℕ). sets (sets l (nodes_at s) before) (nodes_at s) six) (sets-sets-same numbers (order_at s) ids ids refl)
    ∙ sets-sets-same ordered (nodes_at s) before six (length-made_from 0 nodes ∙ sym (length-six_from 0 0 0 nodes)))

module _
    (index : CuratorIndex) (store : Store) (work : List ℕ) (floats' : List Float) (numbers' work' : List ℕ) (made : Option ℕ) (r : BuildReady index store work)
    (w : Whole (index_shape index) index.params.max_leaf_size index.counts.vectors store.floats floats' store.numbers numbers' work work' made)
  where
    numbers_length : length numbers' ≡ length store.numbers
    numbers_length =
        ap length (w.numbers_are (held_entries index store))
        ∙ length-sets (sets store.numbers (order_at (index_shape index)) (joined (λ node. node.ids) (nodes_with index store.floats (held_entries index store)))) (nodes_at (index_shape index))
        (made_from 0 (nodes_with index store.floats (held_entries index store)))
        ∙ length-sets store.numbers (order_at (index_shape index)) (joined (λ node. node.ids) (nodes_with index store.floats (held_entries index store)))

    work_length : length work' ≡ length work
    work_length = sym (freed_length (work_part (index_shape index) ∷ []) work work' w.work_free)

    ids-length : (e : Entries) → length (joined (λ node. node.ids) (nodes_with index store.floats e)) ≡ index.counts.vectors
    ids-length e = length_ids _ _ e r.sound.limits.branching_low ∙ length-vectors_in _ _ _

    owners-kept : part (owners_at (index_shape index)) index.counts.entries numbers' ≡ part (owners_at (index_shape index)) index.counts.entries store.numbers
    owners-kept =
        let s = index_shape index in
        let e = held_entries index store in
        let n = r.sound.entries in
        let ids = joined (λ node. node.ids) (nodes_with index store.floats e) in
        ap (part (owners_at s) index.counts.entries) (w.numbers_are e)
        ∙ part-sets-before (owners_at s) index.counts.entries (sets store.numbers (order_at s) ids) (nodes_at s) (made_from 0 (nodes_with index store.floats e)) (omega arith)
        ∙ part-sets-before (owners_at s) index.counts.entries store.numbers (order_at s) ids (omega arith)

    owners_still : (k : ℕ) → k < index.counts.entries → get_or numbers' (owners_at (index_shape index) + k) 0 < index.counts.vectors
    owners_still k h =
        let s = index_shape index in
        let same : get_or store.numbers (owners_at s + k) 0 ≡ get_or numbers' (owners_at s + k) 0 =
        sym (get_d_part (owners_at s) index.counts.entries store.numbers k 0 h)
        ∙ ap (λ (l : List ℕ). get_or l k 0) (sym owners-kept)
        ∙ get_d_part (owners_at s) index.counts.entries numbers' k 0 h in
        subst (λ (x : ℕ). x < index.counts.vectors) same (r.owned k h)

    entries-kept : held (index_shape index) index.counts.entries numbers' store.hashes ≡ held_entries index store
    entries-kept =
        ap (λ (owners : List ℕ). record { owners = owners; hashes = part 0 index.counts.entries store.hashes }) owners-kept
        ∙ sym (held-entries index store)

    pub all_made_lem : (nodes : ℕ) → nodes ≡ tree_size index store.floats → tree_size index store.floats ≤ index.capacities.nodes
        → AllMade (index_shape index) index.counts.vectors index.counts.entries nodes numbers' store.hashes
    all_made_lem nodes e fits =
        let s = index_shape index in
        let n = index.counts.vectors in
        let entries = held s index.counts.entries numbers' store.hashes in
        let all = nodes_with index store.floats entries in
        let ids = joined (λ node. node.ids) all in
        let size-ids = ids-length entries in
        let count : length all ≡ nodes = length-nodes_of _ _ entries ∙ sym e in
        let size-six : length (made_from 0 all) ≡ 6 * nodes = length-made_from 0 all ∙ ap (λ (k : ℕ). 6 * k) count in
        let few = r.sound.vectors in
        let room = r.long.numbers in
        let ordered = length-sets store.numbers (order_at s) ids in
        record {
          splitting = splitting_of index.dimension index.params;
          vectors = vectors_of index store.floats;
          branching = r.sound.limits.branching_low;
          vector_count = length-vectors_in _ _ _;
          owned = owners_still;
          count_of_nodes = count;
          order =
              ap (part (order_at s) n) (w.numbers_are entries)
              ∙ part-sets-before (order_at s) n (sets store.numbers (order_at s) ids) (nodes_at s) (made_from 0 all) (omega arith)
              ∙ part-written store.numbers ids (order_at s) n size-ids (omega arith);
          six =
              ap (part (nodes_at s) (6 * nodes)) (w.numbers_are entries)
              ∙ part-written (sets store.numbers (order_at s) ids) (made_from 0 all) (nodes_at s) (6 * nodes) size-six (omega arith);
        }

    pub room : (nodes : ℕ) → nodes ≡ tree_size index store.floats → tree_size index store.floats ≤ index.capacities.nodes
        → finish.Room (index_shape index) index.counts.vectors index.counts.entries nodes numbers' store.hashes work'
    room nodes e fits =
        record {
          limits = r.sound.limits;
          vectors_some = r.some;
          vectors_fit = r.sound.vectors;
          entries_fit = r.sound.entries;
          nodes_fit = omega (arith, e, fits);
          numbers_long = subst (λ (n : ℕ). numbers_size (index_shape index) ≤ n) (sym numbers_length) r.long.numbers;
          hashes_long = r.long.hashes;
          work_long = subst (λ (n : ℕ). work_size (index_shape index) ≤ n) (sym work_length) r.work_room;
        }

    pub laid_out : (nodes : ℕ) → nodes ≡ tree_size index store.floats → tree_size index store.floats ≤ index.capacities.nodes
        → (numbers'' hashes'' work'' : List ℕ)
        → Finished (index_shape index) index.counts.vectors index.counts.entries nodes numbers' store.hashes work' numbers'' hashes'' work''
        → LaidOut index store work (store_of floats' numbers'' hashes'' store.text) work''
    unfolding all_made_lem
    laid_out nodes e fits numbers'' hashes'' work'' f =
        let s = index_shape index in
        let m = all_made_lem nodes e fits in
        let same : nodes_with index store.floats (held s index.counts.entries numbers' store.hashes) ≡ held_nodes index store =
        ap (λ (e : Entries). nodes_with index store.floats e) entries-kept ∙ sym (held-nodes index store) in
        let few : length (joined (λ node. node.ids) (held_nodes index store)) ≤ s.vectors =
        subst (λ (nodes : List Node). length (joined (λ node. node.ids) nodes) ≤ s.vectors) (sym (held-nodes index store))
        (subst (λ (n : ℕ). n ≤ s.vectors) (sym (ids-length (held_entries index store))) r.sound.vectors) in
        let written : numbers' ≡ sets (sets store.numbers (order_at s) (joined (λ node. node.ids) (held_nodes index store))) (nodes_at s) (made_from 0 (held_nodes index store)) =
        subst (λ (nodes : List Node). numbers' ≡ sets (sets store.numbers (order_at s) (joined (λ node. node.ids) nodes)) (nodes_at s) (made_from 0 nodes)) (sym (held-nodes index store))
        (w.numbers_are (held_entries index store)) in
        record {
          centres = w.centres;
          centres_length = w.centres_size;
          floats =
              w.floats_are (held_entries index store)
              ∙ ap (λ (nodes : List Node). floats_of s nodes w.centres store.floats) (sym (held-nodes index store));
          numbers =
              f.numbers_are m
              ∙ ap (λ (nodes : List Node). numbers_of s nodes numbers') same
              ∙ laid_over s (held_nodes index store) store.numbers numbers' few written;
          hashes = f.hashes_are m ∙ ap (λ (nodes : List Node). hashes_of s nodes store.hashes) same;
          text = refl;
          work = freed_twice (work_part s) work work' work'' w.work_free f.work_free;
        }
