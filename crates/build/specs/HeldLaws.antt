-- 'Parts past the counts held are never read', of a build: it reads the lengths of the lists, the vectors held, and owners and hashes of the entries held.
-- Stores that agree on these, whatever else stands in them and in the work lists, give the same answer, and the same nodes are laid out in both.
use Rattle.std.specs.Prelude.{ℕ, ◌-◌, ◌*◌, Bool, true, false, ◌&&◌, ◌≡◌, refl, eqb, Float}
use Rattle.std.proofs.Math.Bool.{not}
use mathlib.Core.List.{List, [], ◌∷◌}
use Rattle.std.proofs.Common.{sym, ◌∙◌, subst, arith}
use Rattle.std.proofs.Math.Path.{ap, ap₂}
use Rattle.std.proofs.Math.Dec.{ltb}
use Rattle.std.proofs.Math.ListN.{length}
use Rattle.lists.specs.Lists.{part, joined}
use Rattle.lists.specs.Parts.{part-sets-same}
use Rattle.store.specs.declared.Shape.{Shape}
use Rattle.store.specs.Store.{Store, centroids_at, order_at, nodes_at, links_at, entry_order_at, filters_at}
use Rattle.tree.specs.Tree.{tree_of, size}
use Rattle.tree.specs.Nodes.{Entries, Node, nodes_of}
use Rattle.tree.proofs.NodeLaws.{length-nodes_of, length_ids, length-links}
use Rattle.tree.proofs.NodeEntryLaws.{length-entries}
use Rattle.tree.proofs.NumberedNodes.{nodes_of-four, nodes_of-wide}
use Rattle.tree.specs.Layout.{six_from, numbers_of, hashes_of, floats_of}
use Rattle.tree.proofs.LayoutLaws.{length_blocks, length-six_from, numbers-order, numbers-six, numbers-links, numbers-entries, floats-centroids}
use Rattle.store.specs.declared.Counts.{Counts}
use Rattle.lists.specs.Tests.{all_pass}
use Rattle.std.specs.Prelude.{Result, Ok, Err, ⊤}
use Rattle.settings.specs.declared.refusal.Refusal.{Refusal}
use Rattle.curator.specs.declared.CuratorIndex.{CuratorIndex}
use Rattle.settings.specs.declared.refusal.Refusal.TheVariants as Refusal'
use Rattle.settings.specs.declared.refusal.StateRefusal.TheVariants.{EmptyIndex}
use Rattle.settings.specs.declared.refusal.StoreRefusal.TheVariants.{ListTooShort, NodesFull, Damaged}
use Rattle.curator.specs.Calls.{held_vectors, held_entries, splitting_of, built_with}
use Rattle.store.specs.Lent.{lengths_of, lists_short}
use Rattle.curator.specs.Changes.{owners_damaged, too_many_nodes, build_check, held_nodes, LaidOut, BuildsFine, BuildsBy, Builds}
use Rattle.curator.specs.Limits.{state_sound, index_shape}
use Rattle.curator.specs.Rows.{row, first_of, state_row, build_rows}
use Rattle.build.specs.Asked.{BuildReady}
use Rattle.build.specs.BuildLaws.{builds-accepted}
use Rattle.build.specs.FitLaws.{fine_ready, fine_few, vectors-length, owners-length, owners-below, nodes_fit}
use Rattle.curator.specs.OutcomeLaws.{carried-is, refused_is}

-- What a build reads is the same: whether a list is too short, the vectors held, and the owners and hashes of the entries held. Document ids, the labels'
-- starts and lengths, and label text are not read.
pub record SameBuildRead (index : CuratorIndex) (s : Store) (work : List ℕ) (t : Store) (other : List ℕ) : Type 0 where
  pub short : lists_short (index_shape index) (lengths_of s) (length work) ≡ lists_short (index_shape index) (lengths_of t) (length other)
  pub vectors : held_vectors index s ≡ held_vectors index t
  pub entries : held_entries index s ≡ held_entries index t

-- a store with nodes laid out, and else as it was; the cluster centres are free
pub record LaidBy (s : Shape) (nodes : List Node) (before after : Store) : Type 0 where
  pub centres : List Float
  pub centres_length : length centres ≡ s.dimension * s.branching
  pub floats : after.floats ≡ floats_of s nodes centres before.floats
  pub numbers : after.numbers ≡ numbers_of s nodes before.numbers
  pub hashes : after.hashes ≡ hashes_of s nodes before.hashes
  pub text : after.text ≡ before.text

-- What is written is the same: one list of nodes is laid out in both stores.
pub record SameWritten (s : Shape) (a b a' b' : Store) : Type 0 where
  pub nodes : List Node
  pub first : LaidBy s nodes a a'
  pub second : LaidBy s nodes b b'

-- Two stores agree on their nodes: centroids; leaf order of vectors, the six of each node, child links, leaf order of entries; filters.
pub record SameNodes (s : Shape) (c : Counts) (a b : Store) : Type 0 where
  pub centroids : part (centroids_at s) (c.nodes * s.dimension) a.floats ≡ part (centroids_at s) (c.nodes * s.dimension) b.floats
  pub order : part (order_at s) c.vectors a.numbers ≡ part (order_at s) c.vectors b.numbers
  pub six : part (nodes_at s) (6 * c.nodes) a.numbers ≡ part (nodes_at s) (6 * c.nodes) b.numbers
  pub links : part (links_at s) (c.nodes - 1) a.numbers ≡ part (links_at s) (c.nodes - 1) b.numbers
  pub entry_order : part (entry_order_at s) c.entries a.numbers ≡ part (entry_order_at s) c.entries b.numbers
  pub filters : part (filters_at s) (c.nodes * 4) a.hashes ≡ part (filters_at s) (c.nodes * 4) b.hashes

-- ---- the answer

-- what the rows come to, by the three cases that look at lists
rows_by : CuratorIndex → Bool → Bool → Bool → Result ⊤ Refusal
rows_by index short damaged full =
    first_of
    (state_row (state_sound index) ∷ row short (Refusal'.Store ListTooShort)
    ∷ row (not index.built && eqb index.counts.vectors 0) (Refusal'.State EmptyIndex)
    ∷ row (not index.built && damaged) (Refusal'.Store Damaged)
    ∷ row (not index.built && full) (Refusal'.Store NodesFull)
    ∷ [])

check_by : (index : CuratorIndex) (store : Store) (work : List ℕ)
    → build_check index store work
    ≡ rows_by index (lists_short (index_shape index) (lengths_of store) (length work)) (owners_damaged index store) (too_many_nodes index store)
unfolding build_check build_rows rows_by
check_by index store work = refl

module _ (index : CuratorIndex) (s : Store) (work : List ℕ) (t : Store) (other : List ℕ) (same : SameBuildRead index s work t other) where
  owners-same : owners_damaged index s ≡ owners_damaged index t
  unfolding owners_damaged
  owners-same = ap (λ (e : Entries). not (all_pass (λ owner. ltb owner index.counts.vectors) e.owners)) same.entries

  too_many-same : too_many_nodes index s ≡ too_many_nodes index t
  unfolding too_many_nodes
  too_many-same =
      ap (λ (v : List (List Float)). ltb index.capacities.nodes (size (tree_of (splitting_of index.dimension index.params) v))) same.vectors

  pub nodes-same : held_nodes index s ≡ held_nodes index t
  unfolding held_nodes
  nodes-same =
      ap₂ (λ (v : List (List Float)) (e : Entries). nodes_of (splitting_of index.dimension index.params) v e) same.vectors same.entries

  pub build-check-same : build_check index s work ≡ build_check index t other
  build-check-same =
      check_by index s work
      ∙ ap (λ (b : Bool). rows_by index b (owners_damaged index s) (too_many_nodes index s)) same.short
      ∙ ap₂ (λ (d f : Bool). rows_by index (lists_short (index_shape index) (lengths_of t) (length other)) d f) owners-same too_many-same
      ∙ sym (check_by index t other)

-- what a build answers, by what its rows come to
answer_fine : Bool → CuratorIndex → List Node → Result CuratorIndex Refusal
answer_fine true index nodes = Ok index
answer_fine false index nodes = Ok (built_with index (length nodes))

answer_by : Result ⊤ Refusal → CuratorIndex → List Node → Result CuratorIndex Refusal
answer_by (Ok _) index nodes = answer_fine index.built index nodes
answer_by (Err r) index nodes = Err r

answer-is : (index : CuratorIndex) (store : Store) (work : List ℕ) (a : Result CuratorIndex Refusal) (store' : Store) (work' : List ℕ)
    → Builds index store work a store' work' → a ≡ answer_by (build_check index store work) index (held_nodes index store)
unfolding Builds BuildsBy BuildsFine answer_by answer_fine
answer-is index store work a store' work' h = by (build_check index store work) h
  where
    fine : (b : Bool) → BuildsFine b index store work a store' work' → a ≡ answer_fine b index (held_nodes index store)
    fine true (e, same, lent) = carried-is index a e
    fine false (e, laid) = carried-is (built_with index (length (held_nodes index store))) a e

    by : (check : Result ⊤ Refusal) → BuildsBy check index store work a store' work' → a ≡ answer_by check index (held_nodes index store)
    by (Ok _) g = fine index.built g
    by (Err r) (e, left) = refused_is r a e

-- ---- what is written

laid_of : (index : CuratorIndex) (store : Store) (work : List ℕ) (store' : Store) (work' : List ℕ) (nodes : List Node)
    → held_nodes index store ≡ nodes → LaidOut index store work store' work' → LaidBy (index_shape index) nodes store store'
laid_of index store work store' work' nodes e l =
    let s = index_shape index in
    record {
      centres = l.centres;
      centres_length = l.centres_length;
      floats = l.floats ∙ ap (λ (n : List Node). floats_of s n l.centres store.floats) e;
      numbers = l.numbers ∙ ap (λ (n : List Node). numbers_of s n store.numbers) e;
      hashes = l.hashes ∙ ap (λ (n : List Node). hashes_of s n store.hashes) e;
      text = l.text;
    }

-- what stands where in a store with nodes laid out
record HeldStanding (s : Shape) (c : Counts) (nodes : List Node) (store : Store) : Type 0 where
  centroids : part (centroids_at s) (c.nodes * s.dimension) store.floats ≡ joined (λ node. node.centroid) nodes
  order : part (order_at s) c.vectors store.numbers ≡ joined (λ node. node.ids) nodes
  six : part (nodes_at s) (6 * c.nodes) store.numbers ≡ six_from 0 0 0 nodes
  links : part (links_at s) (c.nodes - 1) store.numbers ≡ joined (λ node. node.children) nodes
  entry_order : part (entry_order_at s) c.entries store.numbers ≡ joined (λ node. node.entries) nodes
  filters : part (filters_at s) (c.nodes * 4) store.hashes ≡ joined (λ node. node.filter) nodes

-- a part of the length that is asked for
part_of : {A : Type 0} (at n : ℕ) (xs list list' : List A) → length xs ≡ n → list' ≡ list → part at (length xs) list ≡ xs → part at n list' ≡ xs
part_of at n xs list list' e f h = ap₂ (λ (k : ℕ) (l : List _). part at k l) (sym e) f ∙ h

module _ (index : CuratorIndex) (store : Store) (work : List ℕ) (r : BuildReady index store work) (full : too_many_nodes index store ≡ false)
    (store' : Store) (laid : LaidBy (index_shape index) (held_nodes index store) store store') where
  standing : HeldStanding (index_shape index) (built_with index (length (held_nodes index store))).counts (held_nodes index store) store'
  unfolding held_nodes hashes_of
  standing =
      let s = index_shape index in
      let splitting = splitting_of index.dimension index.params in
      let v = held_vectors index store in
      let e = held_entries index store in
      let nodes = nodes_of splitting v e in
      let b = r.sound.limits.branching_low in
      let fit = nodes_fit index store work r full in
      let four = length_blocks (λ node. node.filter) 4 nodes (nodes_of-four splitting v e) in
      record {
        centroids =
            part_of (centroids_at s) (length nodes * s.dimension) (joined (λ node. node.centroid) nodes) _ store'.floats
            (length_blocks (λ node. node.centroid) s.dimension nodes (nodes_of-wide splitting v e))
            laid.floats
            (floats-centroids s nodes laid.centres store.floats (nodes_of-wide splitting v e) fit.nodes_fit r.long.floats);
        order =
            part_of (order_at s) index.counts.vectors (joined (λ node. node.ids) nodes) _ store'.numbers
            (length_ids splitting v e b ∙ vectors-length index store)
            laid.numbers
            (numbers-order s nodes store.numbers fit r.long.numbers);
        six =
            part_of (nodes_at s) (6 * length nodes) (six_from 0 0 0 nodes) _ store'.numbers (length-six_from 0 0 0 nodes) laid.numbers
            (numbers-six s nodes store.numbers fit r.long.numbers);
        links =
            part_of (links_at s) (length nodes - 1) (joined (λ node. node.children) nodes) _ store'.numbers
            (length-links splitting v e ∙ ap (λ (k : ℕ). k - 1) (sym (length-nodes_of splitting v e)))
            laid.numbers
            (numbers-links s nodes store.numbers fit r.long.numbers);
        entry_order =
            part_of (entry_order_at s) index.counts.entries (joined (λ node. node.entries) nodes) _ store'.numbers
            (length-entries splitting v e b (owners-below index store work r) ∙ owners-length index store work r)
            laid.numbers
            (numbers-entries s nodes store.numbers fit r.long.numbers);
        filters =
            part_of (filters_at s) (length nodes * 4) (joined (λ node. node.filter) nodes) _ store'.hashes four laid.hashes
            (part-sets-same store.hashes (filters_at s) (joined (λ node. node.filter) nodes) (omega (arith, four, fit.nodes_fit, r.long.hashes)));
      }

-- equal contents at the same places
same_standing : (s : Shape) (c : Counts) (nodes : List Node) (a b : Store) → HeldStanding s c nodes a → HeldStanding s c nodes b → SameNodes s c a b
same_standing s c nodes a b x y =
    record {
      centroids = x.centroids ∙ sym y.centroids;
      order = x.order ∙ sym y.order;
      six = x.six ∙ sym y.six;
      links = x.links ∙ sym y.links;
      entry_order = x.entry_order ∙ sym y.entry_order;
      filters = x.filters ∙ sym y.filters;
    }

-- ---- the law

-- Stores that agree on what a build reads give the same answer; where it makes an unbuilt index built, the same nodes are laid out in both, and they
-- agree on these nodes afterwards.
pub builds-same : (index : CuratorIndex) (s t : Store) (work other : List ℕ) (a b : Result CuratorIndex Refusal) (s' t' : Store) (work' other' : List ℕ)
    → SameBuildRead index s work t other → Builds index s work a s' work' → Builds index t other b t' other'
    → (a ≡ b)
    × ((index' : CuratorIndex) → a ≡ Ok index' → index.built ≡ false
    → SameWritten (index_shape index) s t s' t' × SameNodes (index_shape index) index'.counts s' t')
builds-same index s t work other a b s' t' work' other' same x y = (answers, written)
  where
    answers : a ≡ b
    answers =
        answer-is index s work a s' work' x
        ∙ ap₂ (λ (c : Result ⊤ Refusal) (n : List Node). answer_by c index n) (build-check-same index s work t other same) (nodes-same index s work t other same)
        ∙ sym (answer-is index t other b t' other' y)

    written : (index' : CuratorIndex) → a ≡ Ok index' → index.built ≡ false
        → SameWritten (index_shape index) s t s' t' × SameNodes (index_shape index) index'.counts s' t'
    written index' e u =
        let nodes = held_nodes index s in
        let n = nodes-same index s work t other same in
        let (f, i, l) = builds-accepted index s work index' s' work' (subst (λ (c : Result CuratorIndex Refusal). Builds index s work c s' work') e x) u in
        let (g, j, m) = builds-accepted index t other index' t' other' (subst (λ (c : Result CuratorIndex Refusal). Builds index t other c t' other') (sym answers ∙ e) y) u in
        let first = laid_of index s work s' work' nodes refl l in
        let one = standing index s work (fine_ready index s work f u) (fine_few index s work f u) s' first in
        let two =
        standing index t other (fine_ready index t other g u) (fine_few index t other g u) t' (laid_of index t other t' other' _ refl m) in (
          record { nodes = nodes; first = first; second = laid_of index t other t' other' nodes (sym n) m },
          subst (λ (k : CuratorIndex). SameNodes (index_shape index) k.counts s' t') (sym i)
              (same_standing (index_shape index) (built_with index (length nodes)).counts nodes s' t' one
              (subst (λ (l : List Node). HeldStanding (index_shape index) (built_with index (length l)).counts l t') (sym n) two)),
        )
