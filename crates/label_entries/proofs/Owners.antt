-- The leaf of each vector, and so of each entry: the entries of a node are those whose leaf it is.
use Prim.Native.Nat.{ℕ, zero, suc, ◌+◌, ◌≤◌, ◌<◌}
use mathlib.Core.Path.{◌≡◌, sym, ap, ◌∙◌, subst}
use mathlib.Core.Logic.{◌⊎◌, inl, inr}
use mathlib.Core.Bool.{true, false}
use mathlib.Core.List.{List, Memᴰ}
use native.Mathlib.Nat.{not-suc-le-zero}
use native.Mathlib.Omega.{arith}
use lib.Dec.{eqb}
use lib.Ieee.{Float}
use lib.ListN.{length, get_or}
use borrow.Author.Tests.{eqb-true, eqb-false}
use Rattle.lists.specs.Lists.{keep, joined, count_from, is_in}
use Rattle.lists.specs.Counting.{get_d_Memᴰ, Memᴰ_get_d, Memᴰ-is_in, is_in-Memᴰ, is_in-count_from, Memᴰ-count_from, Memᴰ-joined, keep_congr}
use Rattle.lists.specs.Tests.{which}
use Rattle.lists.specs.Partition.{Permᴰ·symm, perm_Memᴰ, count-one-place, Different, once_perm, once-count_from}
use Rattle.tree.specs.Tree.{Splitting, tree_of}
use Rattle.tree.specs.Nodes.{Entries, Node, nodes_of, entries_of}
use Rattle.tree.proofs.NodeLaws.{perm_ids, length_ids, id_one_leaf}
use Rattle.tree.proofs.NumberedNodes.{node-entries}
use Rattle.node_table.specs.Table.{written, sum_to}
use Rattle.entry_leaves.specs.Leaves.{marked}
use Rattle.node_table.specs.TableLaws.{DistinctPlaces, last_or_below, get_d_written_other, get_d_written-same, sum_to-next}
use Rattle.entry_leaves.specs.LeavesLaws.{length_marked}
use Rattle.label_entries.proofs.Classes.{class_to}

-- a block's places bear its number
pub marked-at : (places counts : ℕ → ℕ) (n : ℕ) (l : List ℕ) → DistinctPlaces places (sum_to counts n) → ((p : ℕ) → p < sum_to counts n → places p < length l)
    → (i m : ℕ) → i < n → m < counts i → get_or (marked places counts n l) (places (sum_to counts i + m)) 0 ≡ i
unfolding marked sum_to
marked-at places counts zero l d b i m h g = absurd (not-suc-le-zero h)
marked-at places counts (suc n) l d b i m h g =
    go (last_or_below i n h)
    (marked-at places counts n l (λ x y u v. d x y u (let k : x < sum_to counts n + counts n = omega arith in k))
    (λ p u. b p (let k : p < sum_to counts n + counts n = omega arith in k)) i m)
  where
    row : List ℕ
    row = marked places counts n l

    go : (i ≡ n) ⊎ (i < n) → (i < n → m < counts i → get_or (marked places counts n l) (places (sum_to counts i + m)) 0 ≡ i)
        → get_or (written (λ k. places (sum_to counts n + k)) (λ k. n) (counts n) (marked places counts n l)) (places (sum_to counts i + m)) 0 ≡ i
    go (inl e) rest =
        let g' : m < counts n = subst (λ (k : ℕ). m < counts k) e g in
        let long = length_marked places counts n l in
        let in-range = b (sum_to counts n + m) (let k : sum_to counts n + m < sum_to counts n + counts n = omega arith in k) in
        ap (λ (k : ℕ). get_or (written (λ k. places (sum_to counts n + k)) (λ k. n) (counts n) (marked places counts n l)) (places (sum_to counts k + m)) 0) e
        ∙ get_d_written-same (λ k. places (sum_to counts n + k)) (λ k. n) (counts n) (marked places counts n l) m
        (λ x y u v w. d (sum_to counts n + x) (sum_to counts n + y) (let k : sum_to counts n + y < sum_to counts n + x = omega arith in k) (let k : sum_to counts n + x < sum_to counts n + counts n = omega arith in k) w)
        g' (omega arith)
        ∙ sym e
    go (inr c) rest =
        let next = sum_to-next counts i n c in
        get_d_written_other (λ k. places (sum_to counts n + k)) (λ k. n) (counts n) (marked places counts n l) (places (sum_to counts i + m))
        (λ k u w. d (sum_to counts n + k) (sum_to counts i + m) (let x : sum_to counts i + m < sum_to counts n + k = omega arith in x) (let x : sum_to counts n + k < sum_to counts n + counts n = omega arith in x) (sym w))
        ∙ rest c g

module _ (s : Splitting) (vectors : List (List Float)) (e : Entries) (b : 1 ≤ s.branching) (d : Node) where
  order-once : Different (joined (λ node. node.ids) (nodes_of s vectors e))
  order-once = once_perm (joined (λ node. node.ids) (nodes_of s vectors e)) (count_from 0 (length vectors)) (perm_ids s vectors e b) (once-count_from 0 (length vectors))

  -- the leaf order names no vector twice, and only vectors
  pub order_distinct : (places : ℕ → ℕ) → ((p : ℕ) → p < length vectors → places p ≡ get_or (joined (λ node. node.ids) (nodes_of s vectors e)) p 0)
      → DistinctPlaces places (length vectors)
  order_distinct places is i j h g w =
      let order = joined (λ node. node.ids) (nodes_of s vectors e) in
      let n = length_ids s vectors e b in
      let j< : j < length vectors = omega arith in
      let same = count-one-place (places i) order i j 0 (order-once (places i)) (omega arith) (omega arith) (sym (is i g)) (sym (is j j<) ∙ sym w) in
      omega arith

  pub order_below : (p : ℕ) → p < length vectors → get_or (joined (λ node. node.ids) (nodes_of s vectors e)) p 0 < length vectors
  order_below p h =
      let order = joined (λ node. node.ids) (nodes_of s vectors e) in
      let n = length_ids s vectors e b in
      let m = Memᴰ-count_from (get_or order p 0) 0 (length vectors) (perm_Memᴰ (perm_ids s vectors e b) (get_d_Memᴰ order p 0 (omega arith))) in
      omega (arith, m.1)

  -- an id is in a leaf
  pub record In (id : ℕ) : Type 0 where
    pub leaf : ℕ
    pub place : ℕ
    pub leaf_lt : leaf < length (nodes_of s vectors e)
    pub place_lt : place < length (get_or (nodes_of s vectors e) leaf d).ids
    pub is : get_or (get_or (nodes_of s vectors e) leaf d).ids place 0 ≡ id

  pub leaf_of : (id : ℕ) → id < length vectors → In id
  leaf_of id h =
      let nodes = nodes_of s vectors e in
      let m = Memᴰ-joined (λ node. node.ids) id nodes
      (perm_Memᴰ (Permᴰ·symm (perm_ids s vectors e b)) (is_in-Memᴰ id (count_from 0 (length vectors)) (is_in-count_from id 0 (length vectors) (omega arith) (omega arith)))) in
      let n = Memᴰ_get_d d m.1 in
      let k = Memᴰ_get_d 0 m.2 in
      let ids_are : (get_or nodes n.0 d).ids ≡ m.0.ids = ap (λ (node : Node). node.ids) n.2 in
      record {
        leaf = n.0;
        place = k.0;
        leaf_lt = n.1;
        place_lt = subst (λ (l : List ℕ). k.0 < length l) (sym ids_are) k.1;
        is = ap (λ (l : List ℕ). get_or l k.0 0) ids_are ∙ k.2;
      }

  -- the entries of a node, by the leaves of their owners
  pub classes-are : (rows : List ℕ) → length rows ≡ length e.owners
      → ((k : ℕ) → k < length e.owners → (i : In (get_or e.owners k 0)) × (get_or rows k 0 ≡ i.leaf))
      → (j : ℕ) → j < length (nodes_of s vectors e) → (get_or (nodes_of s vectors e) j d).entries ≡ class_to rows (length rows) j
  unfolding nodes_of entries_of
  classes-are rows n leaves j h =
      let nodes = nodes_of s vectors e in
      let ids = (get_or nodes j d).ids in
      node-entries s vectors e 0 (tree_of s vectors) (get_or nodes j d) (get_d_Memᴰ nodes j d h)
      ∙ keep_congr (λ number. is_in (get_or e.owners number 0) ids) (λ k. eqb (get_or rows k 0) j) (count_from 0 (length e.owners))
      (λ k m. let r = Memᴰ-count_from k 0 (length e.owners) m in let k< : k < length e.owners = omega (arith, r.1) in
      go k (leaves k k<) (which (eqb (get_or rows k 0) j)) (which (is_in (get_or e.owners k 0) ids)))
      ∙ ap (λ (m : ℕ). keep (λ k. eqb (get_or rows k 0) j) (count_from 0 m)) (sym n)
    where
      go : (k : ℕ) → (i : In (get_or e.owners k 0)) × (get_or rows k 0 ≡ i.leaf) → (eqb (get_or rows k 0) j ≡ true) ⊎ (eqb (get_or rows k 0) j ≡ false)
          → (is_in (get_or e.owners k 0) (get_or (nodes_of s vectors e) j d).ids ≡ true) ⊎ (is_in (get_or e.owners k 0) (get_or (nodes_of s vectors e) j d).ids ≡ false)
          → is_in (get_or e.owners k 0) (get_or (nodes_of s vectors e) j d).ids ≡ eqb (get_or rows k 0) j
      go k i (inl q) (inl w) = w ∙ sym q
      go k i (inr q) (inr w) = w ∙ sym q
      go k i (inl q) (inr w) =
          let same : i.0.leaf ≡ j = sym i.1 ∙ eqb-true (get_or rows k 0) j q in
          Memᴰ-is_in
          (subst (λ (m : ℕ). Memᴰ (get_or e.owners k 0) (get_or (nodes_of s vectors e) m d).ids) same
          (subst (λ (x : ℕ). Memᴰ x (get_or (nodes_of s vectors e) i.0.leaf d).ids) i.0.is
          (get_d_Memᴰ (get_or (nodes_of s vectors e) i.0.leaf d).ids i.0.place 0 i.0.place_lt)))
          ∙ sym q
      go k i (inr q) (inl w) =
          absurd (eqb-false (get_or rows k 0) j q
          (i.1
          ∙ id_one_leaf s vectors e b (get_or e.owners k 0) i.0.leaf j d i.0.leaf_lt h
          (subst (λ (x : ℕ). Memᴰ x (get_or (nodes_of s vectors e) i.0.leaf d).ids) i.0.is
          (get_d_Memᴰ (get_or (nodes_of s vectors e) i.0.leaf d).ids i.0.place 0 i.0.place_lt))
          (is_in-Memᴰ (get_or e.owners k 0) (get_or (nodes_of s vectors e) j d).ids w)))
