-- What a search reads of a store, and that nothing else matters: two stores that agree on it give the same search, answer or damage. So garbage in a
-- denied node, in a node that is not opened, in a list that is not read or past the counts held changes nothing. Assumes nothing.
use Rattle.std.specs.Prelude.{Result}
use Rattle.walk.specs.declared.Damaged.{Damaged}
use Rattle.std.specs.Prelude.{ℕ, zero, suc, ◌+◌, ◌<◌, ◌≡◌, ◌⊎◌, Bool, true, false, eqb, Float, get_or}
use Rattle.std.proofs.Common.{arith, sym, ap₂, ◌∙◌, subst, inl, inr, eqb-true}
use Rattle.std.proofs.Math.Path.{refl, ap}
use Rattle.std.proofs.Math.Bool.{cond}
use mathlib.Core.List.Memᴰ
use mathlib.Core.List.{List, [], map, Memᴰ}
use Rattle.std.proofs.lemmas.Bool.{eqb-false}
use Rattle.lists.specs.Maps.{map_on}
use Rattle.lists.specs.Lists.{part}
use Rattle.lists.specs.Tests.{which, all_pass}
use Rattle.store.specs.declared.Shape.{Shape}
use Rattle.store.specs.Store.{Store, vector_at, links_at, node_field, child_links, node_filter, live_marks}
use Rattle.distance.specs.Distance.{distance}
use Rattle.total_order.specs.TotalOrder.{key_of}
use Rattle.store.specs.declared.Counts.{Counts}
use Rattle.walk.specs.declared.Searched.{Searched}
use Rattle.walk.specs.Walk.{Shown, State, children, hits, damage, damaged, going, shown, walk}
use Rattle.walk.proofs.WalkLaws.{shown_children}
use Rattle.walk.proofs.SameWalkLaws.{AlikeAt, Opens, same-walk}
use Rattle.walk.specs.Answer.{hit_of, is_live}
use Rattle.walk.specs.Wanted.{Sought, list_read, held_in, denies, passes, given}
use Rattle.walk.proofs.WantedLaws.{Reading, SameNumber, passes_same, given-same, given-read}
use Rattle.walk.specs.StoreView.{block_held, field_of, part_of, hit_at, children_shown, end_in, entry_read, list_shown, leaf_shown, node_shown, live_in, store_view}
use Rattle.walk.proofs.StoreViewLaws.{store-shown, store_child}
use Rattle.walk.specs.Promises.{SearchEnds, SearchGives}

-- ---- what is read, in the order in which a search comes to it

-- how a store's entries are read
abbrev pub reading_of : Shape → Counts → Store → Reading
reading_of s c store = record { entries = entry_read s c store; end = end_in s store.numbers }

module _ (s : Shape) (c : Counts) (a b : Store) where
  -- of a node that is pushed: its centroid
  abbrev pub SameCentroid : ℕ → Type 0
  SameCentroid i = vector_at s.dimension a.floats (s.vectors + i) ≡ vector_at s.dimension b.floats (s.vectors + i)

  -- of a list of an opened node, whose start and count are two of the node's six numbers: the count; if it is not empty the start; if it lies within
  -- what is held its numbers, and something of each. An empty list has no place, so its start is not read.
  pub record SameList (i field base held : ℕ) (Same : ℕ → Type 0) : Type 0 where
    pub count : node_field s a.numbers i (field + 1) ≡ node_field s b.numbers i (field + 1)
    pub start : (node_field s a.numbers i (field + 1) ≡ 0 → ⊥) → node_field s a.numbers i field ≡ node_field s b.numbers i field
    pub numbers : block_held (node_field s a.numbers i field) (node_field s a.numbers i (field + 1)) held ≡ true
        → part (base + node_field s a.numbers i field) (node_field s a.numbers i (field + 1)) a.numbers
        ≡ part (base + node_field s a.numbers i field) (node_field s a.numbers i (field + 1)) b.numbers
    pub each : block_held (node_field s a.numbers i field) (node_field s a.numbers i (field + 1)) held ≡ true
        → (x : ℕ) → Memᴰ x (part (base + node_field s a.numbers i field) (node_field s a.numbers i (field + 1)) a.numbers) → Same x

  -- of a vector that is a hit: document id and components
  pub record SameVector (v : ℕ) : Type 0 where
    pub document : get_or a.numbers v 0 ≡ get_or b.numbers v 0
    pub components : vector_at s.dimension a.floats v ≡ vector_at s.dimension b.floats v

  -- of a leaf: the list that is read, and of each of its numbers what `SameNumber` says (WantedLaws.antt)
  abbrev pub SameLeaf : Sought → ℕ → Type 0
  SameLeaf wanted i =
      SameList i (field_of (list_read wanted)) (part_of s (list_read wanted)) (held_in (list_read wanted) c)
      (SameNumber wanted c (reading_of s c a) (reading_of s c b) SameVector)

  -- of a node that is opened and not denied: the count of children; where there are some, they and their centroids; where there are none, the leaf's list
  pub record SameShown (wanted : Sought) (i : ℕ) : Type 0 where
    pub count : node_field s a.numbers i 1 ≡ node_field s b.numbers i 1
    pub inner : (node_field s a.numbers i 1 ≡ 0 → ⊥) → SameList i 0 (links_at s) c.nodes (λ child. i < child → child < c.nodes → SameCentroid child)
    pub leaf : node_field s a.numbers i 1 ≡ 0 → SameLeaf wanted i

  -- of a node that is opened: whether its filter denies; an unfiltered search does not read it
  pub record SameNode (wanted : Sought) (i : ℕ) : Type 0 where
    pub filter : denies wanted (node_filter s a.hashes i) ≡ denies wanted (node_filter s b.hashes i)
    pub shows : denies wanted (node_filter s a.hashes i) ≡ false → SameShown wanted i

  -- Two stores agree on what a search reads: the root's centroid, and what is read of each node that the search opens
  pub record SameRead (query : List Float) (wanted : Sought) (ef : ℕ) : Type 0 where
    pub root : SameCentroid 0
    pub opened : (i : ℕ) → Opens (store_view s c a query wanted) ef i → SameNode wanted i

-- ---- why nothing else matters

-- a choice by equal tests between values that are equal where they are chosen
same_cond : (a b : Bool) (x y : Shown) → a ≡ b → (a ≡ true → x ≡ y) → cond a x damage ≡ cond b y damage
same_cond true b x y e f = f refl ∙ ap (λ (t : Bool). cond t y damage) e
same_cond false b x y e f = ap (λ (t : Bool). cond t y damage) e

some : (n : ℕ) → suc n ≡ 0 → ⊥
some n e = omega arith

-- blocks with one count, and with one start if they are not empty
block_same : (start start' count count' held : ℕ) → count ≡ count' → ((count ≡ 0 → ⊥) → start ≡ start') → block_held start count held ≡ block_held start' count' held
unfolding block_held
block_same start start' zero count' held e f = rw (← e)
block_same start start' (suc count) count' held e f = rw (← e, f (some count))

part_same : (start start' count count' base : ℕ) (l : List ℕ) → count ≡ count' → ((count ≡ 0 → ⊥) → start ≡ start')
    → part (base + start) count l ≡ part (base + start') count' l
part_same start start' zero count' base l e f = rw (← e)
part_same start start' (suc count) count' base l e f = rw (← e, f (some count))

module _ (s : Shape) (c : Counts) (a b : Store) where
  -- a list that is read is shown alike
  list_same : (i field base held : ℕ) (Same : ℕ → Type 0) → SameList s c a b i field base held Same → (f g : List ℕ → Shown)
      → ((l : List ℕ) → ((x : ℕ) → Memᴰ x l → Same x) → f l ≡ g l)
      → cond (block_held (node_field s a.numbers i field) (node_field s a.numbers i (field + 1)) held) (f (part (base + node_field s a.numbers i field) (node_field s a.numbers i (field + 1)) a.numbers)) damage
      ≡ cond (block_held (node_field s b.numbers i field) (node_field s b.numbers i (field + 1)) held) (g (part (base + node_field s b.numbers i field) (node_field s b.numbers i (field + 1)) b.numbers)) damage
  list_same i field base held Same same f g alike =
      let list : List ℕ = part (base + node_field s a.numbers i field) (node_field s a.numbers i (field + 1)) a.numbers in
      same_cond (block_held (node_field s a.numbers i field) (node_field s a.numbers i (field + 1)) held) (block_held (node_field s b.numbers i field) (node_field s b.numbers i (field + 1)) held)
      (f list) (g (part (base + node_field s b.numbers i field) (node_field s b.numbers i (field + 1)) b.numbers))
      (block_same (node_field s a.numbers i field) (node_field s b.numbers i field) (node_field s a.numbers i (field + 1)) (node_field s b.numbers i (field + 1)) held same.count same.start)
      (λ e. alike list (same.each e)
      ∙ ap g (same.numbers e
      ∙ part_same (node_field s a.numbers i field) (node_field s b.numbers i field) (node_field s a.numbers i (field + 1)) (node_field s b.numbers i (field + 1)) base b.numbers same.count same.start))

  hit_same : (query : List Float) (v : ℕ) → SameVector s c a b v → hit_at s a.floats a.numbers query v ≡ hit_at s b.floats b.numbers query v
  hit_same query v same = ap₂ (λ (x : List Float) (d : ℕ). hit_of (distance query x) d v) same.components same.document

  shown-list : (query : List Float) (wanted : Sought) (l : List ℕ)
      → ((x : ℕ) → Memᴰ x l → SameNumber wanted c (reading_of s c a) (reading_of s c b) (SameVector s c a b) x)
      → list_shown s c a query wanted l ≡ list_shown s c b query wanted l
  unfolding list_shown
  shown-list query wanted l same =
      let ra = entry_read s c a in
      let rb = entry_read s c b in
      let reads = reading_of s c a in
      let reads' = reading_of s c b in
      same_cond (all_pass (passes wanted c ra (end_in s a.numbers)) l) (all_pass (passes wanted c rb (end_in s b.numbers)) l)
      (hits (map (hit_at s a.floats a.numbers query) (given wanted ra l))) (hits (map (hit_at s b.floats b.numbers query) (given wanted rb l)))
      (passes_same c reads reads' (SameVector s c a b) wanted l same)
      (λ e. ap hits
      (map_on (hit_at s a.floats a.numbers query) (hit_at s b.floats b.numbers query) (given wanted ra l) (λ v m. hit_same query v (given-read c reads reads' (SameVector s c a b) wanted l same e v m))
      ∙ ap (map (hit_at s b.floats b.numbers query)) (given-same c reads reads' (SameVector s c a b) wanted l same e)))

  children-same : (parent : ℕ) (l : List ℕ) → children_shown s c a parent l ≡ children_shown s c b parent l
  unfolding children_shown
  children-same parent l = refl

  leaf_same : (query : List Float) (wanted : Sought) (i : ℕ) → SameLeaf s c a b wanted i → leaf_shown s c a query wanted i ≡ leaf_shown s c b query wanted i
  unfolding leaf_shown
  leaf_same query wanted i same =
      list_same i (field_of (list_read wanted)) (part_of s (list_read wanted)) (held_in (list_read wanted) c)
      (SameNumber wanted c (reading_of s c a) (reading_of s c b) (SameVector s c a b)) same (list_shown s c a query wanted) (list_shown s c b query wanted)
      (shown-list query wanted)

  node-same : (query : List Float) (wanted : Sought) (i : ℕ) → SameShown s c a b wanted i → node_shown s c a query wanted i ≡ node_shown s c b query wanted i
  unfolding node_shown
  node-same query wanted i same = go (which (eqb (node_field s a.numbers i 1) 0))
    where
      inner_of : Store → Shown
      inner_of store =
          cond (block_held (node_field s store.numbers i 0) (node_field s store.numbers i 1) c.nodes)
          (children_shown s c store i (child_links s store.numbers i)) damage

      shown_of : Bool → Store → Shown
      shown_of leaf store = cond leaf (leaf_shown s c store query wanted i) (inner_of store)

      go : (eqb (node_field s a.numbers i 1) 0 ≡ true) ⊎ (eqb (node_field s a.numbers i 1) 0 ≡ false)
          → shown_of (eqb (node_field s a.numbers i 1) 0) a ≡ shown_of (eqb (node_field s b.numbers i 1) 0) b
      go (inl e) =
          ap (λ (t : Bool). shown_of t a) e ∙ leaf_same query wanted i (same.leaf (eqb-true (node_field s a.numbers i 1) 0 e))
          ∙ ap (λ (t : Bool). shown_of t b) (sym e ∙ ap (λ (n : ℕ). eqb n 0) same.count)
      go (inr e) =
          ap (λ (t : Bool). shown_of t a) e
          ∙ list_same i 0 (links_at s) c.nodes (λ child. i < child → child < c.nodes → SameCentroid s c a b child)
          (same.inner (eqb-false (node_field s a.numbers i 1) 0 e)) (children_shown s c a i) (children_shown s c b i) (λ l h. children-same i l)
          ∙ ap (λ (t : Bool). shown_of t b) (sym e ∙ ap (λ (n : ℕ). eqb n 0) same.count)

  shown-same : (query : List Float) (wanted : Sought) (i : ℕ) → SameNode s c a b wanted i
      → shown (store_view s c a query wanted) i ≡ shown (store_view s c b query wanted) i
  shown-same query wanted i same =
      store-shown s c a query wanted i ∙ go (which (denies wanted (node_filter s a.hashes i)))
      ∙ ap (λ (d : Bool). cond d (hits []) (node_shown s c b query wanted i)) same.filter ∙ sym (store-shown s c b query wanted i)
    where
      go : (denies wanted (node_filter s a.hashes i) ≡ true) ⊎ (denies wanted (node_filter s a.hashes i) ≡ false)
          → cond (denies wanted (node_filter s a.hashes i)) (hits []) (node_shown s c a query wanted i) ≡ cond (denies wanted (node_filter s a.hashes i)) (hits []) (node_shown s c b query wanted i)
      go (inl e) = rw e
      go (inr e) = ap (cond (denies wanted (node_filter s a.hashes i)) (hits [])) (node-same query wanted i (same.shows e))

  key-same : (query : List Float) (wanted : Sought) (i : ℕ) → SameCentroid s c a b i → (store_view s c a query wanted).key i ≡ (store_view s c b query wanted).key i
  unfolding store_view
  key-same query wanted i same = ap (λ (v : List Float). key_of (distance query v)) same

  most-same : (query : List Float) (wanted : Sought) → (store_view s c a query wanted).most ≡ (store_view s c b query wanted).most
  unfolding store_view
  most-same query wanted = refl

  node_alike : (query : List Float) (wanted : Sought) (i : ℕ) → SameNode s c a b wanted i → AlikeAt (store_view s c a query wanted) (store_view s c b query wanted) i
  node_alike query wanted i same = record {
    shows = shown-same query wanted i same;
    keys = λ x m. keys (shown (store_view s c a query wanted) i) refl x m;
  }
    where
      keys : (sh : Shown) → shown (store_view s c a query wanted) i ≡ sh → (x : ℕ) → Memᴰ x (shown_children sh)
          → (store_view s c a query wanted).key x ≡ (store_view s c b query wanted).key x
      keys damage e x m = absurd (Memᴰ.not-nil m)
      keys (hits new) e x m = absurd (Memᴰ.not-nil m)
      keys (children numbers) e x m =
          let shows = store_child s c a query wanted i numbers x e m in
          let child = shows.1 in
          key-same query wanted x (((same.shows shows.0).inner child.inner).each child.held x child.listed child.above child.below)

  -- Two stores that agree on what a search reads give the same walk
  pub same_read : (query : List Float) (wanted : Sought) (ef : ℕ) → SameRead s c a b query wanted ef
      → walk (store_view s c a query wanted) ef ≡ walk (store_view s c b query wanted) ef
  same_read query wanted ef same =
      same-walk (store_view s c a query wanted) (store_view s c b query wanted) (most-same query wanted) (key-same query wanted 0 same.root) ef
      (λ i o. node_alike query wanted i (same.opened i o))

-- one end of a walk has one answer
ends_same : (st : State) (test : ℕ → Bool) (k : ℕ) (r r' : Result Searched Damaged) (ids ids' ids'' : List ℕ) (distances distances' distances'' : List Float)
    → SearchEnds st test k r ids ids' distances distances' → SearchEnds st test k r' ids ids'' distances distances'' → (r ≡ r') × (ids' ≡ ids'') × (distances' ≡ distances'')
ends_same damaged test k r r' ids ids' ids'' distances distances' distances'' x y =
    (x.is ∙ sym y.is, x.ids_kept ∙ sym y.ids_kept, x.distances_kept ∙ sym y.distances_kept)
ends_same (going p) test k r r' ids ids' ids'' distances distances' distances'' x y =
    (x.is ∙ sym y.is, x.ids_are ∙ sym y.ids_are, x.distances_are ∙ sym y.distances_are)

-- and, with the same live marks, the same search, whatever stands in work: the same answer or damage, and the same answer lists
pub same-search : (s : Shape) (c : Counts) (store store' : Store) (query : List Float) (wanted : Sought)
    (ef k : ℕ) (work work₁ work' work₂ ids ids₁ ids₂ : List ℕ) (distances distances₁ distances₂ : List Float) (r₁ r₂ : Result Searched Damaged)
    → SameRead s c store store' query wanted ef → live_marks s c.vectors store.numbers ≡ live_marks s c.vectors store'.numbers
    → SearchGives s c ef store query wanted k work ids distances r₁ work₁ ids₁ distances₁
    → SearchGives s c ef store' query wanted k work' ids distances r₂ work₂ ids₂ distances₂ → (r₁ ≡ r₂) × (ids₁ ≡ ids₂) × (distances₁ ≡ distances₂)
same-search s c store store' query wanted ef k work work₁ work' work₂ ids ids₁ ids₂ distances distances₁ distances₂ r₁ r₂ same marks x y =
    ends_same (walk (store_view s c store' query wanted) ef) (live_in s c store') k r₁ r₂ ids ids₁ ids₂ distances distances₁ distances₂
    (subst (λ (st : State). SearchEnds st (live_in s c store') k r₁ ids ids₁ distances distances₁) (same_read s c store store' query wanted ef same)
    (subst (λ (test : ℕ → Bool). SearchEnds (walk (store_view s c store query wanted) ef) test k r₁ ids ids₁ distances distances₁) (ap is_live marks) x.ends))
    y.ends
