-- 'Parts past the counts held are never read': two stores that agree on what is held agree on what any search reads (`SameRead` of ReadLaws.antt), so
-- they give the same walk, damaged or not. Assumes nothing.
use Rattle.std.specs.Prelude.{ℕ, suc, ◌+◌, ◌*◌, ◌^◌, ◌≤◌, ◌<◌, ◌≡◌, refl, true, List, Float, get_or}
use Rattle.std.proofs.Common.{zero-add, mul-le-mul_right, suc-mul, mul_comm, add-mul, add_assoc, arith, sym, ap, ap₂, ◌∙◌, subst}
use Rattle.lists.specs.Lists.{part}
use Rattle.lists.specs.Parts.{get_d_part, part-part}
use Rattle.store.specs.declared.Shape.{Shape}
use Rattle.store.specs.Store.{Store, vector_at, centroids_at, owners_at, order_at, nodes_at, links_at, entry_order_at, starts_at, lengths_at, live_marks, filters_at, node_field, node_filter, entry_start, entry_length, entry_name}
use Rattle.lists.specs.Tests.{either}
use Rattle.store.specs.declared.Counts.{Counts}
use Rattle.walk.specs.Walk.{walk}
use Rattle.walk.specs.Answer.{is_live}
use Rattle.walk.proofs.SameWalkLaws.{opens-below}
use Rattle.walk.specs.Wanted.{Sought, LeafList, vector_list, entry_list, list_read, held_in, denies}
use Rattle.walk.proofs.WantedLaws.{SameNumber, numbers-same}
use Rattle.walk.specs.StoreView.{block_held, field_of, part_of, owner_of, end_in, live_in, store_view}
use Rattle.walk.proofs.StoreViewLaws.{block_within, store-children-below}
use Rattle.walk.proofs.ReadLaws.{reading_of, SameCentroid, SameList, SameVector, SameLeaf, SameNode, SameRead, same_read}

-- Two stores agree on what their nodes show: vectors, centroids; document ids, owners, leaf order of vectors, the six of each node, child links, leaf order of
-- entries, starts and lengths of labels; entry hashes, filters; label text; each up to its count
pub record SameShown (s : Shape) (c : Counts) (a b : Store) : Type 0 where
  pub vectors : part 0 (c.vectors * s.dimension) a.floats ≡ part 0 (c.vectors * s.dimension) b.floats
  pub centroids : part (centroids_at s) (c.nodes * s.dimension) a.floats ≡ part (centroids_at s) (c.nodes * s.dimension) b.floats
  pub documents : part 0 c.vectors a.numbers ≡ part 0 c.vectors b.numbers
  pub owners : part (owners_at s) c.entries a.numbers ≡ part (owners_at s) c.entries b.numbers
  pub order : part (order_at s) c.vectors a.numbers ≡ part (order_at s) c.vectors b.numbers
  pub nodes : part (nodes_at s) (c.nodes * 6) a.numbers ≡ part (nodes_at s) (c.nodes * 6) b.numbers
  pub links : part (links_at s) c.nodes a.numbers ≡ part (links_at s) c.nodes b.numbers
  pub entry_order : part (entry_order_at s) c.entries a.numbers ≡ part (entry_order_at s) c.entries b.numbers
  pub starts : part (starts_at s) c.entries a.numbers ≡ part (starts_at s) c.entries b.numbers
  pub lengths : part (lengths_at s) c.entries a.numbers ≡ part (lengths_at s) c.entries b.numbers
  pub hashes : part 0 c.entries a.hashes ≡ part 0 c.entries b.hashes
  pub filters : part (filters_at s) (c.nodes * 4) a.hashes ≡ part (filters_at s) (c.nodes * 4) b.hashes
  pub text : part 0 c.bytes a.text ≡ part 0 c.bytes b.text

-- and on all that is held: on the live marks too
pub record SameHeld (s : Shape) (c : Counts) (a b : Store) : Type 0 where
  pub nodes_show : SameShown s c a b
  pub live : live_marks s c.vectors a.numbers ≡ live_marks s c.vectors b.numbers

-- a store with itself
pub held_itself : (s : Shape) (c : Counts) (a : Store) → SameHeld s c a a
held_itself s c a =
    record {
      nodes_show =
          record {
            vectors = refl;
            centroids = refl;
            documents = refl;
            owners = refl;
            order = refl;
            nodes = refl;
            links = refl;
            entry_order = refl;
            starts = refl;
            lengths = refl;
            hashes = refl;
            filters = refl;
            text = refl;
          };
      live = refl;
    }

module _ {A : Type 0} where
  -- what stands at a place of equal parts, and a part of equal parts
  pub same_at : (at held : ℕ) (l m : List A) → part at held l ≡ part at held m → (i : ℕ) (d : A) → i < held → get_or l (at + i) d ≡ get_or m (at + i) d
  same_at at held l m e i d h = sym (get_d_part at held l i d h) ∙ ap (λ (t : List A). get_or t i d) e ∙ get_d_part at held m i d h

  pub same-part : (at held : ℕ) (l m : List A) → part at held l ≡ part at held m → (start count : ℕ) → start + count ≤ held
      → part (at + start) count l ≡ part (at + start) count m
  same-part at held l m e start count h =
      sym (part-part at held start count l h) ∙ ap (part start count) e ∙ part-part at held start count m h

  pub same_block : (at held : ℕ) (l m : List A) → part at held l ≡ part at held m → (start count : ℕ) → block_held start count held ≡ true
      → part (at + start) count l ≡ part (at + start) count m
  same_block at held l m e start count h =
      either (block_within start count held h)
      (λ z. rw z)
      (λ w. same-part at held l m e start count w)

-- the i-th of n runs of a width ends within them
run-within : (i n width : ℕ) → i < n → i * width + width ≤ n * width
run-within i n width h = let p : suc i * width ≤ n * width = mul-le-mul_right width h in rw suc-mul at p

module _ (s : Shape) (c : Counts) (a b : Store) (same : SameShown s c a b) where
  vector-same : (i : ℕ) → i < c.vectors → vector_at s.dimension a.floats i ≡ vector_at s.dimension b.floats i
  vector-same i h =
      subst (λ (at : ℕ). part at s.dimension a.floats ≡ part at s.dimension b.floats) (zero-add (i * s.dimension))
      (same-part 0 (c.vectors * s.dimension) a.floats b.floats same.vectors (i * s.dimension) s.dimension
      (run-within i c.vectors s.dimension h))

  centroid-same : (i : ℕ) → i < c.nodes → vector_at s.dimension a.floats (s.vectors + i) ≡ vector_at s.dimension b.floats (s.vectors + i)
  centroid-same i h =
      let at' : centroids_at s + i * s.dimension ≡ (s.vectors + i) * s.dimension =
      ap (λ (n : ℕ). n + i * s.dimension) (mul_comm s.dimension s.vectors) ∙ sym (add-mul s.vectors i s.dimension) in
      subst (λ (at : ℕ). part at s.dimension a.floats ≡ part at s.dimension b.floats) at'
      (same-part (centroids_at s) (c.nodes * s.dimension) a.floats b.floats same.centroids (i * s.dimension) s.dimension
      (run-within i c.nodes s.dimension h))

  field_same : (i field : ℕ) → i < c.nodes → field < 6 → node_field s a.numbers i field ≡ node_field s b.numbers i field
  field_same i field h f =
      subst (λ (at : ℕ). get_or a.numbers at 0 ≡ get_or b.numbers at 0) (sym (add_assoc (nodes_at s) (i * 6) field))
      (same_at (nodes_at s) (c.nodes * 6) a.numbers b.numbers same.nodes (i * 6 + field) 0 (let t : i * 6 + field < c.nodes * 6 = omega arith in t))

  document-same : (i : ℕ) → i < c.vectors → get_or a.numbers i 0 ≡ get_or b.numbers i 0
  document-same i h =
      subst (λ (at : ℕ). get_or a.numbers at 0 ≡ get_or b.numbers at 0) (zero-add i)
      (same_at 0 c.vectors a.numbers b.numbers same.documents i 0 h)

  owner-same : (e : ℕ) → e < c.entries → owner_of s c a e ≡ owner_of s c b e
  owner-same e h = same_at (owners_at s) c.entries a.numbers b.numbers same.owners e 0 h

  hash-same : (e : ℕ) → e < c.entries → get_or a.hashes e 0 ≡ get_or b.hashes e 0
  hash-same e h =
      subst (λ (at : ℕ). get_or a.hashes at 0 ≡ get_or b.hashes at 0) (zero-add e)
      (same_at 0 c.entries a.hashes b.hashes same.hashes e 0 h)

  start-same : (e : ℕ) → e < c.entries → entry_start s a.numbers e ≡ entry_start s b.numbers e
  start-same e h = same_at (starts_at s) c.entries a.numbers b.numbers same.starts e 0 h

  length-same : (e : ℕ) → e < c.entries → entry_length s a.numbers e ≡ entry_length s b.numbers e
  length-same e h = same_at (lengths_at s) c.entries a.numbers b.numbers same.lengths e 0 h

  end_same : (e : ℕ) → e < c.entries → end_in s a.numbers e ≡ end_in s b.numbers e
  end_same e h = ap₂ (λ (x y : ℕ). x + y) (start-same e h) (length-same e h)

  -- the bytes of a label that are held
  name-same : (e : ℕ) → e < c.entries → end_in s a.numbers e ≤ c.bytes → entry_name s a.numbers a.text e ≡ entry_name s b.numbers b.text e
  name-same e h ends =
      subst (λ (at : ℕ). part at (entry_length s a.numbers e) a.text ≡ part at (entry_length s a.numbers e) b.text) (zero-add (entry_start s a.numbers e))
      (same-part 0 c.bytes a.text b.text same.text (entry_start s a.numbers e) (entry_length s a.numbers e) ends)
      ∙ ap₂ (λ (x y : ℕ). part x y b.text) (start-same e h) (length-same e h)

  vector-held : (v : ℕ) → v < c.vectors → SameVector s c a b v
  vector-held v h = record { document = document-same v h; components = vector-same v h }

  number-held : (wanted : Sought) (x : ℕ) → SameNumber wanted c (reading_of s c a) (reading_of s c b) (SameVector s c a b) x
  number-held wanted x = numbers-same c (reading_of s c a) (reading_of s c b) (SameVector s c a b) wanted owner-same hash-same end_same name-same vector-held x

  list_held : (i field base held : ℕ) (Same : ℕ → Type 0) → i < c.nodes → field + 1 < 6 → part base held a.numbers ≡ part base held b.numbers
      → ((x : ℕ) → Same x) → SameList s c a b i field base held Same
  list_held i field base held Same h f equal each = record {
    count = field_same i (field + 1) h f;
    start = λ some. field_same i field h (let t : field < 6 = omega arith in t);
    numbers = λ e. same_block base held a.numbers b.numbers equal (node_field s a.numbers i field) (node_field s a.numbers i (field + 1)) e;
    each = λ e x m. each x;
  }

  list_same : (l : LeafList) → part (part_of s l) (held_in l c) a.numbers ≡ part (part_of s l) (held_in l c) b.numbers
  list_same vector_list = same.order
  list_same entry_list = same.entry_order

  field_low : (l : LeafList) → field_of l + 1 < 6
  field_low vector_list = omega arith
  field_low entry_list = omega arith

  leaf_held : (wanted : Sought) (i : ℕ) → i < c.nodes → SameLeaf s c a b wanted i
  leaf_held wanted i h =
      let l = list_read wanted in
      list_held i (field_of l) (part_of s l) (held_in l c) (SameNumber wanted c (reading_of s c a) (reading_of s c b) (SameVector s c a b)) h (field_low l) (list_same l)
      (number-held wanted)

  filter-held : (i : ℕ) → i < c.nodes → node_filter s a.hashes i ≡ node_filter s b.hashes i
  filter-held i h =
      same-part (filters_at s) (c.nodes * 4) a.hashes b.hashes same.filters (i * 4) 4 (let t : i * 4 + 4 ≤ c.nodes * 4 = omega arith in t)

  node-held : (wanted : Sought) (i : ℕ) → i < c.nodes → SameNode s c a b wanted i
  node-held wanted i h = record {
    filter = ap (denies wanted) (filter-held i h);
    shows = λ passes. record {
      count = field_same i 1 h (omega arith);
      inner = λ some. list_held i 0 (links_at s) c.nodes (λ child. i < child → child < c.nodes → SameCentroid s c a b child) h (omega arith) same.links
          (λ child above below. centroid-same child below);
      leaf = λ none. leaf_held wanted i h;
    };
  }

  -- They agree on what any search reads, so they give the same walk, damaged or not
  pub held-read : (query : List Float) (wanted : Sought) → 0 < c.nodes → c.nodes ≤ 2 ^ 64 → (ef : ℕ) → SameRead s c a b query wanted ef
  held-read query wanted pos fits ef = record {
    root = centroid-same 0 pos;
    opened = λ i o. node-held wanted i
        (opens-below (store_view s c a query wanted) c.nodes fits pos (store-children-below s c a query wanted) ef i o);
  }

  pub same-shown : (query : List Float) (wanted : Sought) → 0 < c.nodes → c.nodes ≤ 2 ^ 64 → (ef : ℕ)
      → walk (store_view s c a query wanted) ef ≡ walk (store_view s c b query wanted) ef
  same-shown query wanted pos fits ef = same_read s c a b query wanted ef (held-read query wanted pos fits ef)

-- and where all that is held is the same, they strike the same hits
pub same_live : (s : Shape) (c : Counts) (a b : Store) → SameHeld s c a b → live_in s c a ≡ live_in s c b
same_live s c a b same = ap is_live same.live
