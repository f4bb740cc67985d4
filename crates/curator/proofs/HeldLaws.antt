-- An accepted add grows what is held by exactly what it brings, and nothing past the counts held is read.
use Rattle.std.specs.Prelude.{ℕ, zero, suc, ◌+◌, ◌*◌, ◌<◌, ◌≤◌, ◌≡◌, Float}
use Rattle.std.proofs.Math.Path.{refl, ap, ap₂}
use Rattle.std.proofs.Common.{sym, ◌∙◌, subst, zero-add, suc-mul, mul_comm, mul-le-mul_right, add-one}
use mathlib.Core.List.{List, [], ◌∷◌, ◌++◌, map, map-append}
use native.Mathlib.Omega.{arith}
use Rattle.std.proofs.Math.ListN.{length, take, set, replicate, length-set, length-replicate}
use Rattle.std.proofs.Math.Seq.{sets, length-sets, take-suc-set, take-set-le}
use Rattle.vector.specs.Normalized.{normalized, normalized-is, normalized-holds}
use Rattle.lists.specs.Counting.{count_from_snoc}
use Rattle.lists.specs.Lists.{part, count_from}
use Rattle.lists.specs.Parts.{part-append-parts, part-set-before, part-sets-before, part-sets-after, part-sets-same, part-sets-grown}
use Rattle.store.specs.declared.Shape.{Shape}
use Rattle.store.specs.Store.{Store, vector_at, owners_at, starts_at, lengths_at, live_at}
use Rattle.tree.specs.Nodes.{Entries}
use Rattle.std.specs.Prelude.{Result, Ok, Err, ⊤}
use Rattle.settings.specs.declared.refusal.Refusal.{Refusal}
use Rattle.curator.specs.declared.CuratorIndex.{CuratorIndex}
use Rattle.curator.proofs.AddLaws.{add_facts}
use Rattle.label.specs.Names.{hashes_of_labels, starts_from, lengths_of_names, bytes_of_names}
use Rattle.label.specs.TextLaws.{length-starts, length-lengths}
use Rattle.curator.specs.Calls.{facts_of, held_vectors, held_documents, held_entries, held_starts, held_lengths, held_text, held_marks, SameOfIndex, grown}
use Rattle.store.specs.Lent.{lengths_of}
use Rattle.curator.specs.Changes.{add_check, with_labels, with_mark, Wrote, AddsBy, Adds}
use Rattle.curator.specs.Arguments.{AddCall}
use Rattle.label.specs.NameLaws.{length-hashes_of_labels}
use Rattle.curator.specs.Lent.{AddRoom}
use Rattle.curator.specs.Limits.{state_sound, index_shape}
use Rattle.curator.specs.Rows.{first_of, state_row, add_rows}
use Rattle.store.specs.declared.Lengths.{Lengths}
use Rattle.curator.proofs.StateLaws.{length-stored}
use Rattle.curator.specs.OutcomeLaws.{carried-is, is_carried, refused_is, is_refused}

-- ---- lists

map_below : {A : Type 0} (f g : ℕ → A) (i n : ℕ) → ((k : ℕ) → k < i + n → f k ≡ g k) → map f (count_from i n) ≡ map g (count_from i n)
unfolding count_from
map_below f g i zero h = refl
map_below f g i (suc n) h = ap₂ ◌∷◌ (h i (omega arith)) (map_below f g (suc i) n (λ k l. h k (omega arith)))

-- a vector with a number ends where the next one starts
pub next_place : (k n d : ℕ) → k < n → k * d + d ≤ n * d
next_place k n d h = let l : suc k * d ≤ n * d = mul-le-mul_right d h in omega (arith, suc-mul k d)

-- the vectors before the one that is written
vectors-kept : (d n : ℕ) (l v : List Float) → map (vector_at d (sets l (n * d) v)) (count_from 0 n) ≡ map (vector_at d l) (count_from 0 n)
vectors-kept d n l v =
    map_below (vector_at d (sets l (n * d) v)) (vector_at d l) 0 n
    (λ k j. part-sets-before (k * d) d l (n * d) v (next_place k n d (let i : k < n = omega arith in i)))

pub vectors_snoc : (d n : ℕ) (l v : List Float) → length v ≡ d → n * d + d ≤ length l
    → map (vector_at d (sets l (n * d) v)) (count_from 0 (n + 1)) ≡ map (vector_at d l) (count_from 0 n) ++ (v ∷ [])
vectors_snoc d n l v e h =
    let after = vector_at d (sets l (n * d) v) in
    let fits : n * d + length v ≤ length l = omega arith in
    let same : part (n * d) d (sets l (n * d) v) ≡ v = subst (λ (k : ℕ). part (n * d) k (sets l (n * d) v) ≡ v) e (part-sets-same l (n * d) v fits) in
    let last : after (0 + n) ≡ v = rw zero-add same in
    ap (λ (k : ℕ). map after (count_from 0 k)) (add-one n)
    ∙ ap (map after) (count_from_snoc 0 n)
    ∙ map-append after (count_from 0 n) ((0 + n) ∷ [])
    ∙ ap₂ ◌++◌ (vectors-kept d n l v) (ap (λ (x : List Float). x ∷ []) last)

pub part_grows : {A : Type 0} (l : List A) (s m : ℕ) (xs : List A) → s + m + length xs ≤ length l
    → part s (m + length xs) (sets l (s + m) xs) ≡ part s m l ++ xs
part_grows l s m xs h =
    sym (part-append-parts s m (length xs) (sets l (s + m) xs))
    ∙ ap₂ ◌++◌ (part-sets-before s m l (s + m) xs (let k : s + m ≤ s + m = omega arith in k)) (part-sets-same l (s + m) xs h)

-- ---- an accepted add grows what is held by its line

-- the live mark of the vector stands behind all other numbers that are held
pub mark-behind : (s : Shape) (vectors : ℕ) (numbers : List ℕ) (at count : ℕ) → at + count ≤ live_at s + vectors
    → part at count (with_mark s vectors numbers) ≡ part at count numbers
mark-behind s vectors numbers at count h = part-sets-before at count numbers (live_at s + vectors) (1 ∷ []) h

-- starts and lengths stand behind all but the live marks
pub labels-behind : (index : CuratorIndex) (call : AddCall) (numbers : List ℕ) (at count : ℕ) → at + count ≤ starts_at (index_shape index)
    → part at count (with_labels (index_shape index) index.counts call.names numbers) ≡ part at count numbers
unfolding with_labels
labels-behind index call numbers at count h =
    let e = index.counts.entries in
    let starts = starts_from index.counts.bytes call.names in
    part-sets-before at count (sets numbers (starts_at (index_shape index) + e) starts) (lengths_at (index_shape index) + e) (lengths_of_names call.names) (omega arith)
    ∙ part-sets-before at count numbers (starts_at (index_shape index) + e) starts (omega arith)

pub length-labels : (index : CuratorIndex) (call : AddCall) (numbers : List ℕ) → length (with_labels (index_shape index) index.counts call.names numbers) ≡ length numbers
unfolding with_labels
length-labels index call numbers =
    let e = index.counts.entries in
    let starts = starts_from index.counts.bytes call.names in
    length-sets (sets numbers (starts_at (index_shape index) + e) starts) (lengths_at (index_shape index) + e) (lengths_of_names call.names)
    ∙ length-sets numbers (starts_at (index_shape index) + e) starts

module _ (index : CuratorIndex) (store : Store) (call : AddCall) (store' : Store) (room : AddRoom index store call)
    (wrote : Wrote index store call store') where
  -- the numbers with the document id and the owners
  abbrev pub owned : List ℕ
  owned =
      sets (set store.numbers index.counts.vectors call.document) (owners_at (index_shape index) + index.counts.entries)
      (replicate (length call.names) index.counts.vectors)

  -- and with starts and lengths
  abbrev pub labelled : List ℕ
  labelled = with_labels (index_shape index) index.counts call.names owned

  -- what was written before the mark
  pub before-mark : (at count : ℕ) → at + count ≤ live_at (index_shape index) + index.counts.vectors → part at count store'.numbers ≡ part at count labelled
  before-mark at count h = ap (part at count) wrote.numbers ∙ mark-behind (index_shape index) index.counts.vectors labelled at count h

  pub length-owned : length owned ≡ length store.numbers
  length-owned =
      length-sets (set store.numbers index.counts.vectors call.document) (owners_at (index_shape index) + index.counts.entries)
      (replicate (length call.names) index.counts.vectors)
      ∙ length-set store.numbers index.counts.vectors call.document

  -- behind the owners nothing of them was written
  pub behind-owners : (at count : ℕ) → owners_at (index_shape index) + index.capacities.entries ≤ at → part at count owned ≡ part at count store.numbers
  behind-owners at count h =
      let n = index.counts.vectors in
      let k = length call.names in
      let many : length (replicate (length call.names) index.counts.vectors) ≡ length call.names = length-replicate (length call.names) n in
      part-sets-after at count (set store.numbers n call.document) (owners_at (index_shape index) + index.counts.entries) (replicate k n)
      (omega (arith, many, h, room.entries))
      ∙ part-set-before at count store.numbers n call.document (omega (arith, h, room.vectors))

  vectors_fit : index.counts.vectors * index.dimension + index.dimension ≤ length store.floats
  vectors_fit =
      let h = room.vectors in
      let parts = index.capacities.vectors + index.capacities.nodes + index.params.branching_factor in
      let next = next_place index.counts.vectors parts index.dimension (omega arith) in
      omega (arith, room.long.floats, mul_comm parts index.dimension)

  pub vectors-grown :
      held_vectors (grown index call.names) store' ≡ held_vectors index store ++ (wrote.stored ∷ [])
  unfolding held_vectors
  vectors-grown =
      ap (λ (l : List Float). map (vector_at index.dimension l) (count_from 0 (index.counts.vectors + 1))) wrote.floats
      ∙ vectors_snoc index.dimension index.counts.vectors store.floats wrote.stored
      (length-stored wrote.normalized ∙ room.dimension)
      vectors_fit

  pub documents-grown :
      held_documents (grown index call.names) store' ≡ held_documents index store ++ (call.document ∷ [])
  unfolding held_documents
  documents-grown =
      let h = room.vectors in
      let fits : index.counts.vectors < length store.numbers = omega (arith, room.long.numbers) in
      before-mark 0 (index.counts.vectors + 1) (omega arith)
      ∙ labels-behind index call owned 0 (index.counts.vectors + 1) (omega arith)
      ∙ part-sets-before 0 (index.counts.vectors + 1) (set store.numbers index.counts.vectors call.document)
      (owners_at (index_shape index) + index.counts.entries)
      (replicate (length call.names) index.counts.vectors)
      (omega arith)
      ∙ ap (λ (k : ℕ). take k (set store.numbers index.counts.vectors call.document)) (add-one index.counts.vectors)
      ∙ take-suc-set store.numbers index.counts.vectors call.document fits

  pub owners-grown :
      (held_entries (grown index call.names) store').owners
      ≡ (held_entries index store).owners ++ replicate (length call.names) index.counts.vectors
  unfolding held_entries
  owners-grown =
      let owners = replicate (length call.names) index.counts.vectors in
      let numbers = set store.numbers index.counts.vectors call.document in
      let many : length owners ≡ length call.names = length-replicate (length call.names) index.counts.vectors in
      let wide : length numbers ≡ length store.numbers = length-set store.numbers index.counts.vectors call.document in
      let start = owners_at (index_shape index) in
      let fits : start + index.counts.entries + length owners ≤ length numbers = omega (arith, room.long.numbers, room.entries) in
      ap (λ (k : ℕ). part (owners_at (index_shape index)) (index.counts.entries + k) store'.numbers) (sym many)
      ∙ before-mark start (index.counts.entries + length owners) (omega (arith, many, room.entries))
      ∙ labels-behind index call owned start (index.counts.entries + length owners) (omega (arith, many, room.entries))
      ∙ part_grows numbers (owners_at (index_shape index)) index.counts.entries owners fits
      ∙ ap (λ (l : List ℕ). l ++ owners)
      (part-set-before start index.counts.entries store.numbers index.counts.vectors call.document room.vectors)

  pub hashes-grown :
      (held_entries (grown index call.names) store').hashes
      ≡ (held_entries index store).hashes ++ hashes_of_labels call.names
  unfolding held_entries
  hashes-grown =
      let hashes = hashes_of_labels call.names in
      let many : length hashes ≡ length call.names = length-hashes_of_labels call.names in
      let fits : 0 + index.counts.entries + length hashes ≤ length store.hashes = omega (arith, room.long.hashes, room.entries) in
      ap₂ (λ (k : ℕ) (l : List ℕ). part 0 (index.counts.entries + k) l) (sym many)
      (wrote.hashes ∙ ap (λ (k : ℕ). sets store.hashes k hashes) (sym (zero-add index.counts.entries)))
      ∙ part_grows store.hashes 0 index.counts.entries hashes fits

  pub entries-grown :
      held_entries (grown index call.names) store'
      ≡ record {
        owners = (held_entries index store).owners ++ replicate (length call.names) index.counts.vectors;
        hashes = (held_entries index store).hashes ++ hashes_of_labels call.names;
      }
  entries-grown = λ i. record { owners = owners-grown i; hashes = hashes-grown i }

  pub starts-grown : held_starts (grown index call.names) store' ≡ held_starts index store ++ starts_from index.counts.bytes call.names
  unfolding held_starts with_labels
  starts-grown =
      let e = index.counts.entries in
      let k = length call.names in
      let start = starts_at (index_shape index) in
      let new = starts_from index.counts.bytes call.names in
      before-mark start (e + k) (omega (arith, room.entries))
      ∙ part-sets-before start (e + k) (sets owned (start + e) new) (lengths_at (index_shape index) + e) (lengths_of_names call.names) (omega (arith, room.entries))
      ∙ part-sets-grown start e owned new k (length-starts index.counts.bytes call.names) (omega (arith, length-owned, room.entries, room.long.numbers))
      ∙ ap (λ (l : List ℕ). l ++ new) (behind-owners start e (omega arith))

  pub lengths-grown : held_lengths (grown index call.names) store' ≡ held_lengths index store ++ lengths_of_names call.names
  unfolding held_lengths with_labels
  lengths-grown =
      let e = index.counts.entries in
      let k = length call.names in
      let start = lengths_at (index_shape index) in
      let before = sets owned (starts_at (index_shape index) + index.counts.entries) (starts_from index.counts.bytes call.names) in
      let new = lengths_of_names call.names in
      let long = length-sets owned (starts_at (index_shape index) + index.counts.entries) (starts_from index.counts.bytes call.names) in
      before-mark start (e + k) (omega (arith, room.entries))
      ∙ part-sets-grown start e before new k (length-lengths call.names) (omega (arith, long, length-owned, room.entries, room.long.numbers))
      ∙ ap (λ (l : List ℕ). l ++ new)
      (part-sets-after start e owned (starts_at (index_shape index) + e) (starts_from index.counts.bytes call.names)
      (omega (arith, length-starts index.counts.bytes call.names, room.entries))
      ∙ behind-owners start e (omega arith))

  pub text-grown : held_text (grown index call.names) store' ≡ held_text index store ++ bytes_of_names call.names
  unfolding held_text
  text-grown =
      let b = index.counts.bytes in
      let new = bytes_of_names call.names in
      ap (part 0 (b + length new)) (wrote.text ∙ ap (λ (k : ℕ). sets store.text k new) (sym (zero-add b)))
      ∙ part-sets-grown 0 b store.text new (length new) refl (omega (arith, room.text, room.long.text))

  -- what was held before stays
  starts-kept : held_starts index store' ≡ held_starts index store
  unfolding held_starts with_labels
  starts-kept =
      let e = index.counts.entries in
      let start = starts_at (index_shape index) in
      let new = starts_from index.counts.bytes call.names in
      before-mark start e (omega (arith, room.entries))
      ∙ part-sets-before start e (sets owned (start + e) new) (lengths_at (index_shape index) + e) (lengths_of_names call.names) (omega arith)
      ∙ part-sets-before start e owned (start + e) new (let k : start + e ≤ start + e = omega arith in k)
      ∙ behind-owners start e (omega arith)

  lengths-kept : held_lengths index store' ≡ held_lengths index store
  unfolding held_lengths with_labels
  lengths-kept =
      let e = index.counts.entries in
      let start = lengths_at (index_shape index) in
      let starts = starts_from index.counts.bytes call.names in
      before-mark start e (omega (arith, room.entries))
      ∙ part-sets-before start e (sets owned (starts_at (index_shape index) + e) starts) (start + e) (lengths_of_names call.names) (let k : start + e ≤ start + e = omega arith in k)
      ∙ part-sets-after start e owned (starts_at (index_shape index) + e) starts (omega (arith, length-starts index.counts.bytes call.names, room.entries))
      ∙ behind-owners start e (omega arith)

  -- starts and lengths stand before the marks
  before-marks : (at count : ℕ) → live_at (index_shape index) ≤ at → part at count labelled ≡ part at count store.numbers
  unfolding with_labels
  before-marks at count h =
      let e = index.counts.entries in
      let starts = starts_from index.counts.bytes call.names in
      part-sets-after at count (sets owned (starts_at (index_shape index) + e) starts) (lengths_at (index_shape index) + e) (lengths_of_names call.names)
      (omega (arith, h, length-lengths call.names, room.entries))
      ∙ part-sets-after at count owned (starts_at (index_shape index) + e) starts (omega (arith, h, length-starts index.counts.bytes call.names, room.entries))
      ∙ behind-owners at count (omega (arith, h))

  pub marks-grown : held_marks (grown index call.names) store' ≡ held_marks index store ++ (1 ∷ [])
  unfolding held_marks
  marks-grown =
      let n = index.counts.vectors in
      let at = live_at (index_shape index) in
      ap (part at (n + 1)) wrote.numbers
      ∙ part-sets-grown at n labelled (1 ∷ []) 1 refl (omega (arith, length-labels index call owned, length-owned, room.vectors, room.long.numbers))
      ∙ ap (λ (l : List ℕ). l ++ (1 ∷ [])) (before-marks at n (omega arith))

  marks-kept : held_marks index store' ≡ held_marks index store
  unfolding held_marks
  marks-kept =
      before-mark (live_at (index_shape index)) index.counts.vectors (omega arith) ∙ before-marks (live_at (index_shape index)) index.counts.vectors (omega arith)

  text-kept : held_text index store' ≡ held_text index store
  unfolding held_text
  text-kept =
      ap (part 0 index.counts.bytes) wrote.text
      ∙ part-sets-before 0 index.counts.bytes store.text index.counts.bytes (bytes_of_names call.names) (omega arith)

  pub held_kept : SameOfIndex index store' store
  unfolding held_vectors held_documents held_entries
  held_kept =
      let n = index.counts.vectors in
      let e = index.counts.entries in
      let start = owners_at (index_shape index) in
      let owners = replicate (length call.names) n in
      let numbers = set store.numbers n call.document in
      let owners-kept : part start e store'.numbers ≡ part start e store.numbers =
      before-mark start e (omega (arith, room.entries)) ∙ labels-behind index call owned start e (omega (arith, room.entries))
      ∙ part-sets-before start e numbers (start + e) owners (let k : start + e ≤ start + e = omega arith in k)
      ∙ part-set-before start e store.numbers n call.document room.vectors in
      let hashed : part 0 e store'.hashes ≡ part 0 e store.hashes =
      ap (part 0 e) wrote.hashes ∙ part-sets-before 0 e store.hashes e (hashes_of_labels call.names) (omega arith) in
      record {
        vectors =
            ap (λ (l : List Float). map (vector_at index.dimension l) (count_from 0 n)) wrote.floats
            ∙ vectors-kept index.dimension n store.floats wrote.stored;
        documents =
            before-mark 0 n (omega (arith, room.vectors)) ∙ labels-behind index call owned 0 n (omega (arith, room.vectors)) ∙ part-sets-before 0 n numbers (start + e) owners (omega (arith, room.vectors))
            ∙ take-set-le n store.numbers n call.document (omega arith);
        entries = λ i. record { owners = owners-kept i; hashes = hashed i };
        starts = starts-kept;
        lengths = lengths-kept;
        text = text-kept;
        marks = marks-kept;
      }

-- the lists keep their lengths
pub wrote-lengths : (index : CuratorIndex) (store : Store) (call : AddCall) (store' : Store) → Wrote index store call store' → lengths_of store ≡ lengths_of store'
wrote-lengths index store call store' wrote =
    let n = index.counts.vectors in
    let one = set store.numbers n call.document in
    let at = owners_at (index_shape index) + index.counts.entries in
    let f = sym (ap length wrote.floats ∙ length-sets store.floats (n * index.dimension) wrote.stored) in
    let o =
    sym (ap length wrote.numbers
    ∙ length-set (with_labels (index_shape index) index.counts call.names (sets one at (replicate (length call.names) n))) (live_at (index_shape index) + n) 1
    ∙ length-labels index call (sets one at (replicate (length call.names) n)) ∙ length-sets one at (replicate (length call.names) n)
    ∙ length-set store.numbers n call.document) in
    let h = sym (ap length wrote.hashes ∙ length-sets store.hashes index.counts.entries (hashes_of_labels call.names)) in
    let t = sym (ap length wrote.text ∙ length-sets store.text index.counts.bytes (bytes_of_names call.names)) in
    λ i. record { floats = f i; numbers = o i; hashes = h i; text = t i }

-- ---- the result of an add is a function of state, store and call

-- the store that an accepted add leaves
unfoldable pub added : CuratorIndex → Store → AddCall → Store
unfolding normalized hashes_of_labels with_labels bytes_of_names
added index store call =
    record {
      floats = sets store.floats (index.counts.vectors * index.dimension) (normalized call.vector);
      numbers =
          with_mark (index_shape index) index.counts.vectors
          (with_labels (index_shape index) index.counts call.names
          (sets (set store.numbers index.counts.vectors call.document) (owners_at (index_shape index) + index.counts.entries)
          (replicate (length call.names) index.counts.vectors)));
      hashes = sets store.hashes index.counts.entries (hashes_of_labels call.names);
      text = sets store.text index.counts.bytes (bytes_of_names call.names);
    }

pub stored_is : (index : CuratorIndex) (store : Store) (call : AddCall) (store' : Store) (wrote : Wrote index store call store')
    → wrote.stored ≡ normalized call.vector
stored_is index store call store' wrote = normalized-is call.vector wrote.stored wrote.normalized

pub wrote-added : (index : CuratorIndex) (store : Store) (call : AddCall) (store' : Store) → Wrote index store call store'
    → store' ≡ added index store call
unfolding added
wrote-added index store call store' w =
    let floats =
    w.floats
    ∙ ap (λ (v : List Float). sets store.floats (index.counts.vectors * index.dimension) v) (stored_is index store call store' w) in
    λ i. record { floats = floats i; numbers = w.numbers i; hashes = w.hashes i; text = w.text i }

pub added-wrote : (index : CuratorIndex) (store : Store) (call : AddCall) → Wrote index store call (added index store call)
unfolding added
added-wrote index store call =
    record {
      stored = normalized call.vector;
      normalized = normalized-holds call.vector;
      floats = refl;
      numbers = refl;
      hashes = refl;
      text = refl;
    }

-- what an add answers, and the store that it leaves, by what its check comes to
abbrev pub added_answer : Result ⊤ Refusal → CuratorIndex → AddCall → Result CuratorIndex Refusal
added_answer (Ok _) index call = Ok (grown index call.names)
added_answer (Err r) index call = Err r

abbrev pub added_store : Result ⊤ Refusal → CuratorIndex → Store → AddCall → Store
added_store (Ok _) index store call = added index store call
added_store (Err r) index store call = store

pub adds-is : (index : CuratorIndex) (store : Store) (call : AddCall) (answer : Result CuratorIndex Refusal) (store' : Store) → Adds index store call answer store'
    → (answer ≡ added_answer (add_check index store call) index call) × (store' ≡ added_store (add_check index store call) index store call)
unfolding Adds AddsBy
adds-is index store call answer store' h = by (add_check index store call) h
  where
    by : (check : Result ⊤ Refusal) → AddsBy check index store call answer store'
        → (answer ≡ added_answer check index call) × (store' ≡ added_store check index store call)
    by (Ok _) (e, w) = (carried-is (grown index call.names) answer e, wrote-added index store call store' w)
    by (Err r) (e, same) = (refused_is r answer e, same)

-- every call has a result
pub adds_has : (index : CuratorIndex) (store : Store) (call : AddCall)
    → Adds index store call (added_answer (add_check index store call) index call) (added_store (add_check index store call) index store call)
unfolding Adds AddsBy
adds_has index store call = by (add_check index store call)
  where
    by : (check : Result ⊤ Refusal) → AddsBy check index store call (added_answer check index call) (added_store check index store call)
    by (Ok _) = (is_carried (grown index call.names) (added_answer (Ok tt) index call) refl, added-wrote index store call)
    by (Err r) = (is_refused r (Err r) refl, refl)

-- ---- 'Parts past the counts held are never read'

-- an add is refused, or not, by the lengths alone
pub add-check-same : (index : CuratorIndex) (s t : Store) (call : AddCall) → lengths_of s ≡ lengths_of t → add_check index s call ≡ add_check index t call
unfolding add_check
add-check-same index s t call h =
    ap (λ (l : Lengths). first_of (state_row (state_sound index) ∷ add_rows (facts_of index) l call)) h

-- the state from now on
abbrev pub state_after : CuratorIndex → Result CuratorIndex Refusal → CuratorIndex
state_after index (Ok next) = next
state_after index (Err r) = index

grown-same : (index : CuratorIndex) (s t : Store) (call : AddCall) → SameOfIndex index s t → AddRoom index s call → AddRoom index t call
    → SameOfIndex (grown index call.names) (added index s call) (added index t call)
grown-same index s t call h r q =
    let w = added-wrote index s call in
    let v = added-wrote index t call in
    let same : w.stored ≡ v.stored = stored_is index s call _ w ∙ sym (stored_is index t call _ v) in
    record {
      vectors =
          vectors-grown index s call _ r w
          ∙ ap₂ (λ (a : List (List Float)) (b : List Float). a ++ (b ∷ [])) h.vectors same
          ∙ sym (vectors-grown index t call _ q v);
      documents =
          documents-grown index s call _ r w ∙ ap (λ (a : List ℕ). a ++ (call.document ∷ [])) h.documents
          ∙ sym (documents-grown index t call _ q v);
      entries =
          entries-grown index s call _ r w
          ∙ ap
          (λ (e : Entries).
          record {
            owners = e.owners ++ replicate (length call.names) index.counts.vectors;
            hashes = e.hashes ++ hashes_of_labels call.names;
          })
          h.entries
          ∙ sym (entries-grown index t call _ q v);
      starts =
          starts-grown index s call _ r w ∙ ap (λ (a : List ℕ). a ++ starts_from index.counts.bytes call.names) h.starts
          ∙ sym (starts-grown index t call _ q v);
      lengths =
          lengths-grown index s call _ r w ∙ ap (λ (a : List ℕ). a ++ lengths_of_names call.names) h.lengths ∙ sym (lengths-grown index t call _ q v);
      text = text-grown index s call _ r w ∙ ap (λ (a : List ℕ). a ++ bytes_of_names call.names) h.text ∙ sym (text-grown index t call _ q v);
      marks = marks-grown index s call _ r w ∙ ap (λ (a : List ℕ). a ++ (1 ∷ [])) h.marks ∙ sym (marks-grown index t call _ q v);
    }

-- stores that agree on what is held give the same answer, are written alike, and agree afterwards on what is held
pub adds_same : (index : CuratorIndex) (s t : Store) (call : AddCall) (a b : Result CuratorIndex Refusal) (s' t' : Store) → lengths_of s ≡ lengths_of t → SameOfIndex index s t
    → Adds index s call a s' → Adds index t call b t' → (a ≡ b) × SameOfIndex (state_after index a) s' t'
adds_same index s t call a b s' t' l h x y =
    let check = add-check-same index s t call l in
    let (e, f) = adds-is index s call a s' x in
    let (g, k) = adds-is index t call b t' y in
    let g' : b ≡ added_answer (add_check index s call) index call = g ∙ ap (λ (c : Result ⊤ Refusal). added_answer c index call) (sym check) in
    let k' : t' ≡ added_store (add_check index s call) index t call = k ∙ ap (λ (c : Result ⊤ Refusal). added_store c index t call) (sym check) in
    (e ∙ sym g', rw (e, f, k') (after (add_check index s call) refl (sym check)))
  where
    after : (c : Result ⊤ Refusal) → add_check index s call ≡ c → add_check index t call ≡ c
        → SameOfIndex (state_after index (added_answer c index call)) (added_store c index s call) (added_store c index t call)
    after (Ok _) m n = grown-same index s t call h (add_facts index s call m).room (add_facts index t call n).room
    after (Err r) m n = h
