-- What the lists hold of the rows: vectors, document ids, owners and hashes, starts, lengths and bytes of labels, live marks. They depend on the fronts of the
-- lists that stand before the node parts, on the starts, lengths and marks behind them, and on the label text, so a build, refused or not, leaves them; an
-- accepted add writes one row more, behind those held.
use Rattle.std.specs.Prelude.{ℕ, suc, ◌+◌, ◌*◌, ◌≤◌, ◌<◌, cond, ◌≡◌, refl, Float, length, get_or, set, drop, replicate}
use Rattle.std.proofs.Common.{zero-add, add-zero, mul_comm, mul-add, le_refl, suc-mul, mul-le-mul_right, add-one, arith, sym, ap₂, ◌∙◌, subst, length-append, length-set}
use mathlib.Core.List.Memᴰ
use mathlib.Core.List.{List, [], ◌∷◌, ◌++◌, map, map-append, append-nil, append_assoc, Memᴰ}
use Rattle.std.proofs.Math.Path.{ap}
use Rattle.std.proofs.lemmas.List.{length-map, length-replicate}
use Rattle.std.proofs.lemmas.List.Edits.{sets}
use Rattle.lists.specs.Lists.{part, count_from, joined}
use Rattle.lists.specs.Maps.{map_on, Memᴰ-replicate}
use Rattle.lists.specs.Counting.{count_from_snoc, Memᴰ-count_from, joined_snoc, get_d_Memᴰ}
use Rattle.lists.specs.Parts.{part-sets-same, part-sets-before, part-sets-grown, part-set-before}
use Rattle.lists.specs.Tests.{either}
use Rattle.vector.specs.Normalized.{normalized, normalized-is, length-normalized}
use Rattle.store.specs.declared.Lengths.{Lengths}
use Rattle.store.specs.Store.{Store, vector_at, centroids_at, order_at, starts_at, lengths_at, live_at, filters_at, live_marks}
use Rattle.store.specs.Lent.{lengths_of, sizes_of, NoShorter, join_stores}
use Rattle.store.specs.Agree.{Agree, agree_sym, agree_join, part_same, part-front, take_less}
use Rattle.label.specs.Names.{hashes_of_labels, starts_from, lengths_of_names, bytes_of_names}
use Rattle.label.specs.TextLaws.{starts-append, lengths-append, bytes-append}
use Rattle.curator.specs.Calls.{held_vectors, held_documents, held_entries, held_starts, held_lengths, held_text, held_marks}
use Rattle.curator.proofs.HeldLaws.{before-mark, labels-behind, owned, starts-grown, lengths-grown, text-grown, marks-grown}
use Rattle.curator.specs.Changes.{Wrote}
use Rattle.curator.specs.Arguments.{AddCall}
use Rattle.curator.specs.Lent.{AddRoom}
use Rattle.label.specs.NameLaws.{length-hashes_of_labels}
use Rattle.runs.specs.Model.{Setting, Model, ModelRow, empty_model, hashes_in, row_vectors, row_hashes, row_documents, row_names, row_bytes, owners_from, row_entries, new_row, setting_shape}
use Rattle.runs.proofs.State.{state_for, Within}

-- the live mark of a row: 'add writes 1' and a withdrawal 0 (02, K10)
abbrev pub live_mark : ModelRow → ℕ
live_mark r = cond r.live 1 0

pub record Held (s : Setting) (m : Model) (store : Store) : Type 0 where
  pub vectors : map (vector_at s.dimension store.floats) (count_from 0 (length m.rows)) ≡ row_vectors m
  pub documents : part 0 (length m.rows) store.numbers ≡ map (λ r. r.document) m.rows
  pub owners : part s.capacities.vectors (length (row_hashes m)) store.numbers ≡ owners_from 0 m.rows
  pub hashes : part 0 (length (row_hashes m)) store.hashes ≡ row_hashes m
  pub starts : part (starts_at (setting_shape s)) (length (row_hashes m)) store.numbers ≡ starts_from 0 (row_names m)
  pub lengths : part (lengths_at (setting_shape s)) (length (row_hashes m)) store.numbers ≡ lengths_of_names (row_names m)
  pub text : part 0 (row_bytes m) store.text ≡ bytes_of_names (row_names m)
  pub live : live_marks (setting_shape s) (length m.rows) store.numbers ≡ map live_mark m.rows

-- the fronts that it depends on: up to the centroids, the leaf order, the filters, and all of the label text
abbrev pub rows_end : Setting → Lengths
rows_end s =
    record {
      floats = centroids_at (setting_shape s);
      numbers = order_at (setting_shape s);
      hashes = filters_at (setting_shape s);
      text = s.capacities.text;
    }

-- and the starts, lengths and live marks behind them
pub record SameRows (s : Setting) (store store' : Store) : Type 0 where
  pub fronts : Agree (rows_end s) store store'
  pub starts : part (starts_at (setting_shape s)) s.capacities.entries store.numbers ≡ part (starts_at (setting_shape s)) s.capacities.entries store'.numbers
  pub lengths : part (lengths_at (setting_shape s)) s.capacities.entries store.numbers ≡ part (lengths_at (setting_shape s)) s.capacities.entries store'.numbers
  pub live : live_marks (setting_shape s) s.capacities.vectors store.numbers ≡ live_marks (setting_shape s) s.capacities.vectors store'.numbers

pub rows_sym : (s : Setting) (store store' : Store) → SameRows s store store' → SameRows s store' store
rows_sym s store store' same = record { fronts = agree_sym same.fronts; starts = sym same.starts; lengths = sym same.lengths; live = sym same.live }

-- two fronts of the same lengths that agree so, each with the same rest behind it
pub rows_join : (s : Setting) (front front' rest : Store) → lengths_of front ≡ lengths_of front' → SameRows s front front'
    → SameRows s (join_stores front rest) (join_stores front' rest)
rows_join s front front' rest l same =
    let sh = setting_shape s in
    let e = s.capacities.entries in
    let n = ap (λ (k : Lengths). k.numbers) l in
    record {
      fronts = agree_join (rows_end s) front front' rest l same.fronts;
      starts = part-front (starts_at sh) e front.numbers front'.numbers rest.numbers n same.starts;
      lengths = part-front (lengths_at sh) e front.numbers front'.numbers rest.numbers n same.lengths;
      live = part-front (live_at sh) s.capacities.vectors front.numbers front'.numbers rest.numbers n same.live;
    }

-- they end within the sizes
pub rows-within : (s : Setting) → NoShorter (rows_end s) (sizes_of (setting_shape s))
rows-within s =
    let d = s.dimension in
    let c = s.capacities in
    let p = mul-add d (c.vectors + c.nodes) s.params.branching_factor in
    let q = mul-add d c.vectors c.nodes in
    record { floats = omega arith; numbers = omega arith; hashes = omega arith; text = omega arith }

-- the places of a vector that is held
pub vector_places : (i n d v : ℕ) → i < n → n ≤ v → i * d + d ≤ d * v
vector_places i n d v h g =
    let e : suc i * d ≡ i * d + d = suc-mul i d in
    let up : suc i * d ≤ v * d = mul-le-mul_right d (let t : suc i ≤ v = omega arith in t) in
    let c : v * d ≡ d * v = mul_comm v d in
    omega arith

pub held_same : (s : Setting) (m : Model) (store store' : Store) → Within s m → SameRows s store store' → Held s m store → Held s m store'
held_same s m store store' w same h =
    let a = same.fronts in
    let sh = setting_shape s in
    let d = s.dimension in
    let n = length m.rows in
    let c = s.capacities in
    let inE : 0 + length (row_hashes m) ≤ c.entries = omega (arith, w.entries) in
    let inV : 0 + n ≤ c.vectors + c.entries = omega (arith, w.vectors) in
    let in_o : c.vectors + length (row_hashes m) ≤ c.vectors + c.entries = omega (arith, w.entries) in
    record {
      vectors =
          map_on (vector_at d store'.floats) (vector_at d store.floats) (count_from 0 n)
          (λ i k. sym (part_same (i * d) d (d * c.vectors) store.floats store'.floats
          (vector_places i n d c.vectors (let r = Memᴰ-count_from i 0 n k in let t : i < n = omega (arith, r.1) in t) w.vectors) a.floats))
          ∙ h.vectors;
      documents = sym (part_same 0 n (c.vectors + c.entries) store.numbers store'.numbers inV a.numbers) ∙ h.documents;
      owners = sym (part_same c.vectors (length (row_hashes m)) (c.vectors + c.entries) store.numbers store'.numbers in_o a.numbers)
          ∙ h.owners;
      hashes = sym (part_same 0 (length (row_hashes m)) c.entries store.hashes store'.hashes inE a.hashes) ∙ h.hashes;
      starts =
          sym (take_less (length (row_hashes m)) c.entries (drop (starts_at sh) store.numbers) (drop (starts_at sh) store'.numbers) w.entries same.starts)
          ∙ h.starts;
      lengths =
          sym (take_less (length (row_hashes m)) c.entries (drop (lengths_at sh) store.numbers) (drop (lengths_at sh) store'.numbers) w.entries same.lengths)
          ∙ h.lengths;
      text = sym (part_same 0 (row_bytes m) c.text store.text store'.text (omega (arith, w.bytes)) a.text) ∙ h.text;
      live = sym (take_less n c.vectors (drop (live_at sh) store.numbers) (drop (live_at sh) store'.numbers) w.vectors same.live) ∙ h.live;
    }

-- nothing is held of no row
pub held_empty : (s : Setting) (store : Store) → Held s empty_model store
unfolding count_from row_vectors row_hashes row_names row_bytes owners_from joined starts_from lengths_of_names bytes_of_names
held_empty s store =
    record { vectors = refl; documents = refl; owners = refl; hashes = refl; starts = refl; lengths = refl; text = refl; live = refl }

-- what a state of the model holds, as build reads it
pub held-vectors : (s : Setting) (m : Model) (store : Store) → Held s m store → held_vectors (state_for s m) store ≡ row_vectors m
unfolding held_vectors
held-vectors s m store h = h.vectors

pub held-documents : (s : Setting) (m : Model) (store : Store) → Held s m store → held_documents (state_for s m) store ≡ row_documents m
unfolding held_documents row_documents
held-documents s m store h = h.documents

pub held-marks : (s : Setting) (m : Model) (store : Store) → Held s m store → held_marks (state_for s m) store ≡ map live_mark m.rows
unfolding held_marks
held-marks s m store h = h.live

pub held-entries : (s : Setting) (m : Model) (store : Store) → Held s m store → held_entries (state_for s m) store ≡ row_entries m
unfolding held_entries row_entries
held-entries s m store h = λ i. record { owners = h.owners i; hashes = h.hashes i }

-- ---- one row more

-- the model with a row at its end
abbrev pub with_row : Model → ModelRow → Model
with_row m r = record { rows = m.rows ++ (r ∷ []); built = m.built }

pub length-rows : (m : Model) (r : ModelRow) → length (with_row m r).rows ≡ suc (length m.rows)
length-rows m r = length-append m.rows (r ∷ []) ∙ (let e : length m.rows + 1 ≡ suc (length m.rows) = omega arith in e)

pub vectors-more : (m : Model) (r : ModelRow) → row_vectors (with_row m r) ≡ row_vectors m ++ (r.vector ∷ [])
unfolding row_vectors
vectors-more m r = map-append (λ t. t.vector) m.rows (r ∷ [])

pub hashes-more : (m : Model) (r : ModelRow) → row_hashes (with_row m r) ≡ row_hashes m ++ hashes_in r
unfolding row_hashes
hashes-more m r = joined_snoc hashes_in m.rows r

pub names_more : (m : Model) (r : ModelRow) → row_names (with_row m r) ≡ row_names m ++ r.names
unfolding row_names
names_more m r = joined_snoc (λ t. t.names) m.rows r

pub text-more : (m : Model) (r : ModelRow) → bytes_of_names (row_names (with_row m r)) ≡ bytes_of_names (row_names m) ++ bytes_of_names r.names
text-more m r = ap bytes_of_names (names_more m r) ∙ bytes-append (row_names m) r.names

pub bytes-more : (m : Model) (r : ModelRow) → row_bytes (with_row m r) ≡ row_bytes m + length (bytes_of_names r.names)
unfolding row_bytes
bytes-more m r = ap length (text-more m r) ∙ length-append (bytes_of_names (row_names m)) (bytes_of_names r.names)

pub starts_more : (m : Model) (r : ModelRow) → starts_from 0 (row_names (with_row m r)) ≡ starts_from 0 (row_names m) ++ starts_from (row_bytes m) r.names
unfolding row_bytes
starts_more m r =
    ap (starts_from 0) (names_more m r) ∙ starts-append 0 (row_names m) r.names
    ∙ ap (λ (k : ℕ). starts_from 0 (row_names m) ++ starts_from k r.names) (zero-add (length (bytes_of_names (row_names m))))

pub lengths-more : (m : Model) (r : ModelRow) → lengths_of_names (row_names (with_row m r)) ≡ lengths_of_names (row_names m) ++ lengths_of_names r.names
lengths-more m r = ap lengths_of_names (names_more m r) ∙ lengths-append (row_names m) r.names

owners_snoc : (i : ℕ) (rows : List ModelRow) (r : ModelRow)
    → owners_from i (rows ++ (r ∷ [])) ≡ owners_from i rows ++ replicate (length (hashes_in r)) (i + length rows)
unfolding owners_from
owners_snoc i [] r = append-nil (replicate (length (hashes_in r)) i) ∙ ap (replicate (length (hashes_in r))) (sym (add-zero i))
owners_snoc i (t ∷ rows) r =
    let e : suc i + length rows ≡ i + suc (length rows) = omega arith in
    ap (λ (l : List ℕ). replicate (length (hashes_in t)) i ++ l) (owners_snoc (suc i) rows r ∙ ap (λ (k : ℕ). owners_from (suc i) rows ++ replicate (length (hashes_in r)) k) e)
    ∙ sym (append_assoc (replicate (length (hashes_in t)) i) (owners_from (suc i) rows) (replicate (length (hashes_in r)) (i + suc (length rows))))

pub owners-more : (m : Model) (r : ModelRow)
    → owners_from 0 (with_row m r).rows ≡ owners_from 0 m.rows ++ replicate (length (hashes_in r)) (length m.rows)
owners-more m r = owners_snoc 0 m.rows r ∙ ap (λ (k : ℕ). owners_from 0 m.rows ++ replicate (length (hashes_in r)) k) (zero-add (length m.rows))

-- one hash a label
pub count-more : (m : Model) (call : AddCall) → length (row_hashes (with_row m (new_row call))) ≡ length (row_hashes m) + length call.names
count-more m call =
    ap length (hashes-more m (new_row call)) ∙ length-append (row_hashes m) (hashes_in (new_row call))
    ∙ ap (λ (k : ℕ). length (row_hashes m) + k) (length-hashes_of_labels call.names)

module _ (s : Setting) (m : Model) (call : AddCall) (store store' : Store) (room : AddRoom (state_for s m) store call)
    (wrote : Wrote (state_for s m) store call store') where
  stored_is : wrote.stored ≡ normalized call.vector
  stored_is = normalized-is call.vector wrote.stored wrote.normalized

  stored-long : length wrote.stored ≡ s.dimension
  stored-long = ap length stored_is ∙ length-normalized call.vector ∙ room.dimension

  added-vectors : (d n : ℕ) → s.dimension ≡ d → length m.rows ≡ n → map (vector_at d store.floats) (count_from 0 n) ≡ row_vectors m
      → map (vector_at d store'.floats) (count_from 0 (suc n)) ≡ row_vectors m ++ (normalized call.vector ∷ [])
  added-vectors d n ed en h =
      let written : store'.floats ≡ sets store.floats (n * d) wrote.stored =
      wrote.floats ∙ ap₂ (λ (a b : ℕ). sets store.floats (a * b) wrote.stored) en ed in
      let long : length wrote.stored ≡ d = stored-long ∙ ed in
      let fits : n * d + d ≤ length store.floats =
      (let p = vector_places n (suc n) d s.capacities.vectors (le_refl (suc n)) (omega (arith, room.vectors)) in
      let f : d * s.capacities.vectors ≤ length store.floats =
      subst (λ (x : ℕ). x * s.capacities.vectors ≤ length store.floats) ed (omega (arith, (rows-within s).floats, room.long.floats)) in
      omega (arith, p, f)) in
      let old : map (vector_at d store'.floats) (count_from 0 n) ≡ row_vectors m =
      map_on (vector_at d store'.floats) (vector_at d store.floats) (count_from 0 n)
      (λ i k. ap (λ (l : List Float). vector_at d l i) written
      ∙ part-sets-before (i * d) d store.floats (n * d) wrote.stored
      (let r = Memᴰ-count_from i 0 n k in let p = vector_places i n d n (omega (arith, r.1)) (le_refl n) in let c = mul_comm d n in omega (arith, p, c)))
      ∙ h in
      let new : vector_at d store'.floats (0 + n) ≡ normalized call.vector =
      ap (λ (k : ℕ). vector_at d store'.floats k) (zero-add n) ∙ ap (λ (l : List Float). part (n * d) d l) written
      ∙ ap (λ (k : ℕ). part (n * d) k (sets store.floats (n * d) wrote.stored)) (sym long)
      ∙ part-sets-same store.floats (n * d) wrote.stored (omega (arith, fits, long)) ∙ stored_is in
      ap (map (vector_at d store'.floats)) (count_from_snoc 0 n) ∙ map-append (vector_at d store'.floats) (count_from 0 n) ((0 + n) ∷ [])
      ∙ ap₂ (λ (a : List (List Float)) (b : List Float). a ++ (b ∷ [])) old new

  added-documents : (n : ℕ) → length m.rows ≡ n → part 0 n store.numbers ≡ map (λ r. r.document) m.rows
      → part 0 (suc n) store'.numbers ≡ map (λ r. r.document) m.rows ++ (call.document ∷ [])
  added-documents n en h =
      let L = replicate (length call.names) (length m.rows) in
      let at = s.capacities.vectors + length (row_hashes m) in
      let one = sets store.numbers n (call.document ∷ []) in
      let small : 0 + suc n ≤ at = omega (arith, room.vectors, en) in
      before-mark (state_for s m) store call store' room wrote 0 (suc n) (omega (arith, room.vectors, en))
      ∙ labels-behind (state_for s m) call (owned (state_for s m) store call store' room wrote) 0 (suc n) (omega (arith, room.vectors, en))
      ∙ part-sets-before 0 (suc n) (set store.numbers (length m.rows) call.document) at L small
      ∙ ap (λ (k : ℕ). part 0 (suc n) (set store.numbers k call.document)) en
      ∙ ap₂ (λ (a b : ℕ). part 0 a (sets store.numbers b (call.document ∷ []))) (let e : suc n ≡ n + 1 = omega arith in e) (sym (zero-add n))
      ∙ part-sets-grown 0 n store.numbers (call.document ∷ []) 1 refl (omega (arith, room.vectors, room.long.numbers, en))
      ∙ ap (λ (l : List ℕ). l ++ (call.document ∷ [])) h

  added-owners : part s.capacities.vectors (length (row_hashes m)) store.numbers ≡ owners_from 0 m.rows
      → part s.capacities.vectors (length (row_hashes m) + length call.names) store'.numbers
      ≡ owners_from 0 m.rows ++ replicate (length call.names) (length m.rows)
  added-owners h =
      let v = s.capacities.vectors in
      let e = length (row_hashes m) in
      let L = replicate (length call.names) (length m.rows) in
      let n = length m.rows in
      before-mark (state_for s m) store call store' room wrote v (e + length call.names) (omega (arith, room.entries))
      ∙ labels-behind (state_for s m) call (owned (state_for s m) store call store' room wrote) v (e + length call.names) (omega (arith, room.entries))
      ∙ part-sets-grown v e (set store.numbers n call.document) L (length call.names) (length-replicate (length call.names) n)
      (let t : v + e + length call.names ≤ length (set store.numbers n call.document) =
      omega (arith, room.entries, room.long.numbers, length-set store.numbers n call.document) in t)
      ∙ ap (λ (l : List ℕ). l ++ L) (part-set-before v e store.numbers n call.document room.vectors ∙ h)

  added-hashes : part 0 (length (row_hashes m)) store.hashes ≡ row_hashes m
      → part 0 (length (row_hashes m) + length call.names) store'.hashes ≡ row_hashes m ++ hashes_of_labels call.names
  added-hashes h =
      let e = length (row_hashes m) in
      let hs = hashes_of_labels call.names in
      ap (λ (l : List ℕ). part 0 (e + length call.names) l) wrote.hashes
      ∙ ap (λ (k : ℕ). part 0 (e + length call.names) (sets store.hashes k hs)) (sym (zero-add e))
      ∙ part-sets-grown 0 e store.hashes hs (length call.names) (length-hashes_of_labels call.names) (omega (arith, room.entries, room.long.hashes))
      ∙ ap (λ (l : List ℕ). l ++ hs) h

  added-starts : part (starts_at (setting_shape s)) (length (row_hashes m)) store.numbers ≡ starts_from 0 (row_names m)
      → part (starts_at (setting_shape s)) (length (row_hashes m) + length call.names) store'.numbers ≡ starts_from 0 (row_names m) ++ starts_from (row_bytes m) call.names
  unfolding held_starts
  added-starts h = starts-grown (state_for s m) store call store' room wrote ∙ ap (λ (l : List ℕ). l ++ starts_from (row_bytes m) call.names) h

  added-lengths : part (lengths_at (setting_shape s)) (length (row_hashes m)) store.numbers ≡ lengths_of_names (row_names m)
      → part (lengths_at (setting_shape s)) (length (row_hashes m) + length call.names) store'.numbers ≡ lengths_of_names (row_names m) ++ lengths_of_names call.names
  unfolding held_lengths
  added-lengths h = lengths-grown (state_for s m) store call store' room wrote ∙ ap (λ (l : List ℕ). l ++ lengths_of_names call.names) h

  added-text : part 0 (row_bytes m) store.text ≡ bytes_of_names (row_names m)
      → part 0 (row_bytes m + length (bytes_of_names call.names)) store'.text ≡ bytes_of_names (row_names m) ++ bytes_of_names call.names
  unfolding held_text
  added-text h = text-grown (state_for s m) store call store' room wrote ∙ ap (λ (l : List ℕ). l ++ bytes_of_names call.names) h

  added-live : live_marks (setting_shape s) (length m.rows) store.numbers ≡ map live_mark m.rows
      → live_marks (setting_shape s) (suc (length m.rows)) store'.numbers ≡ map live_mark m.rows ++ (1 ∷ [])
  unfolding held_marks
  added-live h =
      ap (λ (k : ℕ). live_marks (setting_shape s) k store'.numbers) (sym (add-one (length m.rows)))
      ∙ marks-grown (state_for s m) store call store' room wrote ∙ ap (λ (l : List ℕ). l ++ (1 ∷ [])) h

  pub held-added : Held s m store → Held s (with_row m (new_row call)) store'
  held-added h =
      let r = new_row call in
      let count = count-more m call in
      record {
        vectors =
            ap (λ (k : ℕ). map (vector_at s.dimension store'.floats) (count_from 0 k)) (length-rows m r)
            ∙ added-vectors s.dimension (length m.rows) refl refl h.vectors ∙ sym (vectors-more m r);
        documents =
            ap (λ (k : ℕ). part 0 k store'.numbers) (length-rows m r) ∙ added-documents (length m.rows) refl h.documents
            ∙ sym (map-append (λ t. t.document) m.rows (r ∷ []));
        owners =
            ap (λ (k : ℕ). part s.capacities.vectors k store'.numbers) count ∙ added-owners h.owners
            ∙ ap (λ (k : ℕ). owners_from 0 m.rows ++ replicate k (length m.rows)) (sym (length-hashes_of_labels call.names))
            ∙ sym (owners-more m r);
        hashes = ap (λ (k : ℕ). part 0 k store'.hashes) count ∙ added-hashes h.hashes ∙ sym (hashes-more m r);
        starts = ap (λ (k : ℕ). part (starts_at (setting_shape s)) k store'.numbers) count ∙ added-starts h.starts ∙ sym (starts_more m r);
        lengths = ap (λ (k : ℕ). part (lengths_at (setting_shape s)) k store'.numbers) count ∙ added-lengths h.lengths ∙ sym (lengths-more m r);
        text = ap (λ (k : ℕ). part 0 k store'.text) (bytes-more m r) ∙ added-text h.text ∙ sym (text-more m r);
        live = ap (λ (k : ℕ). live_marks (setting_shape s) k store'.numbers) (length-rows m r) ∙ added-live h.live ∙ sym (map-append live_mark m.rows (r ∷ []));
      }

-- ---- owners are rows: build's 15 never

pub owners-below : (i : ℕ) (rows : List ModelRow) (x : ℕ) → Memᴰ x (owners_from i rows) → x < i + length rows
unfolding owners_from
owners-below i [] x m = absurd (Memᴰ.not-nil m)
owners-below i (r ∷ rows) x m =
    either (Memᴰ.append_cases (replicate (length (hashes_in r)) i) m)
    (λ k. let e : x ≡ i = Memᴰ-replicate (length (hashes_in r)) k in let t : x < i + suc (length rows) = omega arith in t)
    (λ k. let b : x < suc i + length rows = owners-below (suc i) rows x k in let t : x < i + suc (length rows) = omega arith in t)

pub owner-below : (m : Model) (k : ℕ) → k < length (row_entries m).owners → get_or (row_entries m).owners k 0 < length m.rows
unfolding row_entries
owner-below m k h =
    let b : get_or (owners_from 0 m.rows) k 0 < 0 + length m.rows =
    owners-below 0 m.rows (get_or (owners_from 0 m.rows) k 0) (get_d_Memᴰ (owners_from 0 m.rows) k 0 h) in
    omega arith

-- one owner a hash
owners-count : (i : ℕ) (rows : List ModelRow) → length (owners_from i rows) ≡ length (joined hashes_in rows)
unfolding owners_from joined
owners-count i [] = refl
owners-count i (r ∷ rows) =
    length-append (replicate (length (hashes_in r)) i) (owners_from (suc i) rows)
    ∙ ap₂ ◌+◌ (length-replicate (length (hashes_in r)) i) (owners-count (suc i) rows)
    ∙ sym (length-append (hashes_in r) (joined hashes_in rows))

pub owners-length : (m : Model) → length (row_entries m).owners ≡ length (row_hashes m)
unfolding row_entries row_hashes
owners-length m = owners-count 0 m.rows

-- one name a hash
names-count : (rows : List ModelRow) → length (joined (λ r. r.names) rows) ≡ length (joined hashes_in rows)
unfolding joined
names-count [] = refl
names-count (r ∷ rows) =
    length-append r.names (joined (λ t. t.names) rows) ∙ ap₂ ◌+◌ (sym (length-hashes_of_labels r.names)) (names-count rows)
    ∙ sym (length-append (hashes_in r) (joined hashes_in rows))

pub names-length : (m : Model) → length (row_names m) ≡ length (row_hashes m)
unfolding row_names row_hashes
names-length m = names-count m.rows

pub length-vectors : (m : Model) → length (row_vectors m) ≡ length m.rows
unfolding row_vectors
length-vectors m = length-map m.rows (λ r. r.vector)
