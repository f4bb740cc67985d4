-- Laws of a taking back: each refusal in its row's case; what is read; and, over one store, that an accepted add followed by a
-- taking back is the identity on all that is held.
use Rattle.std.specs.Prelude.{ℕ, zero, suc, ◌+◌, ◌-◌, ◌<◌, ◌≤◌, min, Bool, true, false, not, List, [], ◌∷◌, ◌↔◌, ◌≡◌, refl, ltb, length, get_or, drop}
use Rattle.std.proofs.Common.{arith, sym, ap, ap₂, ◌∙◌, subst, ltb-true, ne_eqb, length-take}
use Rattle.std.proofs.lemmas.Bool.{false≢true, not-false, eqb-false}
use Rattle.std.proofs.lemmas.List.Edits.{sets}
use Rattle.lists.specs.Parts.{get_d_sets_before, get_d_sets_in}
use Rattle.lists.specs.Suffix.{count_at_end}
use Rattle.lists.proofs.SuffixLaws.{at-end-written, at-end-few}
use Rattle.lists.specs.Tests.{all_pass-Memᴰ}
use Rattle.store.specs.declared.Counts.{Counts}
use Rattle.store.specs.declared.Lengths.{Lengths}
use Rattle.store.specs.Store.{Store, owners_at, starts_at, lengths_at, live_at, entry_start}
use Rattle.store.specs.Lent.{lengths_of, Long, store_short}
use Rattle.store.specs.LentLaws.{store_long}
use Rattle.std.specs.Prelude.{Result, Ok, Err, ⊤}
use Rattle.settings.specs.declared.refusal.Refusal.{Refusal}
use Rattle.settings.specs.Refusals.{check_number}
use Rattle.settings.specs.Limits.{built_allowed}
use Rattle.tree.specs.Nodes.{Entries}
use Rattle.label.specs.Names.{starts_from, lengths_of_names, bytes_of_names}
use Rattle.label.specs.TextLaws.{length-starts}
use Rattle.walk.proofs.HeldLaws.{same_at}
use Rattle.curator.specs.declared.CuratorIndex.{CuratorIndex}
use Rattle.curator.specs.Outcome.{changed_number, Succeeded}
use Rattle.curator.specs.Limits.{state_sound, index_shape}
use Rattle.curator.specs.Arguments.{AddCall}
use Rattle.curator.specs.Rows.{Row, first_of, state_row, add_rows, take_back_rows}
use Rattle.curator.specs.Calls.{facts_of, held_entries, held_starts, SameOfIndex, last_entries, lowered, bytes_left, with_counts, counts_less, grown, shrunk}
use Rattle.curator.specs.Changes.{add_check, Adds, with_labels, Wrote, owners_damaged, take_back_check, TakesBackBy, TakesBack}
use Rattle.curator.specs.Lent.{AddRoom}
use Rattle.curator.proofs.RowLaws.{FirstAt, numbers_of_rows, different, fine_none, none_fine, returned_exactly, rows_of_add, add-check-rows}
use Rattle.curator.proofs.AddLaws.{Accepted, add_facts, adds-accepted}
use Rattle.curator.proofs.HeldLaws.{owned, labelled, length-owned, owners-grown, held_kept, wrote-lengths}
use Rattle.curator.proofs.StateLaws.{Sound, sound_facts, facts_sound}
use Rattle.curator.specs.OutcomeLaws.{carried-is, refused_is}

-- ---- 02, K3: 'checks 4, 3, 5, and then returns 19'

abbrev pub rows_of_take_back : CuratorIndex → Store → List Row
rows_of_take_back index store = state_row (state_sound index) ∷ take_back_rows (facts_of index) (lengths_of store)

abbrev pub take_back_numbers : List ℕ
take_back_numbers = 4 ∷ 3 ∷ 5 ∷ 19 ∷ []

take_back_order : (index : CuratorIndex) (store : Store) → numbers_of_rows (rows_of_take_back index store) ≡ take_back_numbers
unfolding take_back_rows
take_back_order index store = refl

take_back_rows_lem : (index : CuratorIndex) (store : Store) → take_back_check index store ≡ first_of (rows_of_take_back index store)
unfolding take_back_check
take_back_rows_lem index store = refl

takes_back_number : (index : CuratorIndex) (store : Store) (answer : Result CuratorIndex Refusal) → TakesBack index store answer
    → changed_number answer ≡ check_number (take_back_check index store)
unfolding TakesBack TakesBackBy
takes_back_number index store answer h = by (take_back_check index store) h
  where
    by : (check : Result ⊤ Refusal) → TakesBackBy check index store answer → changed_number answer ≡ check_number check
    by (Ok _) e = e.number_is
    by (Err r) e = e.number_is

-- each of the numbers exactly if its row's case holds and no earlier row's does
pub take_back_returned : (index : CuratorIndex) (store : Store) (answer : Result CuratorIndex Refusal) → TakesBack index store answer → (i : ℕ) → i < 4
    → (changed_number answer ≡ get_or take_back_numbers i 0) ↔ FirstAt (rows_of_take_back index store) i
unfolding different
take_back_returned index store answer takes i h =
    returned_exactly (rows_of_take_back index store) take_back_numbers (take_back_order index store) refl _
    (takes_back_number index store answer takes ∙ ap check_number (take_back_rows_lem index store))
    i
    h

-- What an accepted taking back was asked of, as plain facts.
pub record CanTakeBack (index : CuratorIndex) (lent : Lengths) : Type 0 where
  pub sound : Sound index
  pub long : Long (index_shape index) lent
  pub unbuilt : index.built ≡ false
  pub some : 0 < index.counts.vectors

pub can_take_back : (index : CuratorIndex) (store : Store) → take_back_check index store ≡ (Ok tt) → CanTakeBack index (lengths_of store)
unfolding take_back_rows
can_take_back index store fine =
    let (sound, (short, (built, (none, _)))) = fine_none (rows_of_take_back index store) (sym (take_back_rows_lem index store) ∙ fine) in
    let held = eqb-false index.counts.vectors 0 none in
    record {
      sound = sound_facts index (not-false _ sound);
      long = store_long (index_shape index) (lengths_of store) short;
      unbuilt = built;
      some = omega arith;
    }

-- ---- the relation by what the check comes to

pub takes_back_by : (index : CuratorIndex) (store : Store) (answer : Result CuratorIndex Refusal) (check : Result ⊤ Refusal) → take_back_check index store ≡ check
    → TakesBackBy check index store answer → TakesBack index store answer
unfolding TakesBack
takes_back_by index store answer check e h = subst (λ (k : Result ⊤ Refusal). TakesBackBy k index store answer) (sym e) h

-- ---- what is read: two stores that agree on what is held give the same answer

last-same : (index : CuratorIndex) (s t : Store) → SameOfIndex index s t → last_entries index s ≡ last_entries index t
unfolding last_entries
last-same index s t h = ap (λ (e : Entries). count_at_end (index.counts.vectors - 1) e.owners) h.entries

-- no more entries are taken back than are held
pub last-few : (index : CuratorIndex) (store : Store) → last_entries index store ≤ index.counts.entries
unfolding last_entries held_entries
last-few index store =
    let owners = (held_entries index store).owners in
    omega (arith, at-end-few (index.counts.vectors - 1) owners, length-take index.counts.entries (drop (owners_at (index_shape index)) store.numbers))

-- of the starts the first taken back is read, if there is one; it is held
bytes-left-same : (index : CuratorIndex) (s t : Store) → SameOfIndex index s t → bytes_left index s ≡ bytes_left index t
unfolding bytes_left held_starts
bytes-left-same index s t h =
    lower (last_entries index s) (last-few index s)
    ∙ ap (λ (n : ℕ). lowered n (entry_start (index_shape index) t.numbers (index.counts.entries - n)) index.counts.bytes) (last-same index s t h)
  where
    lower : (n : ℕ) → n ≤ index.counts.entries
        → lowered n (entry_start (index_shape index) s.numbers (index.counts.entries - n)) index.counts.bytes
        ≡ lowered n (entry_start (index_shape index) t.numbers (index.counts.entries - n)) index.counts.bytes
    lower zero few = refl
    lower (suc n) few =
        ap (λ (start : ℕ). min start index.counts.bytes)
        (same_at (starts_at (index_shape index)) index.counts.entries s.numbers t.numbers h.starts (index.counts.entries - suc n) 0 (omega arith))

shrunk-same : (index : CuratorIndex) (s t : Store) → SameOfIndex index s t → shrunk index s ≡ shrunk index t
shrunk-same index s t h =
    ap₂ (λ (entries bytes : ℕ). with_counts index (counts_less index.counts entries bytes) index.built) (last-same index s t h) (bytes-left-same index s t h)

pub takes_back_same : (index : CuratorIndex) (s t : Store) (a b : Result CuratorIndex Refusal) → lengths_of s ≡ lengths_of t → SameOfIndex index s t → TakesBack index s a
    → TakesBack index t b → a ≡ b
unfolding TakesBack TakesBackBy take_back_check
takes_back_same index s t a b l h x y =
    by (take_back_check index s) x (subst (λ (k : Result ⊤ Refusal). TakesBackBy k index t b) (sym check) y)
  where
    check : take_back_check index s ≡ take_back_check index t
    check = ap (λ (k : Lengths). first_of (state_row (state_sound index) ∷ take_back_rows (facts_of index) k)) l

    by : (k : Result ⊤ Refusal) → TakesBackBy k index s a → TakesBackBy k index t b → a ≡ b
    by (Ok _) x y = carried-is _ a x ∙ ap Ok (shrunk-same index s t h) ∙ sym (carried-is _ b y)
    by (Err r) x y = refused_is r a x ∙ sym (refused_is r b y)

-- ---- an accepted add, then a taking back

-- what an add has written at the end is its owners, where every owner held is below n
pub last-added : (index : CuratorIndex) (store : Store) (call : AddCall) (store' : Store) → AddRoom index store call → Wrote index store call store'
    → owners_damaged index store ≡ false → last_entries (grown index call.names) store' ≡ length call.names
unfolding last_entries owners_damaged
last-added index store call store' room wrote sound =
    let n = index.counts.vectors in
    let owners = (held_entries index store).owners in
    let one : n + 1 - 1 ≡ n = omega arith in
    ap₂ count_at_end one (owners-grown index store call store' room wrote)
    ∙ at-end-written n (length call.names) owners
    (λ y m. ltb-true y n (all_pass-Memᴰ (λ owner. ltb owner n) owners (not-false _ sound) y m))

-- its first label starts where the bytes held ended
first-starts : (held : ℕ) (names : List (List ℕ)) → 0 < length names → get_or (starts_from held names) 0 0 ≡ held
unfolding starts_from
first-starts held [] some = absurd (omega arith)
first-starts held (name ∷ names) some = refl

first-start : (index : CuratorIndex) (store : Store) (call : AddCall) (store' : Store) (room : AddRoom index store call) (wrote : Wrote index store call store')
    → 0 < length call.names → entry_start (index_shape index) store'.numbers index.counts.entries ≡ index.counts.bytes
unfolding with_labels
first-start index store call store' room wrote some =
    let e = index.counts.entries in
    let at = starts_at (index_shape index) + index.counts.entries in
    let starts = starts_from index.counts.bytes call.names in
    let numbers = owned index store call store' room wrote in
    let many = length-starts index.counts.bytes call.names in
    ap (λ (l : List ℕ). get_or l at 0) wrote.numbers
    ∙ get_d_sets_before (labelled index store call store' room wrote) (live_at (index_shape index) + index.counts.vectors) (1 ∷ []) at 0 (omega (arith, some, room.entries))
    ∙ get_d_sets_before (sets numbers at starts) (lengths_at (index_shape index) + e) (lengths_of_names call.names) at 0 (omega (arith, some, room.entries))
    ∙ ap (λ (k : ℕ). get_or (sets numbers at starts) k 0) (let z : at ≡ at + 0 = omega arith in z)
    ∙ get_d_sets_in numbers at starts 0 0 (omega (arith, some, many))
    (omega (arith, many, length-owned index store call store' room wrote, room.entries, room.long.numbers))
    ∙ first-starts index.counts.bytes call.names some

-- the bytes of names are lowered to where the first of them starts
pub lower_first : (names : List (List ℕ)) (held start : ℕ) → (0 < length names → start ≡ held)
    → lowered (length names) start (held + length (bytes_of_names names)) ≡ held
unfolding bytes_of_names
lower_first [] held start e = omega arith
lower_first (name ∷ names) held start e = let is = e (omega arith) in omega (arith, is)

-- so the bytes held are lowered to those before the add
bytes-added : (index : CuratorIndex) (store : Store) (call : AddCall) (store' : Store) → AddRoom index store call → Wrote index store call store'
    → owners_damaged index store ≡ false → bytes_left (grown index call.names) store' ≡ index.counts.bytes
unfolding bytes_left
bytes-added index store call store' room wrote sound =
    let k = length call.names in
    let back : index.counts.entries + length call.names - length call.names ≡ index.counts.entries = omega arith in
    ap (λ (n : ℕ). lowered n (entry_start (index_shape index) store'.numbers (index.counts.entries + k - n)) (index.counts.bytes + length (bytes_of_names call.names)))
    (last-added index store call store' room wrote sound)
    ∙ ap (λ (e : ℕ). lowered k (entry_start (index_shape index) store'.numbers e) (index.counts.bytes + length (bytes_of_names call.names))) back
    ∙ lower_first call.names index.counts.bytes (entry_start (index_shape index) store'.numbers index.counts.entries) (first-start index store call store' room wrote)

shrunk-grown : (index : CuratorIndex) (names : List (List ℕ)) (taken bytes : ℕ) → taken ≡ length names → bytes ≡ index.counts.bytes
    → with_counts (grown index names) (counts_less (grown index names).counts taken bytes) index.built ≡ index
shrunk-grown index names taken bytes t b =
    let v : index.counts.vectors + 1 - 1 ≡ index.counts.vectors = omega arith in
    let e : index.counts.entries + length names - taken ≡ index.counts.entries = omega arith in
    λ i. record {
      dimension = index.dimension;
      params = index.params;
      capacities = index.capacities;
      counts = record { vectors = v i; entries = e i; nodes = index.counts.nodes; bytes = b i };
      built = index.built;
    }

-- an unbuilt state stays sound
unbuilt-nodes : (built : Bool) (held next : Counts) → built ≡ false → held.nodes ≡ next.nodes → built_allowed built held ≡ true → built_allowed built next ≡ true
unfolding built_allowed
unbuilt-nodes true held next b e h = absurd (false≢true (sym b))
unbuilt-nodes false held next b e h = rw (sym e) h

grown-sound : (index : CuratorIndex) (store : Store) (call : AddCall) → Accepted index store call → state_sound (grown index call.names) ≡ true
grown-sound index store call a =
    let s = a.sound in
    facts_sound (grown index call.names)
    (record {
      limits = s.limits;
      leaf_size = s.leaf_size;
      ef_search = s.ef_search;
      beam_width = s.beam_width;
      vectors = omega (arith, a.room.vectors);
      entries = a.room.entries;
      nodes = s.nodes;
      bytes = a.room.text;
      built = unbuilt-nodes index.built index.counts (grown index call.names).counts a.unbuilt refl s.built;
    })

-- so it is accepted
grown_fine : (index : CuratorIndex) (store : Store) (call : AddCall) (store' : Store) → add_check index store call ≡ (Ok tt) → Wrote index store call store'
    → take_back_check (grown index call.names) store' ≡ (Ok tt)
unfolding add_rows take_back_rows
grown_fine index store call store' fine wrote =
    let (_, (short, (built, _))) = fine_none (rows_of_add index store call) (sym (add-check-rows index store call) ∙ fine) in
    let sound = grown-sound index store call (add_facts index store call fine) in
    let index' = grown index call.names in
    let short' : store_short (index_shape index) (lengths_of store') ≡ false =
    ap (store_short (index_shape index)) (sym (wrote-lengths index store call store' wrote)) ∙ short in
    take_back_rows_lem index' store'
    ∙ none_fine (rows_of_take_back index' store')
    (ap not sound, (short', (built, (ne_eqb (index.counts.vectors + 1) 0 (λ e. omega arith), tt))))

-- 'An accepted add followed by taking back is then the identity on all that is held', on any state and store of which every owner held is below n
pub add-taken_back : (index : CuratorIndex) (store : Store) (call : AddCall) (index' : CuratorIndex) (store' : Store) (answer : Result CuratorIndex Refusal)
    → owners_damaged index store ≡ false → Adds index store call (Ok index') store' → TakesBack index' store' answer
    → Succeeded index answer × SameOfIndex index store' store
unfolding TakesBack TakesBackBy
add-taken_back index store call index' store' answer sound adds takes =
    let (fine, is, wrote) = adds-accepted index store call index' store' adds in
    let room = (add_facts index store call fine).room in
    let check : take_back_check index' store' ≡ (Ok tt) =
    ap (λ (i : CuratorIndex). take_back_check i store') is ∙ grown_fine index store call store' fine wrote in
    let state : shrunk index' store' ≡ index =
    ap (λ (i : CuratorIndex). shrunk i store') is
    ∙ shrunk-grown index call.names (last_entries (grown index call.names) store') (bytes_left (grown index call.names) store')
    (last-added index store call store' room wrote sound)
    (bytes-added index store call store' room wrote sound) in (
      subst (λ (i : CuratorIndex). Succeeded i answer) state (subst (λ (c : Result ⊤ Refusal). TakesBackBy c index' store' answer) check takes),
      held_kept index store call store' room wrote,
    )
