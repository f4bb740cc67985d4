-- Document 01's trial echoes: the walks of the search for `a` from (1, 0) with k 4, over the definitions, at ef 5, 0, 2 and 4. And repeated ids.
use Rattle.std.specs.Prelude.{ℕ, Bool, true, false, cond, ◌≡◌, refl, List, [], ◌∷◌, ◌++◌, map, eqb, set, get_or, Float}
use Rattle.std.proofs.lemmas.List.Edits.{sets}
use Rattle.std.specs.Float.{binary32}
use Rattle.std.specs.Float.Ieee.{of_bits, to_bits}
use Rattle.store.specs.declared.Shape.{Shape}
use Rattle.store.specs.Store.{Store}
use Rattle.total_order.specs.TotalOrder.{key_of}
use Rattle.bloom.specs.Filter.{empty_filter, insert_all}
use Rattle.walk.specs.Wanted.{Sought, with_label, with_both, EntryRead, given}
use Rattle.store.specs.declared.Counts.{Counts}
use Rattle.walk.specs.Walk.{State, damaged, going, walk}
use Rattle.walk.specs.Answer.{hit_of, document_of, drop_repeats, is_live, listed, answer}
use Rattle.walk.specs.StoreView.{live_in, store_view}

-- D 2 and B 2 of the trial; V 4, E 4, M 8 and 6 bytes leave room behind what is held
unfoldable pub trial_shape : Shape
trial_shape = record { dimension = 2; branching = 2; vectors = 4; entries = 4; nodes = 8; text = 6 }

unfoldable pub trial_counts : ℕ → Counts
trial_counts bytes = record { vectors = 3; entries = 3; nodes = 5; bytes = bytes }

-- the hashes of the labels `a` and `b`
unfoldable pub hash_a : ℕ
hash_a = 0xaf63dc4c8601ec8c

unfoldable pub hash_b : ℕ
hash_b = 0xaf63df4c8601f1a5

unfoldable pub hash_of : ℕ → ℕ
unfolding hash_a hash_b
hash_of letter = cond (eqb letter 97) hash_a hash_b

-- (1, 0), (0, 1) and (3F19999A, 3F4CCCCD), the last being (3, 4) over 5, and room for one; the centroids of the five nodes, each the mean of the
-- vectors below it, and room for three; the two centres
unfoldable pub trial_floats : List Float
unfolding of_bits
trial_floats =
    map (of_bits binary32)
    (0x3F800000 ∷ 0 ∷ 0 ∷ 0x3F800000 ∷ 0x3F19999A ∷ 0x3F4CCCCD ∷ 0 ∷ 0
    ∷ 0x3F088889 ∷ 0x3F199999 ∷ 0x3F800000 ∷ 0 ∷ 0x3E99999A ∷ 0x3F666666 ∷ 0 ∷ 0x3F800000 ∷ 0x3F19999A ∷ 0x3F4CCCCD ∷ 0 ∷ 0 ∷ 0 ∷ 0 ∷ 0 ∷ 0
    ∷ 0 ∷ 0 ∷ 0 ∷ 0 ∷ [])

-- document ids, entry owners, leaf order of vectors, the six of each node, child links, leaf order of entries, starts and
-- lengths of labels, live marks
unfoldable pub trial_numbers : List ℕ
trial_numbers =
    (7 ∷ 8 ∷ 9 ∷ 0 ∷ []) ++ (0 ∷ 1 ∷ 2 ∷ 0 ∷ []) ++ (0 ∷ 1 ∷ 2 ∷ 0 ∷ [])
    ++ (0 ∷ 2 ∷ 0 ∷ 0 ∷ 0 ∷ 0 ∷ []) ++ (0 ∷ 0 ∷ 0 ∷ 1 ∷ 0 ∷ 1 ∷ []) ++ (2 ∷ 2 ∷ 0 ∷ 0 ∷ 0 ∷ 0 ∷ []) ++ (0 ∷ 0 ∷ 1 ∷ 1 ∷ 1 ∷ 1 ∷ [])
    ++ (0 ∷ 0 ∷ 2 ∷ 1 ∷ 2 ∷ 1 ∷ []) ++ (0 ∷ 0 ∷ 0 ∷ 0 ∷ 0 ∷ 0 ∷ []) ++ (0 ∷ 0 ∷ 0 ∷ 0 ∷ 0 ∷ 0 ∷ []) ++ (0 ∷ 0 ∷ 0 ∷ 0 ∷ 0 ∷ 0 ∷ [])
    ++ (1 ∷ 2 ∷ 3 ∷ 4 ∷ 0 ∷ 0 ∷ 0 ∷ 0 ∷ []) ++ (0 ∷ 1 ∷ 2 ∷ 0 ∷ []) ++ (0 ∷ 1 ∷ 2 ∷ 0 ∷ []) ++ (1 ∷ 1 ∷ 1 ∷ 0 ∷ []) ++ (1 ∷ 1 ∷ 1 ∷ 0 ∷ [])

-- entry hashes; filters, each of the hashes at and below its node
unfoldable pub trial_hashes : List ℕ
unfolding hash_a hash_b insert_all
trial_hashes =
    (hash_a ∷ hash_b ∷ hash_a ∷ 0 ∷ [])
    ++ insert_all empty_filter (hash_a ∷ hash_b ∷ hash_a ∷ []) ++ insert_all empty_filter (hash_a ∷ []) ++ insert_all empty_filter (hash_b ∷ hash_a ∷ [])
    ++ insert_all empty_filter (hash_b ∷ []) ++ insert_all empty_filter (hash_a ∷ []) ++ empty_filter ++ empty_filter ++ empty_filter

-- the labels' bytes: `a`, `b`, `a`
unfoldable pub trial_text : List ℕ
trial_text = 97 ∷ 98 ∷ 97 ∷ 0 ∷ 0 ∷ 0 ∷ []

unfoldable pub trial_store : Store
unfolding trial_floats trial_numbers trial_hashes trial_text
trial_store = record { floats = trial_floats; numbers = trial_numbers; hashes = trial_hashes; text = trial_text }

-- what is printed of an answer: ids, distance bits, whole or cut, opened
pub record Printed : Type 0 where
  pub ids : List ℕ
  pub bits : List ℕ
  pub whole : Bool
  pub opened : ℕ

pub data Outcome : Type 0 where
  broken : Outcome
  printed : Printed → Outcome

unfoldable pub outcome : (ℕ → Bool) → State → Outcome
unfolding answer
outcome test damaged = broken
outcome test (going p) =
    let a = answer test 4 p in
    printed (record { ids = a.ids; bits = map (to_bits binary32) a.distances; whole = a.complete; opened = a.opened })

-- over a store, with so many bytes held, for a label of a hash and bytes
unfoldable pub store_walk : Store → ℕ → ℕ → List ℕ → ℕ → Outcome
unfolding outcome walk store_view is_live trial_shape trial_counts
store_walk store bytes hash name ef =
    outcome (live_in trial_shape (trial_counts bytes) store)
    (walk (store_view trial_shape (trial_counts bytes) store (of_bits binary32 0x3F800000 ∷ of_bits binary32 0 ∷ []) (with_label hash name)) ef)

unfoldable pub label_walk : ℕ → ℕ → List ℕ → ℕ → Outcome
unfolding store_walk trial_store
label_walk bytes hash name ef = store_walk trial_store bytes hash name ef

unfoldable pub trial_walk : ℕ → Outcome
unfolding label_walk hash_a
trial_walk ef = label_walk 3 hash_a (97 ∷ []) ef

-- '7 00000000 / 9 3ecccccc / whole 5'; 'ef 0: cut 0 alone. ef 2: 7, cut 2. ef 4: 7 and 9, cut 4.'
pub trials : (trial_walk 5 ≡ printed (record { ids = 7 ∷ 9 ∷ []; bits = 0 ∷ 0x3ECCCCCC ∷ []; whole = true; opened = 5 }))
    × (trial_walk 0 ≡ printed (record { ids = []; bits = []; whole = false; opened = 0 }))
    × (trial_walk 2 ≡ printed (record { ids = 7 ∷ []; bits = 0 ∷ []; whole = false; opened = 2 }))
    × (trial_walk 4 ≡ printed (record { ids = 7 ∷ 9 ∷ []; bits = 0 ∷ 0x3ECCCCCC ∷ []; whole = false; opened = 4 }))
unfolding trial_walk
trials = (refl, refl, refl, refl)

-- 02, K4: 'an entry is a label's if its hash and bytes are': with other bytes, longer or shorter ones nothing is found, and the same nodes are opened
abbrev nothing_found : Outcome
nothing_found = printed (record { ids = []; bits = []; whole = true; opened = 5 })

pub by_bytes : (label_walk 3 hash_a (98 ∷ []) 5 ≡ nothing_found) × (label_walk 3 hash_a (97 ∷ 98 ∷ []) 5 ≡ nothing_found) × (label_walk 3 hash_a [] 5 ≡ nothing_found)
unfolding label_walk hash_a
by_bytes = (refl, refl, refl)

-- 'one of a hash searched for whose start plus length passes the bytes held is 15': with 2 bytes held that of document 9's `a`, once its leaf is opened;
-- a search for `b` does not read it
pub past_the_bytes : (label_walk 2 hash_a (97 ∷ []) 5 ≡ broken)
    × (label_walk 2 hash_a (97 ∷ []) 2 ≡ printed (record { ids = 7 ∷ []; bits = 0 ∷ []; whole = false; opened = 2 }))
    × (label_walk 2 hash_a (98 ∷ []) 5 ≡ broken)
    × (label_walk 2 hash_b (98 ∷ []) 5 ≡ printed (record { ids = 8 ∷ []; bits = 0x3F800000 ∷ []; whole = true; opened = 5 }))
unfolding label_walk hash_a hash_b
past_the_bytes = (refl, refl, refl, refl)

-- 02, K1: the trial store with `b` on document 9's vector too: a fourth entry, in the leaf of that vector, and in the leaf's filter
unfoldable pub both_store : List ℕ → Store
unfolding trial_floats trial_hashes trial_text hash_a hash_b insert_all
both_store numbers =
    record {
      floats = trial_floats;
      numbers = numbers;
      hashes = sets (set trial_hashes 3 hash_b) 20 (insert_all empty_filter (hash_a ∷ hash_b ∷ []));
      text = set trial_text 3 98;
    }

-- owner 2; behind entry 2 in the leaf order, whose leaf has two; byte 3, one byte
unfoldable pub both_numbers : List ℕ
unfolding trial_numbers
both_numbers = set (set (set (set (set trial_numbers 7 2) 41 2) 71 3) 75 3) 79 1

-- the same entry in the leaf of document 8's vector
unfoldable pub moved_numbers : List ℕ
unfolding both_numbers
moved_numbers = set (set (set (set (set both_numbers 35 2) 40 3) 41 1) 70 3) 71 2

-- with so many bytes held
unfoldable pub sought_walk : List ℕ → ℕ → Sought → ℕ → Outcome
unfolding outcome walk store_view is_live trial_shape both_store
sought_walk numbers bytes wanted ef =
    let store = both_store numbers in
    let c : Counts = record { vectors = 3; entries = 4; nodes = 5; bytes = bytes } in
    outcome (live_in trial_shape c store) (walk (store_view trial_shape c store (of_bits binary32 0x3F800000 ∷ of_bits binary32 0 ∷ []) wanted) ef)

abbrev pub both_walk : List ℕ → ℕ → ℕ → ℕ → ℕ → Outcome
both_walk numbers bytes first second ef = sought_walk numbers bytes (with_both (hash_of first) (first ∷ []) (hash_of second) (second ∷ [])) ef

-- 'a search with two labels returns vectors that carry both; a node whose filter denies either is opened and gives nothing': documents 7 and 8 have one
-- of `a` and `b`, 9 has both, and 5 nodes are opened; the order does not matter; 'the same label given twice is the one-label search'
pub both-labels :
    (both_walk both_numbers 4 97 98 5 ≡ printed (record { ids = 9 ∷ []; bits = 0x3ECCCCCC ∷ []; whole = true; opened = 5 }))
    × (both_walk both_numbers 4 98 97 5 ≡ printed (record { ids = 9 ∷ []; bits = 0x3ECCCCCC ∷ []; whole = true; opened = 5 }))
    × (both_walk both_numbers 4 97 98 2 ≡ printed (record { ids = []; bits = []; whole = false; opened = 2 }))
    × (both_walk both_numbers 4 97 97 5 ≡ printed (record { ids = 7 ∷ 9 ∷ []; bits = 0 ∷ 0x3ECCCCCC ∷ []; whole = true; opened = 5 }))
unfolding sought_walk both_numbers hash_of
both-labels = (refl, refl, refl, refl)

-- 'whose owner has one of the second there': one in another leaf does not count
pub not_there : (both_walk moved_numbers 4 97 98 5 ≡ nothing_found) × (both_walk moved_numbers 4 98 97 5 ≡ nothing_found)
unfolding sought_walk moved_numbers hash_of
not_there = (refl, refl)

-- 'entries of the first whose owner has one of the second': the first label twice on a vector gives two hits, the second twice one. Entries 0 and 1 are of
-- `a`, 2 of `b`, all of one owner
unfoldable pub repeated_label : EntryRead
unfolding hash_of
repeated_label =
    record { hash = λ entry. hash_of (get_or (97 ∷ 97 ∷ 98 ∷ []) entry 0); owner = λ entry. 5; name = λ entry. get_or (97 ∷ 97 ∷ 98 ∷ []) entry 0 ∷ [] }

unfoldable pub given_both : ℕ → ℕ → List ℕ
unfolding given hash_of repeated_label
given_both first second = given (with_both (hash_of first) (first ∷ []) (hash_of second) (second ∷ [])) repeated_label (0 ∷ 1 ∷ 2 ∷ [])

pub first-twice : (given_both 97 98 ≡ 5 ∷ 5 ∷ []) × (given_both 98 97 ≡ 5 ∷ [])
unfolding given_both
first-twice = (refl, refl)

-- an entry of either hash is read: with 3 bytes held document 9's `b` is damage, whichever comes first; the search for `a` alone does not read it
pub past_either : (both_walk both_numbers 3 97 98 5 ≡ broken) × (both_walk both_numbers 3 98 97 5 ≡ broken)
    × (sought_walk both_numbers 3 (with_label hash_a (97 ∷ [])) 5 ≡ printed (record { ids = 7 ∷ 9 ∷ []; bits = 0 ∷ 0x3ECCCCCC ∷ []; whole = true; opened = 5 }))
unfolding sought_walk both_numbers hash_of hash_a
past_either = (refl, refl, refl)

-- 'adjacent equal document ids lose the later': of the ids 7, 8, 7 at rising distances all three stay, of 7, 7, 8 the second goes
unfoldable pub ids_left : ℕ → ℕ → ℕ → List ℕ
unfolding drop_repeats key_of of_bits
ids_left a b c =
    map document_of
    (drop_repeats
    (hit_of (of_bits binary32 0) a 0 ∷ hit_of (of_bits binary32 0x3E800000) b 1 ∷ hit_of (of_bits binary32 0x3F000000) c 2 ∷ []))

pub repeats : (ids_left 7 8 7 ≡ 7 ∷ 8 ∷ 7 ∷ []) × (ids_left 7 7 8 ≡ 7 ∷ 8 ∷ [])
unfolding ids_left
repeats = (refl, refl)

-- 02, K10: the trial store with another live mark of document 7's vector: its place is 2 * 4 + 4 * 4 + 7 * 8
unfoldable pub marked_walk : ℕ → ℕ → Outcome
unfolding store_walk trial_floats trial_numbers trial_hashes trial_text hash_a
marked_walk mark ef =
    store_walk (record { floats = trial_floats; numbers = set trial_numbers 80 mark; hashes = trial_hashes; text = trial_text }) 3 hash_a (97 ∷ []) ef

-- '0 is withdrawn, anything else live'; 'nodes opened are counted as before'
pub marked : (marked_walk 0 5 ≡ printed (record { ids = 9 ∷ []; bits = 0x3ECCCCCC ∷ []; whole = true; opened = 5 }))
    × (marked_walk 0 2 ≡ printed (record { ids = []; bits = []; whole = false; opened = 2 }))
    × (marked_walk 2 5 ≡ trial_walk 5) × (marked_walk 0xFFFFFFFF 5 ≡ trial_walk 5)
unfolding marked_walk trial_walk
marked = (refl, refl, refl, refl)

-- 'adjacent repeats are dropped before withdrawn hits are struck': of the ids 7, 7, 8 at rising distances, of vectors 0, 1 and 2, the first withdrawn hides the
-- second; with the second withdrawn nothing is hidden
unfoldable pub live_ids : List ℕ → List ℕ
unfolding listed is_live key_of of_bits
live_ids marks =
    map document_of
    (listed (is_live marks)
    (hit_of (of_bits binary32 0) 7 0 ∷ hit_of (of_bits binary32 0x3E800000) 7 1 ∷ hit_of (of_bits binary32 0x3F000000) 8 2 ∷ []))

pub struck : (live_ids (0 ∷ 1 ∷ 1 ∷ []) ≡ 8 ∷ []) × (live_ids (1 ∷ 0 ∷ 1 ∷ []) ≡ 7 ∷ 8 ∷ []) × (live_ids (1 ∷ 1 ∷ 0 ∷ []) ≡ 7 ∷ [])
unfolding live_ids
struck = (refl, refl, refl)
