-- The definitions on small values: `new` at the limits, an add whose squares overflow, names of an add in two parts, a taking back, and withdrawals.
use Rattle.std.specs.Prelude.{ℕ, true, List, [], ◌∷◌, ◌++◌, map, ◌≡◌, refl, eqb, replicate}
use Rattle.std.proofs.Common.{ap, ◌∙◌}
use Rattle.std.specs.Float.{binary32}
use Rattle.std.specs.Float.Ieee.{of_bits, to_bits}
use Rattle.std.proofs.lemmas.List.Edits.{sets}
use Rattle.label.specs.Names.{names_of, lengths_fit, part_lengths, part_bytes}
use Rattle.vector.specs.Vector.{zero32}
use Rattle.vector.specs.Normalized.{normalized, normalized-is}
use Rattle.store.specs.Store.{Store, live_marks}
use Rattle.curator.specs.Limits.{index_shape}
use Rattle.std.specs.Prelude.{Result, Ok}
use Rattle.settings.specs.declared.refusal.Refusal.{Refusal}
use Rattle.curator.specs.declared.CuratorIndex.{CuratorIndex}
use Rattle.curator.specs.Arguments.{AddCall, add_of}
use Rattle.curator.specs.Calls.{last_entries, bytes_left, fresh}
use Rattle.curator.specs.Changes.{created, add_check, AddsBy, Adds, take_back_check, withdraw_check, withdrawn_from}
use Rattle.settings.specs.Limits.{usual}
use Rattle.settings.specs.Refusals.{check_number}
use Rattle.curator.specs.Outcome.{changed_number}
use Rattle.curator.specs.OutcomeLaws.{refused_is}
use Rattle.curator.proofs.Parted.{adds_parted}

-- D 0 and 129 are 1, also with another setting outside its limits; V 0, M 0 and 4,177,921 bytes of label text are 2; D 1 and 128 are
-- accepted
trial_new :
    (changed_number (created 0 usual (record { vectors = 1; entries = 0; nodes = 0; text = 0 })) ≡ 1)
    × (changed_number (created 129 usual (record { vectors = 1; entries = 0; nodes = 1; text = 0 })) ≡ 1)
    × (changed_number (created 1 usual (record { vectors = 0; entries = 0; nodes = 1; text = 0 })) ≡ 2)
    × (changed_number (created 1 usual (record { vectors = 1; entries = 0; nodes = 0; text = 0 })) ≡ 2)
    × (changed_number (created 1 usual (record { vectors = 1; entries = 0; nodes = 1; text = 0 })) ≡ 0)
    × (changed_number (created 128 usual (record { vectors = 4096; entries = 16384; nodes = 65537; text = 4177920 })) ≡ 0)
    × (changed_number (created 1 usual (record { vectors = 1; entries = 0; nodes = 1; text = 4177921 })) ≡ 2)
unfolding created
trial_new = (refl, refl, refl, refl, refl, refl, refl)

-- ---- K2's echo, of which 02 says how it is stored

-- an index of two components with room for one vector, and its store of zeros
trial_index : CuratorIndex
trial_index = fresh 2 (record { branching_factor = 1; max_leaf_size = 1; ef_search = 1; beam_width = 1 }) (record { vectors = 1; entries = 0; nodes = 1; text = 0 })

trial_store : Store
unfolding zero32
trial_store = record { floats = replicate 6 zero32; numbers = replicate 10 0; hashes = replicate 4 0; text = [] }

-- the echo of these two patterns under document id 7, without labels
trial_add : ℕ → ℕ → AddCall
unfolding of_bits
trial_add first second =
    record { document = 7; vector = of_bits binary32 first ∷ of_bits binary32 second ∷ []; lengths_allowed = true; names = [] }

-- (1e30, -1e30) is accepted, and whatever an add leaves begins with 0.0 and -0.0
trial_overflow_fine : add_check trial_index trial_store (trial_add 0x7149F2CA 0xF149F2CA) ≡ (Ok tt)
unfolding add_check trial_index trial_store trial_add
trial_overflow_fine = refl

trial_overflow : (answer : Result CuratorIndex Refusal) (store' : Store) → Adds trial_index trial_store (trial_add 0x7149F2CA 0xF149F2CA) answer store'
    → map (to_bits binary32) store'.floats ≡ 0 ∷ 0x80000000 ∷ 0 ∷ 0 ∷ 0 ∷ 0 ∷ []
unfolding Adds AddsBy add_check trial_index trial_store trial_add normalized to_bits
trial_overflow answer store' (_, wrote) =
    ap (map (to_bits binary32)) (wrote.floats ∙ ap (sets trial_store.floats 0) (normalized-is _ _ wrote.normalized))

-- an infinite second component is refusal 8, and nothing is written
trial_infinite : (answer : Result CuratorIndex Refusal) (store' : Store) → Adds trial_index trial_store (trial_add 0x3F800000 0xFF800000) answer store'
    → (changed_number answer ≡ 8) × (store' ≡ trial_store)
unfolding Adds AddsBy add_check trial_index trial_store trial_add
trial_infinite answer store' (refused, same) = (ap changed_number (refused_is _ _ refused), same)

-- ---- an index and its store, for names and for taking back

-- an index of one component with room for three vectors, four entries and five bytes, so many of them held; it is built where it has a node
held_index : ℕ → ℕ → ℕ → ℕ → CuratorIndex
held_index vectors entries nodes bytes =
    record {
      dimension = 1;
      params = record { branching_factor = 1; max_leaf_size = 1; ef_search = 1; beam_width = 1 };
      capacities = record { vectors = 3; entries = 4; nodes = 1; text = 5 };
      counts = record { vectors = vectors; entries = entries; nodes = nodes; bytes = bytes };
      built = eqb nodes 1;
    }

-- its store, with these owners after three document ids, the entries' starts 0, 1, 3 and 4, and the live marks 5, 6 and 7
held_store : List ℕ → Store
unfolding zero32
held_store owners =
    record {
      floats = replicate 5 zero32;
      numbers = 7 ∷ 8 ∷ 9 ∷ (owners ++ (replicate 14 0 ++ (0 ∷ 1 ∷ 3 ∷ 4 ∷ (replicate 4 1 ++ (5 ∷ 6 ∷ 7 ∷ [])))));
      hashes = replicate 8 0;
      text = replicate 5 97;
    }

-- the store with one byte of text less
short_text : Store → Store
short_text store = record { floats = store.floats; numbers = store.numbers; hashes = store.hashes; text = replicate 4 97 }

-- ---- names in two parts

-- one length is an odd list, and 9, though its sum is the bytes'; two lengths are one name, which has room; four are two names, for which there is none, and 11
trial_nine_eleven :
    (check_number (add_check (held_index 1 3 0 3) (held_store (0 ∷ 0 ∷ 0 ∷ 0 ∷ [])) (add_of 7 (zero32 ∷ []) (1 ∷ []) (97 ∷ []))) ≡ 9)
    × (check_number (add_check (held_index 1 3 0 3) (held_store (0 ∷ 0 ∷ 0 ∷ 0 ∷ [])) (add_of 7 (zero32 ∷ []) (1 ∷ 0 ∷ []) (97 ∷ []))) ≡ 0)
    × (check_number (add_check (held_index 1 3 0 3) (held_store (0 ∷ 0 ∷ 0 ∷ 0 ∷ [])) (add_of 7 (zero32 ∷ []) (1 ∷ 0 ∷ 0 ∷ 0 ∷ []) (97 ∷ []))) ≡ 11)
unfolding add_check held_index held_store zero32 names_of lengths_fit
trial_nine_eleven = (refl, refl, refl)

-- 02, K4: of five bytes three are held; two more fit, three are 20, after 11; what is short is the byte list, and 3
trial_twenty :
    (check_number (add_check (held_index 1 3 0 3) (held_store (0 ∷ 0 ∷ 0 ∷ 0 ∷ [])) (add_of 7 (zero32 ∷ []) (1 ∷ 1 ∷ []) (97 ∷ 97 ∷ []))) ≡ 0)
    × (check_number (add_check (held_index 1 3 0 3) (held_store (0 ∷ 0 ∷ 0 ∷ 0 ∷ [])) (add_of 7 (zero32 ∷ []) (1 ∷ 2 ∷ []) (97 ∷ 97 ∷ 97 ∷ []))) ≡ 20)
    × (check_number (add_check (held_index 1 3 0 3) (held_store (0 ∷ 0 ∷ 0 ∷ 0 ∷ [])) (add_of 7 (zero32 ∷ []) (1 ∷ 2 ∷ 0 ∷ 0 ∷ []) (97 ∷ 97 ∷ 97 ∷ []))) ≡ 11)
    × (check_number (add_check (held_index 1 3 0 3) (short_text (held_store (0 ∷ 0 ∷ 0 ∷ 0 ∷ []))) (add_of 7 (zero32 ∷ []) [] [])) ≡ 3)
    × (check_number (add_check (held_index 1 3 0 6) (held_store (0 ∷ 0 ∷ 0 ∷ 0 ∷ [])) (add_of 7 (zero32 ∷ []) [] [])) ≡ 4)
unfolding add_check held_index held_store short_text zero32 names_of lengths_fit
trial_twenty = (refl, refl, refl, refl, refl)

-- the name `ab` in the parts `a` and `b`, and all in the second part: whatever two such adds answer and leave is the same
trial_parted : (answer answer' : Result CuratorIndex Refusal) (after after' : Store)
    → Adds (held_index 1 3 0 3) (held_store (0 ∷ 0 ∷ 0 ∷ 0 ∷ [])) (add_of 7 (zero32 ∷ []) (1 ∷ 1 ∷ []) (97 ∷ 98 ∷ [])) answer after
    → Adds (held_index 1 3 0 3) (held_store (0 ∷ 0 ∷ 0 ∷ 0 ∷ [])) (add_of 7 (zero32 ∷ []) (0 ∷ 2 ∷ []) (97 ∷ 98 ∷ [])) answer' after'
    → (answer ≡ answer') × (after ≡ after')
unfolding part_lengths part_bytes
trial_parted answer answer' after after' h h' =
    adds_parted (held_index 1 3 0 3) (held_store (0 ∷ 0 ∷ 0 ∷ 0 ∷ [])) 7 (zero32 ∷ []) (record { first = 97 ∷ []; second = 98 ∷ [] } ∷ [])
    (record { first = []; second = 97 ∷ 98 ∷ [] } ∷ [])
    answer
    answer'
    after
    after'
    refl
    h
    h'

-- ---- taking back

-- two vectors held: the owner is 1, not 2, and of the fourth entry, which is not held, nothing is asked
trial-last-entries :
    (last_entries (held_index 2 4 0 3) (held_store (1 ∷ 0 ∷ 1 ∷ 1 ∷ [])) ≡ 2) × (last_entries (held_index 2 3 0 3) (held_store (1 ∷ 0 ∷ 1 ∷ 0 ∷ [])) ≡ 1)
    × (last_entries (held_index 2 4 0 3) (held_store (0 ∷ 1 ∷ 1 ∷ 2 ∷ [])) ≡ 0)
unfolding last_entries held_index held_store
trial-last-entries = (refl, refl, refl)

-- 02, K4: two entries are taken back, of which the first starts at 3: of five bytes three are left, and of two, which is damage, two; with no entry taken
-- back all five
trial-bytes-left :
    (bytes_left (held_index 2 4 0 5) (held_store (1 ∷ 0 ∷ 1 ∷ 1 ∷ [])) ≡ 3) × (bytes_left (held_index 2 4 0 2) (held_store (1 ∷ 0 ∷ 1 ∷ 1 ∷ [])) ≡ 2)
    × (bytes_left (held_index 2 4 0 5) (held_store (0 ∷ 1 ∷ 1 ∷ 2 ∷ [])) ≡ 5)
unfolding bytes_left held_index held_store
trial-bytes-left = (refl, refl, refl)

-- 4, 3, 5, 19: more vectors held than there is room for; a short list, though nothing is held; a built index; nothing held; a vector held
trial-take_back_check :
    (check_number (take_back_check (held_index 4 0 0 3) (held_store [])) ≡ 4) × (check_number (take_back_check (held_index 0 0 0 3) (held_store [])) ≡ 3)
    × (check_number (take_back_check (held_index 1 0 1 3) (held_store (0 ∷ 0 ∷ 0 ∷ 0 ∷ []))) ≡ 5)
    × (check_number (take_back_check (held_index 0 0 0 3) (held_store (0 ∷ 0 ∷ 0 ∷ 0 ∷ []))) ≡ 19)
    × (check_number (take_back_check (held_index 1 0 0 3) (held_store (0 ∷ 0 ∷ 0 ∷ 0 ∷ []))) ≡ 0)
unfolding take_back_check held_index held_store
trial-take_back_check = (refl, refl, refl, refl, refl)

-- ---- withdrawing

-- 02, K10: 4, 3, 24: more vectors held than there is room for; a short list, though nobody has the id; an id of no vector, and one of a vector that is not held;
-- an id that is held, in an index that is built and in one that is not
trial-withdraw-check :
    (check_number (withdraw_check (held_index 4 0 0 3) (held_store []) 7) ≡ 4) × (check_number (withdraw_check (held_index 2 0 0 3) (held_store []) 6) ≡ 3)
    × (check_number (withdraw_check (held_index 2 0 0 3) (held_store (0 ∷ 0 ∷ 0 ∷ 0 ∷ [])) 6) ≡ 24)
    × (check_number (withdraw_check (held_index 2 0 0 3) (held_store (0 ∷ 0 ∷ 0 ∷ 0 ∷ [])) 9) ≡ 24)
    × (check_number (withdraw_check (held_index 2 0 0 3) (held_store (0 ∷ 0 ∷ 0 ∷ 0 ∷ [])) 8) ≡ 0)
    × (check_number (withdraw_check (held_index 2 0 1 3) (held_store (0 ∷ 0 ∷ 0 ∷ 0 ∷ [])) 8) ≡ 0)
unfolding withdraw_check held_index held_store
trial-withdraw-check = (refl, refl, refl, refl, refl, refl)

-- the store with the document ids 8, 7 and 8
repeated : Store
unfolding held_store
repeated =
    record {
      floats = (held_store (0 ∷ 0 ∷ 0 ∷ 0 ∷ [])).floats;
      numbers = sets (held_store (0 ∷ 0 ∷ 0 ∷ 0 ∷ [])).numbers 0 (8 ∷ 7 ∷ 8 ∷ []);
      hashes = (held_store (0 ∷ 0 ∷ 0 ∷ 0 ∷ [])).hashes;
      text = (held_store (0 ∷ 0 ∷ 0 ∷ 0 ∷ [])).text;
    }

-- 'writes 0 on every vector with that id': with three vectors held on two, with two on one, and the mark past them stays
trial-withdrawn :
    (live_marks (index_shape (held_index 3 0 0 3)) 3 (withdrawn_from (held_index 3 0 0 3) repeated 8).numbers ≡ 0 ∷ 6 ∷ 0 ∷ [])
    × (live_marks (index_shape (held_index 3 0 0 3)) 3 (withdrawn_from (held_index 2 0 0 3) repeated 8).numbers ≡ 0 ∷ 6 ∷ 7 ∷ [])
unfolding withdrawn_from held_index held_store repeated
trial-withdrawn = (refl, refl)
