-- Values beside document 01's trial echoes (those are crates/trial_table/specs/Table.antt): two of the published FNV-1a vectors, names in two parts,
-- and their text.
use Rattle.std.specs.Prelude.{◌≡◌, true, false, [], ◌∷◌, refl}
use Rattle.std.proofs.Common.{◌∙◌}
use Rattle.label.specs.Fnv.{fnv}
use Rattle.label.specs.Names.{names_of, lengths_fit, starts_from, lengths_of_names, bytes_of_names, summed_pairs, starts_by_lengths}
use Rattle.label.specs.FnvLaws.{fnv_computes, fnv_bytes}

-- The labels "a" and "foobar".
pub vectors : (fnv (0x61 ∷ []) ≡ 0xaf63dc4c8601ec8c) × (fnv (0x66 ∷ 0x6f ∷ 0x6f ∷ 0x62 ∷ 0x61 ∷ 0x72 ∷ []) ≡ 0x85944171f73967e8)
unfolding fnv_bytes
vectors = (fnv_computes (0x61 ∷ []) tt ∙ refl, fnv_computes (0x66 ∷ 0x6f ∷ 0x6f ∷ 0x62 ∷ 0x61 ∷ 0x72 ∷ []) tt ∙ refl)

-- ---- names in two parts

-- names of lengths 1 and 2 with an empty one between them, parted in two ways: the first part stands before the second
trial-names :
    (names_of (1 ∷ 0 ∷ 0 ∷ 0 ∷ 1 ∷ 1 ∷ []) (97 ∷ 98 ∷ 99 ∷ []) ≡ (97 ∷ []) ∷ [] ∷ (98 ∷ 99 ∷ []) ∷ [])
    × (names_of (0 ∷ 1 ∷ 0 ∷ 0 ∷ 2 ∷ 0 ∷ []) (97 ∷ 98 ∷ 99 ∷ []) ≡ (97 ∷ []) ∷ [] ∷ (98 ∷ 99 ∷ []) ∷ [])
unfolding names_of
trial-names = (refl, refl)

-- the lengths are read by their sum, and an odd list fits nothing, no bytes either; no lengths fit no bytes
trial-lengths :
    (lengths_fit (1 ∷ 2 ∷ []) 3 ≡ true) × (lengths_fit (3 ∷ 0 ∷ []) 3 ≡ true) × (lengths_fit (1 ∷ 2 ∷ []) 2 ≡ false) × (lengths_fit (3 ∷ []) 3 ≡ false)
    × (lengths_fit (1 ∷ 2 ∷ 0 ∷ []) 3 ≡ false)
    × (lengths_fit (0 ∷ []) 0 ≡ false)
    × (lengths_fit (0 ∷ 0 ∷ 0 ∷ []) 0 ≡ false)
    × (lengths_fit [] 0 ≡ true)
unfolding lengths_fit
trial-lengths = (refl, refl, refl, refl, refl, refl, refl, refl)

-- ---- label text

-- the names `ab`, an empty one and `c`, with 5 bytes held; the same by their lengths, parted in two
trial-text :
    (starts_from 5 ((97 ∷ 98 ∷ []) ∷ [] ∷ (99 ∷ []) ∷ []) ≡ 5 ∷ 7 ∷ 7 ∷ [])
    × (lengths_of_names ((97 ∷ 98 ∷ []) ∷ [] ∷ (99 ∷ []) ∷ []) ≡ 2 ∷ 0 ∷ 1 ∷ [])
    × (bytes_of_names ((97 ∷ 98 ∷ []) ∷ [] ∷ (99 ∷ []) ∷ []) ≡ 97 ∷ 98 ∷ 99 ∷ [])
    × (starts_by_lengths 5 (summed_pairs (1 ∷ 1 ∷ 0 ∷ 0 ∷ 0 ∷ 1 ∷ [])) ≡ 5 ∷ 7 ∷ 7 ∷ [])
    × (summed_pairs (1 ∷ 1 ∷ 0 ∷ 0 ∷ 0 ∷ 1 ∷ []) ≡ 2 ∷ 0 ∷ 1 ∷ [])
unfolding starts_from lengths_of_names bytes_of_names summed_pairs starts_by_lengths
trial-text = (refl, refl, refl, refl, refl)
