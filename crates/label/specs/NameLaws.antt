-- Laws of the names of an add: how many, where each starts, the hash of each, and the lists of names that are parted somehow.
use Rattle.lists.specs.Parts.{length-pieces}
use Rattle.std.specs.Prelude.{◌≡◌, ℕ, suc, ◌+◌, ◌*◌, ◌/◌, ◌%◌, ◌<◌, true, ◌&&◌, List, [], ◌∷◌, ◌++◌, map, length, take, drop, ◌==◌, slice_index, refl}
use Rattle.std.proofs.Common.{arith, eq-eqb, eqb-true, sym, ap, ap₂, ◌∙◌, append-nil, length-append, drop-cons, drop-drop}
use Rattle.std.proofs.lemmas.List.{length-map}
use Rattle.std.proofs.Math.Seq.{take-append_seam, drop-append_seam}
use Rattle.label.specs.Fnv.{fnv}
use Rattle.lists.specs.Lists.{part, total, pieces}
use Rattle.lists.specs.Tests.{and_left, and_right}
use Rattle.label.specs.Names.{joined_pairs, names_of, lengths_fit, whole_lengths, hashes_of_labels, Name, joined_name, part_lengths, part_bytes}

-- ---- sums

-- the lengths from a place on
pub total-drop : (l : List ℕ) (i : ℕ) → i < length l → total (drop i l) ≡ slice_index l i + total (drop (suc i) l)
unfolding total
total-drop l i h = ap total (drop-cons l i 0 h)

-- the lengths of a name, and those after it
pub total-drop-two : (l : List ℕ) (i : ℕ) → i < length l / 2 → total (drop (2 * i) l) ≡ slice_index l (2 * i) + slice_index l (2 * i + 1) + total (drop (2 * (i + 1)) l)
total-drop-two l i h =
    let next : 2 * i + 1 ≡ suc (2 * i) = omega arith in
    let on : 2 * (i + 1) ≡ suc (suc (2 * i)) = omega arith in
    let one = total-drop l (2 * i) (omega arith) in
    let two = total-drop l (suc (2 * i)) (omega arith) in
    rw (next, on) (omega arith)

-- ---- names

-- half as many as lengths
pub length_pairs : (parts : List (List ℕ)) → length (joined_pairs parts) ≡ length parts / 2
unfolding joined_pairs
length_pairs [] = refl
length_pairs (first ∷ []) = refl
length_pairs (first ∷ second ∷ parts) = let h = length_pairs parts in omega arith

pub length-names : (lengths bytes : List ℕ) → length (names_of lengths bytes) ≡ length lengths / 2
unfolding names_of
length-names lengths bytes = length_pairs (pieces lengths bytes) ∙ ap (λ (n : ℕ). n / 2) (length-pieces lengths bytes)

pub length-hashes_of_labels : (names : List (List ℕ)) → length (hashes_of_labels names) ≡ length names
unfolding hashes_of_labels
length-hashes_of_labels names = length-map names fnv

-- the lengths from a place on are its name's two and those after it
pub two-lengths : (lengths : List ℕ) (i : ℕ) → suc i < length lengths → drop i lengths ≡ slice_index lengths i ∷ slice_index lengths (suc i) ∷ drop (suc (suc i)) lengths
two-lengths lengths i h = drop-cons lengths i 0 (omega arith) ∙ ap (λ (l : List ℕ). slice_index lengths i ∷ l) (drop-cons lengths (suc i) 0 h)

-- the names from a place on: `first` and `second` are its name's two lengths, and its first part starts at `start`
pub names-drop : (lengths bytes : List ℕ) (i start first second : ℕ) → suc i < length lengths → first ≡ slice_index lengths i → second ≡ slice_index lengths (suc i)
    → names_of (drop i lengths) (drop start bytes)
    ≡ (part start first bytes ++ part (start + first) second bytes) ∷ names_of (drop (suc (suc i)) lengths) (drop (start + first + second) bytes)
unfolding names_of pieces joined_pairs
names-drop lengths bytes i start first second h e g =
    ap (λ (l : List ℕ). joined_pairs (pieces l (drop start bytes))) (two-lengths lengths i h)
    ∙ ap₂ (λ (a b : ℕ). (take a (drop start bytes) ++ take b (drop a (drop start bytes))) ∷ joined_pairs (pieces (drop (suc (suc i)) lengths) (drop b (drop a (drop start bytes))))) (sym e) (sym g)
    ∙ ap (λ (rest : List ℕ). (part start first bytes ++ take second rest) ∷ joined_pairs (pieces (drop (suc (suc i)) lengths) (drop second rest))) (drop-drop first start bytes)
    ∙ ap (λ (rest : List ℕ). (part start first bytes ++ part (start + first) second bytes) ∷ joined_pairs (pieces (drop (suc (suc i)) lengths) rest)) (drop-drop second (start + first) bytes)

-- lengths that fit are two a name, and sum to the bytes
pub fit_even : (lengths : List ℕ) (bytes : ℕ) → lengths_fit lengths bytes ≡ true → length lengths % 2 ≡ 0
unfolding lengths_fit
fit_even lengths bytes e = eqb-true _ _ (and_left (length lengths % 2 == 0) (total lengths == bytes) e)

pub fit-total : (lengths : List ℕ) (bytes : ℕ) → lengths_fit lengths bytes ≡ true → total lengths ≡ bytes
unfolding lengths_fit
fit-total lengths bytes e = eqb-true _ _ (and_right (length lengths % 2 == 0) (total lengths == bytes) e)

-- ---- names whose second part is empty

pub length_whole : (lengths : List ℕ) → length (whole_lengths lengths) ≡ 2 * length lengths
unfolding whole_lengths
length_whole [] = refl
length_whole (n ∷ lengths) = let h = length_whole lengths in omega arith

total-whole : (lengths : List ℕ) → total (whole_lengths lengths) ≡ total lengths
unfolding whole_lengths total
total-whole [] = refl
total-whole (n ∷ lengths) = let h = total-whole lengths in omega arith

-- they are the pieces that their lengths cut
pub names-whole : (lengths bytes : List ℕ) → names_of (whole_lengths lengths) bytes ≡ pieces lengths bytes
unfolding names_of pieces joined_pairs whole_lengths
names-whole [] bytes = refl
names-whole (n ∷ lengths) bytes = ap₂ (λ (a : List ℕ) (l : List (List ℕ)). a ∷ l) (append-nil (take n bytes)) (names-whole lengths (drop n bytes))

pub whole-fit : (lengths : List ℕ) (bytes : ℕ) → total lengths ≡ bytes → lengths_fit (whole_lengths lengths) bytes ≡ true
unfolding lengths_fit
whole-fit lengths bytes e =
    let h = length_whole lengths in
    let even : length (whole_lengths lengths) % 2 ≡ 0 = omega arith in
    ap₂ ◌&&◌ (eq-eqb _ _ even) (eq-eqb _ _ (total-whole lengths ∙ e))

-- ---- names parted somehow

-- the names that an add sees are the joined ones
pub names_parted : (names : List Name) → names_of (part_lengths names) (part_bytes names) ≡ map joined_name names
unfolding names_of pieces joined_pairs part_lengths part_bytes
names_parted [] = refl
names_parted (name ∷ names) =
    let a = name.first in
    let b = name.second in
    let rest = part_bytes names in
    ap₂ (λ (p l : List ℕ). (p ++ take (length b) l) ∷ joined_pairs (pieces (part_lengths names) (drop (length b) l))) (take-append_seam a (b ++ rest)) (drop-append_seam a (b ++ rest))
    ∙ ap₂ (λ (p l : List ℕ). (a ++ p) ∷ joined_pairs (pieces (part_lengths names) l)) (take-append_seam b rest) (drop-append_seam b rest)
    ∙ ap (λ (l : List (List ℕ)). (a ++ b) ∷ l) (names_parted names)

-- and its lengths fit
parts_even : (names : List Name) → length (part_lengths names) % 2 ≡ 0
unfolding part_lengths
parts_even [] = refl
parts_even (name ∷ names) = let h = parts_even names in omega arith

parts-total : (names : List Name) → total (part_lengths names) ≡ length (part_bytes names)
unfolding part_lengths part_bytes total
parts-total [] = refl
parts-total (name ∷ names) =
    let h = parts-total names in
    omega (arith, length-append name.first (name.second ++ part_bytes names), length-append name.second (part_bytes names))

pub parts-fit : (names : List Name) → lengths_fit (part_lengths names) (length (part_bytes names)) ≡ true
unfolding lengths_fit
parts-fit names = ap₂ ◌&&◌ (eq-eqb _ _ (parts_even names)) (eq-eqb _ _ (parts-total names))
