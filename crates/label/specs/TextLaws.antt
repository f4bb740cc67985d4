-- Laws of the text of names: what is written by lengths alone is the names' own, text and names come back from each other, and names after names.
use Rattle.std.specs.Prelude.{◌≡◌, ℕ, zero, suc, ◌+◌, ◌-◌, ◌%◌, ◌<◌, ◌≤◌, true, List, [], ◌∷◌, ◌++◌, length, take, drop, slice_index, slice_index_or, refl}
use Rattle.std.proofs.Common.{add-zero, zero-add, le_of_suc-le-suc, arith, sym, ap, ap₂, ◌∙◌, append_assoc, length-append, length-drop, take-append-drop, length-take-le}
use Rattle.std.proofs.lemmas.List.{map-append, length-map, get_or_at}
use Rattle.lists.specs.Lists.{part, total, pieces}
use Rattle.lists.specs.Counting.{joined-append}
use Rattle.lists.specs.Parts.{part_middle}
use Rattle.label.specs.Names.{joined_pairs, names_of, lengths_fit, starts_from, lengths_of_names, bytes_of_names, summed_pairs, starts_by_lengths}
use Rattle.label.specs.NameLaws.{fit_even, fit-total}

-- ---- as many as names

pub length-starts : (held : ℕ) (names : List (List ℕ)) → length (starts_from held names) ≡ length names
unfolding starts_from
length-starts held [] = refl
length-starts held (name ∷ names) = ap suc (length-starts (held + length name) names)

pub length-lengths : (names : List (List ℕ)) → length (lengths_of_names names) ≡ length names
unfolding lengths_of_names
length-lengths names = length-map names length

-- the bytes are as many as the lengths say
pub length-bytes : (names : List (List ℕ)) → length (bytes_of_names names) ≡ total (lengths_of_names names)
unfolding bytes_of_names lengths_of_names total
length-bytes [] = refl
length-bytes (name ∷ names) = length-append name (bytes_of_names names) ∙ ap (λ (n : ℕ). length name + n) (length-bytes names)

-- ---- by the lengths alone

pub starts-lengths : (held : ℕ) (names : List (List ℕ)) → starts_by_lengths held (lengths_of_names names) ≡ starts_from held names
unfolding starts_by_lengths lengths_of_names starts_from
starts-lengths held [] = refl
starts-lengths held (name ∷ names) = ap (λ (l : List ℕ). held ∷ l) (starts-lengths (held + length name) names)

-- the bytes that are left after a name
after_two : (a b : ℕ) (bytes : List ℕ) → length (drop b (drop a bytes)) ≡ length bytes - a - b
after_two a b bytes = length-drop b (drop a bytes) ∙ ap (λ (n : ℕ). n - b) (length-drop a bytes)

-- a name's two parts are as long as their lengths
two-long : (a b : ℕ) (bytes : List ℕ) → a + b ≤ length bytes → length (take a bytes ++ take b (drop a bytes)) ≡ a + b
two-long a b bytes h =
    length-append (take a bytes) (take b (drop a bytes))
    ∙ ap₂ ◌+◌ (length-take-le a bytes (omega arith)) (length-take-le b (drop a bytes) (rw length-drop (omega arith)))

summed-pairs : (lengths bytes : List ℕ) → total lengths ≡ length bytes → summed_pairs lengths ≡ lengths_of_names (names_of lengths bytes)
unfolding summed_pairs lengths_of_names names_of pieces joined_pairs total
summed-pairs [] bytes e = refl
summed-pairs (first ∷ []) bytes e = refl
summed-pairs (first ∷ second ∷ lengths) bytes e =
    let left = after_two first second bytes in
    ap₂ (λ (n : ℕ) (l : List ℕ). n ∷ l) (sym (two-long first second bytes (omega arith)))
    (summed-pairs lengths (drop second (drop first bytes)) (omega arith))

-- the lengths that `write_places` writes
pub lengths_of_names_lem : (lengths bytes : List ℕ) → lengths_fit lengths (length bytes) ≡ true → summed_pairs lengths ≡ lengths_of_names (names_of lengths bytes)
lengths_of_names_lem lengths bytes f = summed-pairs lengths bytes (fit-total lengths (length bytes) f)

-- the starts that it writes
pub starts_of_names : (held : ℕ) (lengths bytes : List ℕ) → lengths_fit lengths (length bytes) ≡ true
    → starts_by_lengths held (summed_pairs lengths) ≡ starts_from held (names_of lengths bytes)
starts_of_names held lengths bytes f =
    ap (λ (l : List ℕ). starts_by_lengths held l) (lengths_of_names_lem lengths bytes f) ∙ starts-lengths held (names_of lengths bytes)

-- ---- the bytes of an add are its names', one after the other

none : (bytes : List ℕ) → 0 ≡ length bytes → [] ≡ bytes
none [] e = refl
none (x ∷ bytes) e = absurd (omega arith)

pairs-joined : (lengths bytes : List ℕ) → length lengths % 2 ≡ 0 → total lengths ≡ length bytes → bytes_of_names (names_of lengths bytes) ≡ bytes
unfolding bytes_of_names names_of pieces joined_pairs total
pairs-joined [] bytes even e = none bytes e
pairs-joined (first ∷ []) bytes even e = absurd (omega arith)
pairs-joined (first ∷ second ∷ lengths) bytes even e =
    let left = after_two first second bytes in
    let rest = drop first bytes in
    ap (λ (l : List ℕ). take first bytes ++ take second rest ++ l) (pairs-joined lengths (drop second rest) (omega arith) (omega arith))
    ∙ append_assoc (take first bytes) (take second rest) (drop second rest)
    ∙ ap (λ (l : List ℕ). take first bytes ++ l) (take-append-drop second rest)
    ∙ take-append-drop first bytes

pub bytes-joined : (lengths bytes : List ℕ) → lengths_fit lengths (length bytes) ≡ true → bytes_of_names (names_of lengths bytes) ≡ bytes
bytes-joined lengths bytes f = pairs-joined lengths bytes (fit_even lengths (length bytes) f) (fit-total lengths (length bytes) f)

pub length-joined-bytes : (lengths bytes : List ℕ) → lengths_fit lengths (length bytes) ≡ true → length bytes ≡ length (bytes_of_names (names_of lengths bytes))
length-joined-bytes lengths bytes f = ap length (sym (bytes-joined lengths bytes f))

-- ---- names after names

pub lengths-append : (xs ys : List (List ℕ)) → lengths_of_names (xs ++ ys) ≡ lengths_of_names xs ++ lengths_of_names ys
unfolding lengths_of_names
lengths-append xs ys = map-append length xs ys

pub bytes-append : (xs ys : List (List ℕ)) → bytes_of_names (xs ++ ys) ≡ bytes_of_names xs ++ bytes_of_names ys
unfolding bytes_of_names
bytes-append xs ys = joined-append (λ name. name) xs ys

pub starts-append : (held : ℕ) (xs ys : List (List ℕ))
    → starts_from held (xs ++ ys) ≡ starts_from held xs ++ starts_from (held + length (bytes_of_names xs)) ys
unfolding starts_from bytes_of_names
starts-append held [] ys = ap (λ (n : ℕ). starts_from n ys) (sym (add-zero held))
starts-append held (name ∷ xs) ys =
    let long = length-append name (bytes_of_names xs) in
    let on : held + length name + length (bytes_of_names xs) ≡ held + length (name ++ bytes_of_names xs) = omega arith in
    ap (λ (l : List ℕ). held ∷ l)
    (starts-append (held + length name) xs ys ∙ ap (λ (n : ℕ). starts_from (held + length name) xs ++ starts_from n ys) on)

-- the first of some names starts where those before them end
pub start-append : (xs ys : List (List ℕ)) → 0 < length ys → slice_index (starts_from 0 (xs ++ ys)) (length xs) ≡ length (bytes_of_names xs)
unfolding starts_from
start-append xs [] h = absurd (omega arith)
start-append xs (y ∷ ys) h =
    let held = length (bytes_of_names xs) in
    ap (λ (l : List ℕ). slice_index l (length xs)) (starts-append 0 xs (y ∷ ys))
    ∙ get_or_at (starts_from 0 xs) (0 + held) (starts_from (0 + held + length y) ys) 0 (length xs) (length-starts 0 xs)
    ∙ zero-add held

-- ---- a name by its start and length

-- behind any text
pub name-behind : (front : List ℕ) (names : List (List ℕ)) (e : ℕ) → e < length names
    → part (slice_index (starts_from (length front) names) e) (slice_index (lengths_of_names names) e) (front ++ bytes_of_names names) ≡ slice_index_or names e []
unfolding starts_from lengths_of_names bytes_of_names
name-behind front [] e h = absurd (omega arith)
name-behind front (name ∷ names) zero h =
    ap (λ (l : List ℕ). part (length front) (length name) l) (sym (append_assoc front name (bytes_of_names names)))
    ∙ part_middle front name (bytes_of_names names)
name-behind front (name ∷ names) (suc e) h =
    ap₂ (λ (n : ℕ) (l : List ℕ). part (slice_index (starts_from n names) e) (slice_index (lengths_of_names names) e) l) (sym (length-append front name))
    (sym (append_assoc front name (bytes_of_names names)))
    ∙ name-behind (front ++ name) names e (le_of_suc-le-suc h)

pub name-read : (names : List (List ℕ)) (e : ℕ) → e < length names
    → part (slice_index (starts_from 0 names) e) (slice_index (lengths_of_names names) e) (bytes_of_names names) ≡ slice_index_or names e []
name-read names e h = name-behind [] names e h

-- it ends within the bytes
end_from : (held : ℕ) (names : List (List ℕ)) (e : ℕ) → e < length names
    → slice_index (starts_from held names) e + slice_index (lengths_of_names names) e ≤ held + length (bytes_of_names names)
unfolding starts_from lengths_of_names bytes_of_names
end_from held [] e h = absurd (omega arith)
end_from held (name ∷ names) zero h = let long = length-append name (bytes_of_names names) in omega arith
end_from held (name ∷ names) (suc e) h =
    let long = length-append name (bytes_of_names names) in
    let later = end_from (held + length name) names e (le_of_suc-le-suc h) in
    omega arith

pub name-end : (names : List (List ℕ)) (e : ℕ) → e < length names
    → slice_index (starts_from 0 names) e + slice_index (lengths_of_names names) e ≤ length (bytes_of_names names)
name-end names e h = let within = end_from 0 names e h in omega arith
