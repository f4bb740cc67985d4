-- Steps of the loops over names: a test that counts down; a name's bytes; the hashes, the text, the lengths and starts place by place.
use Rattle.std.proofs.Common.{◌≡◌, ℕ, suc, ◌+◌, ◌-◌, ◌*◌, ◌/◌, ◌%◌, ◌<◌, ◌≤◌, Bool, true, false, eqb, List, [], ◌∷◌, ◌++◌, map, length, get_or, drop, set, sym, refl, ap, ◌∙◌, append-nil, add-one, arith, length-drop, take-append-drop, drop_of_length-le, drop-cons, drop-drop, eq-eqb, eqb-true}
use lib.Seq.{sets, sets-eq}
use Rattle.lists.specs.Lists.{part, total}
use Rattle.lists.specs.Parts.{length_part, part-zero, part-cons, part-append-parts, sets-append, set-sets-after}
use Rattle.label.specs.Fnv.{fnv_step, fnv_from, fnv}
use Rattle.label.specs.Names.{names_of, whole_lengths, hashes_of_labels, summed_pairs, starts_by_lengths}
use Rattle.label.specs.NameLaws.{names-drop, two-lengths, length-names, length_whole}

-- two tests that follow from each other
same_test : (s t : Bool) → (s ≡ true → t ≡ true) → (t ≡ true → s ≡ true) → s ≡ t
same_test true t f g = sym (f refl)
same_test false true f g = g refl
same_test false false f g = refl

pub same-eqb : (a b c d : ℕ) → (a ≡ b → c ≡ d) → (c ≡ d → a ≡ b) → eqb a b ≡ eqb c d
same-eqb a b c d f g = same_test (eqb a b) (eqb c d) (λ h. eq-eqb c d (f (eqb-true a b h))) (λ h. eq-eqb a b (g (eqb-true c d h)))

-- ---- the bytes of a name, copied and hashed

-- those from a place to the end: the next one and those after it, or none
bytes_left_lem : (bytes : List ℕ) (i end : ℕ) → i < end → end ≤ length bytes → part i (end - i) bytes ≡ get_or bytes i 0 ∷ part (i + 1) (end - (i + 1)) bytes
bytes_left_lem bytes i end h k =
    let more : end - i ≡ suc (end - (i + 1)) = omega arith in
    let next : suc i ≡ i + 1 = omega arith in
    ap (λ (n : ℕ). part i n bytes) more
    ∙ part-cons i (end - (i + 1)) bytes 0 (omega arith)
    ∙ ap (λ (j : ℕ). get_or bytes i 0 ∷ part j (end - (i + 1)) bytes) next

none_left : (bytes : List ℕ) (i end : ℕ) → end ≤ i → part i (end - i) bytes ≡ []
none_left bytes i end h =
    let no_more : end - i ≡ 0 = omega arith in
    ap (λ (n : ℕ). part i n bytes) no_more ∙ part-zero i bytes

-- one byte on
pub byte_hashed : (bytes : List ℕ) (hash i end : ℕ) → i < end → end ≤ length bytes
    → fnv_from (fnv_step hash (get_or bytes i 0)) (part (i + 1) (end - (i + 1)) bytes) ≡ fnv_from hash (part i (end - i) bytes)
unfolding fnv_from
byte_hashed bytes hash i end h k = sym (ap (λ (l : List ℕ). fnv_from hash l) (bytes_left_lem bytes i end h k))

pub byte_copied : (l bytes : List ℕ) (place i end : ℕ) → i < end → end ≤ length bytes
    → sets (set l (place + i) (get_or bytes i 0)) (place + (i + 1)) (part (i + 1) (end - (i + 1)) bytes) ≡ sets l (place + i) (part i (end - i) bytes)
byte_copied l bytes place i end h k =
    let at : place + (i + 1) ≡ suc (place + i) = omega arith in
    ap (λ (j : ℕ). sets (set l (place + i) (get_or bytes i 0)) j (part (i + 1) (end - (i + 1)) bytes)) at
    ∙ sym (ap (λ (vs : List ℕ). sets l (place + i) vs) (bytes_left_lem bytes i end h k))

-- none left
pub hashed-all : (bytes : List ℕ) (hash i end : ℕ) → end ≤ i → fnv_from hash (part i (end - i) bytes) ≡ hash
unfolding fnv_from
hashed-all bytes hash i end h = ap (λ (l : List ℕ). fnv_from hash l) (none_left bytes i end h)

pub copied_all : (l bytes : List ℕ) (at i end : ℕ) → end ≤ i → sets l at (part i (end - i) bytes) ≡ l
copied_all l bytes at i end h = ap (λ (vs : List ℕ). sets l at vs) (none_left bytes i end h)

-- ---- the hashes and the text, name by name

-- a name's hash, its parts standing one behind the other
pub joined-hash : (bytes : List ℕ) (start middle end hash : ℕ) → start ≤ middle → middle ≤ end → hash ≡ fnv (part start (end - start) bytes)
    → hash ≡ fnv (part start (middle - start) bytes ++ part middle (end - middle) bytes)
joined-hash bytes start middle end hash a b e =
    let to-middle : start + (middle - start) ≡ middle = omega arith in
    let to_end : (middle - start) + (end - middle) ≡ end - start = omega arith in
    e ∙ ap fnv (sym (ap (λ (n : ℕ). part start (middle - start) bytes ++ part n (end - middle) bytes) (sym to-middle)
    ∙ part-append-parts start (middle - start) (end - middle) bytes ∙ ap (λ (n : ℕ). part start n bytes) to_end))

-- one place more of the hashes
pub hash-step : (l lengths bytes : List ℕ) (place i start middle end hash : ℕ) → i < length lengths / 2 → middle ≡ start + get_or lengths (2 * i) 0
    → end ≡ middle + get_or lengths (2 * i + 1) 0
    → hash ≡ fnv (part start (middle - start) bytes ++ part middle (end - middle) bytes)
    → sets l (place + i) (hashes_of_labels (names_of (drop (2 * i) lengths) (drop start bytes)))
    ≡ sets (set l (place + i) hash) (place + (i + 1)) (hashes_of_labels (names_of (drop (2 * (i + 1)) lengths) (drop end bytes)))
unfolding hashes_of_labels
hash-step l lengths bytes place i start middle end hash h e f g =
    let next : 2 * i + 1 ≡ suc (2 * i) = omega arith in
    let f' : end ≡ middle + get_or lengths (suc (2 * i)) 0 = f ∙ ap (λ (k : ℕ). middle + get_or lengths k 0) next in
    let first : middle - start ≡ get_or lengths (2 * i) 0 = omega arith in
    let second : end - middle ≡ get_or lengths (suc (2 * i)) 0 = omega arith in
    let to-middle : start + (middle - start) ≡ middle = omega arith in
    let to_end : middle + (end - middle) ≡ end = omega arith in
    let at : place + (i + 1) ≡ suc (place + i) = omega arith in
    let on : 2 * (i + 1) ≡ suc (suc (2 * i)) = omega arith in
    ap (λ (names : List (List ℕ)). sets l (place + i) (map fnv names)) (names-drop lengths bytes (2 * i) start (middle - start) (end - middle) (omega arith) first second)
    ∙ rw (g, at, on, to-middle, to_end)

-- past the last label nothing is due
no_names : (l : List ℕ) (place : ℕ) (names : List (List ℕ)) → length names ≡ 0 → sets l place (hashes_of_labels names) ≡ l
unfolding hashes_of_labels
no_names l place [] e = refl
no_names l place (name ∷ names) e = absurd (omega arith)

pub hash-end : (l lengths rest : List ℕ) (place i : ℕ) → length lengths / 2 ≤ i → sets l place (hashes_of_labels (names_of (drop (2 * i) lengths) rest)) ≡ l
hash-end l lengths rest place i h =
    let left = length-drop (2 * i) lengths in
    no_names l place (names_of (drop (2 * i) lengths) rest) (length-names (drop (2 * i) lengths) rest ∙ omega arith)

-- the bytes left are those of the next name, which were copied, and those after it
pub text-step : (l copied bytes : List ℕ) (held start end : ℕ) → start ≤ end → end ≤ length bytes
    → copied ≡ sets l (held + start) (part start (end - start) bytes) → sets l (held + start) (drop start bytes) ≡ sets copied (held + end) (drop end bytes)
text-step l copied bytes held start end h k e =
    let n = end - start in
    let to_end : start + n ≡ end = omega arith in
    let long = length_part start n bytes (omega arith) in
    let at : held + start + length (part start n bytes) ≡ held + end = omega arith in
    ap (λ (vs : List ℕ). sets l (held + start) vs)
    (sym (take-append-drop n (drop start bytes)) ∙ ap (λ (rest : List ℕ). part start n bytes ++ rest) (drop-drop n start bytes))
    ∙ sets-append l (held + start) (part start n bytes) (drop (start + n) bytes)
    ∙ rw (e, at, to_end)

-- past the last name none are left: there are two lengths a name
pub text-end : (l lengths bytes : List ℕ) (held start i : ℕ) → length lengths % 2 ≡ 0 → start + total (drop (2 * i) lengths) ≡ length bytes
    → length lengths / 2 ≤ i → sets l (held + start) (drop start bytes) ≡ l
unfolding total
text-end l lengths bytes held start i even e h =
    let none = ap total (drop_of_length-le lengths {i = 2 * i} (omega arith)) in
    ap (λ (vs : List ℕ). sets l (held + start) vs) (drop_of_length-le bytes {i = start} (omega arith))

-- ---- lengths and starts by the lengths list

-- the name lengths from a place on: `n` is that of its name
summed-drop : (lengths : List ℕ) (i n : ℕ) → i < length lengths / 2 → n ≡ get_or lengths (2 * i) 0 + get_or lengths (2 * i + 1) 0
    → summed_pairs (drop (2 * i) lengths) ≡ n ∷ summed_pairs (drop (2 * (i + 1)) lengths)
unfolding summed_pairs
summed-drop lengths i n h e =
    let next : 2 * i + 1 ≡ suc (2 * i) = omega arith in
    let on : 2 * (i + 1) ≡ suc (suc (2 * i)) = omega arith in
    ap summed_pairs (two-lengths lengths (2 * i) (omega arith)) ∙ rw (e, next, on)

-- past the last name there are none
summed-none : (lengths : List ℕ) → length lengths ≤ 1 → summed_pairs lengths ≡ []
unfolding summed_pairs
summed-none [] h = refl
summed-none (first ∷ []) h = refl
summed-none (first ∷ second ∷ lengths) h = absurd (omega arith)

summed-past : (lengths : List ℕ) (i : ℕ) → length lengths / 2 ≤ i → summed_pairs (drop (2 * i) lengths) ≡ []
summed-past lengths i h = let left = length-drop (2 * i) lengths in summed-none (drop (2 * i) lengths) (omega arith)

-- as many lengths as names, and as many starts as lengths
length-summed : (lengths : List ℕ) → length (summed_pairs lengths) ≡ length lengths / 2
unfolding summed_pairs
length-summed [] = refl
length-summed (first ∷ []) = refl
length-summed (first ∷ second ∷ lengths) = let h = length-summed lengths in omega arith

length-starts : (held : ℕ) (ns : List ℕ) → length (starts_by_lengths held ns) ≡ length ns
unfolding starts_by_lengths
length-starts held [] = refl
length-starts held (n ∷ ns) = ap suc (length-starts (held + n) ns)

-- the list with starts from one place on and lengths from another
abbrev pub placed : List ℕ → ℕ → ℕ → ℕ → List ℕ → List ℕ
placed l starts sizes start ns = sets (sets l starts (starts_by_lengths start ns)) sizes ns

-- one place more of both: the starts after it end before the lengths begin, so a length is written before them as well as after
pub place-step : (l lengths : List ℕ) (starts sizes i start n : ℕ) → i < length lengths / 2 → starts + length lengths / 2 ≤ sizes
    → n ≡ get_or lengths (2 * i) 0 + get_or lengths (2 * i + 1) 0
    → placed l (starts + i) (sizes + i) start (summed_pairs (drop (2 * i) lengths))
    ≡ placed (set (set l (starts + i) start) (sizes + i) n) (starts + (i + 1)) (sizes + (i + 1)) (start + n) (summed_pairs (drop (2 * (i + 1)) lengths))
unfolding starts_by_lengths
place-step l lengths starts sizes i start n h apart e =
    let ns = summed_pairs (drop (2 * (i + 1)) lengths) in
    let later = starts_by_lengths (start + n) ns in
    let many = length-starts (start + n) ns ∙ length-summed (drop (2 * (i + 1)) lengths) ∙ ap (λ (k : ℕ). k / 2) (length-drop (2 * (i + 1)) lengths) in
    let at-start : starts + (i + 1) ≡ suc (starts + i) = omega arith in
    let at_size : sizes + (i + 1) ≡ suc (sizes + i) = omega arith in
    let before : suc (starts + i) + length later ≤ sizes + i = omega arith in
    ap (λ (ns : List ℕ). placed l (starts + i) (sizes + i) start ns) (summed-drop lengths i n h e)
    ∙ ap (λ (r : List ℕ). sets r (suc (sizes + i)) ns) (set-sets-after (set l (starts + i) start) (sizes + i) n (suc (starts + i)) later before)
    ∙ rw (at-start, at_size)

-- none left
pub place_end : (l lengths : List ℕ) (starts sizes i start : ℕ) → length lengths / 2 ≤ i
    → placed l starts sizes start (summed_pairs (drop (2 * i) lengths)) ≡ l
unfolding starts_by_lengths
place_end l lengths starts sizes i start h = ap (λ (ns : List ℕ). placed l starts sizes start ns) (summed-past lengths i h)

-- ---- lengths of names whose second part is empty

-- one name more
pub whole-step : (l lengths : List ℕ) (i : ℕ) → i < length lengths
    → sets l (2 * i) (whole_lengths (drop i lengths)) ≡ sets (set (set l (2 * i) (get_or lengths i 0)) (2 * i + 1) 0) (2 * (i + 1)) (whole_lengths (drop (i + 1) lengths))
unfolding whole_lengths
whole-step l lengths i h =
    let next : 2 * i + 1 ≡ suc (2 * i) = omega arith in
    let on : 2 * (i + 1) ≡ suc (suc (2 * i)) = omega arith in
    ap (λ (rest : List ℕ). sets l (2 * i) (whole_lengths rest)) (drop-cons lengths i 0 h)
    ∙ rw (next, on, add-one i)

-- none left
pub whole-end : (l lengths : List ℕ) (i : ℕ) → length lengths ≤ i → sets l (2 * i) (whole_lengths (drop i lengths)) ≡ l
unfolding whole_lengths
whole-end l lengths i h = rw (drop_of_length-le lengths h)

-- all of them fill the list
pub whole-all : (l lengths : List ℕ) → 2 * length lengths ≡ length l → sets l 0 (whole_lengths lengths) ≡ whole_lengths lengths
whole-all l lengths h =
    let vs = whole_lengths lengths in
    let long = length_whole lengths in
    sets-eq vs l 0 (omega arith) ∙ ap (λ (rest : List ℕ). vs ++ rest) (drop_of_length-le l (let k : length l ≤ 0 + length vs = omega arith in k)) ∙ append-nil vs
