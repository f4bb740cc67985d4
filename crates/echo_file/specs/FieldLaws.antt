-- Numbers, floats and labels: what is written of them is read back, and what is read is what was written.
use Rattle.std.specs.Prelude.{ℕ, zero, suc, ◌+◌, ◌-◌, ◌*◌, ◌/◌, ◌%◌, ◌^◌, ◌≤◌, ◌<◌, ◌≡◌, refl, ◌⊎◌, length, get_or, take, drop}
use Rattle.std.proofs.Common.{sym, ap, ap₂, ◌∙◌, subst, inl, inr, pow-suc, div-lt_iff_lt-mul, zero-lt-suc, not-suc-le-zero, le_of_suc-le-suc, arith, length-append, length-drop, take-append-drop, take_at, drop_at, length-take-le, take-take, drop-drop}
use mathlib.Core.List.Memᴰ
use mathlib.Core.List.{List, [], ◌∷◌, ◌++◌, map, Memᴰ, append_assoc}
use Rattle.std.proofs.Math.Nat.{pow-zero}
use Rattle.lists.specs.Lists.{joined, pieces, total}
use Rattle.lists.specs.Parts.{drop-take}
use Rattle.echo_file.specs.Format.{number_bytes, fours, label_bytes, Each, Bytes, Label}
use Rattle.echo_file.specs.Decode.{bytes_value, numbers}

-- ---- bytes

pub bytes_tail : {b : ℕ} {bytes : List ℕ} → Bytes (b ∷ bytes) → Bytes bytes
bytes_tail h x m = h x (Memᴰ.tail m)

pub bytes_take : (n : ℕ) (bytes : List ℕ) → Bytes bytes → Bytes (take n bytes)
bytes_take n bytes h x m = h x (subst (λ (l : List ℕ). Memᴰ x l) (take-append-drop n bytes) (Memᴰ.append_left (drop n bytes) m))

pub bytes_drop : (n : ℕ) (bytes : List ℕ) → Bytes bytes → Bytes (drop n bytes)
bytes_drop n bytes h x m = h x (subst (λ (l : List ℕ). Memᴰ x l) (take-append-drop n bytes) (Memᴰ.append_right (take n bytes) m))

pub each_cons : {A : Type 0} (P : A → Type 0) (a : A) (l : List A) → P a → Each P l → Each P (a ∷ l)
each_cons P a l p h x m = pick (Memᴰ.cases_cons m)
  where
    pick : (x ≡ a) ⊎ Memᴰ x l → P x
    pick (inl e) = subst P (sym e) p
    pick (inr m) = h x m

pub each_nil : {A : Type 0} (P : A → Type 0) → Each P []
each_nil P x m = absurd (Memᴰ.not-nil m)

-- ---- a number

pub length-number : (w n : ℕ) → length (number_bytes w n) ≡ w
unfolding number_bytes
length-number zero n = refl
length-number (suc w) n = ap suc (length-number w (n / 256))

pub value-number : (w n : ℕ) → n < 256 ^ w → bytes_value (number_bytes w n) ≡ n
unfolding number_bytes bytes_value
value-number zero n h = let k : n < 1 = rw pow-zero at h in omega arith
value-number (suc w) n h =
    let k : n < 256 ^ w * 256 = rw pow-suc at h in
    let e = value-number w (n / 256) ((div-lt_iff_lt-mul (zero-lt-suc 255)).1 k) in
    rw e (omega arith)

pub number-value : (bytes : List ℕ) → Bytes bytes → number_bytes (length bytes) (bytes_value bytes) ≡ bytes
unfolding number_bytes bytes_value
number-value [] h = refl
number-value (b ∷ bytes) h =
    let k : b < 256 = h b (Memᴰ.head refl) in
    let q : (b + 256 * bytes_value bytes) / 256 ≡ bytes_value bytes = omega arith in
    let r : (b + 256 * bytes_value bytes) % 256 ≡ b = omega arith in
    ap₂ (λ (x : ℕ) (l : List ℕ). x ∷ l) r (ap (number_bytes (length bytes)) q ∙ number-value bytes (bytes_tail h))

pub value_lt : (bytes : List ℕ) → Bytes bytes → bytes_value bytes < 256 ^ length bytes
unfolding bytes_value
value_lt [] h = let k : 0 < 256 ^ zero = rw pow-zero (omega arith) in k
value_lt (b ∷ bytes) h =
    let k : b < 256 = h b (Memᴰ.head refl) in
    let v = value_lt bytes (bytes_tail h) in
    let g : b + 256 * bytes_value bytes < 256 ^ length bytes * 256 = omega arith in
    rw pow-suc g

-- in a given width
pub number-bytes : (w : ℕ) (bytes : List ℕ) → Bytes bytes → length bytes ≡ w → number_bytes w (bytes_value bytes) ≡ bytes
number-bytes w bytes h e = ap (λ (k : ℕ). number_bytes k (bytes_value bytes)) (sym e) ∙ number-value bytes h

pub value-below : (w : ℕ) (bytes : List ℕ) → Bytes bytes → length bytes ≡ w → bytes_value bytes < 256 ^ w
value-below w bytes h e = subst (λ (k : ℕ). bytes_value bytes < 256 ^ k) e (value_lt bytes h)

-- ---- numbers of four bytes

pub length-fours : (ns : List ℕ) → length (fours ns) ≡ 4 * length ns
unfolding fours joined
length-fours [] = refl
length-fours (n ∷ ns) =
    let a = length-number 4 n in
    let b = length-fours ns in
    length-append (number_bytes 4 n) (fours ns) ∙ omega (arith, a, b)

pub length-numbers : (n : ℕ) (bytes : List ℕ) → length (numbers n bytes) ≡ n
unfolding numbers
length-numbers zero bytes = refl
length-numbers (suc n) bytes = ap suc (length-numbers n (drop 4 bytes))

-- what is written is read, whatever comes after
pub numbers-fours : (ns rest : List ℕ) → Each (λ n. n < 2 ^ 32) ns → numbers (length ns) (fours ns ++ rest) ≡ ns
unfolding numbers fours joined
numbers-fours [] rest h = refl
numbers-fours (n ∷ ns) rest h =
    let front : number_bytes 4 n ++ fours ns ++ rest ≡ number_bytes 4 n ++ (fours ns ++ rest) = append_assoc (number_bytes 4 n) (fours ns) rest in
    let k : n < 2 ^ 32 = h n (Memᴰ.head refl) in
    let one : bytes_value (take 4 (number_bytes 4 n ++ fours ns ++ rest)) ≡ n =
    ap (λ (l : List ℕ). bytes_value (take 4 l)) front
    ∙ ap bytes_value (take_at (number_bytes 4 n) (fours ns ++ rest) 4 (length-number 4 n))
    ∙ value-number 4 n k in
    let more : numbers (length ns) (drop 4 (number_bytes 4 n ++ fours ns ++ rest)) ≡ ns =
    ap (λ (l : List ℕ). numbers (length ns) (drop 4 l)) front
    ∙ ap (numbers (length ns)) (drop_at (number_bytes 4 n) (fours ns ++ rest) 4 (length-number 4 n))
    ∙ numbers-fours ns rest (λ x m. h x (Memᴰ.tail m)) in
    ap₂ (λ (x : ℕ) (l : List ℕ). x ∷ l) one more

four-front : (n : ℕ) (bytes : List ℕ) → length bytes ≡ 4 * suc n → length (take 4 bytes) ≡ 4
four-front n bytes e = length-take-le 4 bytes (omega arith)

four-rest : (n : ℕ) (bytes : List ℕ) → length bytes ≡ 4 * suc n → length (drop 4 bytes) ≡ 4 * n
four-rest n bytes e = length-drop 4 bytes ∙ omega arith

-- what is read is what was written
pub fours-numbers : (n : ℕ) (bytes : List ℕ) → Bytes bytes → length bytes ≡ 4 * n → fours (numbers n bytes) ≡ bytes
unfolding numbers fours joined
fours-numbers zero [] h e = refl
fours-numbers zero (b ∷ bytes) h e = absurd (omega arith)
fours-numbers (suc n) bytes h e =
    ap₂ (λ (a b : List ℕ). a ++ b)
    (number-bytes 4 (take 4 bytes) (bytes_take 4 bytes h) (four-front n bytes e))
    (fours-numbers n (drop 4 bytes) (bytes_drop 4 bytes h) (four-rest n bytes e))
    ∙ take-append-drop 4 bytes

pub numbers-width : (n : ℕ) (bytes : List ℕ) → Bytes bytes → length bytes ≡ 4 * n → Each (λ x. x < 2 ^ 32) (numbers n bytes)
unfolding numbers
numbers-width zero bytes h e = each_nil (λ x. x < 2 ^ 32)
numbers-width (suc n) bytes h e =
    each_cons (λ x. x < 2 ^ 32) (bytes_value (take 4 bytes)) (numbers n (drop 4 bytes))
    (value-below 4 (take 4 bytes) (bytes_take 4 bytes h) (four-front n bytes e))
    (numbers-width n (drop 4 bytes) (bytes_drop 4 bytes h) (four-rest n bytes e))

-- only their own bytes are read
pub numbers-take : (n k : ℕ) (bytes : List ℕ) → 4 * n ≤ k → numbers n (take k bytes) ≡ numbers n bytes
unfolding numbers
numbers-take zero k bytes h = refl
numbers-take (suc n) k bytes h =
    let g : 4 * n ≤ k - 4 = omega arith in
    ap₂ (λ (x : ℕ) (l : List ℕ). x ∷ l)
    (ap bytes_value (take-take 4 k bytes (omega arith)))
    (ap (numbers n) (drop-take 4 k bytes) ∙ numbers-take n (k - 4) (drop 4 bytes) g)

-- the number at a place among them
pub get_d_numbers : (n i : ℕ) (bytes : List ℕ) → i < n → get_or (numbers n bytes) i 0 ≡ bytes_value (take 4 (drop (4 * i) bytes))
unfolding numbers
get_d_numbers zero i bytes h = absurd (not-suc-le-zero h)
get_d_numbers (suc n) zero bytes h = refl
get_d_numbers (suc n) (suc i) bytes h =
    let e : 4 + 4 * i ≡ 4 * suc i = omega arith in
    get_d_numbers n i (drop 4 bytes) (le_of_suc-le-suc h)
    ∙ ap (λ (l : List ℕ). bytes_value (take 4 l)) (drop-drop (4 * i) 4 bytes ∙ ap (λ (k : ℕ). drop k bytes) e)

-- ---- labels

pub total-cons : (n : ℕ) (lengths : List ℕ) → total (n ∷ lengths) ≡ n + total lengths
unfolding total
total-cons n lengths = refl

pub length-label_bytes : (labels : List (List ℕ)) → length (label_bytes labels) ≡ total (map length labels)
unfolding label_bytes total joined
length-label_bytes [] = refl
length-label_bytes (label ∷ labels) = length-append label (label_bytes labels) ∙ ap (λ (n : ℕ). length label + n) (length-label_bytes labels)

-- what is written is read
pub pieces-label_bytes : (labels : List (List ℕ)) → pieces (map length labels) (label_bytes labels) ≡ labels
unfolding pieces label_bytes joined
pieces-label_bytes [] = refl
pieces-label_bytes (label ∷ labels) =
    ap₂ (λ (a : List ℕ) (l : List (List ℕ)). a ∷ l)
    (take_at label (label_bytes labels) (length label) refl)
    (ap (pieces (map length labels)) (drop_at label (label_bytes labels) (length label) refl) ∙ pieces-label_bytes labels)

module _ (n : ℕ) (lengths bytes : List ℕ) (e : length bytes ≡ total (n ∷ lengths)) where
  label_front : length (take n bytes) ≡ n
  label_front = let t = total-cons n lengths in length-take-le n bytes (omega arith)

  label_rest : length (drop n bytes) ≡ total lengths
  label_rest = let t = total-cons n lengths in length-drop n bytes ∙ omega arith

-- what is read is what was written
pub label_bytes-pieces : (lengths bytes : List ℕ) → length bytes ≡ total lengths → label_bytes (pieces lengths bytes) ≡ bytes
unfolding pieces label_bytes joined total
label_bytes-pieces [] [] e = refl
label_bytes-pieces [] (b ∷ bytes) e = absurd (omega arith)
label_bytes-pieces (n ∷ lengths) bytes e =
    ap (λ (l : List ℕ). take n bytes ++ l) (label_bytes-pieces lengths (drop n bytes) (label_rest n lengths bytes e)) ∙ take-append-drop n bytes

pub lengths-pieces : (lengths bytes : List ℕ) → length bytes ≡ total lengths → map length (pieces lengths bytes) ≡ lengths
unfolding pieces
lengths-pieces [] bytes e = refl
lengths-pieces (n ∷ lengths) bytes e =
    ap₂ (λ (x : ℕ) (l : List ℕ). x ∷ l) (label_front n lengths bytes e)
    (lengths-pieces lengths (drop n bytes) (label_rest n lengths bytes e))

pub each_label : (lengths bytes : List ℕ) → Bytes lengths → Bytes bytes → length bytes ≡ total lengths → Each Label (pieces lengths bytes)
unfolding pieces
each_label [] bytes hl hb e = each_nil Label
each_label (n ∷ lengths) bytes hl hb e =
    let k : n < 256 = hl n (Memᴰ.head refl) in
    let l = label_front n lengths bytes e in
    each_cons Label (take n bytes) (pieces lengths (drop n bytes))
    (record { short = omega arith; bytes = bytes_take n bytes hb })
    (each_label lengths (drop n bytes) (bytes_tail hl) (bytes_drop n bytes hb) (label_rest n lengths bytes e))
