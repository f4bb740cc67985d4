-- Numbers, sums and floats at places of a file. A number in two parts is the low part and 256 to its width times the high part.
use Prim.Native.Nat.{ℕ, zero, suc, ◌+◌, ◌*◌, ◌^◌, ◌≤◌, ◌<◌}
use mathlib.Core.Path.{◌≡◌, sym, ap, ap₂, ◌∙◌}
use mathlib.Core.List.{List, [], ◌∷◌, ◌++◌, map, append-nil}
use native.Mathlib.Numerals.{add-one}
use native.Mathlib.Nat.{pow-suc, pow-zero, zero-add, one-mul, mul_assoc, mul_comm, mul-add, add_assoc}
use native.Mathlib.Omega.{arith}
use lib.ListN.{length, get_or, take, drop, set, length-map, get_or-map, drop_of_length-le}
use lib.Seq.{drop-cons, drop-drop, paste, paste-suc, take_all}
use lib.Ieee.{Float, binary32, of_bits}
use Rattle.lists.specs.Lists.{part, total}
use Rattle.lists.specs.Counting.{sum_of}
use Rattle.lists.specs.Parts.{part-append-parts, part-cons, part-zero, length_part}
use Rattle.echo_file.specs.Decode.{bytes_value, numbers}
use Rattle.echo_file.specs.FieldLaws.{length-numbers, get_d_numbers}

value-append : (a b : List ℕ) → bytes_value (a ++ b) ≡ bytes_value a + 256 ^ length a * bytes_value b
unfolding bytes_value
value-append [] b = sym (ap (λ (n : ℕ). zero + n * bytes_value b) (pow-zero 256) ∙ zero-add (1 * bytes_value b) ∙ one-mul (bytes_value b))
value-append (x ∷ a) b =
    let shift : 256 * (256 ^ length a * bytes_value b) ≡ 256 ^ suc (length a) * bytes_value b =
    sym (mul_assoc 256 (256 ^ length a) (bytes_value b)) ∙ ap (λ (n : ℕ). n * bytes_value b) (mul_comm 256 (256 ^ length a) ∙ sym (pow-suc 256 (length a))) in
    ap (λ (n : ℕ). x + 256 * n) (value-append a b)
    ∙ ap (λ (n : ℕ). x + n) (mul-add 256 (bytes_value a) (256 ^ length a * bytes_value b) ∙ ap (λ (n : ℕ). 256 * bytes_value a + n) shift)
    ∙ sym (add_assoc x (256 * bytes_value a) (256 ^ suc (length a) * bytes_value b))

pub value-parts : (at m n : ℕ) (l : List ℕ) → at + m ≤ length l
    → bytes_value (part at (m + n) l) ≡ bytes_value (part at m l) + 256 ^ m * bytes_value (part (at + m) n l)
value-parts at m n l h =
    ap bytes_value (sym (part-append-parts at m n l))
    ∙ value-append (part at m l) (part (at + m) n l)
    ∙ ap (λ (k : ℕ). bytes_value (part at m l) + 256 ^ k * bytes_value (part (at + m) n l)) (length_part at m l h)

pub value-one : (at : ℕ) (l : List ℕ) → at < length l → bytes_value (part at 1 l) ≡ get_or l at 0
unfolding bytes_value
value-one at l h = ap bytes_value (part-cons at 0 l 0 h ∙ ap (λ (r : List ℕ). get_or l at 0 ∷ r) (part-zero (suc at) l)) ∙ omega arith

-- the lengths from a place on
pub total-drop : (l : List ℕ) (i : ℕ) → i < length l → total (drop i l) ≡ get_or l i 0 + total (drop (suc i) l)
unfolding total sum_of
total-drop l i h = ap total (drop-cons l i 0 h)

-- ---- floats

-- the floats of n patterns from a place on
abbrev pub floats_at : List ℕ → ℕ → ℕ → List Float
floats_at file at n = map (of_bits binary32) (numbers n (drop at file))

pub length-floats_at : (file : List ℕ) (at n : ℕ) → length (floats_at file at n) ≡ n
length-floats_at file at n = length-map (numbers n (drop at file)) (of_bits binary32) ∙ length-numbers n (drop at file)

-- one more is written
pub float_turn : (file : List ℕ) (at : ℕ) (d out : List Float) (i : ℕ) (x : Float) → out ≡ paste d 0 (floats_at file at (length d)) i → i < length d
    → x ≡ of_bits binary32 (bytes_value (part (at + 4 * i) 4 file)) → set out i x ≡ paste d 0 (floats_at file at (length d)) (i + 1)
float_turn file at d out i x e h f =
    let s = floats_at file at (length d) in
    let zero-float = of_bits binary32 0 in
    let here : get_or s i zero-float ≡ x =
    get_or-map (of_bits binary32) (numbers (length d) (drop at file)) i 0
    ∙ ap (of_bits binary32) (get_d_numbers (length d) i (drop at file) h ∙ ap (λ (l : List ℕ). bytes_value (take 4 l)) (drop-drop (4 * i) at file))
    ∙ sym f in
    let l : i < length s = rw length-floats_at h in
    let turn : set (paste d 0 s i) (0 + i) (get_or s i zero-float) ≡ paste d 0 s (suc i) = paste-suc d 0 s i zero-float (rw zero-add h) l in
    ap₂ (λ (r : List Float) (y : Float). set r i y) e (sym here)
    ∙ ap (λ (k : ℕ). set (paste d 0 s i) k (get_or s i zero-float)) (sym (zero-add i))
    ∙ turn
    ∙ ap (paste d 0 s) (sym (add-one i))

-- all are written
pub float_end : (file : List ℕ) (at : ℕ) (d out : List Float) (i : ℕ) → out ≡ paste d 0 (floats_at file at (length d)) i → length d ≤ i
    → out ≡ floats_at file at (length d)
float_end file at d out i e h =
    let s = floats_at file at (length d) in
    let l : length s ≤ i = rw length-floats_at h in
    let g : length d ≤ 0 + i = omega arith in
    e ∙ ap₂ (λ (a b : List Float). a ++ b) (take_all i s l) (drop_of_length-le d g) ∙ append-nil s
