-- `hitLine`, `closingLine` and `refusedLine` are the only lines that meet the definitions; how long lines can be; and texts that are
-- written one after the other.
use Rattle.std.specs.Prelude.{ℕ, zero, suc, ◌+◌, ◌*◌, ◌^◌, ◌≤◌, ◌<◌, ◌≡◌, refl, Bool, true, false, List, [], ◌∷◌, ◌++◌, length, get_or, set, Float}
use Rattle.std.proofs.Common.{zero-add, add-one, arith, sym, ap, ap₂, ◌∙◌, subst, length-append, length-take-le}
use Rattle.std.proofs.lemmas.List.Edits.{sets}
use Rattle.std.proofs.Math.Seq.{length-sets}
use Rattle.std.specs.Float.{binary32, nan}
use Rattle.std.specs.Float.Ieee.{to_bits}
use Rattle.lists.specs.Lists.{joined, count_from}
use Rattle.lists.specs.Counting.{count_from_snoc, joined_snoc}
use Rattle.lists.specs.Parts.{sets-append}
use Rattle.text.specs.Digits.{decimal_of, hex_of}
use Rattle.text.specs.DigitsLaws.{decimal-is, hex-is, decimal-one, hex-one, hex_lt, length-hex_of, decimal_le_10}
use Rattle.text.specs.Lines.{codes, closing_word, refused_word, HitLine, ClosingLine, RefusedLine, hit_line, number_end, closing_line, refused_line, hit_line_at, hit_lines, Written}

-- ---- each line meets its definition, and no other does

pub hit-is : (id bits : ℕ) → bits < 2 ^ 32 → HitLine id bits (hit_line id bits)
unfolding hit_line
hit-is id bits h = record { id_text = decimal_of id; bits_text = hex_of bits; decimal = decimal-is id; hex = hex-is bits h; parts = refl }

pub hit-one : (id bits : ℕ) (line : List ℕ) → HitLine id bits line → line ≡ hit_line id bits
unfolding hit_line
hit-one id bits line h =
    h.parts
    ∙ ap₂ (λ (a b : List ℕ). a ++ codes " " ++ b ++ codes "\n") (decimal-one id h.id_text (decimal_of id) h.decimal (decimal-is id))
    (hex-one bits h.bits_text (hex_of bits) h.hex (hex-is bits (hex_lt bits h.bits_text h.hex)))

pub closing_is : (whole : Bool) (opened : ℕ) → ClosingLine whole opened (closing_line whole opened)
unfolding closing_line number_end
closing_is whole opened = record { opened_text = decimal_of opened; decimal = decimal-is opened; parts = refl }

pub closing_one : (whole : Bool) (opened : ℕ) (line : List ℕ) → ClosingLine whole opened line → line ≡ closing_line whole opened
unfolding closing_line number_end
closing_one whole opened line h =
    h.parts
    ∙ ap (λ (a : List ℕ). closing_word whole ++ (a ++ codes "\n")) (decimal-one opened h.opened_text (decimal_of opened) h.decimal (decimal-is opened))

pub refused_line_is : (number : ℕ) → RefusedLine number (refused_line number)
unfolding refused_line number_end
refused_line_is number = record { number_text = decimal_of number; decimal = decimal-is number; parts = refl }

pub refused_one : (number : ℕ) (line : List ℕ) → RefusedLine number line → line ≡ refused_line number
unfolding refused_line number_end
refused_one number line h =
    h.parts
    ∙ ap (λ (a : List ℕ). refused_word ++ (a ++ codes "\n")) (decimal-one number h.number_text (decimal_of number) h.decimal (decimal-is number))

-- ---- lengths

pub length-hit_line : (id bits : ℕ) → length (hit_line id bits) ≡ length (decimal_of id) + 10
unfolding hit_line codes
length-hit_line id bits = simp length-append (omega (arith, length-hex_of bits))

pub hit_le_20 : (id bits : ℕ) → id < 2 ^ 32 → length (hit_line id bits) ≤ 20
hit_le_20 id bits h = omega (arith, length-hit_line id bits, decimal_le_10 id h)

pub length-closing_word : (whole : Bool) → length (closing_word whole) ≤ 6
unfolding closing_word codes
length-closing_word true = omega arith
length-closing_word false = omega arith

-- ---- the lines of several hits

pub hits-none : (ids : List ℕ) (distances : List Float) → hit_lines ids distances 0 ≡ []
unfolding hit_lines joined count_from
hits-none ids distances = refl

pub hits_more : (ids : List ℕ) (distances : List Float) (i : ℕ)
    → hit_lines ids distances (suc i) ≡ hit_lines ids distances i ++ hit_line (get_or ids i 0) (to_bits binary32 (get_or distances i nan))
unfolding hit_lines hit_line_at
hits_more ids distances i =
    ap (λ (l : List ℕ). joined (hit_line_at ids distances) l) (count_from_snoc 0 i)
    ∙ joined_snoc (hit_line_at ids distances) (count_from 0 i) (0 + i)
    ∙ ap (λ (k : ℕ). joined (hit_line_at ids distances) (count_from 0 i) ++ hit_line_at ids distances k) (zero-add i)

pub hits_le : (ids : List ℕ) (distances : List Float) → ((i : ℕ) → get_or ids i 0 < 2 ^ 32) → (count : ℕ) → length (hit_lines ids distances count) ≤ 20 * count
hits_le ids distances h zero = omega (arith, ap length (hits-none ids distances))
hits_le ids distances h (suc i) =
    let line = hit_line (get_or ids i 0) (to_bits binary32 (get_or distances i nan)) in
    let more : length (hit_lines ids distances (suc i)) ≡ length (hit_lines ids distances i) + length line =
    ap length (hits_more ids distances i) ∙ length-append (hit_lines ids distances i) line in
    omega (arith, hits_le ids distances h i, hit_le_20 (get_or ids i 0) (to_bits binary32 (get_or distances i nan)) (h i))

-- ---- a text after another

pub line_written : (l : List ℕ) (i : ℕ) (xs m : List ℕ) (j : ℕ) → m ≡ sets l i xs → j ≡ i + length xs → i + length xs ≤ length l → Written l i xs m j
line_written l i xs m j e f h =
    let w : j ≤ length m = omega (arith, ap length e, length-sets l i xs) in
    record { list = e; end = f; within = w; front = sym (length-take-le j m w) }

pub length_line : {l m : List ℕ} {i j : ℕ} {xs : List ℕ} → Written l i xs m j → length m ≡ length l
length_line {l = l} {i = i} {xs = xs} a = ap length a.list ∙ length-sets l i xs

pub written_then : {l m n : List ℕ} {i j k : ℕ} {xs ys : List ℕ} → Written l i xs m j → Written m j ys n k → Written l i (xs ++ ys) n k
written_then {l = l} {i = i} {xs = xs} {ys = ys} a b = record {
  list = b.list ∙ ap₂ (λ (r : List ℕ) (p : ℕ). sets r p ys) a.list a.end ∙ sym (sets-append l i xs ys);
  end = omega (arith, a.end, b.end, length-append xs ys);
  within = b.within;
  front = b.front;
}

pub written_byte : {l m : List ℕ} {i j : ℕ} {xs : List ℕ} (c : ℕ) → j < length m → Written l i xs m j
    → Written l i (xs ++ (c ∷ [])) (set m j c) (j + 1)
written_byte {m = m} {j = j} c h a = written_then a (line_written m j (c ∷ []) (set m j c) (j + 1) refl refl (let g : j + 1 ≤ length m = omega arith in g))

-- no hit, and one hit more
pub lines_none : (ids : List ℕ) (distances : List Float) (l : List ℕ) (at : ℕ) → at ≤ length l → Written l at (hit_lines ids distances 0) l at
unfolding hit_lines joined count_from
lines_none ids distances l at h =
    let e : at ≡ at + 0 = omega arith in
    line_written l at [] l at refl e (let g : at + 0 ≤ length l = omega arith in g)

pub written-hit : {l m n : List ℕ} {at j k : ℕ} (ids : List ℕ) (distances : List Float) (i bits : ℕ) → bits ≡ to_bits binary32 (get_or distances i nan)
    → Written l at (hit_lines ids distances i) m j → Written m j (hit_line (get_or ids i 0) bits) n k → Written l at (hit_lines ids distances (i + 1)) n k
written-hit {l = l} {n = n} {at = at} {k = k} ids distances i bits e a b =
    let more : hit_lines ids distances i ++ hit_line (get_or ids i 0) bits ≡ hit_lines ids distances (i + 1) =
    ap (λ (x : ℕ). hit_lines ids distances i ++ hit_line (get_or ids i 0) x) e
    ∙ sym (hits_more ids distances i)
    ∙ ap (λ (x : ℕ). hit_lines ids distances x) (sym (add-one i)) in
    subst (λ (t : List ℕ). Written l at t n k) more (written_then a b)
