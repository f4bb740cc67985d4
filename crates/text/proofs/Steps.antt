-- One turn of the loop that writes digits, and its end. What is still to be written from here is one digit and the rest; at the end it is nothing.
use Prim.Native.Nat.{ℕ, zero, suc, ◌+◌, ◌-◌, ◌/◌, ◌%◌, ◌≤◌, ◌<◌}
use native.Mathlib.Nat.{not-suc-le-zero}
use native.Mathlib.Omega.{arith}
use mathlib.Core.Path.{◌≡◌, refl, sym, ap, ◌∙◌}
use mathlib.Core.List.{List}
use lib.ListN.{length, set}
use lib.Seq.{sets}
use Rattle.lists.specs.Parts.{sets_snoc, set-sets-after}
use Rattle.text.specs.Digits.{digit_char, last_digits}
use Rattle.text.specs.DigitsLaws.{length-last_digits}
use Rattle.text.specs.Lines.{Written}
use Rattle.text.specs.LinesLaws.{line_written}

digit_before : (l : List ℕ) (at base i n : ℕ)
    → sets l at (last_digits base (suc i) n) ≡ sets (set l (at + i) (digit_char (n % base))) at (last_digits base i (n / base))
unfolding last_digits
digit_before l at base i n =
    let k : length (last_digits base i (n / base)) ≡ i = length-last_digits base i (n / base) in
    sets_snoc l at (last_digits base i (n / base)) (digit_char (n % base))
    ∙ ap (λ (j : ℕ). set (sets l at (last_digits base i (n / base))) (at + j) (digit_char (n % base))) k
    ∙ set-sets-after l (at + i) (digit_char (n % base)) at (last_digits base i (n / base)) (omega arith)

pub digit_step : (l : List ℕ) (at base i n : ℕ) → 0 < i
    → sets l at (last_digits base i n) ≡ sets (set l (at + (i - 1)) (digit_char (n % base))) at (last_digits base (i - 1) (n / base))
digit_step l at base i n h =
    let e : i ≡ suc (i - 1) = omega arith in
    ap (λ (k : ℕ). sets l at (last_digits base k n)) e ∙ digit_before l at base (i - 1) n

none_left : (l : List ℕ) (at base i n : ℕ) → i ≤ 0 → sets l at (last_digits base i n) ≡ l
unfolding last_digits
none_left l at base zero n h = refl
none_left l at base (suc i) n h = absurd (not-suc-le-zero h)

pub digits-end : (l₀ l : List ℕ) (at base count n i rest : ℕ) → at + count ≤ length l₀ → i ≤ 0
    → sets l at (last_digits base i rest) ≡ sets l₀ at (last_digits base count n) → Written l₀ at (last_digits base count n) l (at + count)
digits-end l₀ l at base count n i rest room h e =
    let k : length (last_digits base count n) ≡ count = length-last_digits base count n in
    line_written l₀ at (last_digits base count n) l (at + count) (sym (none_left l at base i rest h) ∙ e) (ap (λ (j : ℕ). at + j) (sym k)) (omega arith)
