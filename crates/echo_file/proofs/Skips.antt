-- A skip is one part of the decoder: it goes on after the part, or the file ends inside it and nothing is decoded.
use Prim.Native.Nat.{ℕ, suc, ◌+◌, ◌-◌, ◌*◌, ◌≤◌, ◌<◌}
use mathlib.Core.Path.{◌≡◌, refl, sym, ◌∙◌}
use mathlib.Core.Bool.{Bool, true, false, cond}
use mathlib.Core.List.{List}
use native.Mathlib.Omega.{arith}
use lib.ListN.{length, drop, length-drop}
use lib.Seq.{drop-drop}
use lib.Dec.{leb}
use borrow.Author.Tests.{le-leb, lt-leb, leb-true, leb-false}
use Rattle.lists.specs.Parts.{length_part}
use Rattle.echo_file.specs.declared.Known.{Known}
use Rattle.std.specs.Prelude.{Option, None, Some}
use Rattle.echo_file.specs.Decode.{Decoded, none, found, and_then, split, bytes_value, numbers}
use Rattle.echo_file.specs.Places.{skipped, NumberAt}
use Rattle.echo_file.specs.Reads.{bytes_between, patterns_at}
use Rattle.echo_file.specs.FieldLaws.{numbers-take}

pub cut_when : (size at n : ℕ) → size < at + n → None ≡ skipped size at n
unfolding skipped
cut_when size at n h = rw (lt-leb (at + n) size h)

pub to_when : (size at n : ℕ) → at + n ≤ size → Some (at + n) ≡ skipped size at n
unfolding skipped
to_when size at n h = rw (le-leb (at + n) size h)

-- a place is so many bytes after another, inside the file
pub record Skip (file : List ℕ) (at n next : ℕ) : Type 0 where
  pub inside : at + n ≤ length file
  pub place : next ≡ at + n

pub skip-end : {file : List ℕ} {at n next : ℕ} → Skip file at n next → next ≤ length file
skip-end s = omega (arith, s.inside, s.place)

pub skip-length : {file : List ℕ} {at n next : ℕ} → Skip file at n next → length (bytes_between at next file) ≡ n
skip-length {file} {at} {n} {next} s =
    length_part at (next - at) file (omega (arith, s.inside, s.place)) ∙ omega (arith, s.place)

-- the file ends before that place
pub record Ends (file : List ℕ) (at n : ℕ) : Type 0 where
  pub short : length file - at < n

-- what an answer of `skip` tells
pub went : (file : List ℕ) (at n : ℕ) {next : ℕ} → Some next ≡ skipped (length file) at n → Skip file at n next
unfolding skipped
went file at n {next} e = pick (leb (at + n) (length file)) refl e
  where
    pick : (b : Bool) → leb (at + n) (length file) ≡ b → Some next ≡ cond b (Some (at + n)) None → Skip file at n next
    pick true h e = record { inside = leb-true (at + n) (length file) h; place = cc }
    pick false h e = let z : ◌≡◌ {A = ℕ} 0 1 = cc in absurd (omega arith)

cut_short : (file : List ℕ) (at n : ℕ) → None ≡ skipped (length file) at n → length file < at + n
unfolding skipped
cut_short file at n e = pick (leb (at + n) (length file)) refl e
  where
    pick : (b : Bool) → leb (at + n) (length file) ≡ b → ◌≡◌ {A = Option ℕ} None (cond b (Some (at + n)) None) → length file < at + n
    pick true h e = let z : ◌≡◌ {A = ℕ} 0 1 = cc in absurd (omega arith)
    pick false h e = leb-false (at + n) (length file) h

pub stopped : (file : List ℕ) (at n : ℕ) → at ≤ length file → None ≡ skipped (length file) at n → Ends file at n
stopped file at n l e = let s = cut_short file at n e in record { short = omega arith }

-- also from a place past the end, where some byte was asked for
pub stopped_anywhere : (file : List ℕ) (at n : ℕ) → None ≡ skipped (length file) at (suc n) → Ends file at (suc n)
stopped_anywhere file at n e = let s = cut_short file at (suc n) e in record { short = omega arith }

-- the decoder at a place: m, the count that it reads, is n, the count that was skipped
pub split_goes : {file : List ℕ} {at m n to : ℕ} → m ≡ n → Skip file at n to → split m (drop at file) ≡ found (bytes_between at to file) (drop to file)
unfolding split
split_goes {file} {at} {m} {to = to} e s =
    let k : m ≤ length (drop at file) = rw length-drop (omega (arith, s.inside)) in
    let d : to - at ≡ m = omega (arith, s.place) in
    let p : at + m ≡ to = omega (arith, s.place) in
    rw (le-leb m (length (drop at file)) k, drop-drop, p, d)

pub split-ends : {file : List ℕ} {at m n : ℕ} → m ≡ n → Ends file at n → split m (drop at file) ≡ none
unfolding split
split-ends {file} {at} {m} e s =
    let k : length (drop at file) < m = rw length-drop (omega (arith, s.short)) in
    rw (lt-leb m (length (drop at file)) k)

-- and what comes after the part
pub goes : {B : Type 0} {file : List ℕ} {at m n to : ℕ} (next : List ℕ → List ℕ → Decoded B) → m ≡ n → Skip file at n to
    → and_then (split m (drop at file)) next ≡ next (bytes_between at to file) (drop to file)
unfolding and_then
goes next e s = rw (split_goes e s)

pub ends : {B : Type 0} {file : List ℕ} {at m n : ℕ} (next : List ℕ → List ℕ → Decoded B) → m ≡ n → Ends file at n
    → and_then (split m (drop at file)) next ≡ none
unfolding and_then
ends next e s = rw (split-ends e s)

-- a number that was read stands between the places
pub number_is : {file : List ℕ} {at w n next : ℕ} → Skip file at w next → NumberAt w file at n → bytes_value (bytes_between at next file) ≡ n
number_is {file} {at} {w} {n} {next} s h =
    let d : next - at ≡ w = omega (arith, s.place) in
    rw d (sym h.is)

-- the floats up to a place are those from their start on
pub patterns_between : (known : Known) (file : List ℕ) {at next : ℕ} → Skip file at (4 * known.dimension) next
    → numbers known.dimension (bytes_between at next file) ≡ patterns_at known file at
patterns_between known file {at} {next} s = numbers-take known.dimension (next - at) (drop at file) (omega (arith, s.place))
