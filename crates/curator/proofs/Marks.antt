-- The marks of the vectors with an id are written vector by vector, and that is what a withdrawal writes. Assumes nothing.
use Prim.Native.Nat.{ℕ, ◌+◌, ◌≤◌, ◌<◌}
use mathlib.Core.Bool.{Bool, true, false, not, cond, ◌||◌}
use mathlib.Core.List.{List, [], ◌∷◌, ◌++◌}
use mathlib.Core.Path.{◌≡◌, refl, sym, ap, ap₂, ◌∙◌}
use native.Mathlib.Nat.{zero-add}
use native.Mathlib.Omega.{arith}
use borrow.Author.Tests.{eq-eqb, ne_eqb, not-false}
use lib.Dec.{eqb}
use lib.ListN.{length, get_or, set}
use lib.Seq.{sets, length-sets, set-get_or}
use Rattle.lists.specs.Lists.{part, is_in}
use Rattle.lists.specs.Parts.{length_part, part-zero, part-one, part-append-parts, get_d_sets_before, get_d_sets-after, sets_snoc, sets_self}
use Rattle.lists.specs.Counting.{is_in-nil, is_in-append, is_in-here, is_in-later}
use Rattle.store.specs.Store.{Store, live_at}
use Rattle.store.specs.Lent.{store_of, lengths_of, Long}
use Rattle.store.specs.LentLaws.{store_long}
use Rattle.std.specs.Prelude.{Result, Ok, Err, ⊤}
use Rattle.settings.specs.declared.refusal.Refusal.{Refusal}
use Rattle.settings.specs.declared.refusal.Refusal.TheVariants as Refusal'
use Rattle.settings.specs.declared.refusal.InputRefusal.TheVariants.{UnknownDocument}
use Rattle.curator.specs.declared.CuratorIndex.{CuratorIndex}
use Rattle.curator.specs.Limits.{index_shape}
use Rattle.curator.specs.Rows.{row, first_of, withdraw_rows}
use Rattle.curator.proofs.RowLaws.{no_rows, row-stops, row-passes, check_then, rows_then, fine_none}
use Rattle.curator.proofs.StateLaws.{Sound, sound_facts}
use Rattle.curator.specs.Calls.{held_documents, held_marks}
use Rattle.curator.specs.Changes.{holds_document, withdraw_check, marks_withdrawn, withdrawn_from}
use Rattle.curator.specs.Lent.{lent_rows, MarksWritten}
use Rattle.curator.proofs.WithdrawLaws.{marks-append, marks-none, length-withdrawn}

-- the marks of the first i vectors are written, and it is known whether one of them has the id
pub record Marking (document at count : ℕ) (numbers₀ numbers : List ℕ) (held : Bool) (i : ℕ) : Type 0 where
  pub few : i ≤ count
  pub held_is : held ≡ is_in document (part 0 i numbers₀)
  pub numbers_are : numbers ≡ sets numbers₀ at (marks_withdrawn document (part 0 i numbers₀) (part at i numbers₀))
  pub size : length numbers ≡ length numbers₀

no_marks : (document : ℕ) → marks_withdrawn document [] [] ≡ []
unfolding marks_withdrawn
no_marks document = refl

one-mark : (document d mark : ℕ) → marks_withdrawn document (d ∷ []) (mark ∷ []) ≡ cond (eqb document d) 0 mark ∷ []
unfolding marks_withdrawn
one-mark document d mark = refl

module _ (document at count : ℕ) (numbers₀ : List ℕ) (apart : count ≤ at) (room : at + count ≤ length numbers₀) where
  pub marking_start : Marking document at count numbers₀ numbers₀ false 0
  marking_start = record {
    few = omega arith;
    held_is = sym (ap (is_in document) (part-zero 0 numbers₀) ∙ is_in-nil document);
    numbers_are = sym (ap (sets numbers₀ at) (ap₂ (marks_withdrawn document) (part-zero 0 numbers₀) (part-zero at numbers₀) ∙ no_marks document));
    size = refl;
  }

  module _ (numbers : List ℕ) (held : Bool) (i : ℕ) (m : Marking document at count numbers₀ numbers held i) (more : i < count) where
    abbrev d : ℕ
    d = get_or numbers₀ i 0

    abbrev old : List ℕ
    old = marks_withdrawn document (part 0 i numbers₀) (part at i numbers₀)

    long : length old ≡ i
    long =
        let a = length_part 0 i numbers₀ (let t : 0 + i ≤ length numbers₀ = omega (arith, more, room) in t) in
        let b = length_part at i numbers₀ (let t : at + i ≤ length numbers₀ = omega (arith, more, room) in t) in
        length-withdrawn document (part 0 i numbers₀) (part at i numbers₀) (a ∙ sym b) ∙ b

    next : (s : ℕ) → s + i < length numbers₀ → part s (i + 1) numbers₀ ≡ part s i numbers₀ ++ (get_or numbers₀ (s + i) 0 ∷ [])
    next s h =
        sym (part-append-parts s i 1 numbers₀)
        ∙ ap (λ (l : List ℕ). part s i numbers₀ ++ l) (part-one (s + i) numbers₀ 0 (let t : s + i + 1 ≤ length numbers₀ = omega (arith, h) in t))

    documents : part 0 (i + 1) numbers₀ ≡ part 0 i numbers₀ ++ (d ∷ [])
    documents = next 0 (omega (arith, more, room)) ∙ ap (λ (k : ℕ). part 0 i numbers₀ ++ (get_or numbers₀ k 0 ∷ [])) (zero-add i)

    marks : marks_withdrawn document (part 0 (i + 1) numbers₀) (part at (i + 1) numbers₀) ≡ old ++ (cond (eqb document d) 0 (get_or numbers₀ (at + i) 0) ∷ [])
    marks =
        let a = length_part 0 i numbers₀ (let t : 0 + i ≤ length numbers₀ = omega (arith, more, room) in t) in
        let b = length_part at i numbers₀ (let t : at + i ≤ length numbers₀ = omega (arith, more, room) in t) in
        ap₂ (marks_withdrawn document) documents (next at (omega (arith, more, room)))
        ∙ marks-append document (part 0 i numbers₀) (d ∷ []) (part at i numbers₀) (get_or numbers₀ (at + i) 0 ∷ []) (a ∙ sym b)
        ∙ ap (λ (l : List ℕ). old ++ l) (one-mark document d (get_or numbers₀ (at + i) 0))

    -- the document id is read as it was
    pub read : get_or numbers i 0 ≡ d
    read = ap (λ (l : List ℕ). get_or l i 0) m.numbers_are ∙ get_d_sets_before numbers₀ at old i 0 (omega (arith, more, apart))

    -- all marks up to this one, by this one
    written : (mark : ℕ) → cond (eqb document d) 0 (get_or numbers₀ (at + i) 0) ≡ mark
        → set numbers (at + i) mark ≡ sets numbers₀ at (marks_withdrawn document (part 0 (i + 1) numbers₀) (part at (i + 1) numbers₀))
    written mark e =
        ap (λ (l : List ℕ). set l (at + i) mark) m.numbers_are
        ∙ ap (λ (k : ℕ). set (sets numbers₀ at old) (at + k) mark) (sym long)
        ∙ sym (sets_snoc numbers₀ at old mark)
        ∙ ap (sets numbers₀ at) (ap (λ (x : ℕ). old ++ (x ∷ [])) (sym e) ∙ sym marks)

    kept : (l : List ℕ) → l ≡ sets numbers₀ at (marks_withdrawn document (part 0 (i + 1) numbers₀) (part at (i + 1) numbers₀)) → length l ≡ length numbers₀
    kept l e = ap length e ∙ length-sets numbers₀ at (marks_withdrawn document (part 0 (i + 1) numbers₀) (part at (i + 1) numbers₀))

    known : is_in document (part 0 (i + 1) numbers₀) ≡ (held || is_in document (d ∷ []))
    known = ap (is_in document) documents ∙ is_in-append document (part 0 i numbers₀) (d ∷ []) ∙ ap (λ (b : Bool). b || is_in document (d ∷ [])) (sym m.held_is)

    or_true : (b : Bool) → (b || true) ≡ true
    or_true true = refl
    or_true false = refl

    or_false : (b : Bool) → (b || false) ≡ b
    or_false true = refl
    or_false false = refl

    -- the vector has the id, or another
    pub marking_hit : get_or numbers i 0 ≡ document → Marking document at count numbers₀ (set numbers (at + i) 0) true (i + 1)
    marking_hit e =
        let same : document ≡ d = sym (sym read ∙ e) in
        let is = written 0 (ap (λ (b : Bool). cond b 0 (get_or numbers₀ (at + i) 0)) (eq-eqb document d same)) in
        record {
          few = omega (arith, more);
          held_is = sym (known ∙ ap (λ (x : ℕ). held || is_in document (x ∷ [])) (sym same) ∙ ap (λ (b : Bool). held || b) (is_in-here document []) ∙ or_true held);
          numbers_are = is;
          size = kept (set numbers (at + i) 0) is;
        }

    pub marking_other : (get_or numbers i 0 ≡ document → ⊥) → Marking document at count numbers₀ numbers held (i + 1)
    marking_other n =
        let other : document ≡ d → ⊥ = λ e. n (read ∙ sym e) in
        let mark = get_or numbers (at + i) 0 in
        let same : get_or numbers (at + i) 0 ≡ get_or numbers₀ (at + i) 0 =
        ap (λ (l : List ℕ). get_or l (at + i) 0) m.numbers_are ∙ get_d_sets-after numbers₀ at old (at + i) 0 (omega (arith, long)) in
        let is =
        sym (set-get_or numbers (at + i) 0) ∙ written mark (ap (λ (b : Bool). cond b 0 (get_or numbers₀ (at + i) 0)) (ne_eqb document d other) ∙ sym same) in
        record {
          few = omega (arith, more);
          held_is = sym (known ∙ ap (λ (b : Bool). held || b) (is_in-later document d [] other ∙ is_in-nil document) ∙ or_false held);
          numbers_are = is;
          size = kept numbers is;
        }

  pub marked : (numbers : List ℕ) (held : Bool) (i : ℕ) → count ≤ i → Marking document at count numbers₀ numbers held i
      → MarksWritten document at count numbers₀ held numbers
  marked numbers held i all m =
      let e : i ≡ count = omega (arith, all, m.few) in
      record {
        held_is = m.held_is ∙ ap (λ (k : ℕ). is_in document (part 0 k numbers₀)) e;
        numbers_are = m.numbers_are ∙ ap (λ (k : ℕ). sets numbers₀ at (marks_withdrawn document (part 0 k numbers₀) (part at k numbers₀))) e;
      }

-- ---- the withdrawal

module _ (index : CuratorIndex) (store : Store) (document : ℕ) where
  -- by what rows 4 and 3 come to
  pub checked : (check : Result ⊤ Refusal) → first_of (lent_rows index (lengths_of store)) ≡ check
      → withdraw_check index store document ≡ check_then check (first_of (row (not (holds_document index store document)) (Refusal'.Input UnknownDocument) ∷ []))
  unfolding withdraw_check withdraw_rows
  checked check e = rows_then (lent_rows index (lengths_of store)) (row (not (holds_document index store document)) (Refusal'.Input UnknownDocument) ∷ []) check e

  pub lent_facts : first_of (lent_rows index (lengths_of store)) ≡ (Ok tt) → Sound index × Long (index_shape index) (lengths_of store)
  lent_facts fine =
      let (sound, (short, _)) = fine_none (lent_rows index (lengths_of store)) fine in
      (sound_facts index (not-false _ sound), store_long (index_shape index) (lengths_of store) short)

  module _ (at : ℕ) (numbers' : List ℕ) (e : at ≡ live_at (index_shape index)) (fine : first_of (lent_rows index (lengths_of store)) ≡ (Ok tt)) where
    -- a vector has the id
    pub withdrawn_fine : (held : Bool) → MarksWritten document at index.counts.vectors store.numbers held numbers' → held ≡ true
        → (withdraw_check index store document ≡ (Ok tt)) × (store_of store.floats numbers' store.hashes store.text ≡ withdrawn_from index store document)
    unfolding holds_document held_documents held_marks withdrawn_from
    withdrawn_fine held w h =
        let n = index.counts.vectors in
        let is : numbers' ≡ sets store.numbers (live_at (index_shape index)) (marks_withdrawn document (part 0 n store.numbers) (part (live_at (index_shape index)) n store.numbers)) =
        w.numbers_are ∙ ap (λ (k : ℕ). sets store.numbers k (marks_withdrawn document (part 0 n store.numbers) (part k n store.numbers))) e in
        (checked (Ok _) fine ∙ row-passes _ _ (ap not (sym w.held_is ∙ h)) ∙ no_rows, λ i. record { floats = store.floats; numbers = is i; hashes = store.hashes; text = store.text })

    -- no vector has it: nothing was written
    pub withdrawn-none : (held : Bool) → MarksWritten document at index.counts.vectors store.numbers held numbers' → held ≡ false
        → (withdraw_check index store document ≡ Err (Refusal'.Input UnknownDocument)) × (store_of store.floats numbers' store.hashes store.text ≡ store)
    unfolding holds_document held_documents
    withdrawn-none held w h =
        let n = index.counts.vectors in
        let (sound, long) = lent_facts fine in
        let documents = part 0 index.counts.vectors store.numbers in
        let a = length_part 0 index.counts.vectors store.numbers (let t : 0 + index.counts.vectors ≤ length store.numbers = omega (arith, long.numbers, sound.vectors) in t) in
        let b = length_part at index.counts.vectors store.numbers (let t : at + index.counts.vectors ≤ length store.numbers = omega (arith, e, long.numbers, sound.vectors) in t) in
        let is : numbers' ≡ store.numbers =
        w.numbers_are ∙ ap (sets store.numbers at) (marks-none document documents (part at n store.numbers) (a ∙ sym b) (sym w.held_is ∙ h))
        ∙ sets_self store.numbers at n in
        (checked (Ok _) fine ∙ row-stops _ _ (ap not (sym w.held_is ∙ h)), λ i. record { floats = store.floats; numbers = is i; hashes = store.hashes; text = store.text })
