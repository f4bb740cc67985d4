-- Laws of a withdrawal (02, K10): each refusal in its row's case; what is written; and what is read.
use Rattle.std.specs.Prelude.{ℕ, zero, suc, ◌+◌, ◌<◌, ◌≤◌, Bool, true, false, cond, ◌||◌, List, [], ◌∷◌, ◌++◌, ◌↔◌, ◌≡◌, eqb, length, get_or, drop}
use Rattle.std.proofs.Common.{arith, sym, ap, ap₂, ◌∙◌, subst}
use Rattle.std.proofs.Math.Path.{refl}
use Rattle.std.proofs.lemmas.Bool.{not-false}
use Rattle.std.proofs.Math.Seq.{length-sets}
use Rattle.lists.specs.Lists.{part, is_in}
use Rattle.lists.specs.Parts.{length_part, part-sets-before, part-written, drop-sets}
use Rattle.lists.specs.Counting.{is_in-cons}
use Rattle.lists.specs.Tests.{or_left, or_right}
use Rattle.store.specs.declared.Lengths.{Lengths}
use Rattle.store.specs.Store.{Store, owners_at, starts_at, lengths_at, live_at}
use Rattle.store.specs.Lent.{lengths_of, Long}
use Rattle.store.specs.LentLaws.{store_long}
use Rattle.std.specs.Prelude.{Result, Ok, Err, ⊤}
use Rattle.settings.specs.declared.refusal.Refusal.{Refusal}
use Rattle.settings.specs.Refusals.{check_number}
use Rattle.curator.specs.declared.CuratorIndex.{CuratorIndex}
use Rattle.curator.specs.Outcome.{changed_number}
use Rattle.curator.specs.Limits.{state_sound, index_shape}
use Rattle.curator.specs.Rows.{Row, first_of, state_row, withdraw_rows}
use Rattle.curator.specs.Calls.{facts_of, held_vectors, held_documents, held_entries, held_starts, held_lengths, held_text, held_marks, SameOfIndex}
use Rattle.curator.specs.Changes.{holds_document, withdraw_check, marks_withdrawn, withdrawn_from, WithdrawsBy, Withdraws}
use Rattle.curator.proofs.RowLaws.{FirstAt, numbers_of_rows, different, fine_none, returned_exactly}
use Rattle.curator.proofs.StateLaws.{Sound, sound_facts}
use Rattle.curator.specs.OutcomeLaws.{carried-is, refused_is}

-- ---- 'After 4 and 3, an id held by no vector returns 24'

abbrev pub rows_of_withdraw : CuratorIndex → Store → ℕ → List Row
rows_of_withdraw index store document = state_row (state_sound index) ∷ withdraw_rows (facts_of index) (lengths_of store) (holds_document index store document)

abbrev pub withdraw_numbers : List ℕ
withdraw_numbers = 4 ∷ 3 ∷ 24 ∷ []

withdraw-order : (index : CuratorIndex) (store : Store) (document : ℕ) → numbers_of_rows (rows_of_withdraw index store document) ≡ withdraw_numbers
unfolding withdraw_rows
withdraw-order index store document = refl

withdraw-rows : (index : CuratorIndex) (store : Store) (document : ℕ) → withdraw_check index store document ≡ first_of (rows_of_withdraw index store document)
unfolding withdraw_check
withdraw-rows index store document = refl

pub withdraws-number : (index : CuratorIndex) (store : Store) (document : ℕ) (answer : Result CuratorIndex Refusal) (store' : Store) → Withdraws index store document answer store'
    → changed_number answer ≡ check_number (withdraw_check index store document)
unfolding Withdraws WithdrawsBy
withdraws-number index store document answer store' h = by (withdraw_check index store document) h
  where
    by : (check : Result ⊤ Refusal) → WithdrawsBy check index store document answer store' → changed_number answer ≡ check_number check
    by (Ok _) (e, _) = e.number_is
    by (Err r) (e, _) = e.number_is

-- each of the numbers exactly if its row's case holds and no earlier row's does
pub withdraw_returned : (index : CuratorIndex) (store : Store) (document : ℕ) (answer : Result CuratorIndex Refusal) (store' : Store) → Withdraws index store document answer store'
    → (i : ℕ) → i < 3 → (changed_number answer ≡ get_or withdraw_numbers i 0) ↔ FirstAt (rows_of_withdraw index store document) i
unfolding different
withdraw_returned index store document answer store' withdraws i h =
    returned_exactly (rows_of_withdraw index store document) withdraw_numbers (withdraw-order index store document) refl _
    (withdraws-number index store document answer store' withdraws ∙ ap check_number (withdraw-rows index store document))
    i
    h

-- the relation by what the check comes to
pub withdraws_by : (index : CuratorIndex) (store : Store) (document : ℕ) (answer : Result CuratorIndex Refusal) (store' : Store) (check : Result ⊤ Refusal) → withdraw_check index store document ≡ check
    → WithdrawsBy check index store document answer store' → Withdraws index store document answer store'
unfolding Withdraws
withdraws_by index store document answer store' check e h = subst (λ (k : Result ⊤ Refusal). WithdrawsBy k index store document answer store') (sym e) h

-- What an accepted withdrawal was asked of, as plain facts.
pub record CanWithdraw (index : CuratorIndex) (store : Store) (document : ℕ) : Type 0 where
  pub sound : Sound index
  pub long : Long (index_shape index) (lengths_of store)
  pub held : holds_document index store document ≡ true

pub can_withdraw : (index : CuratorIndex) (store : Store) (document : ℕ) → withdraw_check index store document ≡ (Ok tt) → CanWithdraw index store document
unfolding withdraw_rows
can_withdraw index store document fine =
    let (sound, (short, (held, _))) = fine_none (rows_of_withdraw index store document) (sym (withdraw-rows index store document) ∙ fine) in
    record {
      sound = sound_facts index (not-false _ sound);
      long = store_long (index_shape index) (lengths_of store) short;
      held = not-false _ held;
    }

-- ---- marks

pub length-withdrawn : (document : ℕ) (documents marks : List ℕ) → length documents ≡ length marks → length (marks_withdrawn document documents marks) ≡ length marks
unfolding marks_withdrawn
length-withdrawn document [] marks e = e
length-withdrawn document (d ∷ documents) [] e = absurd (omega arith)
length-withdrawn document (d ∷ documents) (mark ∷ marks) e = ap suc (length-withdrawn document documents marks (omega arith))

-- by number: 0 where the vector has the id, as it was elsewhere
pub mark-at : (document : ℕ) (documents marks : List ℕ) (i : ℕ) → length documents ≡ length marks → i < length marks
    → get_or (marks_withdrawn document documents marks) i 0 ≡ cond (eqb document (get_or documents i 0)) 0 (get_or marks i 0)
unfolding marks_withdrawn
mark-at document [] [] i e h = absurd (omega arith)
mark-at document [] (mark ∷ marks) i e h = absurd (omega arith)
mark-at document (d ∷ documents) [] i e h = absurd (omega arith)
mark-at document (d ∷ documents) (mark ∷ marks) zero e h = refl
mark-at document (d ∷ documents) (mark ∷ marks) (suc i) e h = mark-at document documents marks i (omega arith) (omega arith)

-- those of more vectors
pub marks-append : (document : ℕ) (documents others marks more : List ℕ) → length documents ≡ length marks
    → marks_withdrawn document (documents ++ others) (marks ++ more) ≡ marks_withdrawn document documents marks ++ marks_withdrawn document others more
unfolding marks_withdrawn
marks-append document [] others [] more e = refl
marks-append document [] others (mark ∷ marks) more e = absurd (omega arith)
marks-append document (d ∷ documents) others [] more e = absurd (omega arith)
marks-append document (d ∷ documents) others (mark ∷ marks) more e =
    ap (λ (l : List ℕ). cond (eqb document d) 0 mark ∷ l) (marks-append document documents others marks more (omega arith))

-- twice is once
once : (b : Bool) (mark : ℕ) → cond b 0 (cond b 0 mark) ≡ cond b 0 mark
once true mark = refl
once false mark = refl

pub marks_again : (document : ℕ) (documents marks : List ℕ)
    → marks_withdrawn document documents (marks_withdrawn document documents marks) ≡ marks_withdrawn document documents marks
unfolding marks_withdrawn
marks_again document [] marks = refl
marks_again document (d ∷ documents) [] = refl
marks_again document (d ∷ documents) (mark ∷ marks) = ap₂ ◌∷◌ (once (eqb document d) mark) (marks_again document documents marks)

-- where no vector has the id all stay
pub marks-none : (document : ℕ) (documents marks : List ℕ) → length documents ≡ length marks → is_in document documents ≡ false
    → marks_withdrawn document documents marks ≡ marks
unfolding marks_withdrawn
marks-none document [] [] e h = refl
marks-none document [] (mark ∷ marks) e h = absurd (omega arith)
marks-none document (d ∷ documents) [] e h = absurd (omega arith)
marks-none document (d ∷ documents) (mark ∷ marks) e h =
    let absent : (eqb document d || is_in document documents) ≡ false = sym (is_in-cons document d documents) ∙ h in
    ap₂ ◌∷◌ (ap (λ (b : Bool). cond b 0 mark) (or_left (eqb document d) (is_in document documents) absent))
    (marks-none document documents marks (omega arith) (or_right (eqb document d) (is_in document documents) absent))

-- ---- what is written

-- the lists keep their lengths
pub withdrawn-lengths : (index : CuratorIndex) (store : Store) (document : ℕ) → lengths_of store ≡ lengths_of (withdrawn_from index store document)
unfolding withdrawn_from
withdrawn-lengths index store document =
    let n = sym (length-sets store.numbers (live_at (index_shape index)) (marks_withdrawn document (held_documents index store) (held_marks index store))) in
    λ i. record { floats = length store.floats; numbers = n i; hashes = length store.hashes; text = length store.text }

module _ (index : CuratorIndex) (store : Store) (long : Long (index_shape index) (lengths_of store)) (few : index.counts.vectors ≤ index.capacities.vectors)
    (document : ℕ) where
  abbrev at : ℕ
  at = live_at (index_shape index)

  abbrev n : ℕ
  n = index.counts.vectors

  abbrev marks : List ℕ
  marks = marks_withdrawn document (held_documents index store) (held_marks index store)

  long-documents : length (held_documents index store) ≡ n
  unfolding held_documents
  long-documents = length_part 0 index.counts.vectors store.numbers (omega (arith, long.numbers, few))

  pub long-marks : length (held_marks index store) ≡ n
  unfolding held_marks
  long-marks = length_part (live_at (index_shape index)) index.counts.vectors store.numbers (omega (arith, long.numbers, few))

  many : length marks ≡ n
  many = length-withdrawn document (held_documents index store) (held_marks index store) (long-documents ∙ sym long-marks) ∙ long-marks

  -- a part that stands before the marks
  pub before-withdrawn : (start count : ℕ) → start + count ≤ at → part start count (withdrawn_from index store document).numbers ≡ part start count store.numbers
  unfolding withdrawn_from
  before-withdrawn start count h = part-sets-before start count store.numbers at marks h

  pub withdrawn-marks : held_marks index (withdrawn_from index store document) ≡ marks
  unfolding withdrawn_from held_marks
  withdrawn-marks = part-written store.numbers at n marks many (omega (arith, long.numbers, few))

  pub withdrawn-documents : held_documents index (withdrawn_from index store document) ≡ held_documents index store
  unfolding held_documents
  withdrawn-documents = before-withdrawn 0 index.counts.vectors (omega (arith, few))

  -- behind the marks of the vectors held nothing is written
  pub withdrawn-behind : drop (at + n) (withdrawn_from index store document).numbers ≡ drop (at + n) store.numbers
  unfolding withdrawn_from
  withdrawn-behind = drop-sets (at + n) store.numbers at marks (omega (arith, many))

-- ---- what is read: two stores that agree on what is held give the same answer, and agree afterwards

withdraw-check-same : (index : CuratorIndex) (s t : Store) (document : ℕ) → lengths_of s ≡ lengths_of t → SameOfIndex index s t
    → withdraw_check index s document ≡ withdraw_check index t document
unfolding withdraw_check holds_document
withdraw-check-same index s t document l h =
    ap₂ (λ (k : Lengths) (held : Bool). first_of (state_row (state_sound index) ∷ withdraw_rows (facts_of index) k held)) l (ap (is_in document) h.documents)

-- of what is held the marks alone are others
module _ (index : CuratorIndex) (document : ℕ) (x : Store) (c : CanWithdraw index x document) where
  kept : (start count : ℕ) → start + count ≤ live_at (index_shape index) → part start count (withdrawn_from index x document).numbers ≡ part start count x.numbers
  kept = before-withdrawn index x c.long c.sound.vectors document

  vectors-kept : held_vectors index (withdrawn_from index x document) ≡ held_vectors index x
  unfolding held_vectors withdrawn_from
  vectors-kept = refl

  entries-kept : held_entries index (withdrawn_from index x document) ≡ held_entries index x
  unfolding held_entries withdrawn_from
  entries-kept =
      let owners = kept (owners_at (index_shape index)) index.counts.entries (omega (arith, c.sound.entries)) in
      λ i. record { owners = owners i; hashes = part 0 index.counts.entries x.hashes }

  starts-kept : held_starts index (withdrawn_from index x document) ≡ held_starts index x
  unfolding held_starts
  starts-kept = kept (starts_at (index_shape index)) index.counts.entries (omega (arith, c.sound.entries))

  lengths-kept : held_lengths index (withdrawn_from index x document) ≡ held_lengths index x
  unfolding held_lengths
  lengths-kept = kept (lengths_at (index_shape index)) index.counts.entries (omega (arith, c.sound.entries))

  text-kept : held_text index (withdrawn_from index x document) ≡ held_text index x
  unfolding held_text withdrawn_from
  text-kept = refl

withdrawn-same : (index : CuratorIndex) (s t : Store) (document : ℕ) → SameOfIndex index s t → CanWithdraw index s document → CanWithdraw index t document
    → SameOfIndex index (withdrawn_from index s document) (withdrawn_from index t document)
withdrawn-same index s t document h c d =
    record {
      vectors = vectors-kept index document s c ∙ h.vectors ∙ sym (vectors-kept index document t d);
      documents = withdrawn-documents index s c.long c.sound.vectors document ∙ h.documents ∙ sym (withdrawn-documents index t d.long d.sound.vectors document);
      entries = entries-kept index document s c ∙ h.entries ∙ sym (entries-kept index document t d);
      starts = starts-kept index document s c ∙ h.starts ∙ sym (starts-kept index document t d);
      lengths = lengths-kept index document s c ∙ h.lengths ∙ sym (lengths-kept index document t d);
      text = text-kept index document s c ∙ h.text ∙ sym (text-kept index document t d);
      marks = withdrawn-marks index s c.long c.sound.vectors document ∙ ap₂ (marks_withdrawn document) h.documents h.marks
          ∙ sym (withdrawn-marks index t d.long d.sound.vectors document);
    }

pub withdraws-same : (index : CuratorIndex) (s t : Store) (document : ℕ) (a b : Result CuratorIndex Refusal) (s' t' : Store) → lengths_of s ≡ lengths_of t → SameOfIndex index s t
    → Withdraws index s document a s' → Withdraws index t document b t' → (a ≡ b) × SameOfIndex index s' t'
unfolding Withdraws WithdrawsBy
withdraws-same index s t document a b s' t' l h x y =
    by (withdraw_check index s document) refl (sym check) x (subst (λ (k : Result ⊤ Refusal). WithdrawsBy k index t document b t') (sym check) y)
  where
    check : withdraw_check index s document ≡ withdraw_check index t document
    check = withdraw-check-same index s t document l h

    by : (k : Result ⊤ Refusal) → withdraw_check index s document ≡ k → withdraw_check index t document ≡ k → WithdrawsBy k index s document a s'
        → WithdrawsBy k index t document b t' → (a ≡ b) × SameOfIndex index s' t'
    by (Ok _) m n (e, is) (f, is') = (
      carried-is index a e ∙ sym (carried-is index b f),
      rw (is, is') (withdrawn-same index s t document h (can_withdraw index s document m) (can_withdraw index t document n)),
    )
    by (Err r) m n (e, is) (f, is') = (refused_is r a e ∙ sym (refused_is r b f), rw (is, is') h)
