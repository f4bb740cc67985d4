-- What the rows of a build come to, from what they come to with row 13 left open; and what their passing says, as plain facts.
use Rattle.std.specs.Prelude.{ℕ, zero, suc, ◌+◌, ◌-◌, ◌≤◌, ◌<◌, Bool, true, false, not, ◌&&◌, List, [], ◌∷◌, ◌++◌, ◌≡◌, refl, ltb, eqb, length, get_or}
use Rattle.std.proofs.Common.{sym, ap, ◌∙◌, subst, not-suc-le-zero, le_of_suc-le-suc, arith, ltb-true}
use Rattle.std.proofs.lemmas.Bool.{not-false, eqb-false}
use Rattle.lists.specs.Lists.{part}
use Rattle.lists.specs.Parts.{length_part, get_d_part, part-cons}
use Rattle.lists.specs.Frame.{Freed, freed_self}
use Rattle.store.specs.declared.Shape.{Shape}
use Rattle.store.specs.Store.{Store, owners_at, work_size, work_part}
use Rattle.lists.specs.Tests.{all_pass, and_both, and_false}
use Rattle.std.specs.Prelude.{Result, Ok, Err, ⊤}
use Rattle.curator.specs.declared.CuratorIndex.{CuratorIndex}
use Rattle.settings.specs.declared.refusal.Refusal.{Refusal}
use Rattle.settings.specs.declared.refusal.Refusal.TheVariants as Refusal'
use Rattle.settings.specs.declared.refusal.StateRefusal.{StateRefusal}
use Rattle.settings.specs.declared.refusal.StateRefusal.TheVariants.{InvalidState, EmptyIndex}
use Rattle.settings.specs.declared.refusal.StoreRefusal.TheVariants.{ListTooShort, NodesFull, Damaged}
use Rattle.curator.specs.Limits.{state_sound, index_shape}
use Rattle.curator.specs.Rows.{Row, row, first_of, state_row, build_rows}
use Rattle.store.specs.declared.Lengths.{Lengths}
use Rattle.store.specs.Lent.{lists_short, lengths_of}
use Rattle.curator.proofs.RowLaws.{FirstAt, refusal_at, refused_first, fine_none, no_rows, row-stops, row-passes, rows_then}
use Rattle.curator.proofs.StateLaws.{sound_facts}
use Rattle.curator.specs.Calls.{held_entries}
use Rattle.curator.specs.Changes.{free_of, Left, owners_damaged, too_many_nodes, build_check}
use Rattle.build.specs.Asked.{owners_bad, build_checked, BuildReady}
use Rattle.store.specs.LentLaws.{lists-long}

-- ---- rows with another last one

refused_not_fine : {r : Refusal} → ◌≡◌ {A = Result ⊤ Refusal} (Ok tt) (Err r) → ⊥
refused_not_fine e = let z : ◌≡◌ {A = ℕ} 0 1 = cc in omega arith

false_not_true : false ≡ true → ⊥
false_not_true e = let z : ◌≡◌ {A = ℕ} 0 1 = cc in omega arith

-- a refusal by an earlier row stays
earlier_refused : (rows : List Row) (last other : Row) (r : Refusal) → last.holds ≡ false → first_of (rows ++ (last ∷ [])) ≡ Err r
    → first_of (rows ++ (other ∷ [])) ≡ Err r
earlier_refused rows last other r h f = by (first_of rows) refl
  where
    by : (check : Result ⊤ Refusal) → first_of rows ≡ check → first_of (rows ++ (other ∷ [])) ≡ Err r
    by (Ok _) e = absurd (refused_not_fine (sym no_rows ∙ sym (row-passes last [] h) ∙ sym (rows_then rows (last ∷ []) (Ok tt) e) ∙ f))
    by (Err q) e = rows_then rows (other ∷ []) (Err q) e ∙ sym (rows_then rows (last ∷ []) (Err q) e) ∙ f

-- where no earlier row's case holds, the last row decides
last_decides : (rows : List Row) (last other : Row) → first_of (rows ++ (last ∷ [])) ≡ (Ok tt) → first_of (rows ++ (other ∷ [])) ≡ first_of (other ∷ [])
last_decides rows last other f = by (first_of rows) refl
  where
    by : (check : Result ⊤ Refusal) → first_of rows ≡ check → first_of (rows ++ (other ∷ [])) ≡ first_of (other ∷ [])
    by (Ok _) e = rows_then rows (other ∷ []) (Ok tt) e
    by (Err q) e = absurd (refused_not_fine (sym f ∙ rows_then rows (last ∷ []) (Err q) e))

-- ---- the rows of a build

-- those before row 13
abbrev pub early_build_rows : CuratorIndex → Lengths → ℕ → List ℕ → List Row
early_build_rows index lent work numbers =
    state_row (state_sound index) ∷ row (lists_short (index_shape index) lent work) (Refusal'.Store ListTooShort)
    ∷ row (not index.built && eqb index.counts.vectors 0) (Refusal'.State EmptyIndex)
    ∷ row (not index.built && owners_bad index numbers) (Refusal'.Store Damaged)
    ∷ []

abbrev pub full_row : CuratorIndex → Bool → Row
full_row index tooMany = row (not index.built && tooMany) (Refusal'.Store NodesFull)

pub checked_rows : (index : CuratorIndex) (lent : Lengths) (work : ℕ) (numbers : List ℕ)
    → build_checked index lent work numbers ≡ first_of (early_build_rows index lent work numbers ++ (full_row index false ∷ []))
unfolding build_checked build_rows
checked_rows index lent work numbers = refl

pub check-rows : (index : CuratorIndex) (store : Store) (work : List ℕ)
    → build_check index store work
    ≡ first_of (early_build_rows index (lengths_of store) (length work) store.numbers ++ (full_row index (too_many_nodes index store) ∷ []))
unfolding build_check build_rows owners_damaged owners_bad held_entries
check-rows index store work = refl

-- a refusal by the check is the refusal of the call
pub check_refused : (index : CuratorIndex) (store : Store) (work : List ℕ) (r : Refusal)
    → build_checked index (lengths_of store) (length work) store.numbers ≡ Err r → build_check index store work ≡ Err r
check_refused index store work r f =
    check-rows index store work
    ∙ earlier_refused (early_build_rows index (lengths_of store) (length work) store.numbers) (full_row index false) (full_row index (too_many_nodes index store)) r
    (and_false (not index.built))
    (sym (checked_rows index (lengths_of store) (length work) store.numbers) ∙ f)

-- where the check passes, row 13 decides
decided : (index : CuratorIndex) (store : Store) (work : List ℕ) → build_checked index (lengths_of store) (length work) store.numbers ≡ (Ok tt)
    → build_check index store work ≡ first_of (full_row index (too_many_nodes index store) ∷ [])
decided index store work f =
    check-rows index store work
    ∙ last_decides (early_build_rows index (lengths_of store) (length work) store.numbers) (full_row index false) (full_row index (too_many_nodes index store))
    (sym (checked_rows index (lengths_of store) (length work) store.numbers) ∙ f)

pub check-built : (index : CuratorIndex) (store : Store) (work : List ℕ) → build_checked index (lengths_of store) (length work) store.numbers ≡ (Ok tt)
    → index.built ≡ true → build_check index store work ≡ (Ok tt)
check-built index store work f b =
    decided index store work f
    ∙ row-passes (full_row index (too_many_nodes index store)) [] (ap (λ (t : Bool). not t && too_many_nodes index store) b)
    ∙ no_rows

pub check_full : (index : CuratorIndex) (store : Store) (work : List ℕ) → build_checked index (lengths_of store) (length work) store.numbers ≡ (Ok tt)
    → index.built ≡ false → too_many_nodes index store ≡ true → build_check index store work ≡ Err (Refusal'.Store NodesFull)
check_full index store work f b t =
    decided index store work f
    ∙ row-stops (full_row index (too_many_nodes index store)) [] (ap (λ (t : Bool). not t && too_many_nodes index store) b ∙ t)

pub check_fine : (index : CuratorIndex) (store : Store) (work : List ℕ) → build_checked index (lengths_of store) (length work) store.numbers ≡ (Ok tt)
    → index.built ≡ false → too_many_nodes index store ≡ false → build_check index store work ≡ (Ok tt)
check_fine index store work f b t =
    decided index store work f
    ∙ row-passes (full_row index (too_many_nodes index store)) [] (ap (λ (t : Bool). not t && too_many_nodes index store) b ∙ t)
    ∙ no_rows

-- ---- plain facts

pub all-pass-at : (test : ℕ → Bool) (l : List ℕ) (k : ℕ) → all_pass test l ≡ true → k < length l → test (get_or l k 0) ≡ true
unfolding all_pass
all-pass-at test [] k h b = absurd (not-suc-le-zero b)
all-pass-at test (x ∷ xs) zero h b = (and_both (test x) (all_pass test xs) h).0
all-pass-at test (x ∷ xs) (suc k) h b = all-pass-at test xs k (and_both (test x) (all_pass test xs) h).1 (le_of_suc-le-suc b)

pub from_first : (test : ℕ → Bool) (l : List ℕ) (at count : ℕ) → all_pass test (part at count l) ≡ all_pass test (part (at + 0) (count - 0) l)
from_first test l at count =
    let e : at + 0 ≡ at = omega arith in
    let f : count - 0 ≡ count = omega arith in
    sym (ap (λ (n : ℕ). all_pass test (part (at + 0) n l)) f ∙ ap (λ (a : ℕ). all_pass test (part a count l)) e)

-- one element more of a part that is asked from a place on: it passes, it fails, and there is none
pub passed_here : (test : ℕ → Bool) (l : List ℕ) (at i count : ℕ) → i < count → at + count ≤ length l → test (get_or l (at + i) 0) ≡ true
    → all_pass test (part (at + i) (count - i) l) ≡ all_pass test (part (at + (i + 1)) (count - (i + 1)) l)
unfolding all_pass
passed_here test l at i count h room e =
    let k : count - i ≡ suc (count - (i + 1)) = omega arith in
    let f : at + (i + 1) ≡ suc (at + i) = omega arith in
    ap (λ (n : ℕ). all_pass test (part (at + i) n l)) k
    ∙ ap (all_pass test) (part-cons (at + i) (count - (i + 1)) l 0 (omega arith))
    ∙ ap (λ (b : Bool). b && all_pass test (part (suc (at + i)) (count - (i + 1)) l)) e
    ∙ ap (λ (n : ℕ). all_pass test (part n (count - (i + 1)) l)) (sym f)

pub failed_here : (test : ℕ → Bool) (l : List ℕ) (at i count : ℕ) → i < count → at + count ≤ length l → test (get_or l (at + i) 0) ≡ false
    → all_pass test (part (at + i) (count - i) l) ≡ false
unfolding all_pass
failed_here test l at i count h room e =
    let k : count - i ≡ suc (count - (i + 1)) = omega arith in
    ap (λ (n : ℕ). all_pass test (part (at + i) n l)) k
    ∙ ap (all_pass test) (part-cons (at + i) (count - (i + 1)) l 0 (omega arith))
    ∙ ap (λ (b : Bool). b && all_pass test (part (suc (at + i)) (count - (i + 1)) l)) e

pub passed-all : (test : ℕ → Bool) (l : List ℕ) (at i count : ℕ) → count ≤ i → all_pass test (part (at + i) (count - i) l) ≡ true
unfolding all_pass
passed-all test l at i count h = let k : count - i ≡ 0 = omega arith in ap (λ (n : ℕ). all_pass test (part (at + i) n l)) k

-- owners that pass are below n
owners-below : (index : CuratorIndex) (numbers : List ℕ) → owners_bad index numbers ≡ false
    → owners_at (index_shape index) + index.counts.entries ≤ length numbers → (k : ℕ) → k < index.counts.entries
    → get_or numbers (owners_at (index_shape index) + k) 0 < index.counts.vectors
unfolding owners_bad
owners-below index numbers h room k b =
    let owners = part (owners_at (index_shape index)) index.counts.entries numbers in
    let n = length_part (owners_at (index_shape index)) index.counts.entries numbers room in
    let below = ltb-true _ _ (all-pass-at (λ owner. ltb owner index.counts.vectors) owners k (not-false _ h) (omega arith)) in
    subst (λ (x : ℕ). x < index.counts.vectors) (get_d_part (owners_at (index_shape index)) index.counts.entries numbers k 0 b) below

-- the check passes and the index is not built
pub ready : (index : CuratorIndex) (store : Store) (work : List ℕ) → build_checked index (lengths_of store) (length work) store.numbers ≡ (Ok tt)
    → index.built ≡ false → BuildReady index store work
ready index store work f b =
    let lent = lengths_of store in
    let (sound, (short, (empty, (damaged, _)))) =
    fine_none (early_build_rows index lent (length work) store.numbers ++ (full_row index false ∷ [])) (sym (checked_rows index lent (length work) store.numbers) ∙ f) in
    let s = sound_facts index (not-false _ sound) in
    let long = lists-long (index_shape index) lent (length work) short in
    let unempty = eqb-false index.counts.vectors 0 (ap (λ (t : Bool). not t && eqb index.counts.vectors 0) (sym b) ∙ empty) in
    let owners = ap (λ (t : Bool). not t && owners_bad index store.numbers) (sym b) ∙ damaged in
    record {
      passed = f;
      unbuilt = b;
      sound = s;
      some = omega arith;
      long = long.0;
      work_room = long.1;
      owned = owners-below index store.numbers owners (omega (arith, s.entries, long.0.numbers));
    }

-- ---- what a refusal by the check leaves

left-state : (s : Shape) (r : StateRefusal) (store : Store) (work : List ℕ) → Left s (Refusal'.State r) store work store work
unfolding Freed free_of
left-state s r store work = record { floats = refl; numbers = refl; hashes = refl; text = refl; work = refl }

left-short : (s : Shape) (store : Store) (work : List ℕ) → Left s (Refusal'.Store ListTooShort) store work store work
unfolding Freed free_of
left-short s store work = record { floats = refl; numbers = refl; hashes = refl; text = refl; work = refl }

left-damaged : (s : Shape) (store : Store) (work : List ℕ) → work_size s ≤ length work → Left s (Refusal'.Store Damaged) store work store work
unfolding Freed free_of
left-damaged s store work h = record { floats = refl; numbers = refl; hashes = refl; text = refl; work = freed_self (work_part s) work (omega (arith, h)) }

same-refusal : {q r : Refusal} → ◌≡◌ {A = Result ⊤ Refusal} (Err q) (Err r) → q ≡ r
same-refusal e = cc

-- the lists are as they were, which every one of these rows allows
pub left_alone : (index : CuratorIndex) (store : Store) (work : List ℕ) (r : Refusal)
    → build_checked index (lengths_of store) (length work) store.numbers ≡ Err r → Left (index_shape index) r store work store work
left_alone index store work r f =
    by (refused_first (early_build_rows index (lengths_of store) (length work) store.numbers ++ (full_row index false ∷ [])) r (sym (checked_rows index (lengths_of store) (length work) store.numbers) ∙ f))
  where
    by : (i : ℕ) × FirstAt (early_build_rows index (lengths_of store) (length work) store.numbers ++ (full_row index false ∷ [])) i
        × (refusal_at (early_build_rows index (lengths_of store) (length work) store.numbers ++ (full_row index false ∷ [])) i ≡ Err r)
        → Left (index_shape index) r store work store work
    by (zero, h, e) = subst (λ (q : Refusal). Left (index_shape index) q store work store work) (same-refusal e) (left-state (index_shape index) InvalidState store work)
    by (suc zero, h, e) = subst (λ (q : Refusal). Left (index_shape index) q store work store work) (same-refusal e) (left-short (index_shape index) store work)
    by (suc (suc zero), h, e) =
        subst (λ (q : Refusal). Left (index_shape index) q store work store work) (same-refusal e) (left-state (index_shape index) EmptyIndex store work)
    by (suc (suc (suc zero)), (_, (short, _)), e) =
        subst (λ (q : Refusal). Left (index_shape index) q store work store work) (same-refusal e)
        (left-damaged (index_shape index) store work (lists-long (index_shape index) (lengths_of store) (length work) short).1)
    by (suc (suc (suc (suc zero))), (_, (_, (_, (_, last)))), e) =
        let z : false ≡ true = sym (and_false (not index.built)) ∙ last in
        absurd (false_not_true z)
    by (suc (suc (suc (suc (suc i)))), (_, (_, (_, (_, (_, none))))), e) = absurd none
