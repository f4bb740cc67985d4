-- A withdrawal keeps what is between a run and its model: refused, it has written nothing; accepted, it has written live marks alone. They stand behind all else
-- that the lists hold of rows and nodes, and are the marks of the rows after it; all else of these is as it was (Withdrawn.antt).
use Rattle.std.specs.Prelude.{ℕ, ◌+◌, ◌^◌, ◌≤◌, ◌<◌, Bool, true, false, not, ◌&&◌, cond, Result, Ok, Err, ⊤, ◌≡◌, refl, eqb}
use Rattle.std.proofs.Common.{arith, inr, ◌∙◌}
use mathlib.Core.List.{List, [], ◌∷◌, map}
use Rattle.std.proofs.Math.Path.{sym, ap, ap₂, subst}
use Rattle.std.proofs.Math.ListN.{length}
use Rattle.lists.specs.Lists.{part, count_from}
use Rattle.lists.specs.Maps.{Memᴰ-map}
use Rattle.lists.specs.Parts.{take-sets}
use Rattle.store.specs.declared.Lengths.{Lengths}
use Rattle.store.specs.Store.{Store, vector_at, starts_at, lengths_at, live_at, live_marks}
use Rattle.store.specs.Lent.{lengths_of, Long, join_stores}
use Rattle.store.specs.Agree.{agree_join}
use Rattle.label.specs.Names.{starts_from, lengths_of_names, bytes_of_names}
use Rattle.settings.specs.declared.refusal.Refusal.{Refusal}
use Rattle.settings.specs.Refusals.{check_number}
use Rattle.curator.specs.declared.CuratorIndex.{CuratorIndex}
use Rattle.curator.specs.Outcome.{changed_number}
use Rattle.curator.specs.Rows.{withdraw_rows}
use Rattle.curator.specs.Calls.{held_documents, held_marks}
use Rattle.curator.specs.Changes.{withdraw_check, marks_withdrawn, withdrawn_from, WithdrawsBy, Withdraws}
use Rattle.curator.specs.OutcomeLaws.{refused_is, is_refused, carried-is, is_carried}
use Rattle.curator.proofs.WithdrawLaws.{CanWithdraw, can_withdraw, withdrawn-lengths, before-withdrawn, withdrawn-marks}
use Rattle.runs.specs.Calls.{withdraw}
use Rattle.runs.specs.Model.{Setting, Model, ModelRow, setting_shape, row_hashes, row_documents, model_facts, node_count, change_rows, change_check, withdraw_row, carried_out, changed_by}
use Rattle.runs.specs.Run.{next_index}
use Rattle.runs.specs.Theorem.{with_budget}
use Rattle.runs.proofs.State.{Allowed, Within, Small, state_for}
use Rattle.runs.proofs.Held.{Held, live_mark, held-documents, held-marks}
use Rattle.runs.proofs.Refusals.{withdraw_refused}
use Rattle.runs.proofs.Built.{NodeFacts, node_facts, SameNodes, nodes_end, laid_same}
use Rattle.runs.proofs.Invariant.{Invariant, nothing_written, held-front, held_back}
use Rattle.runs.proofs.ChangeLaws.{Others, ChangeEnds, ChangeOutcome, ChangeLaws}
use Rattle.runs.proofs.Withdrawn.{withdrawn, rows_as_many, same-documents, same-vectors, same-hashes, same_names, same_bytes, same-owners, same-state, same-within, same-laid}

-- ---- what is held after it

-- a mark by its row
mark_of : (live has : Bool) → ◌≡◌ {A = ℕ} (cond has 0 (cond live 1 0)) (cond (live && not has) 1 0)
mark_of true true = refl
mark_of true false = refl
mark_of false true = refl
mark_of false false = refl

marks_of : (document : ℕ) (rows : List ModelRow)
    → marks_withdrawn document (map (λ r. r.document) rows) (map live_mark rows) ≡ map live_mark (map (withdraw_row document) rows)
unfolding marks_withdrawn
marks_of document [] = refl
marks_of document (r ∷ rows) = ap₂ ◌∷◌ (mark_of r.live (eqb document r.document)) (marks_of document rows)

module _ (s : Setting) (m : Model) (document : ℕ) (store : Store) (can : CanWithdraw (state_for s m) store document) (h : Held s m store) where
  abbrev store' : Store
  store' = withdrawn_from (state_for s m) store document

  -- a part before the marks
  before : (at count : ℕ) → at + count ≤ live_at (setting_shape s) → part at count store'.numbers ≡ part at count store.numbers
  before = before-withdrawn (state_for s m) store can.long can.sound.vectors document

  -- the marks are those of the rows
  marks : live_marks (setting_shape s) (length m.rows) store'.numbers ≡ map live_mark (map (withdraw_row document) m.rows)
  unfolding held_marks row_documents
  marks =
      withdrawn-marks (state_for s m) store can.long can.sound.vectors document
      ∙ ap₂ (marks_withdrawn document) (held-documents s m store h) (held-marks s m store h) ∙ marks_of document m.rows

  held-withdrawn : Held s (withdrawn document m) store'
  unfolding withdrawn_from row_documents
  held-withdrawn =
      let sh = setting_shape s in
      let v = s.capacities.vectors in
      let n = rows_as_many document m in
      let e : length (row_hashes (withdrawn document m)) ≡ length (row_hashes m) = ap length (same-hashes document m) in
      let names = same_names document m in
      let rows = can.sound.vectors in
      let few = can.sound.entries in
      record {
        vectors = ap (λ (k : ℕ). map (vector_at s.dimension store.floats) (count_from 0 k)) n ∙ h.vectors ∙ sym (same-vectors document m);
        documents =
            ap (λ (k : ℕ). part 0 k store'.numbers) n ∙ before 0 (length m.rows) (omega (arith, rows)) ∙ h.documents ∙ sym (same-documents document m);
        owners =
            ap (λ (k : ℕ). part v k store'.numbers) e ∙ before v (length (row_hashes m)) (omega (arith, few)) ∙ h.owners
            ∙ sym (same-owners document m 0 m.rows);
        hashes = ap (λ (k : ℕ). part 0 k store.hashes) e ∙ h.hashes ∙ sym (same-hashes document m);
        starts =
            ap (λ (k : ℕ). part (starts_at sh) k store'.numbers) e ∙ before (starts_at sh) (length (row_hashes m)) (omega (arith, few)) ∙ h.starts
            ∙ ap (starts_from 0) (sym names);
        lengths =
            ap (λ (k : ℕ). part (lengths_at sh) k store'.numbers) e ∙ before (lengths_at sh) (length (row_hashes m)) (omega (arith, few)) ∙ h.lengths
            ∙ ap lengths_of_names (sym names);
        text = ap (λ (k : ℕ). part 0 k store.text) (same_bytes document m) ∙ h.text ∙ ap bytes_of_names (sym names);
        live = ap (λ (k : ℕ). live_marks sh k store'.numbers) n ∙ marks;
      }

-- the node parts stand before the marks
nodes-kept : (s : Setting) (m : Model) (document : ℕ) (store : Store) → SameNodes s store (withdrawn_from (state_for s m) store document)
unfolding withdrawn_from
nodes-kept s m document store =
    let sh = setting_shape s in
    let marks = marks_withdrawn document (held_documents (state_for s m) store) (held_marks (state_for s m) store) in
    record { floats = refl; numbers = sym (take-sets (starts_at sh) store.numbers (live_at sh) marks (omega arith)); hashes = refl; text = refl }

-- ---- the step

module _ (s : Setting) (allowed : Allowed s) (m : Model) (front rest front' : Store) (document : ℕ) (answer : Result CuratorIndex Refusal)
    (inv : Invariant s m (state_for s m) (join_stores front rest)) where
  front-held : Long (setting_shape s) (lengths_of front) → Held s m front
  front-held long = held-front s m front rest inv.within long inv.held

  fine_ends : CanWithdraw (state_for s m) front document → WithdrawsBy (Ok tt) (state_for s m) front document answer front'
      → Invariant s (withdrawn document m) (next_index (state_for s m) answer) (join_stores front' rest)
  unfolding WithdrawsBy next_index
  fine_ends can by =
      let index = state_for s m in
      let m' = withdrawn document m in
      let after = withdrawn_from (state_for s m) front document in
      let all = join_stores after rest in
      let w : Within s (withdrawn document m) = same-within document m s inv.within in
      let lengths : lengths_of front ≡ lengths_of (withdrawn_from (state_for s m) front document) = withdrawn-lengths index front document in
      let h : Held s (withdrawn document m) (withdrawn_from (state_for s m) front document) = held-withdrawn s m document front can (front-held can.long) in
      let kept : SameNodes s (join_stores front rest) (join_stores (withdrawn_from (state_for s m) front document) rest) =
      agree_join (nodes_end s) front after rest lengths (nodes-kept s m document front) in
      subst (λ (f : Store). Invariant s (withdrawn document m) (next_index (state_for s m) answer) (join_stores f rest)) (sym by.1)
      (record {
        state = ap (next_index index) (carried-is index answer by.0) ∙ sym (same-state document m s);
        within = w;
        held = held_back s m' after rest w (subst (Long (setting_shape s)) lengths can.long) h;
        laid = λ b.
            (let facts : NodeFacts s m = node_facts s m allowed inv.within (inv.within.nodes b) in
            same-laid document m s all (laid_same s m (join_stores front rest) all facts kept (inv.laid b)));
      })

  ends : (check : Result ⊤ Refusal) → withdraw_check (state_for s m) front document ≡ check → WithdrawsBy check (state_for s m) front document answer front'
      → (changed_number answer ≡ check_number check) × Invariant s (changed_by check (withdraw document) m) (next_index (state_for s m) answer) (join_stores front' rest)
  unfolding WithdrawsBy changed_by carried_out next_index
  ends (Err r) e by = (
    by.0.number_is,
    nothing_written s m (state_for s m) (next_index (state_for s m) answer) (join_stores front rest) (join_stores front' rest) inv
        (ap (next_index (state_for s m)) (refused_is r answer by.0))
        (ap (λ (f : Store). join_stores f rest) by.1),
  )
  ends (Ok _) e by = (by.0.number_is, fine_ends (can_withdraw (state_for s m) front document e) by)

  withdraw-keeps : (work : ℕ) → Withdraws (state_for s m) front document answer front'
      → ChangeEnds s m (lengths_of front) work (withdraw document) answer (next_index (state_for s m) answer) (join_stores front' rest)
  unfolding Withdraws
  withdraw-keeps work withdraws =
      let same = withdraw_refused s m allowed inv.within front work document front-held in
      let r = ends (change_check s m (lengths_of front) work (withdraw document)) same
      (subst (λ (c : Result ⊤ Refusal). WithdrawsBy c (state_for s m) front document answer front') same withdraws) in
      record { number_is = r.0; invariant = r.1 }

-- ---- the rest that is owed

withdraw-others : (s : Setting) (m : Model) (lent : Lengths) (work document : ℕ) → Others (change_rows s m lent work (withdraw document))
unfolding change_rows withdraw_rows model_facts
withdraw-others s m lent work document = (inr (omega arith), (inr (omega arith), tt))

withdraw-budget : (s : Setting) (ef : ℕ) (m : Model) (lent : Lengths) (work document : ℕ)
    → change_rows (with_budget ef s) m lent work (withdraw document) ≡ change_rows s m lent work (withdraw document)
unfolding change_rows model_facts node_count
withdraw-budget s ef m lent work document = refl

withdraw-small : (m : Model) (document : ℕ) → Small m → Small (carried_out (withdraw document) m)
unfolding carried_out
withdraw-small m document h =
    λ r k. let old = Memᴰ-map (withdraw_row document) k in subst (λ (x : ModelRow). x.document < 2 ^ 32) (sym old.2) (h old.0 old.1)

-- refused or not, the lists keep their lengths, and there is an outcome
withdraw-lengths : (index : CuratorIndex) (store : Store) (document : ℕ) (answer : Result CuratorIndex Refusal) (store' : Store) (c : Result ⊤ Refusal)
    → WithdrawsBy c index store document answer store' → lengths_of store ≡ lengths_of store'
unfolding WithdrawsBy
withdraw-lengths index store document answer after (Err r) by = ap lengths_of (sym by.1)
withdraw-lengths index store document answer after (Ok _) by = withdrawn-lengths index store document ∙ ap lengths_of (sym by.1)

withdraw_by : (index : CuratorIndex) (store : Store) (document : ℕ) (c : Result ⊤ Refusal) → (answer : Result CuratorIndex Refusal) × (store' : Store) × WithdrawsBy c index store document answer store'
unfolding WithdrawsBy
withdraw_by index store document (Err r) = (Err r, store, (is_refused r (Err r) refl, refl))
withdraw_by index store document (Ok _) =
    (Ok index, withdrawn_from index store document, (is_carried index (Ok index) refl, refl))

withdraw-outcome : (index : CuratorIndex) (store : Store) (work : List ℕ) (document : ℕ) → ChangeOutcome index store work (withdraw document)
unfolding Withdraws
withdraw-outcome index store work document =
    let r = withdraw_by index store document (withdraw_check index store document) in record { answer = r.0; store' = r.1; work' = work; changes = r.2 }

pub withdraw_laws : (document : ℕ) → ChangeLaws (withdraw document)
unfolding Withdraws
withdraw_laws document =
    record {
      keeps = λ s a m work work' front rest front' answer inv withdraws. withdraw-keeps s a m front rest front' document answer inv (length work) withdraws;
      others = λ s m lent work. withdraw-others s m lent work document;
      budget = λ s ef m lent work. withdraw-budget s ef m lent work document;
      small = λ m d h. withdraw-small m document h;
      lengths = λ index store work answer store' work' withdraws.
          withdraw-lengths index store document answer store' (withdraw_check index store document) withdraws;
      outcome = λ index store work. withdraw-outcome index store work document;
    }
