-- An add keeps what is between a run and its model: refused, it has written nothing; accepted, one row more behind those held, in a model that is not
-- built.
use Rattle.std.specs.Prelude.{ℕ, ◌+◌, ◌<◌, ◌^◌, false, Result, Ok, Err, ⊤, List, ◌≡◌, refl, length}
use Rattle.std.proofs.Common.{add-one, arith, inr, sym, ◌∙◌}
use Rattle.std.proofs.lemmas.Bool.{false≢true}
use mathlib.Core.List.Memᴰ
use Rattle.std.proofs.Math.Path.{ap, subst}
use Rattle.lists.specs.Tests.{either}
use Rattle.store.specs.declared.Lengths.{Lengths}
use Rattle.store.specs.Store.{Store}
use Rattle.store.specs.Lent.{lengths_of, Long, join_stores}
use Rattle.curator.specs.declared.CuratorIndex.{CuratorIndex}
use Rattle.settings.specs.declared.refusal.Refusal.{Refusal}
use Rattle.curator.specs.Outcome.{changed_number}
use Rattle.settings.specs.Refusals.{check_number}
use Rattle.curator.specs.Arguments.{AddCall}
use Rattle.curator.specs.Rows.{add_rows}
use Rattle.label.specs.Names.{bytes_of_names}
use Rattle.curator.specs.Calls.{grown}
use Rattle.curator.specs.Changes.{Adds, AddsBy, add_check}
use Rattle.curator.specs.Lent.{AddRoom}
use Rattle.curator.proofs.AddLaws.{Accepted, add_facts}
use Rattle.curator.proofs.HeldLaws.{wrote-lengths, added, added-wrote}
use Rattle.runs.specs.Calls.{add}
use Rattle.runs.specs.Model.{Setting, Model, ModelRow, row_hashes, row_bytes, model_facts, node_count, setting_shape, change_rows, change_check, carried_out, changed_by, new_row}
use Rattle.runs.specs.Run.{next_index}
use Rattle.runs.specs.Theorem.{with_budget}
use Rattle.runs.proofs.State.{Allowed, Within, Small, state_for, nodes_held, no_nodes}
use Rattle.runs.proofs.Held.{Held, held-added, with_row, length-rows, count-more, bytes-more}
use Rattle.runs.proofs.Refusals.{add_refused}
use Rattle.runs.proofs.Invariant.{Invariant, nothing_written, held-front, held_back}
use Rattle.runs.proofs.ChangeLaws.{Others, ChangeEnds, ChangeOutcome, ChangeLaws}
use Rattle.curator.specs.OutcomeLaws.{refused_is, is_refused, carried-is, is_carried}

-- ---- the model after it

within-added : (s : Setting) (m : Model) (call : AddCall) (store : Store) → m.built ≡ false → AddRoom (state_for s m) store call
    → Within s (with_row m (new_row call))
within-added s m call store b room =
    record {
      vectors = omega (arith, length-rows m (new_row call), room.vectors);
      entries = omega (arith, count-more m call, room.entries);
      bytes = omega (arith, bytes-more m (new_row call), room.text);
      rows = λ t. absurd (false≢true (sym b ∙ t));
      nodes = λ t. absurd (false≢true (sym b ∙ t));
    }

state-added : (s : Setting) (m : Model) (call : AddCall) → m.built ≡ false → grown (state_for s m) call.names ≡ state_for s (with_row m (new_row call))
state-added s m call b =
    let r = new_row call in
    let v : length m.rows + 1 ≡ length (with_row m r).rows = add-one (length m.rows) ∙ sym (length-rows m r) in
    let e : length (row_hashes m) + length call.names ≡ length (row_hashes (with_row m r)) = sym (count-more m call) in
    let b' : row_bytes m + length (bytes_of_names call.names) ≡ row_bytes (with_row m r) = sym (bytes-more m r) in
    let n : nodes_held m.built s m ≡ nodes_held m.built s (with_row m r) = no_nodes m.built s m (with_row m r) b in
    λ i. record {
      dimension = s.dimension;
      params = s.params;
      capacities = s.capacities;
      counts = record { vectors = v i; entries = e i; nodes = n i; bytes = b' i };
      built = m.built;
    }

-- ---- the step

module _ (s : Setting) (allowed : Allowed s) (m : Model) (front rest front' : Store) (call : AddCall) (answer : Result CuratorIndex Refusal)
    (inv : Invariant s m (state_for s m) (join_stores front rest)) where
  ends : (check : Result ⊤ Refusal) → add_check (state_for s m) front call ≡ check → AddsBy check (state_for s m) front call answer front'
      → (changed_number answer ≡ check_number check) × Invariant s (changed_by check (add call) m) (next_index (state_for s m) answer) (join_stores front' rest)
  unfolding AddsBy changed_by next_index
  ends (Err r) e by = (
    by.0.number_is,
    nothing_written s m (state_for s m) (next_index (state_for s m) answer) (join_stores front rest) (join_stores front' rest) inv
        (ap (next_index (state_for s m)) (refused_is r answer by.0))
        (ap (λ (f : Store). join_stores f rest) by.1),
  )
  ends (Ok _) e by =
      let found : Accepted (state_for s m) front call = add_facts (state_for s m) front call e in
      let room = found.room in
      let m' = with_row m (new_row call) in
      let h' : Held s m' front' = held-added s m call front front' room by.1 (held-front s m front rest inv.within room.long inv.held) in
      let w : Within s m' = within-added s m call front found.unbuilt room in
      let long' : Long (setting_shape s) (lengths_of front') =
      subst (Long (setting_shape s)) (wrote-lengths (state_for s m) front call front' by.1) room.long in (
        by.0.number_is,
        record {
          state = ap (next_index (state_for s m)) (carried-is (grown (state_for s m) call.names) answer by.0) ∙ state-added s m call found.unbuilt;
          within = w;
          held = held_back s m' front' rest w long' h';
          laid = λ b. absurd (false≢true (sym found.unbuilt ∙ b));
        },
      )

  add-keeps : (work : ℕ) → Adds (state_for s m) front call answer front'
      → ChangeEnds s m (lengths_of front) work (add call) answer (next_index (state_for s m) answer) (join_stores front' rest)
  unfolding Adds
  add-keeps work adds =
      let same = add_refused s m allowed inv.within front work call in
      let r = ends (change_check s m (lengths_of front) work (add call)) same
      (subst (λ (c : Result ⊤ Refusal). AddsBy c (state_for s m) front call answer front') same adds) in
      record { number_is = r.0; invariant = r.1 }

-- ---- the rest that is owed

add-others : (s : Setting) (m : Model) (lent : Lengths) (work : ℕ) (call : AddCall) → Others (change_rows s m lent work (add call))
unfolding change_rows add_rows model_facts
add-others s m lent work call =
    (inr (omega arith), (inr (omega arith), (inr (omega arith), (inr (omega arith), (inr (omega arith), (inr (omega arith), (inr (omega arith), (inr (omega arith), tt))))))))

add-budget : (s : Setting) (ef : ℕ) (m : Model) (lent : Lengths) (work : ℕ) (call : AddCall)
    → change_rows (with_budget ef s) m lent work (add call) ≡ change_rows s m lent work (add call)
unfolding change_rows model_facts node_count
add-budget s ef m lent work call = refl

add_small : (m : Model) (call : AddCall) → call.document < 2 ^ 32 → Small m → Small (carried_out (add call) m)
unfolding carried_out
add_small m call d h =
    λ r k. either (Memᴰ.append_cases m.rows k) (λ old. h r old)
    (λ new. either (Memᴰ.cases_cons new) (λ e. subst (λ (x : ModelRow). x.document < 2 ^ 32) (sym e) d) (λ none. absurd (Memᴰ.not-nil none)))

-- refused or not, the lists keep their lengths, and there is an outcome
add-lengths : (index : CuratorIndex) (store : Store) (call : AddCall) (answer : Result CuratorIndex Refusal) (store' : Store) (c : Result ⊤ Refusal)
    → AddsBy c index store call answer store' → lengths_of store ≡ lengths_of store'
unfolding AddsBy
add-lengths index store call answer store' (Err r) by = ap lengths_of (sym by.1)
add-lengths index store call answer store' (Ok _) by = wrote-lengths index store call store' by.1

add_by : (index : CuratorIndex) (store : Store) (call : AddCall) (c : Result ⊤ Refusal) → (answer : Result CuratorIndex Refusal) × (store' : Store) × AddsBy c index store call answer store'
unfolding AddsBy
add_by index store call (Err r) = (Err r, store, (is_refused r (Err r) refl, refl))
add_by index store call (Ok _) =
    (Ok (grown index call.names), added index store call, (is_carried _ _ refl, added-wrote index store call))

add-outcome : (index : CuratorIndex) (store : Store) (work : List ℕ) (call : AddCall) → ChangeOutcome index store work (add call)
unfolding Adds
add-outcome index store work call =
    let r = add_by index store call (add_check index store call) in record { answer = r.0; store' = r.1; work' = work; changes = r.2 }

pub add_laws : (call : AddCall) → ChangeLaws (add call)
unfolding Adds
add_laws call =
    record {
      keeps = λ s a m work work' front rest front' answer inv adds. add-keeps s a m front rest front' call answer inv (length work) adds;
      others = λ s m lent work. add-others s m lent work call;
      budget = λ s ef m lent work. add-budget s ef m lent work call;
      small = λ m d h. add_small m call d h;
      lengths = λ index store work answer store' work' adds. add-lengths index store call answer store' (add_check index store call) adds;
      outcome = λ index store work. add-outcome index store work call;
    }
