-- Request K3 of document 02: 'An accepted add followed by taking back is then the identity on all that is held, after every list of calls.' By the state and the
-- lists before the add (no prime), after it (one prime) and after the taking back (two).
use Rattle.std.specs.Prelude.{ℕ, ◌<◌, Bool, true, false, cond, Result, Ok, Err, ⊤, List, ◌≡◌, refl, eqb, length}
use Rattle.std.proofs.Common.{arith, sym, ap, ◌∙◌, subst, ne_eqb}
use Rattle.std.proofs.lemmas.Bool.{false≢true}
use Rattle.store.specs.declared.Lengths.{Lengths}
use Rattle.store.specs.Store.{Store}
use Rattle.store.specs.Lent.{store_short, join_stores}
use Rattle.settings.specs.declared.refusal.Refusal.{Refusal}
use Rattle.settings.specs.declared.refusal.Refusal.TheVariants as Refusal'
use Rattle.settings.specs.declared.refusal.StateRefusal.TheVariants.{AlreadyBuilt, NoVectorHeld}
use Rattle.settings.specs.declared.refusal.StoreRefusal.TheVariants.{ListTooShort}
use Rattle.settings.specs.Refusals.{check_number}
use Rattle.curator.specs.declared.CuratorIndex.{CuratorIndex}
use Rattle.curator.specs.Arguments.{AddCall}
use Rattle.curator.specs.Rows.{first_of, add_rows, take_back_rows}
use Rattle.curator.proofs.RowLaws.{fine_none, zero_fine}
use Rattle.curator.specs.Calls.{held_starts, held_lengths, held_text, SameOfIndex}
use Rattle.runs.specs.Calls.{add, take_back, Call, change}
use Rattle.runs.specs.Model.{Setting, Model, empty_model, new_row, setting_shape, model_facts, change_check, model_check, changed_by, carried_out, after, model_from}
use Rattle.runs.specs.Run.{Ended, Step, index_after, store_after, Run}
use Rattle.runs.specs.Theorem.{end_number}
use Rattle.runs.proofs.State.{Allowed, state_for}
use Rattle.runs.proofs.Held.{Held, with_row, length-rows, held-vectors, held-documents, held-entries, held-marks}
use Rattle.runs.proofs.Invariant.{Invariant}
use Rattle.runs.proofs.TakesBack.{struck-row}
use Rattle.runs.proofs.Reached.{run_allowed, reached, step_keeps, end-number}

-- ---- the claim

pub record Undone (s : Setting) (fronts : Lengths) (end : Ended) (index : CuratorIndex) (store store' : Store) (index'' : CuratorIndex) (store'' : Store) : Type 0 where
  -- the taking back is accepted where it is lent what add is, and refused with 3 where it is not
  pub number : end_number end ≡ cond (store_short (setting_shape s) fronts) 3 0
  -- accepted, 'counts and the vectors, ids, owners and hashes held are those before that add', and with K4 starts, lengths and text, with K10 live marks
  pub state : end_number end ≡ 0 → index'' ≡ index
  pub held : end_number end ≡ 0 → SameOfIndex index store'' store
  -- 'and places past the counts keep their numbers': no list is written
  pub lists : store'' ≡ store'

-- After any run of the calls, an add that is accepted and directly after it a taking back. Each may be lent other fronts.
abbrev pub AddUndone : Setting → List Call → Type 0
AddUndone s calls =
    (ends : List Ended) (run : Run s calls ends) (fronts fronts' : Lengths) (work work' : List ℕ) (call : AddCall) (end end' : Ended)
    (index' index'' : CuratorIndex) (store' store'' : Store)
    → Step (index_after run.run) (store_after run.run) (change fronts work (add call)) end index' store' → end_number end ≡ 0
    → Step index' store' (change fronts' work' take_back) end' index'' store''
    → Undone s fronts' end' (index_after run.run) (store_after run.run) store' index'' store''

-- ---- the proof: after the add the model has one row more, the taking back strikes it, and state and lists stand for the model before and after

-- two stores that hold the rows of one model
same-held : (s : Setting) (m : Model) (index : CuratorIndex) (store store' : Store) → index ≡ state_for s m → Held s m store → Held s m store'
    → SameOfIndex index store store'
unfolding held_starts held_lengths held_text
same-held s m index store store' e h h' =
    subst (λ (i : CuratorIndex). SameOfIndex i store store') (sym e)
    (record {
      vectors = held-vectors s m store h ∙ sym (held-vectors s m store' h');
      documents = held-documents s m store h ∙ sym (held-documents s m store' h');
      entries = held-entries s m store h ∙ sym (held-entries s m store' h');
      starts = h.starts ∙ sym h'.starts;
      lengths = h.lengths ∙ sym h'.lengths;
      text = h.text ∙ sym h'.text;
      marks = held-marks s m store h ∙ sym (held-marks s m store' h');
    })

-- What is held is the model's alone: runs of other calls, from other lists, that come to one model have the same state and hold the same. So a taking back
-- that comes later, after searches, refused calls, and adds that are taken back themselves, undoes the last add that still stands.
pub same_model : (s : Setting) (calls calls' : List Call) (ends ends' : List Ended) (run : Run s calls ends) (run' : Run s calls' ends')
    → model_from s empty_model calls ≡ model_from s empty_model calls'
    → (index_after run.run ≡ index_after run'.run) × SameOfIndex (index_after run.run) (store_after run.run) (store_after run'.run)
same_model s calls calls' ends ends' run run' e =
    let m = model_from s empty_model calls in
    let h : Invariant s m (index_after run.run) (store_after run.run) = reached s calls ends run in
    let h' : Invariant s m (index_after run'.run) (store_after run'.run) =
    subst (λ (x : Model). Invariant s x (index_after run'.run) (store_after run'.run)) (sym e) (reached s calls' ends' run') in
    (h.state ∙ sym h'.state, same-held s m (index_after run.run) (store_after run.run) (store_after run'.run) h.state h.held h'.held)

-- an accepted add leaves one row more, in a model that is not built
added-row : (s : Setting) (m : Model) (fronts : Lengths) (work : ℕ) (call : AddCall) → change_check s m fronts work (add call) ≡ Ok tt
    → (changed_by (change_check s m fronts work (add call)) (add call) m ≡ with_row m (new_row call)) × (m.built ≡ false)
unfolding change_check changed_by carried_out add_rows model_facts
added-row s m fronts work call fine =
    (ap (λ (c : Result ⊤ Refusal). changed_by c (add call) m) fine, (fine_none (add_rows (model_facts s m) fronts call) fine).1.0)

-- the number of a taking back from a model that is not built and has a row
back_number : (s : Setting) (m : Model) (fronts : Lengths) (work : ℕ) → m.built ≡ false → 0 < length m.rows
    → check_number (change_check s m fronts work take_back) ≡ cond (store_short (setting_shape s) fronts) 3 0
unfolding change_check take_back_rows model_facts first_of
back_number s m fronts work b some =
    by (store_short (setting_shape s) fronts) m.built (eqb (length m.rows) 0) b (ne_eqb (length m.rows) 0 (λ e. omega arith))
  where
    by : (short built none : Bool) → built ≡ false → none ≡ false
        → check_number (cond short (Err (Refusal'.Store ListTooShort)) (cond built (Err (Refusal'.State AlreadyBuilt)) (cond none (Err (Refusal'.State NoVectorHeld)) (Ok tt))))
        ≡ cond short 3 0
    by true built none b n = refl
    by false true none b n = absurd (false≢true (sym b))
    by false false true b n = absurd (false≢true (sym n))
    by false false false b n = refl

-- no list is written
writes_nothing : (index : CuratorIndex) (store : Store) (fronts : Lengths) (work : List ℕ) (end : Ended) (index' : CuratorIndex) (store' : Store)
    → Step index store (change fronts work take_back) end index' store' → store' ≡ store
unfolding Step
writes_nothing index store fronts work end index' store' st =
    st.store_next ∙ ap (λ (f : Store). join_stores f st.rest) st.changes.1 ∙ sym st.whole

pub add_undone : (s : Setting) (calls : List Call) → AddUndone s calls
unfolding after changed_by carried_out model_check
add_undone s calls ends run fronts fronts' work work' call end end' index' index'' store' store'' adds zero takes =
    let a : Allowed s = run_allowed s calls ends run in
    let m = model_from s empty_model calls in
    let index = index_after run.run in
    let store = store_after run.run in
    let before : Invariant s m index store = reached s calls ends run in
    let one = step_keeps s a m index store before (change fronts work (add call)) end index' store' adds in
    let fine = zero_fine (change_check s m fronts (length work) (add call)) (sym (end-number s m (change fronts work (add call)) end one.0) ∙ zero) in
    let (grown, unbuilt) = added-row s m fronts (length work) call fine in
    let m' = with_row m (new_row call) in
    let between : Invariant s m' index' store' = subst (λ (x : Model). Invariant s x index' store') grown one.1 in
    let two = step_keeps s a m' index' store' between (change fronts' work' take_back) end' index'' store'' takes in
    let number = end-number s m' (change fronts' work' take_back) end' two.0 in
    let again : end_number end' ≡ 0 → Invariant s m index'' store'' = λ e.
    (let fine' = zero_fine (change_check s m' fronts' (length work') take_back) (sym number ∙ e) in
    subst (λ (x : Model). Invariant s x index'' store'')
    (ap (λ (c : Result ⊤ Refusal). changed_by c take_back m') fine' ∙ struck-row m (new_row call)) two.1) in
    record {
      number = number ∙ back_number s m' fronts' (length work') unbuilt (omega (arith, length-rows m (new_row call)));
      state = λ e. (again e).state ∙ sym before.state;
      held = λ e. same-held s m index store'' store before.state (again e).held before.held;
      lists = writes_nothing index' store' fronts' work' end' index'' store'' takes;
    }
