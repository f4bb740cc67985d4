-- A taking back keeps what is between a run and its model: refused, all is as it was; accepted, the last row is struck, in a model that is not built. No list is
-- written: the lists still hold the rows that stay, and since an owner is its row's number, the owners at the end that are the last row's number are exactly as
-- many as its hashes.
use Rattle.std.specs.Prelude.{ℕ, suc, ◌+◌, ◌-◌, ◌≤◌, ◌<◌, false, Result, Ok, Err, ⊤, ◌≡◌, take, drop, replicate}
use native.Mathlib.Omega.{arith}
use Rattle.std.proofs.lemmas.Bool.{false≢true}
use Rattle.std.proofs.Common.{inr, ◌∙◌, take-append-drop, take-suc, take_at, take-take}
use mathlib.Core.List.Memᴰ
use mathlib.Core.List.{List, [], ◌∷◌, ◌++◌, map, map-append, Memᴰ}
use Rattle.std.proofs.Math.Path.{refl, sym, ap, ap₂, subst}
use Rattle.std.proofs.Math.ListN.{length, get_or, length-append}
use Rattle.std.proofs.lemmas.List.{length-map}
use Rattle.std.proofs.Math.Seq.{take-length}
use Rattle.lists.specs.Lists.{part, count_from}
use Rattle.lists.specs.Counting.{count_from_snoc, length-count_from}
use Rattle.store.specs.declared.Lengths.{Lengths}
use Rattle.store.specs.Store.{Store, vector_at, starts_at, lengths_at, live_at, entry_start}
use Rattle.label.specs.Names.{starts_from, lengths_of_names, bytes_of_names}
use Rattle.label.specs.NameLaws.{length-hashes_of_labels}
use Rattle.label.specs.TextLaws.{length-starts, length-lengths, start-append}
use Rattle.lists.specs.Parts.{get_d_part}
use Rattle.store.specs.Lent.{lengths_of, join_stores}
use Rattle.curator.specs.declared.CuratorIndex.{CuratorIndex}
use Rattle.settings.specs.declared.refusal.Refusal.{Refusal}
use Rattle.curator.specs.Outcome.{changed_number}
use Rattle.settings.specs.Refusals.{check_number}
use Rattle.curator.specs.Rows.{take_back_rows}
use Rattle.lists.specs.Suffix.{count_at_end}
use Rattle.lists.proofs.SuffixLaws.{at-end-written}
use Rattle.curator.specs.Calls.{last_entries, bytes_left, lowered, held_entries, shrunk, with_counts, counts_less}
use Rattle.curator.specs.Changes.{take_back_check, TakesBackBy, TakesBack}
use Rattle.curator.specs.OutcomeLaws.{refused_is, is_refused, carried-is, is_carried}
use Rattle.curator.proofs.TakeBackLaws.{CanTakeBack, can_take_back, lower_first}
use Rattle.runs.specs.Calls.{take_back}
use Rattle.runs.specs.Model.{Setting, Model, ModelRow, no_row, struck, hashes_in, setting_shape, row_vectors, row_hashes, row_names, row_bytes, owners_from, row_entries, model_facts, node_count, change_rows, change_check, carried_out, changed_by}
use Rattle.runs.specs.Run.{next_index}
use Rattle.runs.specs.Theorem.{with_budget}
use Rattle.runs.proofs.State.{Allowed, Within, Small, state_for, nodes_held, no_nodes}
use Rattle.runs.proofs.Held.{Held, live_mark, with_row, length-rows, vectors-more, hashes-more, names_more, bytes-more, text-more, starts_more, lengths-more, names-length, owners-more, owners-below, owners-length, length-vectors}
use Rattle.runs.proofs.Refusals.{take_back_refused}
use Rattle.runs.proofs.Invariant.{Invariant, nothing_written, held-front}
use Rattle.runs.proofs.ChangeLaws.{Others, ChangeEnds, ChangeOutcome, ChangeLaws}

-- ---- the model is one without its last row, and that row

-- the model after it
abbrev pub without : Model → Model
without m = record { rows = struck m.rows; built = m.built }

abbrev last_row : Model → ModelRow
last_row m = get_or m.rows (length m.rows - 1) no_row

last_row_lem : (m : Model) → 0 < length m.rows → m ≡ with_row (without m) (last_row m)
last_row_lem m h =
    let n = length m.rows - 1 in
    let e : suc n ≡ length m.rows = omega arith in
    let rows : m.rows ≡ struck m.rows ++ (last_row m ∷ []) =
    sym (take-length m.rows) ∙ ap (λ (k : ℕ). take k m.rows) (sym e) ∙ take-suc m.rows n no_row (omega arith) in
    λ i. record { rows = rows i; built = m.built }

-- the other way round: striking the row that was written last
pub struck-row : (m : Model) (r : ModelRow) → without (with_row m r) ≡ m
struck-row m r =
    let e : length (with_row m r).rows - 1 ≡ length m.rows = (let l = length-rows m r in omega arith) in
    let rows : struck (with_row m r).rows ≡ m.rows =
    ap (λ (k : ℕ). take k (m.rows ++ (r ∷ []))) e ∙ take_at m.rows (r ∷ []) (length m.rows) refl in
    λ i. record { rows = rows i; built = m.built }

-- ---- what is held of the rows that stay

-- a front of what is known to be two lists
front-is : {A : Type 0} (l p q : List A) (n k : ℕ) → length p ≡ n → n ≤ k → take k l ≡ p ++ q → take n l ≡ p
front-is l p q n k e h f = sym (take-take n k l h) ∙ ap (take n) f ∙ take_at p q n e

module _ (s : Setting) (m : Model) (r : ModelRow) (store : Store) (h : Held s (with_row m r) store) where
  more-hashes : length (row_hashes (with_row m r)) ≡ length (row_hashes m) + length (hashes_in r)
  more-hashes = ap length (hashes-more m r) ∙ length-append (row_hashes m) (hashes_in r)

  kept-vectors : map (vector_at s.dimension store.floats) (count_from 0 (length m.rows)) ≡ row_vectors m
  kept-vectors =
      let n = length m.rows in
      let at = vector_at s.dimension store.floats in
      let all : map at (count_from 0 n) ++ (at (0 + n) ∷ []) ≡ row_vectors m ++ (r.vector ∷ []) =
      sym (map-append at (count_from 0 n) ((0 + n) ∷ [])) ∙ ap (map at) (sym (count_from_snoc 0 n))
      ∙ ap (λ (k : ℕ). map at (count_from 0 k)) (sym (length-rows m r)) ∙ h.vectors ∙ vectors-more m r in
      sym (take_at (map at (count_from 0 n)) (at (0 + n) ∷ []) n (length-map (count_from 0 n) at ∙ length-count_from 0 n))
      ∙ ap (take n) all ∙ take_at (row_vectors m) (r.vector ∷ []) n (length-vectors m)

  kept-text : part 0 (row_bytes m) store.text ≡ bytes_of_names (row_names m)
  unfolding row_bytes
  kept-text =
      front-is store.text (bytes_of_names (row_names m)) (bytes_of_names r.names) (length (bytes_of_names (row_names m))) (length (bytes_of_names (row_names (with_row m r)))) refl
      (omega (arith, ap length (text-more m r) ∙ length-append (bytes_of_names (row_names m)) (bytes_of_names r.names)))
      (h.text ∙ text-more m r)

  pub held_less : Held s m store
  unfolding row_entries
  held_less =
      let hashes = more-hashes in
      let rows = length-rows m r in
      record {
        vectors = kept-vectors;
        documents =
            front-is store.numbers (map (λ t. t.document) m.rows) (r.document ∷ []) (length m.rows) (length (with_row m r).rows)
            (length-map m.rows (λ t. t.document)) (omega arith) (h.documents ∙ map-append (λ t. t.document) m.rows (r ∷ []));
        owners =
            front-is (drop s.capacities.vectors store.numbers) (owners_from 0 m.rows) (replicate (length (hashes_in r)) (length m.rows))
            (length (row_hashes m)) (length (row_hashes (with_row m r))) (owners-length m) (omega arith) (h.owners ∙ owners-more m r);
        hashes =
            front-is store.hashes (row_hashes m) (hashes_in r) (length (row_hashes m)) (length (row_hashes (with_row m r))) refl (omega arith)
            (h.hashes ∙ hashes-more m r);
        starts =
            front-is (drop (starts_at (setting_shape s)) store.numbers) (starts_from 0 (row_names m)) (starts_from (row_bytes m) r.names)
            (length (row_hashes m)) (length (row_hashes (with_row m r))) (length-starts 0 (row_names m) ∙ names-length m) (omega arith) (h.starts ∙ starts_more m r);
        lengths =
            front-is (drop (lengths_at (setting_shape s)) store.numbers) (lengths_of_names (row_names m)) (lengths_of_names r.names)
            (length (row_hashes m)) (length (row_hashes (with_row m r))) (length-lengths (row_names m) ∙ names-length m) (omega arith) (h.lengths ∙ lengths-more m r);
        text = kept-text;
        live =
            front-is (drop (live_at (setting_shape s)) store.numbers) (map live_mark m.rows) (live_mark r ∷ []) (length m.rows) (length (with_row m r).rows)
            (length-map m.rows live_mark) (omega arith) (h.live ∙ map-append live_mark m.rows (r ∷ []));
      }

  pub last-entries : last_entries (state_for s (with_row m r)) store ≡ length (hashes_in r)
  unfolding last_entries held_entries
  last-entries =
      let one : length (with_row m r).rows - 1 ≡ length m.rows = (let l = length-rows m r in omega arith) in
      ap₂ count_at_end one (h.owners ∙ owners-more m r)
      ∙ at-end-written (length m.rows) (length (hashes_in r)) (owners_from 0 m.rows)
      (λ y k. let b = owners-below 0 m.rows y k in let t : y < length m.rows = omega arith in t)

  -- the last row's first label starts where the bytes of the rows that stay end
  last-start : 0 < length r.names → entry_start (setting_shape s) store.numbers (length (row_hashes m)) ≡ row_bytes m
  unfolding row_bytes
  last-start some =
      let sh = setting_shape s in
      let at = length (row_hashes m) in
      let all = length (row_hashes (with_row m r)) in
      let names : length (hashes_in r) ≡ length r.names = length-hashes_of_labels r.names in
      sym (get_d_part (starts_at sh) all store.numbers at 0 (omega (arith, some, more-hashes, names)))
      ∙ ap₂ (λ (l : List ℕ) (k : ℕ). get_or l k 0) (h.starts ∙ ap (starts_from 0) (names_more m r)) (sym (names-length m))
      ∙ start-append (row_names m) r.names some

  pub bytes_left_lem : bytes_left (state_for s (with_row m r)) store ≡ row_bytes m
  unfolding bytes_left
  bytes_left_lem =
      let sh = setting_shape s in
      let all = length (row_hashes (with_row m r)) in
      let names : length (hashes_in r) ≡ length r.names = length-hashes_of_labels r.names in
      let back : length (row_hashes (with_row m r)) - length r.names ≡ length (row_hashes m) = omega (arith, more-hashes, names) in
      ap (λ (n : ℕ). lowered n (entry_start sh store.numbers (all - n)) (row_bytes (with_row m r))) (last-entries ∙ names)
      ∙ ap₂ (λ (e b : ℕ). lowered (length r.names) (entry_start sh store.numbers e) b) back (bytes-more m r)
      ∙ lower_first r.names (row_bytes m) (entry_start sh store.numbers (length (row_hashes m))) last-start

-- ---- the state and the counts of the rows that stay

within_less : (s : Setting) (m : Model) (r : ModelRow) → m.built ≡ false → Within s (with_row m r) → Within s m
within_less s m r b w =
    record {
      vectors = omega (arith, length-rows m r, w.vectors);
      entries = omega (arith, ap length (hashes-more m r) ∙ length-append (row_hashes m) (hashes_in r), w.entries);
      bytes = omega (arith, bytes-more m r, w.bytes);
      rows = λ t. absurd (false≢true (sym b ∙ t));
      nodes = λ t. absurd (false≢true (sym b ∙ t));
    }

state_less : (s : Setting) (m : Model) (r : ModelRow) (taken bytes : ℕ) → m.built ≡ false → taken ≡ length (hashes_in r) → bytes ≡ row_bytes m
    → with_counts (state_for s (with_row m r)) (counts_less (state_for s (with_row m r)).counts taken bytes) m.built ≡ state_for s m
state_less s m r taken bytes b t left =
    let v : length (with_row m r).rows - 1 ≡ length m.rows = (let l = length-rows m r in omega arith) in
    let e : length (row_hashes (with_row m r)) - taken ≡ length (row_hashes m) =
    (let l = ap length (hashes-more m r) ∙ length-append (row_hashes m) (hashes_in r) in omega arith) in
    let n : nodes_held m.built s (with_row m r) ≡ nodes_held m.built s m = no_nodes m.built s (with_row m r) m b in
    λ i. record {
      dimension = s.dimension;
      params = s.params;
      capacities = s.capacities;
      counts = record { vectors = v i; entries = e i; nodes = n i; bytes = left i };
      built = m.built;
    }

-- ---- the step

module _ (s : Setting) (allowed : Allowed s) (m : Model) (front rest : Store) (answer : Result CuratorIndex Refusal) (inv : Invariant s m (state_for s m) (join_stores front rest)) where
  fine_ends : CanTakeBack (state_for s m) (lengths_of front) → TakesBackBy (Ok tt) (state_for s m) front answer
      → Invariant s (without m) (next_index (state_for s m) answer) (join_stores front rest)
  unfolding TakesBackBy next_index
  fine_ends can by =
      let m' = without m in
      let r = last_row m in
      let is : m ≡ with_row m' r = last_row_lem m can.some in
      let h : Held s (with_row m' r) front = subst (λ (x : Model). Held s x front) is (held-front s m front rest inv.within can.long inv.held) in
      let state : shrunk (state_for s m) front ≡ state_for s m' =
      ap (λ (x : Model). shrunk (state_for s x) front) is
      ∙ state_less s m' r (last_entries (state_for s (with_row m' r)) front) (bytes_left (state_for s (with_row m' r)) front) can.unbuilt
      (last-entries s m' r front h)
      (bytes_left_lem s m' r front h) in
      record {
        state = ap (next_index (state_for s m)) (carried-is (shrunk (state_for s m) front) answer by) ∙ state;
        within = within_less s m' r can.unbuilt (subst (Within s) is inv.within);
        held = held_less s m' r (join_stores front rest) (subst (λ (x : Model). Held s x (join_stores front rest)) is inv.held);
        laid = λ b. absurd (false≢true (sym can.unbuilt ∙ b));
      }

  ends : (check : Result ⊤ Refusal) → take_back_check (state_for s m) front ≡ check → TakesBackBy check (state_for s m) front answer
      → (changed_number answer ≡ check_number check) × Invariant s (changed_by check take_back m) (next_index (state_for s m) answer) (join_stores front rest)
  unfolding TakesBackBy changed_by carried_out next_index
  ends (Err r) e by = (
    by.number_is,
    nothing_written s m (state_for s m) (next_index (state_for s m) answer) (join_stores front rest) (join_stores front rest) inv
        (ap (next_index (state_for s m)) (refused_is r answer by))
        refl,
  )
  ends (Ok _) e by = (by.number_is, fine_ends (can_take_back (state_for s m) front e) by)

  take_back_keeps : (work : ℕ) (front' : Store) → TakesBack (state_for s m) front answer × (front' ≡ front)
      → ChangeEnds s m (lengths_of front) work take_back answer (next_index (state_for s m) answer) (join_stores front' rest)
  unfolding TakesBack
  take_back_keeps work front' (takes, same) =
      let check = take_back_refused s m allowed inv.within front work in
      let r = ends (change_check s m (lengths_of front) work take_back) check
      (subst (λ (c : Result ⊤ Refusal). TakesBackBy c (state_for s m) front answer) check takes) in
      record {
        number_is = r.0;
        invariant =
            subst (λ (f : Store). Invariant s (changed_by (change_check s m (lengths_of front) work take_back) take_back m) (next_index (state_for s m) answer) (join_stores f rest))
            (sym same) r.1;
      }

-- ---- the rest that is owed

take_back_others : (s : Setting) (m : Model) (lent : Lengths) (work : ℕ) → Others (change_rows s m lent work take_back)
unfolding change_rows take_back_rows model_facts
take_back_others s m lent work = (inr (omega arith), (inr (omega arith), (inr (omega arith), tt)))

take_back_budget : (s : Setting) (ef : ℕ) (m : Model) (lent : Lengths) (work : ℕ)
    → change_rows (with_budget ef s) m lent work take_back ≡ change_rows s m lent work take_back
unfolding change_rows model_facts node_count
take_back_budget s ef m lent work = refl

take_back_small : (m : Model) → Small m → Small (carried_out take_back m)
unfolding carried_out
take_back_small m h =
    λ r k. h r (subst (Memᴰ r) (take-append-drop (length m.rows - 1) m.rows) (Memᴰ.append_left (drop (length m.rows - 1) m.rows) k))

-- refused or not, there is an outcome
take_back_by : (index : CuratorIndex) (store : Store) (c : Result ⊤ Refusal) → (answer : Result CuratorIndex Refusal) × TakesBackBy c index store answer
unfolding TakesBackBy
take_back_by index store (Err r) = (Err r, is_refused r (Err r) refl)
take_back_by index store (Ok _) = (Ok (shrunk index store), is_carried _ _ refl)

take_back_outcome : (index : CuratorIndex) (store : Store) (work : List ℕ) → ChangeOutcome index store work take_back
unfolding TakesBack
take_back_outcome index store work =
    let r = take_back_by index store (take_back_check index store) in record { answer = r.0; store' = store; work' = work; changes = (r.1, refl) }

pub take_back_laws : ChangeLaws take_back
take_back_laws =
    record {
      keeps = λ s a m work work' front rest front' answer inv takes. take_back_keeps s a m front rest answer inv (length work) front' takes;
      others = take_back_others;
      budget = take_back_budget;
      small = λ m typed h. take_back_small m h;
      lengths = λ index store work answer store' work' takes. ap lengths_of (sym takes.1);
      outcome = take_back_outcome;
    }
