-- '`beam_width` 0 to 65,535 (kept, read by no build or search)': settings that differ in it alone, within its limit, give the same answers and
-- the same lists; the states differ in it alone.
use Rattle.std.specs.Prelude.{ℕ, ◌≤◌, Bool, true, false, not, ◌&&◌, ◌≡◌, refl, List, [], ◌∷◌, Float, length}
use Rattle.std.proofs.Common.{sym, ap, ◌∙◌, subst, le-leb}
use Rattle.store.specs.Store.{Store}
use Rattle.tree.specs.Layout.{numbers_of, hashes_of, floats_of}
use Rattle.tree.specs.Nodes.{Node}
use Rattle.walk.specs.StoreView.{live_in, store_view}
use Rattle.walk.specs.Walk.{View, State, damaged, going, walk}
use Rattle.settings.specs.declared.Capacities.{Capacities}
use Rattle.std.specs.Prelude.{Result, Ok, Err, ⊤}
use Rattle.settings.specs.declared.refusal.Refusal.{Refusal}
use Rattle.curator.specs.declared.CuratorIndex.{CuratorIndex}
use Rattle.settings.specs.declared.CuratorParams.{CuratorParams}
use Rattle.settings.specs.declared.refusal.Refusal.TheVariants.{Settings}
use Rattle.settings.specs.declared.refusal.SettingsRefusal.TheVariants.{InvalidDimension, InvalidConfig}
use Rattle.curator.proofs.AddLaws.{adds_by}
use Rattle.curator.specs.Calls.{facts_of, built_with, grown}
use Rattle.store.specs.Lent.{lengths_of}
use Rattle.curator.specs.Changes.{new_answer, created, add_check, AddsBy, Adds}
use Rattle.curator.specs.Arguments.{AddCall, SearchCall, asking_of}
use Rattle.curator.specs.Changes.{owners_damaged, too_many_nodes, build_check, held_nodes, BuildsFine, BuildsBy, Builds}
use Rattle.curator.specs.Limits.{state_sound, index_shape}
use Rattle.settings.specs.Limits.{dimension_allowed, params_allowed, capacities_allowed, counts_allowed, built_allowed}
use Rattle.curator.specs.Rows.{Row, row, first_of, state_row, new_rows, add_rows, build_rows, search_rows}
use Rattle.curator.specs.Searches.{SearchEnd, wanted_of, search_check, WalkedTo, SearchesBy, Searches}
use Rattle.curator.specs.OutcomeLaws.{is_carried, carried-is, is_refused, refused_is}

-- the same with another beam width
abbrev pub params_with_beam : ℕ → CuratorParams → CuratorParams
params_with_beam beam p =
    record {
      branching_factor = p.branching_factor;
      max_leaf_size = p.max_leaf_size;
      ef_search = p.ef_search;
      beam_width = beam;
    }

abbrev pub with_beam : ℕ → CuratorIndex → CuratorIndex
with_beam beam index =
    record {
      dimension = index.dimension;
      params = params_with_beam beam index.params;
      capacities = index.capacities;
      counts = index.counts;
      built = index.built;
    }

abbrev pub answer_with_beam : ℕ → Result CuratorIndex Refusal → Result CuratorIndex Refusal
answer_with_beam beam (Ok index) = Ok (with_beam beam index)
answer_with_beam beam (Err r) = Err r

pub params_beam : (beam : ℕ) (p : CuratorParams) → beam ≤ 65535 → p.beam_width ≤ 65535 → params_allowed (params_with_beam beam p) ≡ params_allowed p
unfolding params_allowed
params_beam beam p h g = rw (le-leb beam 65535 h, le-leb p.beam_width 65535 g)

-- ---- new

pub created_beam : (beam : ℕ) (dimension : ℕ) (params : CuratorParams) (capacities : Capacities) → beam ≤ 65535 → params.beam_width ≤ 65535
    → created dimension (params_with_beam beam params) capacities ≡ answer_with_beam beam (created dimension params capacities)
unfolding created new_answer new_rows
created_beam beam dimension params capacities h g =
    ap (λ (b : Bool). new_answer (first_of (rows b)) dimension (params_with_beam beam params) capacities) (params_beam beam params h g)
    ∙ by (first_of (new_rows dimension params capacities))
  where
    rows : Bool → List Row
    rows allowed =
        row (not (dimension_allowed dimension)) (Settings InvalidDimension)
        ∷ row (not (allowed && capacities_allowed capacities)) (Settings InvalidConfig)
        ∷ []

    by : (check : Result ⊤ Refusal)
        → new_answer check dimension (params_with_beam beam params) capacities ≡ answer_with_beam beam (new_answer check dimension params capacities)
    by (Ok _) = refl
    by (Err r) = refl

-- ---- add

pub sound_beam : (beam : ℕ) (index : CuratorIndex) → beam ≤ 65535 → index.params.beam_width ≤ 65535
    → state_sound (with_beam beam index) ≡ state_sound index
unfolding state_sound
sound_beam beam index h g =
    ap
    (λ (b : Bool).
    dimension_allowed index.dimension
    && (b
    && (capacities_allowed index.capacities
    && (counts_allowed index.capacities index.counts && (built_allowed index.built index.counts && true)))))
    (params_beam beam index.params h g)

pub add-check_beam : (beam : ℕ) (index : CuratorIndex) (store : Store) (call : AddCall) → beam ≤ 65535 → index.params.beam_width ≤ 65535
    → add_check (with_beam beam index) store call ≡ add_check index store call
unfolding add_check
add-check_beam beam index store call h g =
    ap (λ (b : Bool). first_of (state_row b ∷ add_rows (facts_of index) (lengths_of store) call))
    (sound_beam beam index h g)

pub adds_beam : (beam : ℕ) (index : CuratorIndex) (store : Store) (call : AddCall) (answer : Result CuratorIndex Refusal) (store' : Store) → beam ≤ 65535
    → index.params.beam_width ≤ 65535 → Adds index store call answer store'
    → Adds (with_beam beam index) store call (answer_with_beam beam answer) store'
unfolding Adds AddsBy
adds_beam beam index store call answer store' h g adds =
    adds_by (with_beam beam index) store call (answer_with_beam beam answer) store' (add_check index store call)
    (add-check_beam beam index store call h g)
    (by (add_check index store call) adds)
  where
    by : (check : Result ⊤ Refusal) → AddsBy check index store call answer store'
        → AddsBy check (with_beam beam index) store call (answer_with_beam beam answer) store'
    by (Ok _) (e, w) = (
      is_carried _ _ (ap (answer_with_beam beam) (carried-is (grown index call.names) answer e)),
      record { stored = w.stored; normalized = w.normalized; floats = w.floats; numbers = w.numbers; hashes = w.hashes; text = w.text },
    )
    by (Err r) (e, same) = (is_refused r _ (ap (answer_with_beam beam) (refused_is r answer e)), same)

-- ---- build

pub nodes_beam : (beam : ℕ) (index : CuratorIndex) (store : Store) → held_nodes (with_beam beam index) store ≡ held_nodes index store
unfolding held_nodes
nodes_beam beam index store = refl

pub build-check_beam : (beam : ℕ) (index : CuratorIndex) (store : Store) (work : List ℕ) → beam ≤ 65535 → index.params.beam_width ≤ 65535
    → build_check (with_beam beam index) store work ≡ build_check index store work
unfolding build_check
build-check_beam beam index store work h g =
    ap
    (λ (b : Bool).
    first_of (state_row b ∷ build_rows (facts_of index) (lengths_of store) (length work) (owners_damaged index store) (too_many_nodes index store)))
    (sound_beam beam index h g)

pub builds_beam : (beam : ℕ) (index : CuratorIndex) (store : Store) (work : List ℕ) (answer : Result CuratorIndex Refusal) (store' : Store) (work' : List ℕ)
    → beam ≤ 65535 → index.params.beam_width ≤ 65535 → Builds index store work answer store' work'
    → Builds (with_beam beam index) store work (answer_with_beam beam answer) store' work'
unfolding Builds BuildsBy BuildsFine
builds_beam beam index store work answer store' work' h g builds =
    subst (λ (k : Result ⊤ Refusal). BuildsBy k (with_beam beam index) store work (answer_with_beam beam answer) store' work')
    (sym (build-check_beam beam index store work h g))
    (by (build_check index store work) builds)
  where
    nodes : held_nodes (with_beam beam index) store ≡ held_nodes index store
    nodes = nodes_beam beam index store

    fine : (built : Bool) → BuildsFine built index store work answer store' work'
        → BuildsFine built (with_beam beam index) store work (answer_with_beam beam answer) store' work'
    fine true (e, same, lent) = (is_carried _ _ (ap (answer_with_beam beam) (carried-is index answer e)), same, lent)
    fine false (e, w) = (
      is_carried _ _
          (ap (answer_with_beam beam) (carried-is (built_with index (length (held_nodes index store))) answer e)
          ∙ ap (λ (n : List Node). Ok (built_with (with_beam beam index) (length n))) (sym nodes)),
      record {
        centres = w.centres;
        centres_length = w.centres_length;
        floats = w.floats ∙ ap (λ (n : List Node). floats_of (index_shape index) n w.centres store.floats) (sym nodes);
        numbers = w.numbers ∙ ap (λ (n : List Node). numbers_of (index_shape index) n store.numbers) (sym nodes);
        hashes = w.hashes ∙ ap (λ (n : List Node). hashes_of (index_shape index) n store.hashes) (sym nodes);
        text = w.text;
        work = w.work;
      },
    )

    by : (check : Result ⊤ Refusal) → BuildsBy check index store work answer store' work'
        → BuildsBy check (with_beam beam index) store work (answer_with_beam beam answer) store' work'
    by (Ok _) w = fine index.built w
    by (Err r) (e, l) =
        (is_refused r _ (ap (answer_with_beam beam) (refused_is r answer e)), record { floats = l.floats; numbers = l.numbers; hashes = l.hashes; text = l.text; work = l.work })

-- ---- search

pub search-check_beam : (beam : ℕ) (index : CuratorIndex) (store : Store) (work : List ℕ) (call : SearchCall) → beam ≤ 65535
    → index.params.beam_width ≤ 65535 → search_check (with_beam beam index) store work call ≡ search_check index store work call
unfolding search_check
search-check_beam beam index store work call h g =
    ap
    (λ (b : Bool).
    first_of
    (state_row b
    ∷ search_rows (facts_of index) (lengths_of store) (length work) (asking_of call)))
    (sound_beam beam index h g)

pub searches_beam : (beam : ℕ) (index : CuratorIndex) (store : Store) (work : List ℕ) (call : SearchCall) (end : SearchEnd) → beam ≤ 65535
    → index.params.beam_width ≤ 65535 → Searches index store work call end → Searches (with_beam beam index) store work call end
unfolding Searches SearchesBy WalkedTo
searches_beam beam index store work call end h g searches =
    subst (λ (k : Result ⊤ Refusal). SearchesBy k (with_beam beam index) store work call end) (sym (search-check_beam beam index store work call h g))
    (by (search_check index store work call) searches)
  where
    view : List Float → View
    view query = store_view (index_shape index) index.counts store query (wanted_of call.question.asked)

    walked : (state : State) (test : ℕ → Bool) → WalkedTo state test index work call end → WalkedTo state test (with_beam beam index) work call end
    walked damaged test w = record { answer = w.answer; work = w.work; ids = w.ids; distances = w.distances }
    walked (going p) test w = record { answer = w.answer; work = w.work; ids = w.ids; distances = w.distances }

    by : (check : Result ⊤ Refusal) → SearchesBy check index store work call end → SearchesBy check (with_beam beam index) store work call end
    by (Ok _) w =
        record {
          query = w.query;
          normalized = w.normalized;
          walked = walked (walk (view w.query) index.params.ef_search) (live_in (index_shape index) index.counts store) w.walked;
        }
    by (Err r) u = u
