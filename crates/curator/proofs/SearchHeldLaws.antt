-- 'Parts past the counts held are never read', of every search: stores that agree on what is held, whatever else stands in them and in the work
-- lists, give the same answer and the same answer lists. The walk over them is the same (crates/walk, HeldLaws).
use Rattle.std.specs.Prelude.{ℕ, ◌^◌, ◌≤◌, ◌<◌, Bool, true, not, ◌||◌, List, [], ◌∷◌, ◌≡◌, eqb, ltb, length}
use Rattle.std.proofs.Math.Path.{refl, sym, ap}
use Rattle.std.proofs.Common.{◌∙◌, subst, arith, ltb-true}
use Rattle.std.proofs.lemmas.Bool.{not-false}
use Rattle.vector.specs.Normalized.{normalized, normalized-is}
use Rattle.vector.specs.Vector.{all_finite}
use Rattle.store.specs.Store.{Store}
use Rattle.walk.proofs.HeldLaws.{SameHeld, same-shown, same_live}
use Rattle.walk.specs.Walk.{State, damaged, going}
use Rattle.walk.specs.StoreView.{live_in}
use Rattle.std.specs.Prelude.{Result, Ok, Err, ⊤}
use Rattle.settings.specs.declared.refusal.Refusal.{Refusal}
use Rattle.curator.specs.declared.CuratorIndex.{CuratorIndex}
use Rattle.settings.specs.declared.refusal.Refusal.TheVariants as Refusal'
use Rattle.settings.specs.declared.refusal.StateRefusal.TheVariants.{NotBuilt}
use Rattle.settings.specs.declared.refusal.InputRefusal.TheVariants.{DimensionMismatch, NonFiniteInput, AnswerTooShort}
use Rattle.settings.specs.declared.refusal.StoreRefusal.TheVariants.{ListTooShort}
use Rattle.store.specs.Lent.{lengths_of, lists_short}
use Rattle.curator.specs.Limits.{state_sound, index_shape}
use Rattle.settings.specs.Limits.{built_allowed}
use Rattle.curator.proofs.RowLaws.{fine_none}
use Rattle.curator.specs.Rows.{row, first_of, state_row, search_rows}
use Rattle.curator.proofs.SearchRowLaws.{walk_for, walk_of, early_search_rows, search-check-rows}
use Rattle.curator.specs.Searches.{SearchEnd, SameEnd, wanted_of, search_check, SearchWalked, WalkedTo, SearchesBy, Searches}
use Rattle.curator.specs.Arguments.{SearchCall}
use Rattle.curator.proofs.StateLaws.{sound_facts}
use Rattle.lists.specs.Tests.{and_both}
use Rattle.curator.specs.OutcomeLaws.{search_refused_is, found-is}

-- ---- the rows

rows_by : CuratorIndex → SearchCall → Bool → Result ⊤ Refusal
rows_by index call short =
    first_of
    (state_row (state_sound index) ∷ row short (Refusal'.Store ListTooShort) ∷ row (not index.built) (Refusal'.State NotBuilt)
    ∷ row (not (eqb (length call.question.query) index.dimension)) (Refusal'.Input DimensionMismatch)
    ∷ row (not (all_finite call.question.query)) (Refusal'.Input NonFiniteInput)
    ∷ row (ltb (length call.ids) call.k || ltb (length call.distances) call.k) (Refusal'.Input AnswerTooShort)
    ∷ [])

check_by : (index : CuratorIndex) (store : Store) (work : List ℕ) (call : SearchCall)
    → search_check index store work call ≡ rows_by index call (lists_short (index_shape index) (lengths_of store) (length work))
unfolding search_check search_rows rows_by
check_by index store work call = refl

-- an accepted search is of an index with a node
some-node : (index : CuratorIndex) (store : Store) (work : List ℕ) (call : SearchCall) → search_check index store work call ≡ (Ok tt)
    → (0 < index.counts.nodes) × (index.counts.nodes ≤ 2 ^ 64)
unfolding search_rows built_allowed
some-node index store work call f =
    let (sound, (_, (built, _))) = fine_none (early_search_rows index store work call) (sym (search-check-rows index store work call) ∙ f) in
    let facts = sound_facts index (not-false _ sound) in
    let allowed = subst (λ (b : Bool). built_allowed b index.counts ≡ true) (not-false index.built built) facts.built in
    let (_, nodes) = and_both (ltb 0 index.counts.vectors) (ltb 0 index.counts.nodes) allowed in
    (ltb-true 0 index.counts.nodes nodes, omega (arith, facts.nodes, facts.limits.nodes_high))

-- ---- the law

module _ (index : CuratorIndex) (call : SearchCall) (work other : List ℕ) (a b : SearchEnd) where
  ended : (state : State) (test : ℕ → Bool) → WalkedTo state test index work call a → WalkedTo state test index other call b → SameEnd a b
  unfolding WalkedTo
  ended damaged test x y = record { answer = search_refused_is _ _ x.answer ∙ sym (search_refused_is _ _ y.answer); ids = x.ids ∙ sym y.ids; distances = x.distances ∙ sym y.distances }
  ended (going p) test x y = record { answer = found-is _ _ _ _ x.answer ∙ sym (found-is _ _ _ _ y.answer); ids = x.ids ∙ sym y.ids; distances = x.distances ∙ sym y.distances }

  -- by the walk for the normalised query
  walked_of : (store : Store) (work : List ℕ) (end : SearchEnd) → SearchWalked index store work call end
      → WalkedTo (walk_of index store call) (live_in (index_shape index) index.counts store) index work call end
  walked_of store work end w =
      subst (λ (q : List _). WalkedTo (walk_for index store call q) (live_in (index_shape index) index.counts store) index work call end) (normalized-is call.question.query w.query w.normalized) w.walked

  pub searches-same : (s t : Store) → lists_short (index_shape index) (lengths_of s) (length work) ≡ lists_short (index_shape index) (lengths_of t) (length other)
      → SameHeld (index_shape index) index.counts s t → Searches index s work call a → Searches index t other call b → SameEnd a b
  unfolding Searches SearchesBy
  searches-same s t short same x y = by (search_check index s work call) refl x (subst (λ (c : Result ⊤ Refusal). SearchesBy c index t other call b) (sym check) y)
    where
      check : search_check index s work call ≡ search_check index t other call
      check = check_by index s work call ∙ ap (rows_by index call) short ∙ sym (check_by index t other call)

      by : (c : Result ⊤ Refusal) → search_check index s work call ≡ c → SearchesBy c index s work call a → SearchesBy c index t other call b → SameEnd a b
      by (Ok _) f w v =
          let (some, fits) = some-node index s work call f in
          let walks = same-shown (index_shape index) index.counts s t same.nodes_show (normalized call.question.query) (wanted_of call.question.asked) some fits index.params.ef_search in
          let test = live_in (index_shape index) index.counts s in
          let live = same_live (index_shape index) index.counts s t same in
          ended (walk_of index s call) test (walked_of s work a w)
          (subst (λ (state : State). WalkedTo state test index other call b) (sym walks)
          (subst (λ (p : ℕ → Bool). WalkedTo (walk_of index t call) p index other call b) (sym live) (walked_of t other b v)))
      by (Err r) f u v =
          record { answer = search_refused_is _ _ u.answer ∙ sym (search_refused_is _ _ v.answer); ids = u.ids ∙ sym v.ids; distances = u.distances ∙ sym v.distances }
