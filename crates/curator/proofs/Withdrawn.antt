-- Request K10 of document 02: a withdrawal touches nothing but live marks of vectors held, so that 'nodes opened are counted as before', and 'withdrawing again at
-- once succeeds and alters nothing'. On any state and store.
use Rattle.std.specs.Prelude.{ℕ, ◌+◌, ◌*◌, ◌<◌, ◌≤◌, Bool, List, ◌∷◌, ◌≡◌, refl, Float, take, drop}
use Rattle.std.proofs.Common.{arith, sym, ap, ap₂, ◌∙◌, subst}
use Rattle.std.proofs.lemmas.List.Edits.{sets}
use Rattle.lists.specs.Lists.{part, is_in}
use Rattle.lists.specs.Parts.{take-sets, sets-sets-same}
use Rattle.store.specs.declared.Shape.{Shape}
use Rattle.store.specs.declared.Lengths.{Lengths}
use Rattle.store.specs.Store.{Store, centroids_at, owners_at, order_at, nodes_at, links_at, entry_order_at, starts_at, lengths_at, live_at, filters_at}
use Rattle.store.specs.Agree.{part_same}
use Rattle.walk.specs.Walk.{walk}
use Rattle.walk.specs.Wanted.{Sought}
use Rattle.walk.specs.StoreView.{store_view}
use Rattle.walk.proofs.HeldLaws.{SameShown, same-shown}
use Rattle.std.specs.Prelude.{Result, Ok, Err, ⊤}
use Rattle.settings.specs.declared.refusal.Refusal.{Refusal}
use Rattle.curator.specs.declared.CuratorIndex.{CuratorIndex}
use Rattle.curator.specs.Outcome.{changed_number, Succeeded}
use Rattle.curator.specs.Limits.{state_sound, index_shape}
use Rattle.curator.specs.Rows.{first_of, state_row, withdraw_rows}
use Rattle.curator.specs.Calls.{facts_of, held_documents, held_marks}
use Rattle.curator.specs.Changes.{holds_document, withdraw_check, marks_withdrawn, withdrawn_from, WithdrawsBy, Withdraws}
use Rattle.curator.proofs.RowLaws.{zero_fine}
use Rattle.curator.proofs.StateLaws.{Sound}
use Rattle.curator.proofs.WithdrawLaws.{can_withdraw, withdraws-number, withdrawn-lengths, withdrawn-behind, withdrawn-documents, withdrawn-marks, marks_again}

-- ---- what is touched

-- Withdrawing touches nothing but live marks of vectors held: whatever it answers, every other place of every list is as it was. So are the tree, filters and
-- labels, and what a build left stays built.
pub record OnlyMarks (s : Shape) (vectors : ℕ) (store store' : Store) : Type 0 where
  pub floats : store'.floats ≡ store.floats
  pub before : take (live_at s) store'.numbers ≡ take (live_at s) store.numbers
  pub behind : drop (live_at s + vectors) store'.numbers ≡ drop (live_at s + vectors) store.numbers
  pub hashes : store'.hashes ≡ store.hashes
  pub text : store'.text ≡ store.text

pub withdraws_only : (index : CuratorIndex) (store : Store) (document : ℕ) (answer : Result CuratorIndex Refusal) (store' : Store) → Withdraws index store document answer store'
    → OnlyMarks (index_shape index) index.counts.vectors store store'
unfolding Withdraws WithdrawsBy withdrawn_from
withdraws_only index store document answer store' h = by (withdraw_check index store document) refl h
  where
    by : (check : Result ⊤ Refusal) → withdraw_check index store document ≡ check → WithdrawsBy check index store document answer store'
        → OnlyMarks (index_shape index) index.counts.vectors store store'
    by (Ok _) e (_, is) =
        let can = can_withdraw index store document e in
        let marks = marks_withdrawn document (held_documents index store) (held_marks index store) in
        record {
          floats = ap (λ (x : Store). x.floats) is;
          before = ap (λ (x : Store). take (live_at (index_shape index)) x.numbers) is
              ∙ take-sets (live_at (index_shape index)) store.numbers (live_at (index_shape index)) marks (omega arith);
          behind = ap (λ (x : Store). drop (live_at (index_shape index) + index.counts.vectors) x.numbers) is
              ∙ withdrawn-behind index store can.long can.sound.vectors document;
          hashes = ap (λ (x : Store). x.hashes) is;
          text = ap (λ (x : Store). x.text) is;
        }
    by (Err r) e (_, is) =
        record {
          floats = ap (λ (x : Store). x.floats) is;
          before = ap (λ (x : Store). take (live_at (index_shape index)) x.numbers) is;
          behind = ap (λ (x : Store). drop (live_at (index_shape index) + index.counts.vectors) x.numbers) is;
          hashes = ap (λ (x : Store). x.hashes) is;
          text = ap (λ (x : Store). x.text) is;
        }

-- ---- 'nodes opened are counted as before'

-- where the lists are the same but for marks, so is what their nodes show
only_shown : (index : CuratorIndex) (store store' : Store) → Sound index → OnlyMarks (index_shape index) index.counts.vectors store store'
    → SameShown (index_shape index) index.counts store' store
only_shown index store store' sound only =
    let s = index_shape index in
    let c = index.counts in
    let same : (at count : ℕ) → at + count ≤ live_at (index_shape index) → part at count store'.numbers ≡ part at count store.numbers =
    λ at count h. part_same at count (live_at (index_shape index)) store'.numbers store.numbers h only.before in
    let v = sound.vectors in
    let e = sound.entries in
    let m = sound.nodes in
    record {
      vectors = ap (part 0 (c.vectors * s.dimension)) only.floats;
      centroids = ap (part (centroids_at s) (c.nodes * s.dimension)) only.floats;
      documents = same 0 c.vectors (omega (arith, v));
      owners = same (owners_at s) c.entries (omega (arith, e));
      order = same (order_at s) c.vectors (omega (arith, v));
      nodes = same (nodes_at s) (c.nodes * 6) (omega (arith, m));
      links = same (links_at s) c.nodes (omega (arith, m));
      entry_order = same (entry_order_at s) c.entries (omega (arith, e));
      starts = same (starts_at s) c.entries (omega (arith, e));
      lengths = same (lengths_at s) c.entries (omega (arith, e));
      hashes = ap (part 0 c.entries) only.hashes;
      filters = ap (part (filters_at s) (c.nodes * 4)) only.hashes;
      text = ap (part 0 c.bytes) only.text;
    }

-- whatever a withdrawal answers, every walk over the store is the one before: the same nodes opened, the same hits, damaged or not
pub withdraws-walk : (index : CuratorIndex) (store : Store) (document : ℕ) (answer : Result CuratorIndex Refusal) (store' : Store) → Withdraws index store document answer store'
    → 0 < index.counts.nodes → (query : List Float) (wanted : Sought) (ef : ℕ)
    → walk (store_view (index_shape index) index.counts store' query wanted) ef ≡ walk (store_view (index_shape index) index.counts store query wanted) ef
unfolding Withdraws WithdrawsBy
withdraws-walk index store document answer store' h some query wanted ef = by (withdraw_check index store document) refl h
  where
    by : (check : Result ⊤ Refusal) → withdraw_check index store document ≡ check → WithdrawsBy check index store document answer store'
        → walk (store_view (index_shape index) index.counts store' query wanted) ef ≡ walk (store_view (index_shape index) index.counts store query wanted) ef
    by (Ok _) e w =
        let sound = (can_withdraw index store document e).sound in
        same-shown (index_shape index) index.counts store' store (only_shown index store store' sound (withdraws_only index store document answer store' h)) query wanted some
        (omega (arith, sound.nodes, sound.limits.nodes_high)) ef
    by (Err r) e (_, is) = ap (λ (x : Store). walk (store_view (index_shape index) index.counts x query wanted) ef) is

-- ---- 'withdrawing again at once succeeds and alters nothing'

-- the check of the same id is the same
again_fine : (index : CuratorIndex) (store : Store) (document : ℕ) → withdraw_check index store document ≡ (Ok tt)
    → withdraw_check index (withdrawn_from index store document) document ≡ (Ok tt)
unfolding withdraw_check holds_document
again_fine index store document fine =
    let can = can_withdraw index store document fine in
    ap₂ (λ (l : Lengths) (held : Bool). first_of (state_row (state_sound index) ∷ withdraw_rows (facts_of index) l held)) (sym (withdrawn-lengths index store document))
    (ap (is_in document) (withdrawn-documents index store can.long can.sound.vectors document))
    ∙ fine

again_store : (index : CuratorIndex) (store : Store) (document : ℕ) → withdraw_check index store document ≡ (Ok tt)
    → withdrawn_from index (withdrawn_from index store document) document ≡ withdrawn_from index store document
unfolding withdrawn_from
again_store index store document fine =
    let can = can_withdraw index store document fine in
    let at = live_at (index_shape index) in
    let ds = held_documents index store in
    let ms = held_marks index store in
    let marks = marks_withdrawn document ds ms in
    let store' = withdrawn_from index store document in
    let same : marks_withdrawn document (held_documents index store') (held_marks index store') ≡ marks =
    ap₂ (marks_withdrawn document) (withdrawn-documents index store can.long can.sound.vectors document)
    (withdrawn-marks index store can.long can.sound.vectors document)
    ∙ marks_again document ds ms in
    let numbers : sets (sets store.numbers at marks) at (marks_withdrawn document (held_documents index store') (held_marks index store')) ≡ sets store.numbers at marks =
    ap (sets (sets store.numbers at marks) at) same ∙ sets-sets-same store.numbers at marks marks refl in
    λ i. record { floats = store.floats; numbers = numbers i; hashes = store.hashes; text = store.text }

pub withdraws_again : (index : CuratorIndex) (store : Store) (document : ℕ) (answer answer' : Result CuratorIndex Refusal) (store' store'' : Store)
    → Withdraws index store document answer store' → changed_number answer ≡ 0 → Withdraws index store' document answer' store''
    → Succeeded index answer' × (store'' ≡ store')
unfolding Withdraws WithdrawsBy
withdraws_again index store document answer answer' store' store'' first none second =
    let fine : withdraw_check index store document ≡ (Ok tt) =
    zero_fine (withdraw_check index store document) (sym (withdraws-number index store document answer store' first) ∙ none) in
    let (_, is) = subst (λ (c : Result ⊤ Refusal). WithdrawsBy c index store document answer store') fine first in
    let check : withdraw_check index store' document ≡ (Ok tt) = ap (λ (x : Store). withdraw_check index x document) is ∙ again_fine index store document fine in
    let (succeeded, left) = subst (λ (c : Result ⊤ Refusal). WithdrawsBy c index store' document answer' store'') check second in
    (succeeded, left ∙ ap (λ (x : Store). withdrawn_from index x document) is ∙ again_store index store document fine ∙ sym is)
