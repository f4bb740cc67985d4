-- Laws of an add: what an accepted call may rely on.
use Rattle.std.specs.Prelude.{ℕ, true, false, ◌≡◌, refl}
use Rattle.std.proofs.Common.{sym, ◌∙◌, subst, arith, ltb-false, eqb-true}
use Rattle.std.proofs.lemmas.Bool.{not-false, eqb-false}
use Rattle.vector.specs.Vector.{all_finite}
use Rattle.store.specs.Store.{Store}
use Rattle.store.specs.LentLaws.{store_long}
use Rattle.std.specs.Prelude.{Result, Ok, Err, ⊤}
use Rattle.settings.specs.declared.refusal.Refusal.{Refusal}
use Rattle.curator.specs.declared.CuratorIndex.{CuratorIndex}
use Rattle.curator.specs.Limits.{index_shape}
use Rattle.curator.specs.Rows.{add_rows}
use Rattle.store.specs.Lent.{lengths_of}
use Rattle.curator.specs.Calls.{grown}
use Rattle.curator.specs.Changes.{add_check, Wrote, AddsBy, Adds}
use Rattle.curator.specs.Arguments.{AddCall}
use Rattle.curator.specs.Lent.{AddRoom}
use Rattle.curator.proofs.RowLaws.{NoneHolds, fine_none, rows_of_add, add-check-rows}
use Rattle.curator.proofs.StateLaws.{Sound, sound_facts}
use Rattle.curator.specs.OutcomeLaws.{carried-is, refused_is}

-- What an accepted add was asked of, as plain facts.
pub record Accepted (index : CuratorIndex) (store : Store) (call : AddCall) : Type 0 where
  pub sound : Sound index
  pub unbuilt : index.built ≡ false
  pub finite : all_finite call.vector ≡ true
  pub room : AddRoom index store call

accepted_of : (index : CuratorIndex) (store : Store) (call : AddCall) → NoneHolds (rows_of_add index store call) → Accepted index store call
unfolding add_rows
accepted_of index store call (sound, (short, (built, (dimension, (finite, (labels, (full, (entries, (text, _))))))))) =
    let s = sound_facts index (not-false _ sound) in
    let below = eqb-false index.counts.vectors index.capacities.vectors full in
    record {
      sound = s;
      unbuilt = built;
      finite = not-false _ finite;
      room =
          record {
            limits = s.limits;
            long = store_long (index_shape index) (lengths_of store) short;
            dimension = eqb-true _ _ (not-false _ dimension);
            labels = not-false _ labels;
            vectors = omega arith;
            entries = ltb-false _ _ entries;
            text = ltb-false _ _ text;
          };
    }

pub add_facts : (index : CuratorIndex) (store : Store) (call : AddCall) → add_check index store call ≡ (Ok tt) → Accepted index store call
add_facts index store call fine = accepted_of index store call (fine_none _ (sym (add-check-rows index store call) ∙ fine))

-- ---- the relation by what the check comes to

pub adds_by : (index : CuratorIndex) (store : Store) (call : AddCall) (answer : Result CuratorIndex Refusal) (store' : Store) (check : Result ⊤ Refusal)
    → add_check index store call ≡ check → AddsBy check index store call answer store' → Adds index store call answer store'
unfolding Adds
adds_by index store call answer store' check e h = subst (λ (k : Result ⊤ Refusal). AddsBy k index store call answer store') (sym e) h

pub adds-accepted : (index : CuratorIndex) (store : Store) (call : AddCall) (index' : CuratorIndex) (store' : Store)
    → Adds index store call (Ok index') store'
    → (add_check index store call ≡ (Ok tt)) × (index' ≡ grown index call.names) × Wrote index store call store'
unfolding Adds AddsBy
adds-accepted index store call index' store' h = by (add_check index store call) refl h
  where
    by : (check : Result ⊤ Refusal) → add_check index store call ≡ check → AddsBy check index store call (Ok index') store'
        → (add_check index store call ≡ (Ok tt)) × (index' ≡ grown index call.names) × Wrote index store call store'
    by (Ok _) e (a, w) = let same = carried-is (grown index call.names) (Ok index') a in (e, (cc), w)
    by (Err r) e (a, w) = let same = refused_is r (Ok index') a in let z : ◌≡◌ {A = ℕ} 0 1 = cc in absurd (omega arith)
