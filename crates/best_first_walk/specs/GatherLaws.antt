-- What an opened leaf gives, by what was gathered of its list: how many hits there can be, the vectors of a list, and what they add. Assumes nothing.
use Rattle.std.specs.Prelude.{ℕ, ◌+◌, ◌≤◌, ◌≡◌, refl, ◌⊎◌, Bool, true, false, cond, List, map, ltb, Float, length}
use Rattle.std.proofs.Common.{arith, sym, ap, ◌∙◌, inl, inr, lt-ltb}
use Rattle.std.proofs.lemmas.Bool.{false≢true}
use Rattle.std.proofs.lemmas.List.{length-map}
use Rattle.lists.specs.Tests.{which, all_pass, all_pass_lem}
use Rattle.store.specs.declared.Shape.{Shape}
use Rattle.store.specs.declared.Counts.{Counts}
use Rattle.store.specs.Store.{Store}
use Rattle.walk.specs.Wanted.{Sought, EntryRead, passes, given, most}
use Rattle.walk.proofs.WantedLaws.{given-held}
use Rattle.walk.specs.StoreView.{store_view}
use Rattle.walk.specs.Walk.{View, Progress, damaged, going, give, hits, damage}
use Rattle.walk.proofs.WalkLaws.{added_hits, give-damage, give-hits, give_over}
use Rattle.leaf_hits.specs.Promises.{Gathered, GatherDamage}

-- how many hits a store's view allows
pub most-is : (s : Shape) (c : Counts) (store : Store) (query : List Float) (wanted : Sought) → (store_view s c store query wanted).most ≡ most wanted c
unfolding store_view
most-is s c store query wanted = refl

-- the vectors that a list gives are held, if all its numbers pass
pub vectors-held : (wanted : Sought) (c : Counts) (entries : EntryRead) (end : ℕ → ℕ) (l : List ℕ) → all_pass (passes wanted c entries end) l ≡ true
    → all_pass (λ x. ltb x c.vectors) (given wanted entries l) ≡ true
vectors-held wanted c entries end l t =
    all_pass_lem (λ x. ltb x c.vectors) (given wanted entries l) (λ v m. lt-ltb v c.vectors (given-held wanted c entries end l t v m))

module _ (view : View) (hit : ℕ → ℕ) (p : Progress) (sound : Bool) (vectors : List ℕ) (found : ℕ) (count : found ≡ length p.found) where
  -- a list that is not sound, or has one hit too many
  pub gather_damages : GatherDamage sound vectors view.most found → give view (cond sound (hits (map hit vectors)) damage) p ≡ damaged
  gather_damages g = go (which sound) g
    where
      new : List ℕ
      new = map hit vectors

      go : (sound ≡ true) ⊎ (sound ≡ false) → GatherDamage sound vectors view.most found → give view (cond sound (hits new) damage) p ≡ damaged
      go (inl t) (inl f) = absurd (false≢true (sym f ∙ t))
      go (inl t) (inr h) =
          ap (λ (b : Bool). give view (cond b (hits new) damage) p) t ∙ give_over view new p (omega (arith, h, count, length-map vectors hit))
      go (inr f) g = ap (λ (b : Bool). give view (cond b (hits new) damage) p) f ∙ give-damage view p

  module _ (old : List ℕ) (total : ℕ) (ys : List ℕ) (g : Gathered sound vectors view.most found old total ys) where
    pub gather_room : length (map hit vectors) + length p.found ≤ view.most
    gather_room = omega (arith, count, g.count, g.few, length-map vectors hit)

    -- its vectors were added
    pub gather_adds : give view (cond sound (hits (map hit vectors)) damage) p ≡ going (added_hits (map hit vectors) p)
    gather_adds = ap (λ (b : Bool). give view (cond b (hits (map hit vectors)) damage) p) g.pass ∙ give-hits view (map hit vectors) p gather_room
