-- What a leaf's list shows, in the words of the contracts: one test before the hits; and what was added of either list, in the words of what is wanted.
-- Assumes nothing.
use Rattle.std.specs.Prelude.{ℕ, ◌≡◌, refl, true, cond, List, map, ltb, Float, Result}
use Rattle.std.proofs.Common.{ap, ◌∙◌, subst, map-id}
use Rattle.lists.specs.Tests.{all_pass}
use Rattle.lists.specs.Counting.{keep_all}
use Rattle.store.specs.declared.Shape.{Shape}
use Rattle.store.specs.declared.Counts.{Counts}
use Rattle.store.specs.Lent.{store_of}
use Rattle.walk.specs.Walk.{hits, damage}
use Rattle.walk.specs.Wanted.{Sought, all_vectors, with_label, passes, given}
use Rattle.walk.specs.StoreView.{hit_at, list_shown, entries_in, end_in}
use Rattle.walk.specs.declared.Damaged.{Damaged}
use Rattle.leaf_hits.specs.Promises.{Gathers, AddedVectors, AddedEntries, AddedHits}

-- what a leaf's list shows: hits of the vectors that it gives, if all its numbers pass
pub list-shown : (s : Shape) (c : Counts) (floats : List Float) (numbers hashes text : List ℕ) (query : List Float) (wanted : Sought) (l : List ℕ)
    → list_shown s c (store_of floats numbers hashes text) query wanted l
    ≡ cond (all_pass (passes wanted c (entries_in s numbers hashes text) (end_in s numbers)) l) (hits (map (hit_at s floats numbers query) (given wanted (entries_in s numbers hashes text) l))) damage
unfolding list_shown
list-shown s c floats numbers hashes text query wanted l = refl

-- what was added of a list of vectors, or of a label's entries, in the words of what is wanted
pub as_everything : (s : Shape) (c : Counts) (numbers hashes text l : List ℕ) (before : ℕ) (found : List ℕ) (r : Result ℕ Damaged) (found' : List ℕ)
    → AddedVectors c l before found r found' → AddedHits s c numbers hashes text all_vectors l before found r found'
unfolding passes given
as_everything s c numbers hashes text l before found r found' a =
    subst (λ (new : List ℕ). Gathers (all_pass (λ x. ltb x c.vectors) l) new c.vectors before found r found')
    (ap (map (λ x. x)) (keep_all (λ x. true) l (λ x m. refl)) ∙ map-id l) a

pub as_label : (s : Shape) (c : Counts) (numbers hashes text : List ℕ) (hash : ℕ) (name l : List ℕ) (before : ℕ) (found : List ℕ) (r : Result ℕ Damaged) (found' : List ℕ)
    → AddedEntries s c numbers hashes text hash name l before found r found' → AddedHits s c numbers hashes text (with_label hash name) l before found r found'
unfolding given
as_label s c numbers hashes text hash name l before found r found' a = a
