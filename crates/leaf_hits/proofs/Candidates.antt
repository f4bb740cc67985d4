-- A leaf's list in two steps: the entries of the hash are gathered, and of these the owners of those with the name are kept. Both tests together are
-- that of the whole list, and what is left after both steps is what the list gives. Assumes nothing.
use Rattle.std.specs.Prelude.{Result, Ok, Err}
use Prim.Native.Nat.{ℕ, ◌+◌, ◌-◌, ◌≤◌, ◌<◌}
use native.Mathlib.Omega.{arith}
use mathlib.Core.Path.{◌≡◌, sym, ap, ap₂, ◌∙◌, subst}
use mathlib.Core.Logic.{◌⊎◌, inl, inr}
use mathlib.Core.Bool.{Bool, true, false, not, ◌&&◌, ◌||◌}
use mathlib.Core.List.{List, [], ◌∷◌, ◌++◌, map, map-id}
use lib.ListN.{length, get_or, take, drop}
use lib.Dec.{leb, ltb, eqb}
use lib.Seq.{take_at, drop_at, take-take, length-take-le}
use Rattle.lists.specs.Lists.{part, keep, same_list}
use Rattle.lists.specs.Parts.{drop-take}
use Rattle.lists.specs.Counting.{keep-nil, keep-pass, keep_fail, length-keep_le, Memᴰ-keep}
use Rattle.lists.specs.Tests.{which, and_left, and_false, all_pass, all_pass-nil, all_pass-cons, all_pass_lem, all_pass-Memᴰ, all_pass_and}
use Rattle.store.specs.declared.Shape.{Shape}
use Rattle.store.specs.declared.Counts.{Counts}
use Rattle.store.specs.Store.{owners_at, entry_name}
use Rattle.walk.specs.Wanted.{with_label, number_held, text_held, passes, is_labels}
use Rattle.walk.specs.StoreView.{entries_in, end_in}
use Rattle.walk.specs.declared.Damaged.{Damaged}
use Rattle.leaf_hits.specs.Promises.{Gathered, GatheredBy, GatherDamageBy, KeepsNamed, AddedEntries}
use Rattle.leaf_hits.specs.Gathering.{kept-twice}

-- ---- two tests, one after the other

module _ (test hashed ends : ℕ → Bool) where
  -- the ends of those that have the hash
  ends-cons : (x : ℕ) (xs : List ℕ) → all_pass ends (keep hashed (x ∷ xs)) ≡ ((not (hashed x) || ends x) && all_pass ends (keep hashed xs))
  ends-cons x xs = go (which (hashed x))
    where
      go : (hashed x ≡ true) ⊎ (hashed x ≡ false) → all_pass ends (keep hashed (x ∷ xs)) ≡ ((not (hashed x) || ends x) && all_pass ends (keep hashed xs))
      go (inl t) =
          ap (all_pass ends) (keep-pass hashed x xs t) ∙ all_pass-cons ends x (keep hashed xs)
          ∙ sym (ap (λ (b : Bool). (not b || ends x) && all_pass ends (keep hashed xs)) t)
      go (inr f) = ap (all_pass ends) (keep_fail hashed x xs f) ∙ sym (ap (λ (b : Bool). (not b || ends x) && all_pass ends (keep hashed xs)) f)

  ends-kept : (l : List ℕ) → all_pass (λ x. not (hashed x) || ends x) l ≡ all_pass ends (keep hashed l)
  ends-kept [] = all_pass-nil (λ x. not (hashed x) || ends x) ∙ sym (ap (all_pass ends) (keep-nil hashed) ∙ all_pass-nil ends)
  ends-kept (x ∷ xs) =
      all_pass-cons (λ x. not (hashed x) || ends x) x xs ∙ ap (λ (t : Bool). (not (hashed x) || ends x) && t) (ends-kept xs) ∙ sym (ends-cons x xs)

  pub passes-twice : (l : List ℕ) → all_pass (λ x. test x && (not (hashed x) || ends x)) l ≡ (all_pass test l && all_pass ends (keep hashed l))
  passes-twice l = all_pass_and test (λ x. not (hashed x) || ends x) l ∙ ap (λ (b : Bool). all_pass test l && b) (ends-kept l)

-- ---- where the entries of the hash stand

-- behind the numbers before, which are as they were
module _ (sound : Bool) (l : List ℕ) (most before end : ℕ) (found found₁ : List ℕ) (inside : before ≤ length found)
    (g : Gathered sound l most before found end found₁) where
  pub stands-behind : part before (end - before) found₁ ≡ l
  stands-behind = sym (drop-take before end found₁) ∙ ap (drop before) g.vectors ∙ drop_at (take before found) l before (length-take-le before found inside)

  pub stands-before : take before found₁ ≡ take before found
  stands-before =
      sym (take-take before end found₁ (omega (arith, g.count))) ∙ ap (take before) g.vectors
      ∙ take_at (take before found) l before (length-take-le before found inside)

-- ---- a chunk of a leaf's list

module _ (s : Shape) (c : Counts) (numbers hashes text : List ℕ) (hash : ℕ) (name : List ℕ) where
  abbrev owner : ℕ → ℕ
  owner x = get_or numbers (owners_at s + x) 0

  abbrev test : ℕ → Bool
  test x = ltb x c.entries && ltb (owner x) c.vectors

  abbrev hashed : ℕ → Bool
  hashed x = eqb (get_or hashes x 0) hash

  abbrev ends : ℕ → Bool
  ends x = leb (end_in s numbers x) c.bytes

  abbrev named : ℕ → Bool
  named x = same_list (entry_name s numbers text x) name

  abbrev whole : ℕ → Bool
  whole = passes (with_label hash name) c (entries_in s numbers hashes text) (end_in s numbers)

  abbrev labels : ℕ → Bool
  labels = is_labels (entries_in s numbers hashes text) hash name

  all_whole : (l : List ℕ) → all_pass whole l ≡ (all_pass test l && all_pass ends (keep hashed l))
  unfolding passes number_held text_held
  all_whole l = passes-twice test hashed ends l

  all-labels : (l : List ℕ) → keep labels l ≡ keep named (keep hashed l)
  unfolding is_labels
  all-labels l = kept-twice hashed named l

  module _ (l : List ℕ) (before : ℕ) (found : List ℕ) where
    -- an entry that is not held
    pub chunk_damaged : before + length l ≤ c.entries + 1 → GatherDamageBy test hashed (λ x. x) (c.entries + 1) l before
        → GatherDamageBy whole labels owner c.entries l before
    chunk_damaged few (inl f) = inl (all_whole l ∙ ap (λ (b : Bool). b && all_pass ends (keep hashed l)) f)
    chunk_damaged few (inr over) = absurd (omega (arith, few, over, ap length (map-id (keep hashed l)), length-keep_le hashed l))

    -- the entries of the hash are held
    module _ (end : ℕ) (found₁ : List ℕ) (inside : before ≤ length found) (g : GatheredBy test hashed (λ x. x) (c.entries + 1) l before found end found₁) where
      stands : part before (end - before) found₁ ≡ keep hashed l
      stands = stands-behind (all_pass test l) (map (λ x. x) (keep hashed l)) (c.entries + 1) before end found found₁ inside g ∙ map-id (keep hashed l)

      pub chunk_held : all_pass (λ x. ltb x c.entries) (part before (end - before) found₁) ≡ true
      chunk_held =
          ap (all_pass (λ x. ltb x c.entries)) stands
          ∙ all_pass_lem (λ x. ltb x c.entries) (keep hashed l)
          (λ x m. and_left (ltb x c.entries) (ltb (owner x) c.vectors) (all_pass-Memᴰ test l g.pass x (Memᴰ-keep hashed x l m).1))

      -- and what is kept of them is what the list gives
      owners-kept : (found₂ : List ℕ) (r : Result ℕ Damaged) → KeepsNamed s c numbers text name (keep hashed l) before found₁ r found₂
          → AddedEntries s c numbers hashes text hash name l before found r found₂
      owners-kept found₂ (Err _) (inl f) = inl (all_whole l ∙ ap (λ (b : Bool). all_pass test l && b) f ∙ and_false (all_pass test l))
      owners-kept found₂ (Err _) (inr over) = inr (subst (λ (k : List ℕ). c.entries < length (map owner k) + before) (sym (all-labels l)) over)
      owners-kept found₂ (Ok total) k =
          let new : map owner (keep labels l) ≡ map owner (keep named (keep hashed l)) = ap (map owner) (all-labels l) in
          record {
            pass = all_whole l ∙ ap₂ ◌&&◌ g.pass k.pass;
            count = k.count ∙ ap (λ (n : List ℕ). length n + before) (sym new);
            few = k.few;
            vectors = k.vectors
                ∙ ap₂ ◌++◌ (stands-before (all_pass test l) (map (λ x. x) (keep hashed l)) (c.entries + 1) before end found found₁ inside g) (sym new);
          }

      pub chunk_kept : (found₂ : List ℕ) (r : Result ℕ Damaged) → KeepsNamed s c numbers text name (part before (end - before) found₁) before found₁ r found₂
          → AddedEntries s c numbers hashes text hash name l before found r found₂
      chunk_kept found₂ r k = owners-kept found₂ r (subst (λ (m : List ℕ). KeepsNamed s c numbers text name m before found₁ r found₂) stands k)
