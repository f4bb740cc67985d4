-- A leaf's list for two labels in three steps: the owners of its entries are held and their marks cleared, those of the other label's entries are marked, and
-- of the label's owners the marked ones are taken. The tests together are that of the whole list, and what is taken is what the list gives. Assumes nothing.
use Rattle.std.specs.Prelude.{⊤, Result}
use Prim.Native.Nat.{ℕ, ◌≤◌, ◌<◌}
use native.Mathlib.Omega.{arith}
use mathlib.Core.Path.{◌≡◌, refl, sym, ap, ap₂, ◌∙◌, subst}
use mathlib.Core.Logic.{inl}
use mathlib.Core.Bool.{Bool, true, false, not, cond, ◌&&◌}
use mathlib.Core.List.Memᴰ
use mathlib.Core.List.{List, [], ◌∷◌, map, Memᴰ}
use lib.ListN.{length, get_or, drop}
use lib.Dec.{ltb, eqb}
use borrow.Author.Tests.{ltb-true}
use Rattle.lists.specs.Lists.{keep, is_in}
use Rattle.lists.specs.Maps.{Memᴰ-map}
use Rattle.lists.specs.Counting.{keep-nil, keep-pass, keep_fail, keep_congr, keep-map, get_d_Memᴰ, Memᴰ-keep, Memᴰ-is_in}
use Rattle.lists.specs.Tests.{and_left, and_right, and_false, all_pass, all_pass-Memᴰ, all_pass_and}
use Rattle.store.specs.declared.Shape.{Shape}
use Rattle.store.specs.declared.Counts.{Counts}
use Rattle.store.specs.Store.{owners_at}
use Rattle.walk.specs.Wanted.{EntryRead, with_both, number_held, text_held, passes, is_labels, owners_of, given}
use Rattle.walk.specs.StoreView.{entries_in, end_in}
use Rattle.walk.specs.declared.Damaged.{Damaged}
use Rattle.leaf_hits.specs.Gathering.{kept-twice}
use Rattle.leaf_hits.specs.Promises.{Gathers, GatherDamage, new_vectors, AddedHits}
use Rattle.wanted_hits.specs.Promises.{written, Writes, ClearsOwners, TakesMarked}
use Rattle.wanted_hits.proofs.Written.{length-written, drop-written, get_d_written}

-- ---- the owners of a label's entries, one entry at a time

module _ (read : EntryRead) (hash : ℕ) (name : List ℕ) where
  pub owners-none : owners_of read hash name [] ≡ []
  unfolding owners_of
  owners-none = ap (map read.owner) (keep-nil (is_labels read hash name))

  pub owners-own : (x : ℕ) (xs : List ℕ) → is_labels read hash name x ≡ true → owners_of read hash name (x ∷ xs) ≡ read.owner x ∷ owners_of read hash name xs
  unfolding owners_of
  owners-own x xs is = ap (map read.owner) (keep-pass (is_labels read hash name) x xs is)

  pub owners_other : (x : ℕ) (xs : List ℕ) → is_labels read hash name x ≡ false → owners_of read hash name (x ∷ xs) ≡ owners_of read hash name xs
  unfolding owners_of
  owners_other x xs not_is = ap (map read.owner) (keep_fail (is_labels read hash name) x xs not_is)

  -- they are owners of entries of the list
  pub owners-listed : (l : List ℕ) (v : ℕ) → Memᴰ v (owners_of read hash name l) → (x : ℕ) × Memᴰ x l × (v ≡ read.owner x)
  unfolding owners_of
  owners-listed l v m =
      let (x, k, e) = Memᴰ-map read.owner m in
      (x, (Memᴰ-keep (is_labels read hash name) x l k).1, e)

  -- those of them that pass a test
  pub owners-kept : (marked : ℕ → Bool) (l : List ℕ)
      → new_vectors (λ x. is_labels read hash name x && marked (read.owner x)) read.owner l ≡ keep marked (owners_of read hash name l)
  unfolding owners_of
  owners-kept marked l =
      let labels = is_labels read hash name in
      ap (map read.owner) (kept-twice labels (λ x. marked (read.owner x)) l) ∙ sym (keep-map marked read.owner (keep labels l))

-- an entry whose number passes is held, and so is its owner
module _ (c : Counts) (read : EntryRead) (x : ℕ) (t : number_held c read x ≡ true) where
  pub number-held : x < c.entries
  unfolding number_held
  number-held = ltb-true x c.entries (and_left (ltb x c.entries) (ltb (read.owner x) c.vectors) t)

  pub owner-held : read.owner x < c.vectors
  unfolding number_held
  owner-held = ltb-true (read.owner x) c.vectors (and_right (ltb x c.entries) (ltb (read.owner x) c.vectors) t)

pub listed-held : (c : Counts) (read : EntryRead) (l : List ℕ) (j x : ℕ) → all_pass (number_held c read) l ≡ true → j < length l → get_or l j 0 ≡ x
    → number_held c read x ≡ true
listed-held c read l j x held h e =
    subst (λ (n : ℕ). number_held c read n ≡ true) e (all_pass-Memᴰ (number_held c read) l held (get_or l j 0) (get_d_Memᴰ l j 0 h))

-- ---- the three steps

module _ (s : Shape) (c : Counts) (numbers hashes text : List ℕ) (hash : ℕ) (name : List ℕ) (others : ℕ) (other : List ℕ) (l : List ℕ) where
  abbrev read : EntryRead
  read = entries_in s numbers hashes text

  abbrev end : ℕ → ℕ
  end = end_in s numbers

  -- the three tests are that of the whole list
  abbrev all_held : Bool
  all_held = all_pass (number_held c read) l

  abbrev all_texts : Bool
  all_texts = all_pass (text_held c read end hash) l

  abbrev all_others : Bool
  all_others = all_pass (text_held c read end others) l

  tests : all_pass (passes (with_both hash name others other) c read end) l ≡ (all_held && (all_texts && all_others))
  unfolding passes
  tests =
      all_pass_and (number_held c read) (λ x. text_held c read end hash x && text_held c read end others x) l
      ∙ ap (λ (b : Bool). all_held && b) (all_pass_and (text_held c read end hash) (text_held c read end others) l)

  -- what is cleared, in these words
  pub held-cleared : (hits : List ℕ) (r : Result ⊤ Damaged) (hits' : List ℕ) → ClearsOwners c numbers (owners_at s) l hits r hits'
      → Writes all_held 0 (map read.owner l) hits r hits'
  unfolding number_held
  held-cleared hits r hits' w = w

  -- an owner that is not held, or text of the other label
  pub held_fails : (before : ℕ) → all_held ≡ false
      → GatherDamage (all_pass (passes (with_both hash name others other) c read end) l) (given (with_both hash name others other) read l) c.entries before
  held_fails before f = inl (tests ∙ ap (λ (b : Bool). b && (all_texts && all_others)) f)

  pub others_fail : (before : ℕ) → all_others ≡ false
      → GatherDamage (all_pass (passes (with_both hash name others other) c read end) l) (given (with_both hash name others other) read l) c.entries before
  others_fail before f =
      inl (tests ∙ ap (λ (b : Bool). all_held && (all_texts && b)) f ∙ ap (λ (b : Bool). all_held && b) (and_false all_texts) ∙ and_false all_held)

  -- both passed
  module _ (held : all_held ≡ true) (hits : List ℕ) (room : c.vectors ≤ length hits) where
    abbrev owners : List ℕ
    owners = map read.owner l

    abbrev theirs : List ℕ
    theirs = owners_of read others other l

    abbrev cleared : List ℕ
    cleared = written 0 owners hits

    abbrev marked : List ℕ
    marked = written 1 theirs cleared

    entry-owner : (x : ℕ) → Memᴰ x l → read.owner x < c.vectors
    entry-owner x m = owner-held c read x (all_pass-Memᴰ (number_held c read) l held x m)

    owners-below : (v : ℕ) → Memᴰ v owners → v < c.vectors
    owners-below v m = let (x, k, e) = Memᴰ-map read.owner m in subst (λ (n : ℕ). n < c.vectors) (sym e) (entry-owner x k)

    theirs-below : (v : ℕ) → Memᴰ v theirs → v < c.vectors
    theirs-below v m = let (x, k, e) = owners-listed read others other l v m in subst (λ (n : ℕ). n < c.vectors) (sym e) (entry-owner x k)

    -- the marks stand in front of the vectors found, which stay
    pub cleared-behind : (from : ℕ) → c.vectors ≤ from → drop from cleared ≡ drop from hits
    cleared-behind from h = drop-written 0 from owners hits (λ v m. let z = owners-below v m in omega (arith, z, h))

    pub marked-behind : (from : ℕ) → c.vectors ≤ from → drop from marked ≡ drop from hits
    marked-behind from h = drop-written 1 from theirs cleared (λ v m. let z = theirs-below v m in omega (arith, z, h)) ∙ cleared-behind from h

    -- an owner of the list is marked if it has an entry of the other label
    is_set : (b : Bool) → not (eqb (cond b 1 0) 0) ≡ b
    is_set true = refl
    is_set false = refl

    owner_clear : (v : ℕ) → Memᴰ v owners → get_or cleared v 0 ≡ 0
    owner_clear v m =
        get_d_written 0 owners hits v (λ y k. let z = owners-below y k in omega (arith, z, room))
        ∙ ap (λ (b : Bool). cond b 0 (get_or hits v 0)) (Memᴰ-is_in m)

    owner-marked : (v : ℕ) → Memᴰ v owners → not (eqb (get_or marked v 0) 0) ≡ is_in v theirs
    owner-marked v m =
        ap (λ (n : ℕ). not (eqb n 0))
        (get_d_written 1 theirs cleared v (λ y k. let z = theirs-below y k in let n = length-written 0 owners hits in omega (arith, z, n, room))
        ∙ ap (λ (n : ℕ). cond (is_in v theirs) 1 n) (owner_clear v m))
        ∙ is_set (is_in v theirs)

    own-listed : (v : ℕ) → Memᴰ v (owners_of read hash name l) → Memᴰ v owners
    own-listed v m =
        let (x, k, e) = owners-listed read hash name l v m in subst (λ (n : ℕ). Memᴰ n owners) (sym e) (Memᴰ.map read.owner k)

    gives : keep (λ v. not (eqb (get_or marked v 0) 0)) (owners_of read hash name l) ≡ given (with_both hash name others other) read l
    unfolding given
    gives = keep_congr (λ v. not (eqb (get_or marked v 0) 0)) (λ v. is_in v theirs) (owners_of read hash name l) (λ v m. owner-marked v (own-listed v m))

    -- what is taken is what the list gives
    pub both-taken : (from before : ℕ) (r : Result ℕ Damaged) (hits' : List ℕ) → c.vectors ≤ from → all_others ≡ true
        → TakesMarked s c numbers hashes text hash name l from before marked r hits'
        → AddedHits s c numbers hashes text (with_both hash name others other) l before (drop from hits) r (drop from hits')
    both-taken from before r hits' h pass taken =
        let whole : all_texts ≡ all_pass (passes (with_both hash name others other) c read end) l =
        sym (tests ∙ ap₂ (λ (a b : Bool). a && (all_texts && b)) held pass ∙ and_true all_texts)
        in
        subst (λ (b : Bool). Gathers b (given (with_both hash name others other) read l) c.entries before (drop from hits) r (drop from hits')) whole
        (subst (λ (new : List ℕ). Gathers all_texts new c.entries before (drop from hits) r (drop from hits')) gives
        (subst (λ (found : List ℕ). Gathers all_texts (keep (λ v. not (eqb (get_or marked v 0) 0)) (owners_of read hash name l)) c.entries before found r (drop from hits'))
        (marked-behind from h) taken))
      where
        and_true : (b : Bool) → (b && true) ≡ b
        and_true true = refl
        and_true false = refl
