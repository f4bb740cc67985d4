-- What each case of what is wanted owes: what a leaf's list gives depends on what is read of its numbers alone, and what it gives is held.
-- Of two labels it owes what it owes of each. Assumes nothing.
use Rattle.std.specs.Prelude.{ℕ, ◌≤◌, ◌<◌, ◌≡◌, ◌⊎◌, true, false, ◌&&◌, ◌||◌, ltb}
use Rattle.std.proofs.Math.Path.{refl, sym, ap, ap₂, subst}
use Rattle.std.proofs.Common.{◌∙◌, inl, inr}
use Rattle.std.proofs.Math.Bool.{Bool, not}
use mathlib.Core.List.{List, [], map, Memᴰ}
use Rattle.std.proofs.Math.Dec.{leb, eqb}
use borrow.Author.Tests.{leb-true, ltb-true, eqb-true, eq-eqb, le-leb, lt-ltb}
use Rattle.lists.specs.Maps.{map_on, Memᴰ-map}
use Rattle.lists.specs.Lists.{keep, is_in, same_list}
use Rattle.lists.specs.Same.{same-equal}
use Rattle.lists.specs.Tests.{which, and_left, and_right, and_both, all_pass, all_pass-Memᴰ, all_pass_congr, all_pass_and}
use Rattle.lists.specs.Counting.{keep-nil, keep_congr, Memᴰ-keep}
use Rattle.store.specs.declared.Counts.{Counts}
use Rattle.walk.specs.declared.Wanted.{Wanted}
use Rattle.walk.specs.declared.Wanted.TheVariants.{Everything, Both}
use Rattle.walk.specs.declared.Wanted.TheVariants as wanted
use Rattle.walk.specs.Wanted.{Sought, sought, name_of, about, all_vectors, with_label, with_both, EntryRead, number_held, text_held, passes, is_labels, owners_of, given}

-- what is wanted, by the hashes and the names that it has
abbrev pub first_name : Wanted → List ℕ
first_name Everything = []
first_name (wanted.Label l) = name_of l
first_name (Both l m) = name_of l

abbrev pub other_name : Wanted → List ℕ
other_name Everything = []
other_name (wanted.Label l) = []
other_name (Both l m) = name_of m

pub about-sought : (w : Wanted) → about w ≡ sought w (first_name w) (other_name w)
about-sought Everything = refl
about-sought (wanted.Label l) = refl
about-sought (Both l m) = refl

-- an empty list gives nothing
pub given-nil : (wanted : Sought) (read : EntryRead) → given wanted read [] ≡ []
unfolding given owners_of
given-nil all_vectors read = refl
given-nil (with_label hash name) read = ap (map read.owner) (keep-nil (is_labels read hash name))
given-nil (with_both hash name others other) read =
    let theirs = owners_of read others other [] in
    ap (λ (l : List ℕ). keep (λ v. is_in v theirs) (map read.owner l)) (keep-nil (is_labels read hash name)) ∙ keep-nil (λ v. is_in v theirs)

-- ---- two labels: what one owes, of each

share : (a b c : Bool) → (a && (b && c)) ≡ ((a && b) && (a && c))
share true b c = refl
share false b c = refl

both-passes : (hash : ℕ) (name : List ℕ) (others : ℕ) (other : List ℕ) (c : Counts) (read : EntryRead) (end : ℕ → ℕ) (x : ℕ)
    → passes (with_both hash name others other) c read end x ≡ (passes (with_label hash name) c read end x && passes (with_label others other) c read end x)
unfolding passes
both-passes hash name others other c read end x = share (number_held c read x) (text_held c read end hash x) (text_held c read end others x)

-- a list passes for two labels where it does for each
pub all_both : (hash : ℕ) (name : List ℕ) (others : ℕ) (other : List ℕ) (c : Counts) (read : EntryRead) (end : ℕ → ℕ) (l : List ℕ)
    → all_pass (passes (with_both hash name others other) c read end) l
    ≡ (all_pass (passes (with_label hash name) c read end) l && all_pass (passes (with_label others other) c read end) l)
all_both hash name others other c read end l =
    let one = passes (with_label hash name) c read end in
    let two = passes (with_label others other) c read end in
    all_pass_congr (passes (with_both hash name others other) c read end) (λ x. one x && two x) l (λ x m. both-passes hash name others other c read end x)
    ∙ all_pass_and one two l

pub each_passes : (hash : ℕ) (name : List ℕ) (others : ℕ) (other : List ℕ) (c : Counts) (read : EntryRead) (end : ℕ → ℕ) (l : List ℕ)
    → all_pass (passes (with_both hash name others other) c read end) l ≡ true
    → (all_pass (passes (with_label hash name) c read end) l ≡ true) × (all_pass (passes (with_label others other) c read end) l ≡ true)
each_passes hash name others other c read end l t =
    and_both (all_pass (passes (with_label hash name) c read end) l) (all_pass (passes (with_label others other) c read end) l)
    (sym (all_both hash name others other c read end l) ∙ t)

-- ---- a vector, an entry that passes

-- a vector's number is held
vector-held : (c : Counts) (read : EntryRead) (end : ℕ → ℕ) (x : ℕ) → passes all_vectors c read end x ≡ true → x < c.vectors
unfolding passes
vector-held c read end x t = ltb-true x c.vectors t

vectors-alike : (c : Counts) (a b : EntryRead) (end end' : ℕ → ℕ) (l : List ℕ)
    → all_pass (passes all_vectors c a end) l ≡ all_pass (passes all_vectors c b end') l
unfolding passes
vectors-alike c a b end end' l = refl

-- its number and its owner are held, and if it has the hash, so are its bytes
pub record EntryHeld (c : Counts) (read : EntryRead) (end : ℕ → ℕ) (hash x : ℕ) : Type 0 where
  pub entry : x < c.entries
  pub owner : read.owner x < c.vectors
  pub bytes : read.hash x ≡ hash → end x ≤ c.bytes

-- where a hash has to be another one or a test to hold
unless_equal : (h hash : ℕ) (b : Bool) → (not (eqb h hash) || b) ≡ true → h ≡ hash → b ≡ true
unless_equal h hash b t e = subst (λ (z : Bool). (not z || b) ≡ true) (eq-eqb h hash e) t

pub passes-held : (hash : ℕ) (name : List ℕ) (c : Counts) (read : EntryRead) (end : ℕ → ℕ) (x : ℕ) → passes (with_label hash name) c read end x ≡ true
    → EntryHeld c read end hash x
unfolding passes number_held text_held
passes-held hash name c read end x t =
    let ends = not (eqb (read.hash x) hash) || leb (end x) c.bytes in
    let low = ltb x c.entries in
    let owned = ltb (read.owner x) c.vectors in
    let held = and_left (low && owned) ends t in
    record {
      entry = ltb-true x c.entries (and_left low owned held);
      owner = ltb-true (read.owner x) c.vectors (and_right low owned held);
      bytes = λ e. leb-true (end x) c.bytes (unless_equal (read.hash x) hash (leb (end x) c.bytes) (and_right (low && owned) ends t) e);
    }

-- and the other way round
pub held-passes-entry : (hash : ℕ) (name : List ℕ) (c : Counts) (read : EntryRead) (end : ℕ → ℕ) (x : ℕ) → EntryHeld c read end hash x
    → passes (with_label hash name) c read end x ≡ true
unfolding passes number_held text_held
held-passes-entry hash name c read end x h =
    ap₂ ◌&&◌ (ap₂ ◌&&◌ (lt-ltb x c.entries h.entry) (lt-ltb (read.owner x) c.vectors h.owner)) (go (which (eqb (read.hash x) hash)))
  where
    go : (eqb (read.hash x) hash ≡ true) ⊎ (eqb (read.hash x) hash ≡ false) → (not (eqb (read.hash x) hash) || leb (end x) c.bytes) ≡ true
    go (inl e) =
        ap₂ (λ (a b : Bool). not a || b) e (le-leb (end x) c.bytes (h.bytes (eqb-true (read.hash x) hash e)))
    go (inr e) = ap (λ (a : Bool). not a || leb (end x) c.bytes) e

-- an entry that is a label's has its hash and its bytes
pub labels-hash : (read : EntryRead) (hash : ℕ) (name : List ℕ) (x : ℕ) → is_labels read hash name x ≡ true → read.hash x ≡ hash
unfolding is_labels
labels-hash read hash name x t = eqb-true (read.hash x) hash (and_left (eqb (read.hash x) hash) (same_list (read.name x) name) t)

pub labels-name : (read : EntryRead) (hash : ℕ) (name : List ℕ) (x : ℕ) → is_labels read hash name x ≡ true → read.name x ≡ name
unfolding is_labels
labels-name read hash name x t =
    same-equal (read.name x) name (and_right (eqb (read.hash x) hash) (same_list (read.name x) name) t)

-- what is given is held
owners_held : (hash : ℕ) (name : List ℕ) (c : Counts) (read : EntryRead) (end : ℕ → ℕ) (l : List ℕ) → all_pass (passes (with_label hash name) c read end) l ≡ true
    → (v : ℕ) → Memᴰ v (owners_of read hash name l) → v < c.vectors
unfolding owners_of
owners_held hash name c read end l t v m =
    let (x, k, e) = Memᴰ-map read.owner m in
    let passed = all_pass-Memᴰ (passes (with_label hash name) c read end) l t x (Memᴰ-keep (is_labels read hash name) x l k).1 in
    subst (λ (n : ℕ). n < c.vectors) (sym e) (passes-held hash name c read end x passed).owner

pub given-held : (wanted : Sought) (c : Counts) (read : EntryRead) (end : ℕ → ℕ) (l : List ℕ) → all_pass (passes wanted c read end) l ≡ true
    → (v : ℕ) → Memᴰ v (given wanted read l) → v < c.vectors
unfolding given
given-held all_vectors c read end l t v m = vector-held c read end v (all_pass-Memᴰ (passes all_vectors c read end) l t v m)
given-held (with_label hash name) c read end l t v m = owners_held hash name c read end l t v m
given-held (with_both hash name others other) c read end l t v m =
    owners_held hash name c read end l (each_passes hash name others other c read end l t).0 v
    (Memᴰ-keep (λ w. is_in w (owners_of read others other l)) v (owners_of read hash name l) m).1

-- ---- two ways to read the entries

-- one way to read entries, and where it has their bytes end
pub record Reading : Type 0 where
  pub entries : EntryRead
  pub end : ℕ → ℕ

-- of an entry: its owner; if that is held, its hash; if that is the hash wanted, where its bytes end; if they are held, the bytes; if those are the
-- label's, something of the owner
pub record SameEntry (c : Counts) (a b : Reading) (Same : ℕ → Type 0) (hash : ℕ) (name : List ℕ) (entry : ℕ) : Type 0 where
  pub owner : a.entries.owner entry ≡ b.entries.owner entry
  pub own_hash : a.entries.owner entry < c.vectors → a.entries.hash entry ≡ b.entries.hash entry
  pub end : a.entries.owner entry < c.vectors → a.entries.hash entry ≡ hash → a.end entry ≡ b.end entry
  pub own_name : a.entries.owner entry < c.vectors → a.entries.hash entry ≡ hash → a.end entry ≤ c.bytes
      → a.entries.name entry ≡ b.entries.name entry
  pub vector : a.entries.owner entry < c.vectors → a.entries.hash entry ≡ hash → a.end entry ≤ c.bytes → a.entries.name entry ≡ name
      → Same (a.entries.owner entry)

-- of a number of the list that is read, if it is held: itself as a vector, or as an entry; for two labels as an entry of each, and nothing of the second's owner
abbrev pub SameNumber : Sought → Counts → Reading → Reading → (ℕ → Type 0) → ℕ → Type 0
SameNumber all_vectors c a b Same x = x < c.vectors → Same x
SameNumber (with_label hash name) c a b Same x = x < c.entries → SameEntry c a b Same hash name x
SameNumber (with_both hash name others other) c a b Same x =
    (x < c.entries → SameEntry c a b Same hash name x) × (x < c.entries → SameEntry c a b (λ v. Unit {0}) others other x)

-- one label
module _ (c : Counts) (a b : Reading) (Same : ℕ → Type 0) where
  -- an entry is the same where all that is held is
  entry-same : (hash : ℕ) (name : List ℕ) → ((e : ℕ) → e < c.entries → a.entries.owner e ≡ b.entries.owner e)
      → ((e : ℕ) → e < c.entries → a.entries.hash e ≡ b.entries.hash e) → ((e : ℕ) → e < c.entries → a.end e ≡ b.end e)
      → ((e : ℕ) → e < c.entries → a.end e ≤ c.bytes → a.entries.name e ≡ b.entries.name e) → ((v : ℕ) → v < c.vectors → Same v)
      → (x : ℕ) → x < c.entries → SameEntry c a b Same hash name x
  entry-same hash name owners hashes ends names vectors x h =
      record {
        owner = owners x h;
        own_hash = λ o. hashes x h;
        end = λ o w. ends x h;
        own_name = λ o w n. names x h n;
        vector = λ o w n m. vectors (a.entries.owner x) o;
      }

  -- an entry passes alike
  same-passes : (hash : ℕ) (name : List ℕ) (x : ℕ) → (x < c.entries → SameEntry c a b Same hash name x)
      → passes (with_label hash name) c a.entries a.end x ≡ passes (with_label hash name) c b.entries b.end x
  unfolding passes number_held text_held
  same-passes hash name x same = low (which (ltb x c.entries))
    where
      rest : Reading → Bool
      rest r = not (eqb (r.entries.hash x) hash) || leb (r.end x) c.bytes

      hashed : SameEntry c a b Same hash name x → a.entries.owner x < c.vectors → (eqb (a.entries.hash x) hash ≡ true) ⊎ (eqb (a.entries.hash x) hash ≡ false)
          → rest a ≡ rest b
      hashed s o (inl e) =
          ap₂ (λ (h n : ℕ). not (eqb h hash) || leb n c.bytes) (s.own_hash o) (s.end o (eqb-true (a.entries.hash x) hash e))
      hashed s o (inr e) =
          ap (λ (t : Bool). not t || leb (a.end x) c.bytes) e
          ∙ sym (ap (λ (t : Bool). not t || leb (b.end x) c.bytes) (ap (λ (h : ℕ). eqb h hash) (sym (s.own_hash o)) ∙ e))

      owned : SameEntry c a b Same hash name x → (ltb (a.entries.owner x) c.vectors ≡ true) ⊎ (ltb (a.entries.owner x) c.vectors ≡ false)
          → ((true && ltb (a.entries.owner x) c.vectors) && rest a) ≡ ((true && ltb (b.entries.owner x) c.vectors) && rest b)
      owned s (inl e) =
          ap₂ ◌&&◌ (ap (λ (o : ℕ). ltb o c.vectors) s.owner)
          (hashed s (ltb-true (a.entries.owner x) c.vectors e) (which (eqb (a.entries.hash x) hash)))
      owned s (inr e) =
          ap (λ (t : Bool). t && rest a) e
          ∙ sym (ap (λ (t : Bool). t && rest b) (ap (λ (o : ℕ). ltb o c.vectors) (sym s.owner) ∙ e))

      low : (ltb x c.entries ≡ true) ⊎ (ltb x c.entries ≡ false)
          → ((ltb x c.entries && ltb (a.entries.owner x) c.vectors) && rest a)
          ≡ ((ltb x c.entries && ltb (b.entries.owner x) c.vectors) && rest b)
      low (inl e) =
          ap (λ (t : Bool). (t && ltb (a.entries.owner x) c.vectors) && rest a) e
          ∙ owned (same (ltb-true x c.entries e)) (which (ltb (a.entries.owner x) c.vectors))
          ∙ sym (ap (λ (t : Bool). (t && ltb (b.entries.owner x) c.vectors) && rest b) e)
      low (inr e) = rw e

  -- the tests of a list are alike
  all_same : (hash : ℕ) (name : List ℕ) (l : List ℕ) → ((x : ℕ) → Memᴰ x l → x < c.entries → SameEntry c a b Same hash name x)
      → all_pass (passes (with_label hash name) c a.entries a.end) l ≡ all_pass (passes (with_label hash name) c b.entries b.end) l
  all_same hash name l same =
      all_pass_congr (passes (with_label hash name) c a.entries a.end) (passes (with_label hash name) c b.entries b.end) l
      (λ x m. same-passes hash name x (same x m))

  -- an entry that passes is the label's alike
  same-labels : (hash : ℕ) (name : List ℕ) (x : ℕ) → EntryHeld c a.entries a.end hash x → SameEntry c a b Same hash name x
      → is_labels a.entries hash name x ≡ is_labels b.entries hash name x
  unfolding is_labels
  same-labels hash name x held same = go (which (eqb (a.entries.hash x) hash))
    where
      go : (eqb (a.entries.hash x) hash ≡ true) ⊎ (eqb (a.entries.hash x) hash ≡ false)
          → (eqb (a.entries.hash x) hash && same_list (a.entries.name x) name) ≡ (eqb (b.entries.hash x) hash && same_list (b.entries.name x) name)
      go (inl e) =
          let is = eqb-true (a.entries.hash x) hash e in
          ap₂ (λ (h : ℕ) (n : List ℕ). eqb h hash && same_list n name) (same.own_hash held.owner) (same.own_name held.owner is (held.bytes is))
      go (inr e) =
          ap (λ (t : Bool). t && same_list (a.entries.name x) name) e
          ∙ sym (ap (λ (t : Bool). t && same_list (b.entries.name x) name) (ap (λ (h : ℕ). eqb h hash) (sym (same.own_hash held.owner)) ∙ e))

  -- and where all pass, the label's entries have the same owners
  owners-same : (hash : ℕ) (name : List ℕ) (l : List ℕ) → ((x : ℕ) → Memᴰ x l → x < c.entries → SameEntry c a b Same hash name x)
      → all_pass (passes (with_label hash name) c a.entries a.end) l ≡ true → owners_of a.entries hash name l ≡ owners_of b.entries hash name l
  unfolding owners_of
  owners-same hash name l same t =
      let has = is_labels a.entries hash name in
      let held : (x : ℕ) → Memᴰ x l → EntryHeld c a.entries a.end hash x =
      λ x m. passes-held hash name c a.entries a.end x (all_pass-Memᴰ (passes (with_label hash name) c a.entries a.end) l t x m) in
      map_on a.entries.owner b.entries.owner (keep has l) (λ x m. let k = Memᴰ-keep has x l m in (same x k.1 (held x k.1).entry).owner)
      ∙ ap (map b.entries.owner) (keep_congr has (is_labels b.entries hash name) l (λ x m. same-labels hash name x (held x m) (same x m (held x m).entry)))

  -- and of each of these the same is read
  owners-read : (hash : ℕ) (name : List ℕ) (l : List ℕ) → ((x : ℕ) → Memᴰ x l → x < c.entries → SameEntry c a b Same hash name x)
      → all_pass (passes (with_label hash name) c a.entries a.end) l ≡ true → (v : ℕ) → Memᴰ v (owners_of a.entries hash name l) → Same v
  unfolding owners_of
  owners-read hash name l same t v m =
      let (x, k, e) = Memᴰ-map a.entries.owner m in
      let (is, listed) = Memᴰ-keep (is_labels a.entries hash name) x l k in
      let held = passes-held hash name c a.entries a.end x (all_pass-Memᴰ (passes (with_label hash name) c a.entries a.end) l t x listed) in
      let hashed = labels-hash a.entries hash name x is in
      subst Same (sym e) ((same x listed held.entry).vector held.owner hashed (held.bytes hashed) (labels-name a.entries hash name x is))

-- whatever is wanted
module _ (c : Counts) (a b : Reading) (Same : ℕ → Type 0) where
  -- a number is the same where all that is held is
  pub numbers-same : (wanted : Sought) → ((e : ℕ) → e < c.entries → a.entries.owner e ≡ b.entries.owner e)
      → ((e : ℕ) → e < c.entries → a.entries.hash e ≡ b.entries.hash e) → ((e : ℕ) → e < c.entries → a.end e ≡ b.end e)
      → ((e : ℕ) → e < c.entries → a.end e ≤ c.bytes → a.entries.name e ≡ b.entries.name e) → ((v : ℕ) → v < c.vectors → Same v)
      → (x : ℕ) → SameNumber wanted c a b Same x
  numbers-same all_vectors owners hashes ends names vectors x = λ h. vectors x h
  numbers-same (with_label hash name) owners hashes ends names vectors x = entry-same c a b Same hash name owners hashes ends names vectors x
  numbers-same (with_both hash name others other) owners hashes ends names vectors x = (
    entry-same c a b Same hash name owners hashes ends names vectors x,
    entry-same c a b (λ v. Unit {0}) others other owners hashes ends names (λ v h. tt) x,
  )

  -- the tests are alike
  pub passes_same : (wanted : Sought) (l : List ℕ) → ((x : ℕ) → Memᴰ x l → SameNumber wanted c a b Same x)
      → all_pass (passes wanted c a.entries a.end) l ≡ all_pass (passes wanted c b.entries b.end) l
  passes_same all_vectors l same = vectors-alike c a.entries b.entries a.end b.end l
  passes_same (with_label hash name) l same = all_same c a b Same hash name l same
  passes_same (with_both hash name others other) l same =
      all_both hash name others other c a.entries a.end l
      ∙ ap₂ ◌&&◌ (all_same c a b Same hash name l (λ x m. (same x m).0)) (all_same c a b (λ v. Unit {0}) others other l (λ x m. (same x m).1))
      ∙ sym (all_both hash name others other c b.entries b.end l)

  -- and where all pass, the same is given
  pub given-same : (wanted : Sought) (l : List ℕ) → ((x : ℕ) → Memᴰ x l → SameNumber wanted c a b Same x)
      → all_pass (passes wanted c a.entries a.end) l ≡ true → given wanted a.entries l ≡ given wanted b.entries l
  unfolding given
  given-same all_vectors l same t = refl
  given-same (with_label hash name) l same t = owners-same c a b Same hash name l same t
  given-same (with_both hash name others other) l same t =
      let (one, two) = each_passes hash name others other c a.entries a.end l t in
      ap₂ (λ (theirs mine : List ℕ). keep (λ v. is_in v theirs) mine)
      (owners-same c a b (λ v. Unit {0}) others other l (λ x m. (same x m).1) two)
      (owners-same c a b Same hash name l (λ x m. (same x m).0) one)

  -- of each that is given the same is read
  pub given-read : (wanted : Sought) (l : List ℕ) → ((x : ℕ) → Memᴰ x l → SameNumber wanted c a b Same x)
      → all_pass (passes wanted c a.entries a.end) l ≡ true → (v : ℕ) → Memᴰ v (given wanted a.entries l) → Same v
  unfolding given
  given-read all_vectors l same t v m =
      same v m (vector-held c a.entries a.end v (all_pass-Memᴰ (passes all_vectors c a.entries a.end) l t v m))
  given-read (with_label hash name) l same t v m = owners-read c a b Same hash name l same t v m
  given-read (with_both hash name others other) l same t v m =
      owners-read c a b Same hash name l (λ x k. (same x k).0) (each_passes hash name others other c a.entries a.end l t).0 v
      (Memᴰ-keep (λ w. is_in w (owners_of a.entries others other l)) v (owners_of a.entries hash name l) m).1
