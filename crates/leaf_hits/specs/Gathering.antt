-- Gathering the vectors of a leaf's list: one list after another, and what holds once the first j of its numbers were looked at. Assumes nothing.
use Rattle.std.specs.Prelude.{ℕ, suc, ◌+◌, ◌≤◌, ◌<◌, ◌≡◌, refl, ◌⊎◌, Bool, true, false, ◌&&◌, cond, List, [], ◌∷◌, ◌++◌, map, length, get_or, take, drop, set, ltb, Result, Ok, Err}
use Rattle.std.proofs.Common.{add-one, arith, sym, ap, ap₂, ◌∙◌, subst, inl, inr, append_assoc, append-nil, length-append, length-set, take-append-drop, lt-ltb, le-ltb, take_all, take-suc, drop-cons, take-suc-set}
use Rattle.std.proofs.lemmas.List.{map-append, length-map, take-set-le}
use Rattle.lists.specs.Lists.{part, keep}
use Rattle.lists.specs.Parts.{length_part, get_d_part}
use Rattle.lists.specs.Counting.{keep-nil, keep-pass, keep_fail, keep_append, length-keep_le}
use Rattle.lists.specs.Tests.{which, and_false, all_pass, all_pass-nil, all_pass-cons, all_pass-append}
use Rattle.walk.specs.declared.Damaged.{Damaged}
use Rattle.leaf_hits.specs.Promises.{new_vectors, GatheredBy, GatherDamageBy, GathersBy}

pub all_pass-one : (t : ℕ → Bool) (x : ℕ) (b : Bool) → t x ≡ b → all_pass t (x ∷ []) ≡ b
all_pass-one t x b e = all_pass-cons t x [] ∙ ap₂ ◌&&◌ e (all_pass-nil t) ∙ go b
  where
    go : (b : Bool) → (b && true) ≡ b
    go true = refl
    go false = refl

-- one more number
module _ (wants : ℕ → Bool) (vector : ℕ → ℕ) where
  new_append : (xs ys : List ℕ) → new_vectors wants vector (xs ++ ys) ≡ new_vectors wants vector xs ++ new_vectors wants vector ys
  new_append xs ys = ap (map vector) (keep_append wants xs ys) ∙ map-append vector (keep wants xs) (keep wants ys)

  new_other : (x : ℕ) → wants x ≡ false → new_vectors wants vector (x ∷ []) ≡ []
  new_other x e = ap (map vector) (keep_fail wants x [] e ∙ keep-nil wants)

  new_wanted : (x : ℕ) → wants x ≡ true → new_vectors wants vector (x ∷ []) ≡ vector x ∷ []
  new_wanted x e = ap (map vector) (keep-pass wants x [] e ∙ ap {B = List ℕ} (λ t. x ∷ t) (keep-nil wants))

  new_count : (x : ℕ) → length (new_vectors wants vector (x ∷ [])) ≡ cond (wants x) 1 0
  new_count x = go (which (wants x))
    where
      go : (wants x ≡ true) ⊎ (wants x ≡ false) → length (new_vectors wants vector (x ∷ [])) ≡ cond (wants x) 1 0
      go (inl t) = ap length (new_wanted x t) ∙ sym (ap {B = ℕ} (λ (b : Bool). cond b 1 0) t)
      go (inr f) = ap length (new_other x f) ∙ sym (ap {B = ℕ} (λ (b : Bool). cond b 1 0) f)

  -- the vector of a number is written behind those found, and counts if it is wanted
  new_written : (x total total' v : ℕ) (found : List ℕ) → total < length found → v ≡ vector x → total' ≡ total + cond (wants x) 1 0
      → take total' (set found total v) ≡ take total found ++ new_vectors wants vector (x ∷ [])
  new_written x total total' v found room e n = go (which (wants x))
    where
      go : (wants x ≡ true) ⊎ (wants x ≡ false) → take total' (set found total v) ≡ take total found ++ new_vectors wants vector (x ∷ [])
      go (inl t) =
          let more : total' ≡ suc total = n ∙ ap {B = ℕ} (λ (b : Bool). total + cond b 1 0) t ∙ add-one total in
          ap (λ (k : ℕ). take k (set found total v)) more ∙ take-suc-set found total v room
          ∙ ap (λ (y : ℕ). take total found ++ (y ∷ [])) e ∙ ap (λ (l : List ℕ). take total found ++ l) (sym (new_wanted x t))
      go (inr f) =
          let same : total' ≡ total = n ∙ ap {B = ℕ} (λ (b : Bool). total + cond b 1 0) f ∙ (let z : total + 0 ≡ total = omega arith in z) in
          ap (λ (k : ℕ). take k (set found total v)) same ∙ take-set-le total found total v (let z : total ≤ total = omega arith in z)
          ∙ sym (append-nil (take total found)) ∙ ap (λ (l : List ℕ). take total found ++ l) (sym (new_other x f))

-- ---- one list after another

module _ (test wants : ℕ → Bool) (vector : ℕ → ℕ) (most : ℕ) where
  -- no number, and one that passes
  pub gathered_none : (before : ℕ) (found : List ℕ) → before ≤ most → GatheredBy test wants vector most [] before found before found
  gathered_none before found few =
      let nothing : new_vectors wants vector [] ≡ [] = ap (map vector) (keep-nil wants) in
      record {
        pass = all_pass-nil test;
        count = omega (arith, ap length nothing);
        few = few;
        vectors = sym (append-nil (take before found)) ∙ ap (λ (n : List ℕ). take before found ++ n) (sym nothing);
      }

  -- no more than there are numbers
  pub gathered_few : (l : List ℕ) (before total : ℕ) (found found' : List ℕ) → GatheredBy test wants vector most l before found total found'
      → total ≤ before + length l
  gathered_few l before total found found' g =
      omega (arith, g.count, length-map (keep wants l) vector, length-keep_le wants l)

  pub gathered_one : (x v total total' : ℕ) (found found' : List ℕ) → total < length found → test x ≡ true → v ≡ vector x → total' ≡ total + cond (wants x) 1 0 → total' ≤ most
      → found' ≡ set found total v → GatheredBy test wants vector most (x ∷ []) total found total' found'
  gathered_one x v total total' found found' room t e n few is = record {
    pass = all_pass-one test x true t;
    count = omega (arith, n, new_count wants vector x);
    few = few;
    vectors = ap (take total') is ∙ new_written wants vector x total total' v found room e n;
  }

  -- one that passes and is not wanted, where nothing is written
  gathered_skip : (x total : ℕ) (found : List ℕ) → test x ≡ true → wants x ≡ false → total ≤ most → GatheredBy test wants vector most (x ∷ []) total found total found
  gathered_skip x total found t other few =
      let nothing : new_vectors wants vector (x ∷ []) ≡ [] = new_other wants vector x other in
      record {
        pass = all_pass-one test x true t;
        count = omega (arith, ap length nothing);
        few = few;
        vectors = sym (append-nil (take total found)) ∙ ap (λ (n : List ℕ). take total found ++ n) (sym nothing);
      }

  module _ (xs ys : List ℕ) (before : ℕ) where
    pub gathered_append : (one two : ℕ) (found found₁ found₂ : List ℕ) → GatheredBy test wants vector most xs before found one found₁
        → GatheredBy test wants vector most ys one found₁ two found₂ → GatheredBy test wants vector most (xs ++ ys) before found two found₂
    gathered_append one two found found₁ found₂ a b =
        let old : List ℕ = new_vectors wants vector xs in
        let new : List ℕ = new_vectors wants vector ys in
        let all : new_vectors wants vector (xs ++ ys) ≡ old ++ new = new_append wants vector xs ys in
        record {
          pass = all_pass-append test xs ys ∙ ap₂ ◌&&◌ a.pass b.pass;
          count = omega (arith, a.count, b.count, ap length all, length-append old new);
          few = b.few;
          vectors = b.vectors ∙ ap (λ (p : List ℕ). p ++ new) a.vectors ∙ append_assoc (take before found) old new
              ∙ ap (λ (p : List ℕ). take before found ++ p) (sym all);
        }

    -- damage in the first, and behind it
    pub damage-append : GatherDamageBy test wants vector most xs before → GatherDamageBy test wants vector most (xs ++ ys) before
    damage-append (inl f) = inl (all_pass-append test xs ys ∙ ap (λ (b : Bool). b && all_pass test ys) f)
    damage-append (inr over) =
        inr (omega (arith, over, ap length (new_append wants vector xs ys), length-append (new_vectors wants vector xs) (new_vectors wants vector ys)))

    pub damage-behind : (one : ℕ) (found found₁ : List ℕ) → GatheredBy test wants vector most xs before found one found₁
        → GatherDamageBy test wants vector most ys one → GatherDamageBy test wants vector most (xs ++ ys) before
    damage-behind one found found₁ a (inl f) = inl (all_pass-append test xs ys ∙ ap (λ (b : Bool). all_pass test xs && b) f ∙ and_false (all_pass test xs))
    damage-behind one found found₁ a (inr over) =
        inr (omega (arith, over, a.count, ap length (new_append wants vector xs ys), length-append (new_vectors wants vector xs) (new_vectors wants vector ys)))

    -- whatever came of the second
    pub gathers_append : (one : ℕ) (found found₁ found₂ : List ℕ) (r : Result ℕ Damaged) → GatheredBy test wants vector most xs before found one found₁
        → GathersBy test wants vector most ys one found₁ r found₂ → GathersBy test wants vector most (xs ++ ys) before found r found₂
    gathers_append one found found₁ found₂ (Err _) a b = damage-behind one found found₁ a b
    gathers_append one found found₁ found₂ (Ok two) a b = gathered_append one two found found₁ found₂ a b

-- ---- after the first j

pub record Gathering (test wants : ℕ → Bool) (vector : ℕ → ℕ) (most : ℕ) (l : List ℕ) (before : ℕ) (found₀ : List ℕ) (j total : ℕ) (found : List ℕ) : Type 0 where
  pub so_far : GatheredBy test wants vector most (take j l) before found₀ total found
  pub size : length found ≡ length found₀

module _ (test wants : ℕ → Bool) (vector : ℕ → ℕ) (most : ℕ) (l : List ℕ) (before : ℕ) (found₀ : List ℕ) where
  pub gather_start : before ≤ most → Gathering test wants vector most l before found₀ 0 before found₀
  gather_start few = record { so_far = gathered_none test wants vector most before found₀ few; size = refl }

  -- the next number and what is behind it
  next : (j : ℕ) → j < length l → take (j + 1) l ≡ take j l ++ (get_or l j 0 ∷ [])
  next j h = rw (add-one j) (take-suc l j 0 h)

  split : (j : ℕ) → j < length l → l ≡ take j l ++ (get_or l j 0 ∷ drop (suc j) l)
  split j h = sym (take-append-drop j l) ∙ ap (λ (t : List ℕ). take j l ++ t) (drop-cons l j 0 h)

  -- the next number passes, and its vector is written
  pub gather_next : (j total total' x v : ℕ) (found : List ℕ) → Gathering test wants vector most l before found₀ j total found → j < length l
      → total < length found → get_or l j 0 ≡ x → test x ≡ true → v ≡ vector x → total' ≡ total + cond (wants x) 1 0 → total' ≤ most
      → Gathering test wants vector most l before found₀ (j + 1) total' (set found total v)
  gather_next j total total' x v found g h room at t e n few = record {
    so_far = subst (λ (k : List ℕ). GatheredBy test wants vector most k before found₀ total' (set found total v))
        (sym (next j h ∙ ap (λ (y : ℕ). take j l ++ (y ∷ [])) at))
        (gathered_append test wants vector most (take j l) (x ∷ []) before total total' found₀ found (set found total v) g.so_far
        (gathered_one test wants vector most x v total total' found (set found total v) room t e n few refl));
    size = length-set found total v ∙ g.size;
  }

  -- the next number passes and is not wanted
  pub gather_skip : (j total x : ℕ) (found : List ℕ) → Gathering test wants vector most l before found₀ j total found → j < length l → get_or l j 0 ≡ x
      → test x ≡ true → wants x ≡ false → Gathering test wants vector most l before found₀ (j + 1) total found
  gather_skip j total x found g h at t other = record {
    so_far = subst (λ (k : List ℕ). GatheredBy test wants vector most k before found₀ total found)
        (sym (next j h ∙ ap (λ (y : ℕ). take j l ++ (y ∷ [])) at))
        (gathered_append test wants vector most (take j l) (x ∷ []) before total total found₀ found found g.so_far
        (gathered_skip test wants vector most x total found t other g.so_far.few));
    size = g.size;
  }

  -- damage: the next number does not pass, or it is one hit too many
  next-damaged : (j total x : ℕ) (found : List ℕ) → Gathering test wants vector most l before found₀ j total found → j < length l → get_or l j 0 ≡ x
      → GatherDamageBy test wants vector most (x ∷ []) total → GatherDamageBy test wants vector most l before
  next-damaged j total x found g h at d =
      subst (λ (k : List ℕ). GatherDamageBy test wants vector most k before) (sym (split j h ∙ ap (λ (y : ℕ). take j l ++ (y ∷ drop (suc j) l)) at))
      (damage-behind test wants vector most (take j l) (x ∷ drop (suc j) l) before total found₀ found g.so_far
      (damage-append test wants vector most (x ∷ []) (drop (suc j) l) total d))

  pub gather_fails : (j total x : ℕ) (found : List ℕ) → Gathering test wants vector most l before found₀ j total found → j < length l → get_or l j 0 ≡ x
      → test x ≡ false → GatherDamageBy test wants vector most l before
  gather_fails j total x found g h at f = next-damaged j total x found g h at (inl (all_pass-one test x false f))

  pub gather_over : (j total x : ℕ) (found : List ℕ) → Gathering test wants vector most l before found₀ j total found → j < length l → get_or l j 0 ≡ x
      → most < total + cond (wants x) 1 0 → GatherDamageBy test wants vector most l before
  gather_over j total x found g h at over = next-damaged j total x found g h at (inr (omega (arith, over, new_count wants vector x)))

  -- the end of the list
  pub gather_end : (j total : ℕ) (found : List ℕ) → Gathering test wants vector most l before found₀ j total found → length l ≤ j
      → GatheredBy test wants vector most l before found₀ total found
  gather_end j total found g h = subst (λ (t : List ℕ). GatheredBy test wants vector most t before found₀ total found) (take_all j l h) g.so_far

-- ---- in the words of the code

-- an entry that does not pass, and one that does
module _ (x owner : ℕ) where
  pub entry_past : (entries vectors : ℕ) → entries ≤ x → (ltb x entries && ltb owner vectors) ≡ false
  entry_past entries vectors h = ap (λ (b : Bool). b && ltb owner vectors) (le-ltb x entries h)

  pub owner-past : (read entries vectors : ℕ) → read ≡ owner → x < entries → vectors ≤ read → (ltb x entries && ltb owner vectors) ≡ false
  owner-past read entries vectors e h past = ap₂ ◌&&◌ (lt-ltb x entries h) (le-ltb owner vectors (subst (λ (n : ℕ). vectors ≤ n) e past))

  pub entry-held : (read entries vectors : ℕ) → read ≡ owner → x < entries → read < vectors → (ltb x entries && ltb owner vectors) ≡ true
  entry-held read entries vectors e h held = ap₂ ◌&&◌ (lt-ltb x entries h) (lt-ltb owner vectors (subst (λ (n : ℕ). n < vectors) e held))

-- number j of a block
pub block-at : (numbers : List ℕ) (start count j x : ℕ) → j < count → x ≡ get_or numbers (start + j) 0 → get_or (part start count numbers) j 0 ≡ x
block-at numbers start count j x h e = get_d_part start count numbers j 0 h ∙ sym e

pub block_room : (numbers : List ℕ) (start count j : ℕ) → start + count ≤ length numbers → j < count → j < length (part start count numbers)
block_room numbers start count j room h = rw (length_part start count numbers room) h

-- ---- two tests, one after the other

-- those that pass both
module _ (hashed named : ℕ → Bool) where
  kept_cons : (x : ℕ) (xs : List ℕ) → (hashed x ≡ true) ⊎ (hashed x ≡ false) → (named x ≡ true) ⊎ (named x ≡ false)
      → keep (λ x. hashed x && named x) xs ≡ keep named (keep hashed xs) → keep (λ x. hashed x && named x) (x ∷ xs) ≡ keep named (keep hashed (x ∷ xs))
  kept_cons x xs (inl h) (inl n) later =
      keep-pass (λ x. hashed x && named x) x xs (ap₂ ◌&&◌ h n) ∙ ap (λ (l : List ℕ). x ∷ l) later
      ∙ sym (ap (keep named) (keep-pass hashed x xs h) ∙ keep-pass named x (keep hashed xs) n)
  kept_cons x xs (inl h) (inr n) later =
      keep_fail (λ x. hashed x && named x) x xs (ap₂ ◌&&◌ h n) ∙ later
      ∙ sym (ap (keep named) (keep-pass hashed x xs h) ∙ keep_fail named x (keep hashed xs) n)
  kept_cons x xs (inr h) n later =
      keep_fail (λ x. hashed x && named x) x xs (ap (λ (b : Bool). b && named x) h) ∙ later ∙ sym (ap (keep named) (keep_fail hashed x xs h))

  pub kept-twice : (l : List ℕ) → keep (λ x. hashed x && named x) l ≡ keep named (keep hashed l)
  kept-twice [] = keep-nil (λ x. hashed x && named x) ∙ sym (ap (keep named) (keep-nil hashed) ∙ keep-nil named)
  kept-twice (x ∷ xs) = kept_cons x xs (which (hashed x)) (which (named x)) (kept-twice xs)
