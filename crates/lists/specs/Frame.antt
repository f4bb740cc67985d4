-- What a call leaves outside of the parts that it writes: `AlikeBut` of one part says what stays, of lists of any length; `Freed` of some parts says
-- that they are replaced by lists of their lengths.
use Rattle.std.specs.Prelude.{ℕ, ◌+◌, ◌-◌, ◌≤◌, ◌≡◌}
use Rattle.std.proofs.Math.Path.{refl, sym, ap}
use Rattle.std.proofs.Common.{◌∙◌, zero-add, take-append-drop, take-take, drop-drop}
use mathlib.Core.List.{List, [], ◌∷◌, ◌++◌}
use native.Mathlib.Omega.{arith}
use Rattle.std.proofs.Math.ListN.{length, take, drop, replicate, length-replicate, length-drop}
use Rattle.std.proofs.Math.Seq.{sets, length-sets, length-take-le}
use Rattle.lists.specs.Lists.{part}
use Rattle.lists.specs.Parts.{length_part, take-sets, drop-sets, take-sets_in, sets-append, sets-part, sets_self, sets-sets-same}

-- ---- alike but for a part

pub record AlikeBut {ℓ} {A : Type ℓ} (start count : ℕ) (before after : List A) : Type ℓ where
  pub front : take start after ≡ take start before
  pub rest : drop (start + count) after ≡ drop (start + count) before

module _ {ℓ} {A : Type ℓ} where
  pub alike_refl : (s c : ℕ) (l : List A) → AlikeBut s c l l
  alike_refl s c l = record { front = refl; rest = refl }

  pub alike_trans : (s c : ℕ) {l m n : List A} → AlikeBut s c l m → AlikeBut s c m n → AlikeBut s c l n
  alike_trans s c p q = record { front = q.front ∙ p.front; rest = q.rest ∙ p.rest }

  -- lists with one rest are alike but for what stands before it
  pub alike-behind : (n : ℕ) (l m : List A) → drop n m ≡ drop n l → AlikeBut 0 n l m
  alike-behind n l m e = record { front = refl; rest = rw (zero-add n) e }

  -- a run that is written in the part
  pub alike-sets : (s c : ℕ) (l : List A) (i : ℕ) (vs : List A) → s ≤ i → i + length vs ≤ s + c → AlikeBut s c l (sets l i vs)
  alike-sets s c l i vs h g = record { front = take-sets s l i vs h; rest = drop-sets (s + c) l i vs g }

  -- a wider part
  pub alike_widen : (s c s' c' : ℕ) (l m : List A) → AlikeBut s c l m → s' ≤ s → s + c ≤ s' + c' → AlikeBut s' c' l m
  alike_widen s c s' c' l m p h g =
      let e : (s + c) + (s' + c' - (s + c)) ≡ s' + c' = omega arith in
      record {
        front = sym (take-take s' s m h) ∙ ap (λ (x : List A). take s' x) p.front ∙ take-take s' s l h;
        rest =
            rw (← e)
            (sym (drop-drop (s' + c' - (s + c)) (s + c) m)
            ∙ ap (λ (x : List A). drop (s' + c' - (s + c)) x) p.rest
            ∙ drop-drop (s' + c' - (s + c)) (s + c) l);
      }

  -- the later list is the earlier one with the part replaced
  pub alike-is-sets : (s c : ℕ) (l m : List A) → AlikeBut s c l m → s + c ≤ length l → s + c ≤ length m → m ≡ sets l s (part s c m)
  alike-is-sets s c l m p h g = sym (sets-part l m s c h g (sym p.front) (sym p.rest))

  -- a run before the part is written in both lists
  pub alike_under : (s c : ℕ) (l m : List A) (i : ℕ) (vs : List A) → AlikeBut s c l m → i + length vs ≤ s → AlikeBut s c (sets l i vs) (sets m i vs)
  alike_under s c l m i vs p h =
      record {
        front = take-sets_in s m i vs h ∙ ap (λ (r : List A). sets r i vs) p.front ∙ sym (take-sets_in s l i vs h);
        rest = drop-sets (s + c) m i vs (omega arith) ∙ p.rest ∙ sym (drop-sets (s + c) l i vs (omega arith));
      }

-- ---- freed parts

-- a part of a list by its start and length
pub record Part : Type 0 where
  pub start : ℕ
  pub count : ℕ

-- a list with those parts, and nothing else, replaced by some lists of their lengths
unfoldable pub Freed {ℓ} : {A : Type ℓ} → List Part → List A → List A → Type ℓ
Freed [] before after = after ≡ before
Freed {A = A} (p ∷ parts) before after = (new : List A) × (length new ≡ p.count) × Freed parts (sets before p.start new) after

-- every part starts at or behind a place
abbrev pub From : ℕ → List Part → Type 0
From n [] = Unit {0}
From n (p ∷ parts) = (n ≤ p.start) × From n parts

-- every part ends at or before a place
abbrev pub Before : ℕ → List Part → Type 0
Before n [] = Unit {0}
Before n (p ∷ parts) = (p.start + p.count ≤ n) × Before n parts

module _ {ℓ} {A : Type ℓ} where
  pub freed_length : (parts : List Part) (before after : List A) → Freed parts before after → length before ≡ length after
  unfolding Freed
  freed_length [] before after f = ap length (sym f)
  freed_length (p ∷ parts) before after f =
      sym (length-sets before p.start f.0) ∙ freed_length parts (sets before p.start f.0) after f.2

  pub freed_take : (n : ℕ) (parts : List Part) (before after : List A) → From n parts → Freed parts before after → take n before ≡ take n after
  unfolding Freed
  freed_take n [] before after h f = ap (take n) (sym f)
  freed_take n (p ∷ parts) before after h f =
      sym (take-sets n before p.start f.0 h.0) ∙ freed_take n parts (sets before p.start f.0) after h.1 f.2

  pub freed_drop : (n : ℕ) (parts : List Part) (before after : List A) → Before n parts → Freed parts before after → drop n before ≡ drop n after
  unfolding Freed
  freed_drop n [] before after h f = ap (drop n) (sym f)
  freed_drop n (p ∷ parts) before after h f =
      sym (drop-sets n before p.start f.0 (let e = f.1 in let k = h.0 in omega arith)) ∙ freed_drop n parts (sets before p.start f.0) after h.1 f.2

  -- any list can be left so
  pub freed : (x : A) (parts : List Part) (before : List A) → (after : List A) × Freed parts before after
  unfolding Freed
  freed x [] before = (before, refl)
  freed x (p ∷ parts) before =
      let new = replicate p.count x in
      let r = freed x parts (sets before p.start new) in
      (r.0, (new, length-replicate p.count x, r.1))

  -- one part more, written with what stands there
  pub freed_more : (parts : List Part) (p : Part) (before after : List A) → p.start + p.count ≤ length before → Freed parts before after
      → Freed (parts ++ (p ∷ [])) before after
  unfolding Freed
  freed_more [] p before after h f =
      let e = ap length f in (
        part p.start p.count after,
        length_part p.start p.count after (omega arith),
        sym (ap (λ (l : List A). sets l p.start (part p.start p.count after)) (sym f) ∙ sets_self after p.start p.count),
      )
  freed_more (q ∷ parts) p before after h f =
      let e = length-sets before q.start f.0 in
      (f.0, f.1, freed_more parts p (sets before q.start f.0) after (omega arith) f.2)

  pub freed_self : (p : Part) (l : List A) → p.start + p.count ≤ length l → Freed (p ∷ []) l l
  unfolding Freed
  freed_self p l h = freed_more [] p l l h refl

  -- lists of one length that are alike but for a part
  pub alike_freed : (p : Part) (before after : List A) → p.start + p.count ≤ length before → length after ≡ length before
      → AlikeBut p.start p.count before after → Freed (p ∷ []) before after
  unfolding Freed
  alike_freed p before after h e a =
      let g : p.start + p.count ≤ length after = omega arith in
      (part p.start p.count after, length_part p.start p.count after g, alike-is-sets p.start p.count before after a h g)

  -- lists of one length that are alike past a place
  pub freed_front : (m : ℕ) (before after : List A) → m ≤ length before → length after ≡ length before → drop m after ≡ drop m before
      → Freed (record { start = 0; count = m } ∷ []) before after
  freed_front m before after h n e =
      alike_freed (record { start = 0; count = m }) before after (omega arith) n (alike-behind m before after e)

  -- a part that is freed twice
  pub freed_twice : (p : Part) (l m n : List A) → Freed (p ∷ []) l m → Freed (p ∷ []) m n → Freed (p ∷ []) l n
  unfolding Freed
  freed_twice p l m n f g =
      (g.0, g.1, g.2 ∙ ap (λ (r : List A). sets r p.start g.0) f.2 ∙ sets-sets-same l p.start f.0 g.0 (f.1 ∙ sym g.1))

  -- a part cut in two
  pub freed_cut : (p q : Part) (before after : List A) → q.start ≡ p.start + p.count → Freed (record { start = p.start; count = p.count + q.count } ∷ []) before after
      → Freed (p ∷ q ∷ []) before after
  unfolding Freed
  freed_cut p q before after e f =
      let x : List A = take p.count f.0 in
      let y : List A = drop p.count f.0 in
      let k = f.1 in
      let lx : length x ≡ p.count = length-take-le p.count f.0 (omega arith) in (
        x,
        lx,
        (
          y,
          length-drop p.count f.0 ∙ (let d : length f.0 - p.count ≡ q.count = omega arith in d),
          f.2
              ∙ ap (λ (z : List A). sets before p.start z) (sym (take-append-drop p.count f.0))
              ∙ sets-append before p.start x y
              ∙ ap (λ (i : ℕ). sets (sets before p.start x) i y) (ap (λ (k : ℕ). p.start + k) lx ∙ sym e),
        ),
      )
