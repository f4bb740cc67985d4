-- A number written at each of some places: what stands at a place then, and, of the places that a list gives, what is still to be written once the first
-- j of its numbers were looked at. Assumes nothing.
use Rattle.std.specs.Prelude.{Ok, Err}
use Prim.Native.Nat.{ℕ, suc, ◌+◌, ◌≤◌, ◌<◌}
use native.Mathlib.Numerals.{add-one}
use mathlib.Core.Path.{◌≡◌, refl, sym, ap, ◌∙◌, subst}
use mathlib.Core.Logic.{◌⊎◌, inl, inr}
use mathlib.Core.Bool.{Bool, true, false, cond, ◌&&◌, ◌||◌}
use mathlib.Core.List.{List, [], ◌∷◌, Memᴰ}
use lib.ListN.{length, get_or, drop, set, length-set, drop_of_length-le}
use lib.Dec.{eqb}
use lib.Seq.{drop-cons, drop-set-lt, get_or-set_same, get_or-set_other}
use borrow.Author.Tests.{eqb-true, eqb-false}
use Rattle.lists.specs.Lists.{is_in}
use Rattle.lists.specs.Counting.{is_in-nil, is_in-cons}
use Rattle.lists.specs.Tests.{which, all_pass, all_pass-nil, all_pass-cons}
use Rattle.wanted_hits.specs.Promises.{written, Writes}

-- ---- what is written

module _ (x : ℕ) where
  written-nil : (l : List ℕ) → written x [] l ≡ l
  unfolding written
  written-nil l = refl

  written-cons : (at : ℕ) (places l : List ℕ) → written x (at ∷ places) l ≡ written x places (set l at x)
  unfolding written
  written-cons at places l = refl

  pub length-written : (places l : List ℕ) → length (written x places l) ≡ length l
  length-written [] l = ap length (written-nil l)
  length-written (at ∷ places) l = ap length (written-cons at places l) ∙ length-written places (set l at x) ∙ length-set l at x

  -- what stands behind the places stays
  pub drop-written : (n : ℕ) (places l : List ℕ) → ((at : ℕ) → Memᴰ at places → at < n) → drop n (written x places l) ≡ drop n l
  drop-written n [] l below = ap (drop n) (written-nil l)
  drop-written n (at ∷ places) l below =
      ap (drop n) (written-cons at places l) ∙ drop-written n places (set l at x) (λ y m. below y (Memᴰ.tail m))
      ∙ drop-set-lt n l at x (below at (Memᴰ.head refl))

  either_way : (b : Bool) → cond b x x ≡ x
  either_way true = refl
  either_way false = refl

  one_written : (at : ℕ) (l : List ℕ) (i : ℕ) (b : Bool) → at < length l → (eqb i at ≡ true) ⊎ (eqb i at ≡ false)
      → cond b x (get_or (set l at x) i 0) ≡ cond (eqb i at || b) x (get_or l i 0)
  one_written at l i b h (inl t) =
      let here : get_or (set l at x) i 0 ≡ x = ap (λ (k : ℕ). get_or (set l at x) k 0) (eqb-true i at t) ∙ get_or-set_same l at x 0 h in
      ap (λ (y : ℕ). cond b x y) here ∙ either_way b ∙ sym (ap (λ (c : Bool). cond (c || b) x (get_or l i 0)) t)
  one_written at l i b h (inr f) =
      ap (λ (y : ℕ). cond b x y) (get_or-set_other l at i x 0 (eqb-false i at f)) ∙ sym (ap (λ (c : Bool). cond (c || b) x (get_or l i 0)) f)

  -- the number at one of the places, and elsewhere what stood there
  pub get_d_written : (places l : List ℕ) (i : ℕ) → ((at : ℕ) → Memᴰ at places → at < length l)
      → get_or (written x places l) i 0 ≡ cond (is_in i places) x (get_or l i 0)
  get_d_written [] l i below =
      ap (λ (m : List ℕ). get_or m i 0) (written-nil l) ∙ sym (ap (λ (b : Bool). cond b x (get_or l i 0)) (is_in-nil i))
  get_d_written (at ∷ places) l i below =
      ap (λ (m : List ℕ). get_or m i 0) (written-cons at places l)
      ∙ get_d_written places (set l at x) i (λ y m. subst (λ (n : ℕ). y < n) (sym (length-set l at x)) (below y (Memᴰ.tail m)))
      ∙ one_written at l i (is_in i places) (below at (Memᴰ.head refl)) (which (eqb i at))
      ∙ sym (ap (λ (b : Bool). cond b x (get_or l i 0)) (is_in-cons i at places))

-- ---- after the first j

-- what is still to be tested and to be written is what is due
pub record Marking (test : ℕ → Bool) (places : List ℕ → List ℕ) (x : ℕ) (l marks₀ : List ℕ) (j : ℕ) (marks : List ℕ) : Type 0 where
  pub sound : all_pass test l ≡ all_pass test (drop j l)
  pub due : written x (places l) marks₀ ≡ written x (places (drop j l)) marks
  pub size : length marks ≡ length marks₀

module _ (test : ℕ → Bool) (places : List ℕ → List ℕ) (x : ℕ) (l marks₀ : List ℕ) where
  rest : (j y : ℕ) → j < length l → get_or l j 0 ≡ y → drop j l ≡ y ∷ drop (j + 1) l
  rest j y h at = rw (add-one j) (drop-cons l j 0 h ∙ ap (λ (z : ℕ). z ∷ drop (suc j) l) at)

  tested : (j y : ℕ) (b : Bool) → j < length l → get_or l j 0 ≡ y → test y ≡ b → all_pass test (drop j l) ≡ (b && all_pass test (drop (j + 1) l))
  tested j y b h at t =
      ap (all_pass test) (rest j y h at) ∙ all_pass-cons test y (drop (j + 1) l) ∙ ap (λ (c : Bool). c && all_pass test (drop (j + 1) l)) t

  -- the next number passes: it gives a place, which is written, or none
  pub mark-next : (j y at : ℕ) (marks : List ℕ) → Marking test places x l marks₀ j marks → j < length l → get_or l j 0 ≡ y → test y ≡ true
      → places (y ∷ drop (j + 1) l) ≡ at ∷ places (drop (j + 1) l) → Marking test places x l marks₀ (j + 1) (set marks at x)
  mark-next j y at marks m h e t gives =
      record {
        sound = m.sound ∙ tested j y true h e t;
        due =
            m.due ∙ ap (λ (k : List ℕ). written x (places k) marks) (rest j y h e) ∙ ap (λ (k : List ℕ). written x k marks) gives
            ∙ written-cons x at (places (drop (j + 1) l)) marks;
        size = length-set marks at x ∙ m.size;
      }

  pub mark-skip : (j y : ℕ) (marks : List ℕ) → Marking test places x l marks₀ j marks → j < length l → get_or l j 0 ≡ y → test y ≡ true
      → places (y ∷ drop (j + 1) l) ≡ places (drop (j + 1) l) → Marking test places x l marks₀ (j + 1) marks
  mark-skip j y marks m h e t gives =
      record {
        sound = m.sound ∙ tested j y true h e t;
        due = m.due ∙ ap (λ (k : List ℕ). written x (places k) marks) (rest j y h e) ∙ ap (λ (k : List ℕ). written x k marks) gives;
        size = m.size;
      }

  -- the next number does not pass
  pub mark_fails : (j y : ℕ) (marks : List ℕ) → Marking test places x l marks₀ j marks → j < length l → get_or l j 0 ≡ y → test y ≡ false
      → Writes (all_pass test l) x (places l) marks₀ (Err (record {})) marks
  mark_fails j y marks m h e f = m.sound ∙ tested j y false h e f

  -- the end of the list
  pub mark-end : (j : ℕ) (marks : List ℕ) → Marking test places x l marks₀ j marks → length l ≤ j → places [] ≡ []
      → Writes (all_pass test l) x (places l) marks₀ (Ok tt) marks
  mark-end j marks m h none =
      let over : drop j l ≡ [] = drop_of_length-le l {i = j} h in (
        m.sound ∙ ap (all_pass test) over ∙ all_pass-nil test,
        sym (m.due ∙ ap (λ (k : List ℕ). written x (places k) marks) over ∙ ap (λ (k : List ℕ). written x k marks) none ∙ written-nil x marks),
      )
