-- The children of an inner node, tested and pushed one by one. Assumes nothing.
use Rattle.std.specs.Prelude.{ℕ, ◌+◌, ◌≤◌, ◌<◌, ◌≡◌, refl, Bool, true, false, ◌&&◌, cond, List, [], ◌∷◌, ltb, eqb, length, get_or, take, drop, ◌-◌}
use Rattle.std.proofs.Common.{sym, ap, ap₂, ◌∙◌, subst}
use Rattle.lists.specs.Lists.{part, is_in}
use Rattle.lists.specs.Tests.{all_pass, all_pass-nil, all_pass-cons}
use Rattle.lists.specs.Parts.{length_part, get_d_part, lent-run}
use Rattle.store.specs.declared.Shape.{Shape}
use Rattle.store.specs.declared.Counts.{Counts}
use Rattle.store.specs.Store.{Store, marks_at}
use Rattle.walk.specs.Walk.{View, Progress, State, damaged, going, give, push_all, children, damage}
use Rattle.walk.proofs.WalkLaws.{pushed_one, give-damage, give-children, push_all-nil, push_all-fresh, push_all_again}
use Rattle.walk.specs.StoreView.{children_shown}

-- what a child has to pass
abbrev pub child_test : Counts → ℕ → ℕ → Bool
child_test c parent child = ltb parent child && ltb child c.nodes

pub children-shown : (s : Shape) (c : Counts) (store : Store) (parent : ℕ) (l : List ℕ)
    → children_shown s c store parent l ≡ cond (all_pass (child_test c parent) l) (children l) damage
unfolding children_shown
children-shown s c store parent l = refl

-- children are pushed, if all of them pass
abbrev pub push_checked : View → (ℕ → Bool) → List ℕ → State → State
push_checked view test l st = cond (all_pass test l) (push_all view l st) damaged

module _ (view : View) (test : ℕ → Bool) where
  pub checked_give : (b : Bool) (l : List ℕ) (p : Progress) → give view (cond b (children l) damage) p ≡ cond b (push_all view l (going p)) damaged
  checked_give true l p = give-children view l p
  checked_give false l p = give-damage view p

  pub checked_nil : (st : State) → push_checked view test [] st ≡ st
  checked_nil st = ap (λ (b : Bool). cond b (push_all view [] st) damaged) (all_pass-nil test) ∙ push_all-nil view st

  pub checked_fails : (c : ℕ) (cs : List ℕ) (st : State) → test c ≡ false → push_checked view test (c ∷ cs) st ≡ damaged
  checked_fails c cs st e = ap (λ (b : Bool). cond b (push_all view (c ∷ cs) st) damaged) (all_pass-cons test c cs ∙ ap (λ (b : Bool). b && all_pass test cs) e)

  pub checked_again : (c : ℕ) (cs : List ℕ) (p : Progress) → is_in c p.pushed ≡ true → push_checked view test (c ∷ cs) (going p) ≡ damaged
  checked_again c cs p e = ap (λ (st : State). cond (all_pass test (c ∷ cs)) st damaged) (push_all_again view c cs p e) ∙ go (all_pass test (c ∷ cs))
    where
      go : (b : Bool) → cond b damaged damaged ≡ damaged
      go true = refl
      go false = refl

  pub checked_fresh : (c : ℕ) (cs : List ℕ) (p : Progress) → test c ≡ true → is_in c p.pushed ≡ false
      → push_checked view test (c ∷ cs) (going p) ≡ push_checked view test cs (going (pushed_one view c p))
  checked_fresh c cs p t e =
      ap₂ (λ (b : Bool) (st : State). cond b st damaged) (all_pass-cons test c cs ∙ ap (λ (b : Bool). b && all_pass test cs) t) (push_all-fresh view c cs p e)

-- the next child of a block
pub next_child : (numbers : List ℕ) (start count j x : ℕ) → j < count → start + count ≤ length numbers → x ≡ get_or numbers (start + j) 0
    → (j < length (part start count numbers)) × (get_or (part start count numbers) j 0 ≡ x)
next_child numbers start count j x h room e = (rw (length_part start count numbers room) h, get_d_part start count numbers j 0 h ∙ sym e)

-- the same, as a loop over the block's part reads it
abbrev pub block_part : List ℕ → ℕ → ℕ → List ℕ
block_part numbers start count = take (start + count - start) (drop start numbers)

pub next_read : (numbers : List ℕ) (start count j : ℕ) → j < length (block_part numbers start count)
    → (j < length (part start count numbers)) × (get_or (part start count numbers) j 0 ≡ get_or (block_part numbers start count) j 0)
next_read numbers start count j h = (
  subst (λ (l : List ℕ). j < length l) (lent-run start count numbers) h,
  ap (λ (l : List ℕ). get_or l j 0) (sym (lent-run start count numbers)),
)

-- whether a child is fresh, by a test whose marks begin at a place
pub fresh-is : (s : Shape) (c : Counts) (work : List ℕ) (node child at : ℕ) (r b : Bool) → at ≡ marks_at s
    → r ≡ ((ltb node child && ltb child c.nodes) && eqb (get_or work (at + child) 0) 0) → r ≡ b
    → (child_test c node child && eqb (get_or work (marks_at s + child) 0) 0) ≡ b
fresh-is s c work node child at r b p e f =
    ap (λ (n : ℕ). child_test c node child && eqb (get_or work (n + child) 0) 0) (sym p) ∙ sym e ∙ f
