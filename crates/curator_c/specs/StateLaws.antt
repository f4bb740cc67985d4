-- What a list holds and what is written to it are each other's inverse.
use Rattle.std.specs.Prelude.{ℕ, zero, suc, ◌+◌, ◌≤◌, Bool, true, false, cond, List, [], ◌∷◌, ◌++◌, ◌≡◌, refl, ltb, eqb, length, get_or, take, drop}
use Rattle.std.proofs.Common.{sym, ap, ◌∙◌, arith, ltb-false, le-ltb, eqb-true, drop-cons}
use Rattle.std.proofs.lemmas.List.Edits.{sets, sets-eq}
use Rattle.curator.specs.declared.CuratorIndex.{CuratorIndex}
use Rattle.std.specs.Prelude.{Some}
use Rattle.curator_c.specs.State.{places, state_list, state_of, state_in}

-- a list that begins with the numbers of a state holds that state
pub in_front : (index : CuratorIndex) (rest : List ℕ) → state_in (state_list index ++ rest) ≡ Some index
unfolding state_in
in_front index rest = by index.built refl
  where
    by : (b : Bool) → index.built ≡ b → state_in (state_list index ++ rest) ≡ Some index
    by true e = rw (le-ltb (length (state_list index ++ rest)) 14 (omega arith), e) refl
    by false e = rw (le-ltb (length (state_list index ++ rest)) 14 (omega arith), e) refl

-- the state that was written is the one that is held, whatever stands behind it
pub in_written : (list : List ℕ) (index : CuratorIndex) → places ≤ length list → state_in (sets list 0 (state_list index)) ≡ Some index
in_written list index h = ap state_in (sets-eq (state_list index) list 0 h) ∙ in_front index (drop 14 list)

-- What a list that holds a state is like: it has places for one, its flag is 0 or 1, and the state is read from it.
pub record HoldsState (list : List ℕ) (index : CuratorIndex) : Type 0 where
  pub flag : Bool
  pub room : places ≤ length list
  pub flag_place : get_or list 11 0 ≡ cond flag 1 0
  pub state : index ≡ state_of list flag

pub in_holds : (list : List ℕ) (index : CuratorIndex) → state_in list ≡ Some index → HoldsState list index
unfolding state_in
in_holds list index h =
    by (ltb (length list) places) refl (eqb (get_or list 11 0) 0) refl (eqb (get_or list 11 0) 1) refl
  where
    by : (short : Bool) → ltb (length list) places ≡ short → (unset : Bool) → eqb (get_or list 11 0) 0 ≡ unset → (set : Bool)
        → eqb (get_or list 11 0) 1 ≡ set → HoldsState list index
    by true e b f b' g = let z : ◌≡◌ {A = ℕ} 0 1 = cc in absurd (omega arith)
    by false e true f b' g =
        record { flag = false; room = ltb-false _ _ e; flag_place = eqb-true _ _ f; state = cc }
    by false e false f true g =
        record { flag = true; room = ltb-false _ _ e; flag_place = eqb-true _ _ g; state = cc }
    by false e false f false g = let z : ◌≡◌ {A = ℕ} 0 1 = cc in absurd (omega arith)

-- the n numbers of a list from a place on
abbrev numbers_from : List ℕ → ℕ → ℕ → List ℕ
numbers_from list at zero = []
numbers_from list at (suc n) = get_or list at 0 ∷ numbers_from list (suc at) n

take-numbers : (list : List ℕ) (at n : ℕ) → at + n ≤ length list → take n (drop at list) ≡ numbers_from list at n
take-numbers list at zero h = refl
take-numbers list at (suc n) h =
    ap (take (suc n)) (drop-cons list at 0 (omega (arith, h)))
    ∙ ap (λ (l : List ℕ). get_or list at 0 ∷ l) (take-numbers list (suc at) n (omega (arith, h)))

-- a list that holds a state begins with its numbers, so no other list of fourteen numbers holds it
pub in_only : (list : List ℕ) (index : CuratorIndex) → state_in list ≡ Some index → take places list ≡ state_list index
in_only list index h =
    let held = in_holds list index h in
    take-numbers list 0 places held.room ∙ rw held.flag_place refl ∙ ap state_list (sym held.state)
