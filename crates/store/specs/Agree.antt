-- Stores whose lists have the same fronts. What reads below the length of a front reads the same in both: so a claim about parts of the lists goes
-- from a list to the front that is lent, and back from what the call left, and it stays where a call writes behind those parts.
use Rattle.std.specs.Prelude.{ℕ, zero, suc, ◌+◌, ◌-◌, ◌≤◌, List, [], ◌∷◌, ◌++◌, ◌≡◌, length, take, drop}
use Rattle.std.proofs.Math.Nat.{zero-sub, suc-sub-suc, sub-zero}
use Rattle.std.proofs.Common.{sym, ap, ap₂, ◌∙◌, length-drop, take-take}
use Rattle.std.proofs.Math.Seq.{slice}
use Rattle.std.proofs.lemmas.List.{take-append-le}
use Rattle.lists.specs.Lists.{part}
use Rattle.lists.specs.Parts.{part_slice}
use Rattle.store.specs.declared.Lengths.{Lengths}
use Rattle.store.specs.Store.{Store}
use Rattle.store.specs.Lent.{lengths_of, NoShorter, join_stores}

module _ {A : Type 0} where
  take-both : (n : ℕ) (xs ys : List A) → take n (xs ++ ys) ≡ take n xs ++ take (n - length xs) ys
  take-both zero xs ys = rw zero-sub
  take-both (suc n) [] ys = rw sub-zero
  take-both (suc n) (x ∷ xs) ys = rw suc-sub-suc (ap (λ (l : List A). x ∷ l) (take-both n xs ys))

  -- a part below the length of equal fronts
  pub part_same : (s c n : ℕ) (xs ys : List A) → s + c ≤ n → take n xs ≡ take n ys → part s c xs ≡ part s c ys
  part_same s c n xs ys h e = front xs ∙ ap (λ (l : List A). slice s (s + c) l) e ∙ sym (front ys)
    where
      front : (l : List A) → part s c l ≡ slice s (s + c) (take n l)
      front l = part_slice s c l ∙ ap (λ (m : List A). drop s m) (sym (take-take (s + c) n l h))

  pub take_less : (m n : ℕ) (xs ys : List A) → m ≤ n → take n xs ≡ take n ys → take m xs ≡ take m ys
  take_less m n xs ys h e = sym (take-take m n xs h) ∙ ap (λ (l : List A). take m l) e ∙ take-take m n ys h

  -- what is written in a front is written in the list
  pub take-front : (n : ℕ) (xs xs' ys : List A) → length xs ≡ length xs' → take n xs ≡ take n xs' → take n (xs ++ ys) ≡ take n (xs' ++ ys)
  take-front n xs xs' ys e h = take-both n xs ys ∙ ap₂ (λ (l : List A) (k : ℕ). l ++ take (n - k) ys) h e ∙ sym (take-both n xs' ys)

module _ {A : Type 0} where
  drop-both : (n : ℕ) (xs ys : List A) → drop n (xs ++ ys) ≡ drop n xs ++ drop (n - length xs) ys
  drop-both zero xs ys = rw zero-sub
  drop-both (suc n) [] ys = rw sub-zero
  drop-both (suc n) (x ∷ xs) ys = rw suc-sub-suc (drop-both n xs ys)

  -- a part of a front, equal in both, is one of the lists, whatever stands behind the fronts
  pub part-front : (at count : ℕ) (xs xs' ys : List A) → length xs ≡ length xs' → part at count xs ≡ part at count xs'
      → part at count (xs ++ ys) ≡ part at count (xs' ++ ys)
  part-front at count xs xs' ys e h =
      let long : length (drop at xs) ≡ length (drop at xs') = length-drop at xs ∙ ap (λ (n : ℕ). n - at) e ∙ sym (length-drop at xs') in
      ap (take count) (drop-both at xs ys) ∙ take-front count (drop at xs) (drop at xs') (drop (at - length xs) ys) long h
      ∙ ap (λ (n : ℕ). take count (drop at xs' ++ drop (at - n) ys)) e ∙ ap (take count) (sym (drop-both at xs' ys))

-- the lists are the same up to here
pub record Agree (up_to : Lengths) (store store' : Store) : Type 0 where
  pub floats : take up_to.floats store.floats ≡ take up_to.floats store'.floats
  pub numbers : take up_to.numbers store.numbers ≡ take up_to.numbers store'.numbers
  pub hashes : take up_to.hashes store.hashes ≡ take up_to.hashes store'.hashes
  pub text : take up_to.text store.text ≡ take up_to.text store'.text

pub agree_sym : {up_to : Lengths} {store store' : Store} → Agree up_to store store' → Agree up_to store' store
agree_sym a = record { floats = sym a.floats; numbers = sym a.numbers; hashes = sym a.hashes; text = sym a.text }

pub agree_less : (less up_to : Lengths) (store store' : Store) → NoShorter less up_to → Agree up_to store store' → Agree less store store'
agree_less less up_to store store' h a =
    record {
      floats = take_less less.floats up_to.floats store.floats store'.floats h.floats a.floats;
      numbers = take_less less.numbers up_to.numbers store.numbers store'.numbers h.numbers a.numbers;
      hashes = take_less less.hashes up_to.hashes store.hashes store'.hashes h.hashes a.hashes;
      text = take_less less.text up_to.text store.text store'.text h.text a.text;
    }

-- a store agrees with a front that is long enough
pub agree_front : (up_to : Lengths) (front rest : Store) → NoShorter up_to (lengths_of front) → Agree up_to (join_stores front rest) front
agree_front up_to front rest h =
    record {
      floats = take-append-le up_to.floats front.floats rest.floats h.floats;
      numbers = take-append-le up_to.numbers front.numbers rest.numbers h.numbers;
      hashes = take-append-le up_to.hashes front.hashes rest.hashes h.hashes;
      text = take-append-le up_to.text front.text rest.text h.text;
    }

-- two fronts of the same lengths that agree, each with the same rest behind it
pub agree_join : (up_to : Lengths) (front front' rest : Store) → lengths_of front ≡ lengths_of front' → Agree up_to front front'
    → Agree up_to (join_stores front rest) (join_stores front' rest)
agree_join up_to front front' rest l a =
    record {
      floats = take-front up_to.floats front.floats front'.floats rest.floats (ap (λ (n : Lengths). n.floats) l) a.floats;
      numbers = take-front up_to.numbers front.numbers front'.numbers rest.numbers (ap (λ (n : Lengths). n.numbers) l) a.numbers;
      hashes = take-front up_to.hashes front.hashes front'.hashes rest.hashes (ap (λ (n : Lengths). n.hashes) l) a.hashes;
      text = take-front up_to.text front.text front'.text rest.text (ap (λ (n : Lengths). n.text) l) a.text;
    }
