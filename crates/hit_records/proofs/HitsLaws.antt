-- Laws of filling a list of hit records: the loop's steps, and what the result says place by place.
use Rattle.std.specs.Prelude.{◌≡◌, refl, Bool, true, false, ◌||◌, List, [], ◌∷◌, ℕ, zero, suc, ◌+◌, ◌-◌, ◌≤◌, ◌<◌, ltb, Float, length, get_or, drop, set}
use Rattle.std.proofs.Common.{sym, ap, ◌∙◌, subst, zero-le, suc-le-suc, zero-add, not-suc-le-zero, le_of_suc-le-suc, le_trans, arith, length-take-le, get_or-take, get_or-drop, get_or-append-add, ltb-false}
use Rattle.std.proofs.lemmas.Bool.{false≢true}
use Rattle.std.proofs.Math.ListN.{get_or-append}
use Rattle.std.proofs.Math.Seq.{paste, paste-suc}
use Rattle.hit_records.specs.declared.Hit.{Hit}
use Rattle.hit_records.specs.Hits.{pairs, hit_records, hit_record_at, filled_with, list_short, hits_number, hits_left, Fills}

-- ---- the records of two lists

pub le_pairs : (n : ℕ) (is : List ℕ) (ds : List Float) → n ≤ length is → n ≤ length ds → n ≤ length (pairs is ds)
unfolding pairs
le_pairs zero is ds h k = zero-le
le_pairs (suc n) [] ds h k = absurd (not-suc-le-zero h)
le_pairs (suc n) (i ∷ is) [] h k = absurd (not-suc-le-zero k)
le_pairs (suc n) (i ∷ is) (d ∷ ds) h k = suc-le-suc (le_pairs n is ds (le_of_suc-le-suc h) (le_of_suc-le-suc k))

pub get_d_pairs : (is : List ℕ) (ds : List Float) (i : ℕ) (z : Hit) → i < length is → i < length ds → get_or (pairs is ds) i z ≡ hit_record_at is ds i
unfolding pairs
get_d_pairs [] ds i z h k = absurd (not-suc-le-zero h)
get_d_pairs (x ∷ is) [] i z h k = absurd (not-suc-le-zero k)
get_d_pairs (x ∷ is) (d ∷ ds) zero z h k = refl
get_d_pairs (x ∷ is) (d ∷ ds) (suc i) z h k = get_d_pairs is ds i z (le_of_suc-le-suc h) (le_of_suc-le-suc k)

-- ---- the loop: the first i records stand in the list

-- where n records fit in each list
pub record Fit (hits : List Hit) (ids : List ℕ) (distances : List Float) (n : ℕ) : Type 0 where
  pub in_hits : n ≤ length hits
  pub in_ids : n ≤ length ids
  pub in_distances : n ≤ length distances

module _ (hits : List Hit) (ids : List ℕ) (distances : List Float) where
  abbrev pub so_far : ℕ → List Hit
  so_far i = paste hits 0 (pairs ids distances) i

  pub so_far_more : (i : ℕ) → Fit hits ids distances (i + 1) → set (so_far i) i (hit_record_at ids distances i) ≡ so_far (i + 1)
  so_far_more i fit =
      let z : Hit = hit_record_at ids distances i in
      let e : 0 + i ≡ i = zero-add i in
      let f : suc i ≡ i + 1 = omega arith in
      let in_hits : 0 + i < length hits = omega (arith, fit.in_hits) in
      let in_ids : i < length ids = omega (arith, fit.in_ids) in
      let in_distances : i < length distances = omega (arith, fit.in_distances) in
      ap (λ (k : ℕ). set (so_far i) k z) (sym e)
      ∙ ap (λ (h : Hit). set (so_far i) (0 + i) h) (sym (get_d_pairs ids distances i z in_ids in_distances))
      ∙ paste-suc hits 0 (pairs ids distances) i z in_hits (le_pairs (suc i) ids distances in_ids in_distances)
      ∙ ap so_far f

-- ---- where no list is too short, the records fit

or_false : (a b : Bool) → (a || b) ≡ false → (a ≡ false) × (b ≡ false)
or_false true b e = absurd (false≢true (sym e))
or_false false b e = (refl, e)

module _ (hits : List Hit) (ids : List ℕ) (distances : List Float) (count : ℕ) where
  abbrev short : Bool
  short = list_short (length hits) (length ids) (length distances) count

  pub all_fit : short ≡ false → Fit hits ids distances count
  all_fit e =
      let p = or_false (ltb (length hits) count) (ltb (length ids) count || ltb (length distances) count) e in
      let q = or_false (ltb (length ids) count) (ltb (length distances) count) p.1 in
      record { in_hits = ltb-false (length hits) count p.0; in_ids = ltb-false (length ids) count q.0; in_distances = ltb-false (length distances) count q.1 }

-- ---- the result, place by place

module _ (hits : List Hit) (ids : List ℕ) (distances : List Float) (count number : ℕ) (hits' : List Hit) (fills : Fills hits ids distances count number hits') where
  abbrev is_short : Bool
  is_short = list_short (length hits) (length ids) (length distances) count

  abbrev taken : List Hit
  taken = hit_records ids distances count

  -- a list shorter than the count: 14, and nothing is written
  pub refused : is_short ≡ true → (number ≡ 14) × (hits' ≡ hits)
  refused e = (fills.number_is ∙ ap hits_number e, fills.hits_are ∙ ap (λ (b : Bool). hits_left b hits taken) e)

  -- otherwise 0, and the records are written
  pub accepted : is_short ≡ false → (number ≡ 0) × (hits' ≡ filled_with hits taken)
  accepted e = (fills.number_is ∙ ap hits_number e, fills.hits_are ∙ ap (λ (b : Bool). hits_left b hits taken) e)

  length_taken : is_short ≡ false → length taken ≡ count
  length_taken e = let fit = all_fit hits ids distances count e in length-take-le count (pairs ids distances) (le_pairs count ids distances fit.in_ids fit.in_distances)

  -- record i is the pair of place i of the two lists, for every i below the count
  pub record_is : is_short ≡ false → (i : ℕ) (z : Hit) → i < count → get_or hits' i z ≡ hit_record_at ids distances i
  record_is e i z h =
      let fit = all_fit hits ids distances count e in
      ap (λ (l : List Hit). get_or l i z) (accepted e).1
      ∙ get_or-append taken (drop (length taken) hits) z i (subst (λ (k : ℕ). i < k) (sym (length_taken e)) h)
      ∙ get_or-take count (pairs ids distances) i z h
      ∙ get_d_pairs ids distances i z (le_trans h fit.in_ids) (le_trans h fit.in_distances)

  kept_by : (b : Bool) → is_short ≡ b → (i : ℕ) (z : Hit) → count ≤ i → get_or hits' i z ≡ get_or hits i z
  kept_by true e i z h = ap (λ (l : List Hit). get_or l i z) (refused e).1
  kept_by false e i z h =
      let l = length_taken e in
      let at : i ≡ length taken + (i - length taken) = omega (arith, l, h) in
      ap (λ (l : List Hit). get_or l i z) (accepted e).1
      ∙ ap (λ (k : ℕ). get_or (filled_with hits taken) k z) at
      ∙ get_or-append-add taken (drop (length taken) hits) (i - length taken) z
      ∙ get_or-drop (length taken) hits (i - length taken) z
      ∙ ap (λ (k : ℕ). get_or hits k z) (sym at)

  -- every other place keeps what it held
  pub place_kept : (i : ℕ) (z : Hit) → count ≤ i → get_or hits' i z ≡ get_or hits i z
  place_kept = kept_by is_short refl

-- ---- trials: three places and two hits, the third of each list past the count; each list one place short

abbrev trial : ℕ → Float → Hit
trial i d = record { id = i; distance = d }

filled-trial : (a b c x y z : Float) → filled_with (trial 90 a ∷ trial 91 b ∷ trial 92 c ∷ []) (hit_records (7 ∷ 9 ∷ 8 ∷ []) (x ∷ y ∷ z ∷ []) 2)
    ≡ trial 7 x ∷ trial 9 y ∷ trial 92 c ∷ []
unfolding pairs
filled-trial a b c x y z = refl

short-trial : (list_short 3 4 4 3 ≡ false) × (list_short 2 4 4 3 ≡ true) × (list_short 3 2 4 3 ≡ true) × (list_short 3 4 2 3 ≡ true)
short-trial = (refl, refl, refl, refl)
