-- The means of all clusters in one pass: marks are counted, sums are begun, vectors are added by their marks, sums are divided.
use Prim.Native.Nat.{ℕ, suc, ◌+◌, ◌*◌, ◌≤◌, ◌<◌, ◌^◌}
use mathlib.Core.Path.{◌≡◌, refl, sym, ap, ap₂, ◌∙◌}
use mathlib.Core.Logic.{◌⊎◌, inl, inr}
use mathlib.Core.Bool.{Bool, true, false, cond}
use mathlib.Core.List.{List, [], ◌∷◌, map}
use native.Mathlib.Nat.{zero-add}
use native.Mathlib.Numerals.{add-one}
use native.Mathlib.Omega.{arith}
use borrow.Author.Tests.{eqb-true, eqb-false, lt-ltb, le-ltb, ltb-true, ltb-false}
use lib.Dec.{T, eqb, ltb, le→leb}
use lib.IntN.{pos}
use lib.ListN.{length, get_or, set, drop, replicate, drop_of_length-le, length-map, length-set, get_or-replicate, get_or-eq_default, length-replicate}
use lib.Seq.{sets, drop-cons, ext_get_or, get_or-set_same, get_or-set_other}
use lib.Ieee.{Float, binary32, div, of_int, in_float}
use Rattle.lists.specs.Lists.{part, count_from}
use Rattle.lists.specs.Parts.{length_part, sets_self}
use Rattle.lists.specs.Maps.{get_d_map}
use Rattle.lists.specs.Tests.{either, which}
use Rattle.lists.specs.Counting.{length-count_from, get_d_count_from}
use Rattle.lists.specs.Partition.{hit, count, hit_same, hit_other, count-nil, count-cons}
use Rattle.lists.specs.Frame.{AlikeBut, alike_refl, alike_trans, alike-sets}
use Rattle.vector.specs.Vector.{zero32}
use Rattle.cluster.specs.Clusters.{vector_of, add_vectors, sum_from, mean_of, nearest, recentred, recentre}
use Rattle.cluster.specs.ClustersLaws.{length-add_vectors, sum_from-nil, length-recentre, vector_of-recentre, nearest-below}
use Rattle.cluster.specs.Vectors.{vectors_in, vectors_from}
use Rattle.cluster.specs.VectorsLaws.{length-vectors_in, vector_of-vectors_in, vector_of-vectors_from, vectors_from_write, row-end, alike-vectors}
use Rattle.cluster.specs.Promises.{BehindVectors}
use Rattle.kmeans.specs.Marks.{assignment, with_mark}
use Rattle.kmeans.specs.MarksLaws.{length-assignment, get_d_assignment, with_mark-assignment}
use Rattle.kmeans.specs.Means.{each_centre, begun, summed, divided}
use Rattle.kmeans.specs.Promises.{Centred}
use Rattle.kmeans.proofs.Centring.{WritingCentres, centres-own, centres_turn}

-- ---- marks are counted

count-step : (j : ℕ) (marks : List ℕ) (i : ℕ) → i < length marks → count j (drop i marks) ≡ hit j (get_or marks i 0) + count j (drop (i + 1) marks)
count-step j marks i h = rw add-one (ap (count j) (drop-cons marks i 0 h) ∙ count-cons j (get_or marks i 0) (drop (suc i) marks))

pub count-few : (j : ℕ) (marks : List ℕ) → count j marks ≤ length marks
count-few j [] = let e = count-nil j in omega arith
count-few j (m ∷ marks) =
    let e = count-cons j m marks in
    let rest = count-few j marks in
    either (which (eqb j m)) (λ t. let h = hit_same j m (eqb-true j m t) in omega arith) (λ f. let h = hit_other j m (eqb-false j m f) in omega arith)

-- the first i marks are counted
abbrev pub Counting : List ℕ → List ℕ → ℕ → Type 0
Counting marks counts i = (j : ℕ) → j < length counts → get_or counts j 0 + count j (drop i marks) ≡ count j marks

pub counting_none : (marks counts : List ℕ) → ((j : ℕ) → get_or counts j 0 ≡ 0) → Counting marks counts 0
counting_none marks counts z j h = let e = z j in omega arith

-- a count is within the number of marks
pub counting_fits : (marks counts : List ℕ) (i : ℕ) → Counting marks counts i → i < length marks → get_or marks i 0 < length counts
    → get_or counts (get_or marks i 0) 0 + 1 ≤ length marks
counting_fits marks counts i inv h b =
    let m : ℕ = get_or marks i 0 in
    omega (arith, inv m b, count-step m marks i h, hit_same m m refl, count-few m marks)

pub counting_next : (marks counts : List ℕ) (i : ℕ) → Counting marks counts i → i < length marks → get_or marks i 0 < length counts
    → Counting marks (set counts (get_or marks i 0) (get_or counts (get_or marks i 0) 0 + 1)) (i + 1)
counting_next marks counts i inv h b j below =
    let m : ℕ = get_or marks i 0 in
    let g : j < length counts = rw length-set at below in
    let d = inv j g in
    let s = count-step j marks i h in
    either (which (eqb j m))
    (λ t. let e : j ≡ m = eqb-true j m t in
    let x : get_or (set counts m (get_or counts m 0 + 1)) j 0 ≡ get_or counts j 0 + 1 = rw e (get_or-set_same counts m (get_or counts m 0 + 1) 0 b) in
    omega (arith, hit_same j m e))
    (λ f. let n = eqb-false j m f in
    omega (arith, get_or-set_other counts m j (get_or counts m 0 + 1) 0 n, hit_other j m n))

pub counting_all : (marks counts : List ℕ) (i : ℕ) → Counting marks counts i → length marks ≤ i
    → (j : ℕ) → j < length counts → get_or counts j 0 ≡ count j marks
counting_all marks counts i inv h j b =
    let none : count j (drop i marks) ≡ 0 = ap (count j) (drop_of_length-le marks h) ∙ count-nil j in
    omega (arith, inv j b)

-- counts that begin at 0
pub get_d_zeros : (n j : ℕ) → ◌≡◌ {A = ℕ} (get_or (replicate n 0) j 0) 0
get_d_zeros n j =
    either (which (ltb j n)) (λ t. get_or-replicate n j 0 0 (ltb-true j n t))
    (λ f. get_or-eq_default (replicate n 0) 0 {n = j} (rw length-replicate (ltb-false j n f)))

-- as many ids have a mark as it is counted
length_marked : (j : ℕ) (marks ids : List ℕ) → length marks ≡ length ids → length (with_mark j marks ids) ≡ count j marks
unfolding with_mark
length_marked j [] ids e = sym (count-nil j)
length_marked j (m ∷ marks) [] e = absurd (omega arith)
length_marked j (m ∷ marks) (id ∷ ids) e =
    let rest = length_marked j marks ids (omega arith) in
    let c = count-cons j m marks in
    either (which (eqb m j))
    (λ t. rw t (omega (arith, hit_same j m (sym (eqb-true m j t)))))
    (λ f. rw f (omega (arith, hit_other j m (λ q. eqb-false m j f (sym q)))))

-- by whether a count is 0
pub counted : {A : Type 0} (size : ℕ) (x y : A) → 0 < size → x ≡ cond (ltb 0 size) x y
counted {A} size x y h = sym (ap (λ (b : Bool). cond b x y) (lt-ltb 0 size h))

pub not_counted : {A : Type 0} (size : ℕ) (x y : A) → size ≤ 0 → y ≡ cond (ltb 0 size) x y
not_counted {A} size x y h = sym (ap (λ (b : Bool). cond b x y) (le-ltb 0 size h))

-- ---- a function of each centre, written one after the other

pub length-each_centre : (k : ℕ) (f : ℕ → List Float → List Float) (centres : List (List Float)) → length (each_centre k f centres) ≡ k
unfolding each_centre
length-each_centre k f centres = length-map (count_from 0 k) (λ j. f j (vector_of centres j)) ∙ length-count_from 0 k

pub vector_of-each_centre : (k : ℕ) (f : ℕ → List Float → List Float) (centres : List (List Float)) (j : ℕ) → j < k
    → vector_of (each_centre k f centres) j ≡ f j (vector_of centres j)
unfolding each_centre
vector_of-each_centre k f centres j h =
    get_d_map (λ j. f j (vector_of centres j)) (count_from 0 k) j 0 [] (rw length-count_from h)
    ∙ ap (λ (i : ℕ). f i (vector_of centres i)) (get_d_count_from 0 k j 0 h ∙ zero-add j)

module _ (d k at : ℕ) (floats₀ : List Float) (f : ℕ → List Float → List Float) (fits : at + k * d ≤ length floats₀) where
  abbrev goal : List (List Float)
  goal = each_centre k f (vectors_from d k at floats₀)

  pub each_turn : (floats floats' : List Float) (j : ℕ) (v : List Float) → WritingCentres d k at floats₀ goal floats j
      → length floats ≡ length floats₀ → j < k → floats' ≡ sets floats (at + j * d) v → v ≡ f j (part (at + j * d) d floats) → length v ≡ d → WritingCentres d k at floats₀ goal floats' (j + 1)
  each_turn floats floats' j v inv size h q e n =
      let count : length goal ≡ k = length-each_centre k f (vectors_from d k at floats₀) in
      centres_turn d k at floats₀ goal count fits floats floats' j v inv size h q
      (e
      ∙ ap (f j) (centres-own d k at floats₀ goal count fits floats j inv h)
      ∙ sym (vector_of-each_centre k f (vectors_from d k at floats₀) j h))
      n

  -- a centre that stays
  pub each_kept : (floats : List Float) (j : ℕ) → WritingCentres d k at floats₀ goal floats j → length floats ≡ length floats₀ → j < k
      → part (at + j * d) d floats ≡ f j (part (at + j * d) d floats) → WritingCentres d k at floats₀ goal floats (j + 1)
  each_kept floats j inv size h e =
      let end = row-end d j k h in
      each_turn floats floats j (part (at + j * d) d floats) inv size h (sym (sets_self floats (at + j * d) d)) e
      (length_part (at + j * d) d floats (omega arith))

-- ---- vectors are added by their marks

sum_from-cons : (vectors : List (List Float)) (sum : List Float) (id : ℕ) (ids : List ℕ)
    → sum_from vectors sum (id ∷ ids) ≡ sum_from vectors (add_vectors sum (vector_of vectors id)) ids
unfolding sum_from
sum_from-cons vectors sum id ids = refl

with_mark-step : (j : ℕ) (marks ids : List ℕ) (i : ℕ) → length marks ≡ length ids → i < length ids
    → with_mark j (drop i marks) (drop i ids)
    ≡ cond (eqb (get_or marks i 0) j) (get_or ids i 0 ∷ with_mark j (drop (i + 1) marks) (drop (i + 1) ids)) (with_mark j (drop (i + 1) marks) (drop (i + 1) ids))
unfolding with_mark
with_mark-step j marks ids i e h =
    rw add-one (ap₂ (λ (ms is : List ℕ). with_mark j ms is) (drop-cons marks i 0 (omega arith)) (drop-cons ids i 0 h))

no_marks : (j : ℕ) (marks ids : List ℕ) → marks ≡ [] → with_mark j marks ids ≡ []
unfolding with_mark
no_marks j marks ids e = rw e

-- The vectors of the first i ids are added: what each centre is to be is what the other ids add to it.
pub record Summing (d n k at : ℕ) (ids marks : List ℕ) (floats₀ floats : List Float) (i : ℕ) : Type 0 where
  pub alike : AlikeBut at (k * d) floats₀ floats
  pub due : (j : ℕ) → j < k
      → sum_from (vectors_in d n floats₀) (vector_of (vectors_from d k at floats₀) j) (with_mark j marks ids)
      ≡ sum_from (vectors_in d n floats₀) (vector_of (vectors_from d k at floats) j) (with_mark j (drop i marks) (drop i ids))

module _ (d n k at : ℕ) (ids marks : List ℕ) (floats₀ : List Float) (room : BehindVectors floats₀ ids d n at (k * d)) (sizes : length marks ≡ length ids) where
  pub summing_none : Summing d n k at ids marks floats₀ floats₀ 0
  summing_none = record { alike = alike_refl at (k * d) floats₀; due = λ j h. refl }

  pub summing_next : (floats floats' : List Float) (i : ℕ) → Summing d n k at ids marks floats₀ floats i → length floats ≡ length floats₀
      → i < length ids → get_or marks i 0 < k
      → floats' ≡ sets floats (at + get_or marks i 0 * d) (add_vectors (part (at + get_or marks i 0 * d) d floats) (part (get_or ids i 0 * d) d floats))
      → Summing d n k at ids marks floats₀ floats' (i + 1)
  summing_next floats floats' i inv same h b q =
      record {
        alike = alike_trans at (k * d) inv.alike (rw q (alike-sets at (k * d) floats (at + m * d) v (omega arith) (omega (arith, end, size))));
        due = λ j g. inv.due j g ∙ next j g (which (eqb m j));
      }
    where
      m : ℕ
      m = get_or marks i 0

      id : ℕ
      id = get_or ids i 0

      end : m * d + d ≤ k * d
      end = row-end d m k b

      vectors : List (List Float)
      vectors = vectors_in d n floats₀

      centres : List (List Float)
      centres = vectors_from d k at floats

      v : List Float
      v = add_vectors (part (at + m * d) d floats) (part (id * d) d floats)

      size : length v ≡ d
      size = length-add_vectors (part (at + m * d) d floats) (part (id * d) d floats) ∙ length_part (at + m * d) d floats (omega (arith, same, room.within, end))

      added : v ≡ add_vectors (vector_of centres m) (vector_of vectors id)
      added =
          ap₂ add_vectors (sym (vector_of-vectors_from d k at floats m b))
          (sym (vector_of-vectors_in d n floats id (room.below i h))
          ∙ ap (λ (vs : List (List Float)). vector_of vs id) (alike-vectors d n at (k * d) floats₀ floats inv.alike room.behind))

      written : vectors_from d k at floats' ≡ set centres m v
      written = rw q (vectors_from_write d k at floats m v size (omega (arith, same, room.within)) b)

      rest : ℕ → List ℕ
      rest j = with_mark j (drop (i + 1) marks) (drop (i + 1) ids)

      next : (j : ℕ) → j < k → (eqb m j ≡ true) ⊎ (eqb m j ≡ false)
          → sum_from vectors (vector_of centres j) (with_mark j (drop i marks) (drop i ids)) ≡ sum_from vectors (vector_of (vectors_from d k at floats') j) (rest j)
      next j g (inl t) =
          let e : m ≡ j = eqb-true m j t in
          let held : m < length centres = rw length-vectors_in b in
          ap (sum_from vectors (vector_of centres j)) (with_mark-step j marks ids i sizes h ∙ ap (λ (b : Bool). cond b (id ∷ rest j) (rest j)) t)
          ∙ sum_from-cons vectors (vector_of centres j) id (rest j)
          ∙ ap (λ (s : List Float). sum_from vectors s (rest j))
          (ap (λ (p : ℕ). add_vectors (vector_of centres p) (vector_of vectors id)) (sym e)
          ∙ sym added
          ∙ sym (get_or-set_same centres m v [] held)
          ∙ ap₂ (λ (cs : List (List Float)) (p : ℕ). vector_of cs p) (sym written) e)
      next j g (inr f) =
          ap (sum_from vectors (vector_of centres j)) (with_mark-step j marks ids i sizes h ∙ ap (λ (b : Bool). cond b (id ∷ rest j) (rest j)) f)
          ∙ ap (λ (s : List Float). sum_from vectors s (rest j))
          (sym (get_or-set_other centres m j v [] (λ e. eqb-false m j f (sym e))) ∙ ap (λ (cs : List (List Float)). vector_of cs j) (sym written))

  pub summing_all : (floats : List Float) (i : ℕ) → Summing d n k at ids marks floats₀ floats i → length ids ≤ i
      → Centred d k at floats₀ (each_centre k (summed (vectors_in d n floats₀) marks ids) (vectors_from d k at floats₀)) floats
  summing_all floats i inv h =
      record {
        centres_are =
            ext_get_or [] (vectors_from d k at floats) goals (length-vectors_in d k (drop at floats) ∙ sym (length-each_centre k f old))
            (λ j b. let g : j < k = rw length-vectors_in at b in
            sym (vector_of-each_centre k f old j g ∙ inv.due j g
            ∙ ap (sum_from vectors (vector_of (vectors_from d k at floats) j)) (none j)
            ∙ sum_from-nil vectors (vector_of (vectors_from d k at floats) j)));
        alike = inv.alike;
      }
    where
      vectors : List (List Float)
      vectors = vectors_in d n floats₀

      old : List (List Float)
      old = vectors_from d k at floats₀

      f : ℕ → List Float → List Float
      f = summed vectors marks ids

      goals : List (List Float)
      goals = each_centre k f old

      none : (j : ℕ) → with_mark j (drop i marks) (drop i ids) ≡ []
      none j = no_marks j (drop i marks) (drop i ids) (drop_of_length-le marks {i = i} (omega arith))

-- ---- the means

module _ (d : ℕ) (vectors : List (List Float)) (c : List Float) where
  -- a sum that was begun at 0 and is divided by the number of its ids, or a centre that stays
  one_mean : (ms : List ℕ) (size : ℕ) → size ≡ length ms
      → cond (ltb 0 size) (map (λ x. div binary32 x (of_int binary32 (pos size))) (sum_from vectors (cond (ltb 0 size) (replicate d zero32) c) ms)) (sum_from vectors (cond (ltb 0 size) (replicate d zero32) c) ms)
      ≡ recentred d vectors c ms
  unfolding recentred mean_of
  one_mean [] size e = let z = le-ltb 0 size (omega arith) in rw z (sum_from-nil vectors c)
  one_mean (id ∷ ms) size e = let z = lt-ltb 0 size (omega arith) in rw (z, e) refl

pub marks-below : (d n k at : ℕ) (floats : List Float) (ids marks : List ℕ) → marks ≡ assignment (vectors_in d n floats) (vectors_from d k at floats) ids → 1 ≤ k
    → (i : ℕ) → i < length marks → get_or marks i 0 < k
marks-below d n k at floats ids marks e one i h =
    let vectors : List (List Float) = vectors_in d n floats in
    let centres : List (List Float) = vectors_from d k at floats in
    let b : i < length ids = omega (arith, ap length e, length-assignment vectors centres ids) in
    let is : get_or marks i 0 ≡ nearest (vector_of vectors (get_or ids i 0)) centres =
    ap (λ (l : List ℕ). get_or l i 0) e ∙ get_d_assignment vectors centres ids i 0 b in
    let low = nearest-below (vector_of vectors (get_or ids i 0)) centres k (omega (arith, length-vectors_in d k (drop at floats))) one in
    omega arith

pub marks-size : (d n k at : ℕ) (floats : List Float) (ids marks : List ℕ) → marks ≡ assignment (vectors_in d n floats) (vectors_from d k at floats) ids
    → length marks ≡ length ids
marks-size d n k at floats ids marks e = ap length e ∙ length-assignment (vectors_in d n floats) (vectors_from d k at floats) ids

-- sums that are begun, added to and divided are the means
pub means_are : (d n k at : ℕ) (ids marks counts : List ℕ) (f f₁ f₂ f₃ : List Float) → n * d ≤ at
    → marks ≡ assignment (vectors_in d n f) (vectors_from d k at f) ids → ((j : ℕ) → j < k → get_or counts j 0 ≡ count j marks)
    → Centred d k at f (each_centre k (begun d counts) (vectors_from d k at f)) f₁
    → Centred d k at f₁ (each_centre k (summed (vectors_in d n f₁) marks ids) (vectors_from d k at f₁)) f₂
    → Centred d k at f₂ (each_centre k (divided counts) (vectors_from d k at f₂)) f₃
    → Centred d k at f (recentre d (vectors_in d n f) ids (vectors_from d k at f)) f₃
means_are d n k at ids marks counts f f₁ f₂ f₃ behind is sizes c₁ c₂ c₃ =
    record {
      centres_are =
          ext_get_or [] (vectors_from d k at f₃) (recentre d vs ids cs)
          (length-vectors_in d k (drop at f₃) ∙ sym (length-recentre d vs ids cs ∙ length-vectors_in d k (drop at f)))
          (λ j b. mean j (rw length-vectors_in at b));
      alike = alike_trans at (k * d) c₁.alike (alike_trans at (k * d) c₂.alike c₃.alike);
    }
  where
    vs : List (List Float)
    vs = vectors_in d n f

    cs : List (List Float)
    cs = vectors_from d k at f

    same : vectors_in d n f₁ ≡ vs
    same = alike-vectors d n at (k * d) f f₁ c₁.alike behind

    written : (g : ℕ → List Float → List Float) (before after : List Float) → vectors_from d k at after ≡ each_centre k g (vectors_from d k at before) → (j : ℕ) → j < k
        → vector_of (vectors_from d k at after) j ≡ g j (vector_of (vectors_from d k at before) j)
    written g before after e j h = ap (λ (l : List (List Float)). vector_of l j) e ∙ vector_of-each_centre k g (vectors_from d k at before) j h

    sum : (j : ℕ) → j < k → vector_of (vectors_from d k at f₂) j ≡ sum_from vs (begun d counts j (vector_of cs j)) (with_mark j marks ids)
    sum j h =
        written (summed (vectors_in d n f₁) marks ids) f₁ f₂ c₂.centres_are j h
        ∙ ap₂ (λ (l : List (List Float)) (c : List Float). sum_from l c (with_mark j marks ids)) same
        (written (begun d counts) f f₁ c₁.centres_are j h)

    mean : (j : ℕ) → j < k → vector_of (vectors_from d k at f₃) j ≡ vector_of (recentre d vs ids cs) j
    mean j h =
        written (divided counts) f₂ f₃ c₃.centres_are j h
        ∙ ap (divided counts j) (sum j h)
        ∙ one_mean d vs (vector_of cs j) (with_mark j marks ids) (get_or counts j 0)
        (sizes j h ∙ sym (length_marked j marks ids (marks-size d n k at f ids marks is)))
        ∙ ap (recentred d vs (vector_of cs j)) (ap (λ (ms : List ℕ). with_mark j ms ids) is ∙ with_mark-assignment vs cs j ids)
        ∙ sym (vector_of-recentre d vs ids cs j (rw length-vectors_in h))

-- what an f32 holds of whole numbers
pub number_in_float : (n : ℕ) → n ≤ 2 ^ 24 → T (in_float binary32 (pos n))
unfolding in_float
number_in_float n h = le→leb n (2 ^ 24) h
