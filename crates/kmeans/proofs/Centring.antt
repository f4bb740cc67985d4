-- Centres that are written one after the other, and the steps of k-means.
use Prim.Native.Nat.{ℕ, suc, ◌+◌, ◌*◌, ◌/◌, ◌≤◌, ◌<◌, min}
use mathlib.Core.Path.{◌≡◌, refl, sym, ap, ap₂, ◌∙◌}
use mathlib.Core.List.{List, [], ◌++◌, append-nil}
use native.Mathlib.Nat.{zero-add, mul-div-le, le-div_iff_mul-le, mul-le-mul_right, suc-mul}
use native.Mathlib.Omega.{arith}
use lib.ListN.{length, get_or, set, take, drop, drop_of_length-le}
use lib.Seq.{sets, sets-eq}
use lib.Ieee.{Float}
use Rattle.lists.specs.Lists.{part}
use Rattle.lists.specs.Parts.{length_part, part-written}
use Rattle.cluster.specs.Clusters.{vector_of, recentre, first_centres, last_centres}
use Rattle.cluster.specs.Vectors.{vectors_in, vectors_from}
use Rattle.kmeans.specs.Marks.{assignment}
use Rattle.cluster.specs.Promises.{BehindVectors}
use Rattle.lists.specs.Frame.{AlikeBut, alike_refl, alike_trans, alike-sets}
use Rattle.kmeans.specs.Promises.{Centred, Clustered}
use Rattle.cluster.specs.VectorsLaws.{length-vectors_in, vector_of-vectors_in, vector_of-vectors_from, vectors_from_write, row-end, alike-vectors, vector-before}
use Rattle.kmeans.specs.MarksLaws.{length-assignment}
use Rattle.cluster.specs.ClustersLaws.{length-first_centres, vector_of-first_centres}
use Rattle.lists.specs.Writes.{write_turn, write_end, unwritten}

-- ---- k centres, the first j of them written

pub record WritingCentres (d k at : ℕ) (floats₀ : List Float) (new : List (List Float)) (floats : List Float) (j : ℕ) : Type 0 where
  pub alike : AlikeBut at (k * d) floats₀ floats
  pub centres : vectors_from d k at floats ≡ sets (vectors_from d k at floats₀) 0 (take j new)

module _ (d k at : ℕ) (floats₀ : List Float) (new : List (List Float)) (count : length new ≡ k) (fits : at + k * d ≤ length floats₀) where
  abbrev old : List (List Float)
  old = vectors_from d k at floats₀

  pub centres-none : WritingCentres d k at floats₀ new floats₀ 0
  centres-none = record { alike = alike_refl at (k * d) floats₀; centres = refl }

  -- the centre that is written next is still as it was
  pub centres-own : (floats : List Float) (j : ℕ) → WritingCentres d k at floats₀ new floats j → j < k → part (at + j * d) d floats ≡ vector_of old j
  centres-own floats j inv h =
      sym (vector_of-vectors_from d k at floats j h)
      ∙ ap (λ (i : ℕ). vector_of (vectors_from d k at floats) i) (sym (zero-add j))
      ∙ unwritten old (vectors_from d k at floats) 0 j new [] inv.centres
      ∙ ap (λ (i : ℕ). vector_of old i) (zero-add j)

  pub centres_turn : (floats floats' : List Float) (j : ℕ) (v : List Float) → WritingCentres d k at floats₀ new floats j
      → length floats ≡ length floats₀ → j < k → floats' ≡ sets floats (at + j * d) v → v ≡ vector_of new j → length v ≡ d → WritingCentres d k at floats₀ new floats' (j + 1)
  centres_turn floats floats' j v inv size h q e n =
      let end = row-end d j k h in
      record {
        alike =
            alike_trans at (k * d) inv.alike
            (rw q (alike-sets at (k * d) floats (at + j * d) v (omega arith) (omega arith)));
        centres =
            rw q (vectors_from_write d k at floats j v n (omega arith) h)
            ∙ ap (λ (i : ℕ). set (vectors_from d k at floats) i v) (sym (zero-add j))
            ∙ write_turn old (vectors_from d k at floats) 0 j new [] v inv.centres (omega arith) e;
      }

  pub writing_end : (floats : List Float) (j : ℕ) → WritingCentres d k at floats₀ new floats j → k ≤ j → Centred d k at floats₀ new floats
  writing_end floats j inv h =
      let n : length old ≡ k = length-vectors_in d k (drop at floats₀) in
      let w : sets old 0 new ≡ new =
      sets-eq new old 0 (omega arith)
      ∙ ap (λ (r : List (List Float)). new ++ r) (drop_of_length-le old {i = 0 + length new} (omega arith))
      ∙ append-nil new in
      record {
        centres_are = write_end old (vectors_from d k at floats) 0 j k new inv.centres count h ∙ w;
        alike = inv.alike;
      }

-- ---- the first centres

-- the id number i * (n / k) is there
pub step-below : (n k i : ℕ) → 1 ≤ k → k ≤ n → i < k → i * (n / k) < n
step-below n k i h g b =
    let one : 1 ≤ n / k = (le-div_iff_mul-le h).1 (omega arith) in
    let rows : suc i * (n / k) ≤ k * (n / k) = mul-le-mul_right (n / k) b in
    omega (arith, suc-mul i (n / k), mul-div-le n k)

module _ (floats₀ : List Float) (ids : List ℕ) (d n at k : ℕ) (room : BehindVectors floats₀ ids d n at (k * d)) where
  abbrev vectors : List (List Float)
  vectors = vectors_in d n floats₀

  pub first_turn : (floats floats' : List Float) (i : ℕ) → WritingCentres d k at floats₀ (first_centres vectors ids k) floats i
      → length floats ≡ length floats₀ → i < k → i * (length ids / k) < length ids
      → floats' ≡ sets floats (at + i * d) (part (get_or ids (i * (length ids / k)) 0 * d) d floats)
      → WritingCentres d k at floats₀ (first_centres vectors ids k) floats' (i + 1)
  first_turn floats floats' i inv same h b q =
      let p : ℕ = i * (length ids / k) in
      let id : ℕ = get_or ids p 0 in
      let v : List Float = part (id * d) d floats in
      let before = vector-before d n at id room.behind (room.below p b) in
      let e : v ≡ vector_of (first_centres vectors ids k) i =
      sym (vector_of-vectors_in d n floats id (room.below p b))
      ∙ ap (λ (vs : List (List Float)). vector_of vs id) (alike-vectors d n at (k * d) floats₀ floats inv.alike room.behind)
      ∙ sym (vector_of-first_centres vectors ids k i h) in
      let size : length v ≡ d = length_part (id * d) d floats (omega (arith, room.within, before)) in
      centres_turn d k at floats₀ (first_centres vectors ids k) (length-first_centres vectors ids k) room.within floats floats' i v inv same h q e size

-- ---- the rounds

-- room is a matter of lengths
pub room-kept : (floats floats' : List Float) (ids : List ℕ) (d n at size : ℕ) → BehindVectors floats ids d n at size → length floats' ≡ length floats
    → BehindVectors floats' ids d n at size
room-kept floats floats' ids d n at size room e =
    record { below = room.below; few = room.few; behind = room.behind; within = omega (arith, room.within, e) }

module _ (ids work work' : List ℕ) (marks : List ℕ) (e : work' ≡ sets work 0 marks) (n : length marks ≡ length ids)
    (space : 2 * length ids ≤ length work) where
  pub marks_stand : take (length ids) work' ≡ marks
  marks_stand = rw e (part-written work 0 (length ids) marks n (omega arith))

  pub marks-alike : AlikeBut 0 (2 * length ids) work work'
  marks-alike = rw e (alike-sets 0 (2 * length ids) work 0 marks (omega arith) (omega arith))

-- the same of the marks by centres
module _ (floats : List Float) (ids work work' : List ℕ) (d n at k : ℕ)
    (e : work' ≡ sets work 0 (assignment (vectors_in d n floats) (vectors_from d k at floats) ids)) (space : 2 * length ids ≤ length work) where
  abbrev due : List ℕ
  due = assignment (vectors_in d n floats) (vectors_from d k at floats) ids

  pub assigned_stand : take (length ids) work' ≡ due
  assigned_stand = marks_stand ids work work' due e (length-assignment (vectors_in d n floats) (vectors_from d k at floats) ids) space

  pub assigned_alike : AlikeBut 0 (2 * length ids) work work'
  assigned_alike = marks-alike ids work work' due e (length-assignment (vectors_in d n floats) (vectors_from d k at floats) ids) space

pub kmeans_end : (d n at k : ℕ) (ids : List ℕ) (f f₁ f₂ f₃ : List Float) (w w₁ w₂ w₃ : List ℕ) → n * d ≤ at → k ≤ length ids
    → 2 * length ids ≤ length w₂
    → Centred d k at f (first_centres (vectors_in d n f) ids k) f₁
    → Centred d k at f₁ (recentre d (vectors_in d n f₁) ids (vectors_from d k at f₁)) f₂ → AlikeBut 0 (2 * length ids) w w₁
    → Centred d k at f₂ (recentre d (vectors_in d n f₂) ids (vectors_from d k at f₂)) f₃ → AlikeBut 0 (2 * length ids) w₁ w₂
    → w₃ ≡ sets w₂ 0 (assignment (vectors_in d n f₃) (vectors_from d k at f₃) ids)
    → Clustered d n at k ids f f₃ w w₃
unfolding last_centres
kmeans_end d n at k ids f f₁ f₂ f₃ w w₁ w₂ w₃ behind few space c₁ c₂ a₁ c₃ a₂ e =
    let vs : List (List Float) = vectors_in d n f in
    let v₁ : vectors_in d n f₁ ≡ vs = alike-vectors d n at (k * d) f f₁ c₁.alike behind in
    let v₂ : vectors_in d n f₂ ≡ vs = alike-vectors d n at (k * d) f₁ f₂ c₂.alike behind ∙ v₁ in
    let v₃ : vectors_in d n f₃ ≡ vs = alike-vectors d n at (k * d) f₂ f₃ c₃.alike behind ∙ v₂ in
    let m : min k (length ids) ≡ k = omega arith in
    let first : vectors_from d k at f₁ ≡ first_centres vs ids (min k (length ids)) = c₁.centres_are ∙ rw m in
    let last : vectors_from d k at f₃ ≡ recentre d vs ids (recentre d vs ids (first_centres vs ids (min k (length ids)))) =
    c₃.centres_are
    ∙ ap₂ (λ (x y : List (List Float)). recentre d x ids y) v₂
    (c₂.centres_are ∙ ap₂ (λ (x y : List (List Float)). recentre d x ids y) v₁ first) in
    record {
      marks = assigned_stand f₃ ids w₂ w₃ d n at k e space ∙ ap₂ (λ (x y : List (List Float)). assignment x y ids) v₃ last;
      floats_alike = alike_trans at (k * d) c₁.alike (alike_trans at (k * d) c₂.alike c₃.alike);
      work_alike =
          alike_trans 0 (2 * length ids) a₁ (alike_trans 0 (2 * length ids) a₂ (assigned_alike f₃ ids w₂ w₃ d n at k e space));
    }
