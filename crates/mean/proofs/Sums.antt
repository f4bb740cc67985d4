-- The sum and the mean of vectors, made in a part of the float list behind the vectors.
use Prim.Native.Nat.{ℕ, ◌+◌, ◌*◌, ◌≤◌, ◌<◌, ◌^◌}
use mathlib.Core.Path.{◌≡◌, sym, ap, ap₂, ◌∙◌}
use mathlib.Core.List.{List, map}
use native.Mathlib.Numerals.{add-one}
use native.Mathlib.Omega.{arith}
use lib.IntN.{pos}
use lib.ListN.{length, get_or, take, replicate, length-replicate, length-map}
use lib.Seq.{sets, take-suc, take_all}
use lib.Dec.{T, le→leb}
use lib.Ieee.{Float, binary32, div, of_int, in_float}
use Rattle.lists.specs.Lists.{part}
use Rattle.lists.specs.Parts.{length_part, part-written, part-sets-before, sets-sets-same, sets_self, take-sets}
use Rattle.vector.specs.Vector.{zero32}
use Rattle.cluster.specs.Clusters.{vector_of, add_vectors, sum_from, mean_of}
use Rattle.cluster.specs.Vectors.{vectors_in}
use Rattle.cluster.specs.Promises.{BehindVectors}
use Rattle.cluster.specs.VectorsLaws.{vector-before, vector_of-vectors_in, vectors_in-front}
use Rattle.cluster.specs.ClustersLaws.{sum_from-nil, sum_from_snoc, length-sum_from}

-- what an f32 holds of whole numbers
pub number_in_float : (n : ℕ) → n ≤ 2 ^ 24 → T (in_float binary32 (pos n))
unfolding in_float
number_in_float n h = le→leb n (2 ^ 24) h

module _ (l : List Float) (ids : List ℕ) (d n at : ℕ) (room : BehindVectors l ids d n at d) where
  abbrev vectors : List (List Float)
  vectors = vectors_in d n l

  abbrev start : List Float
  start = part at d l

  -- the sum of the first i
  abbrev due : ℕ → List Float
  due i = sum_from vectors start (take i ids)

  length-due : (i : ℕ) → length (due i) ≡ d
  length-due i = length-sum_from vectors start (take i ids) ∙ length_part at d l room.within

  due-next : (i : ℕ) → i < length ids → add_vectors (due i) (vector_of vectors (get_or ids i 0)) ≡ due (i + 1)
  due-next i h = rw (add-one, take-suc ids i 0) (sym (sum_from_snoc vectors start (take i ids) (get_or ids i 0)))

  pub sum-none : l ≡ sets l at (due 0)
  sum-none = sym (ap (λ (v : List Float). sets l at v) (sum_from-nil vectors start) ∙ sets_self l at d)

  pub sum_turn : (i : ℕ) (m m' : List Float) → m ≡ sets l at (due i) → i < length ids
      → m' ≡ sets m at (add_vectors (part at d m) (part (get_or ids i 0 * d) d m)) → m' ≡ sets l at (due (i + 1))
  sum_turn i m m' e h q =
      let id : ℕ = get_or ids i 0 in
      let own : part at d m ≡ due i = rw e (part-written l at d (due i) (length-due i) room.within) in
      let other : part (id * d) d m ≡ vector_of vectors id =
      rw e
      (part-sets-before (id * d) d l at (due i) (vector-before d n at id room.behind (room.below i h))
      ∙ sym (vector_of-vectors_in d n l id (room.below i h))) in
      let sum : add_vectors (part at d m) (part (id * d) d m) ≡ due (i + 1) =
      ap₂ (λ (x y : List Float). add_vectors x y) own other ∙ due-next i h in
      q
      ∙ ap₂ (λ (x y : List Float). sets x at y) e sum
      ∙ sets-sets-same l at (due i) (due (i + 1)) (length-due i ∙ sym (length-due (i + 1)))

  pub sum-end : (i : ℕ) (m : List Float) → m ≡ sets l at (due i) → length ids ≤ i → m ≡ sets l at (sum_from vectors start ids)
  sum-end i m e h = e ∙ ap (λ (x : List ℕ). sets l at (sum_from vectors start x)) (take_all i ids h)

  -- +0.0 in each component, the sum, then each component over the number of ids
  pub mean_end : (l₁ l₂ l₃ : List Float) → l₁ ≡ sets l at (replicate d zero32) → l₂ ≡ sets l₁ at (sum_from (vectors_in d n l₁) (part at d l₁) ids)
      → l₃ ≡ sets l₂ at (map (λ x. div binary32 x (of_int binary32 (pos (length ids)))) (part at d l₂)) → l₃ ≡ sets l at (mean_of d vectors ids)
  unfolding mean_of
  mean_end l₁ l₂ l₃ e₁ e₂ e₃ =
      let zeros : List Float = replicate d zero32 in
      let sum : List Float = sum_from vectors zeros ids in
      let nz : length zeros ≡ d = length-replicate d zero32 in
      let ns : length sum ≡ d = length-sum_from vectors zeros ids ∙ nz in
      let same : vectors_in d n l₁ ≡ vectors =
      vectors_in-front d n at l₁ l room.behind (rw e₁ (take-sets at l at zeros (omega arith))) in
      let own : part at d l₁ ≡ zeros = rw e₁ (part-written l at d zeros nz room.within) in
      let f₂ : l₂ ≡ sets l at sum =
      e₂
      ∙ ap₂ (λ (vs : List (List Float)) (s : List Float). sets l₁ at (sum_from vs s ids)) same own
      ∙ ap (λ (x : List Float). sets x at sum) e₁
      ∙ sets-sets-same l at zeros sum (nz ∙ sym ns) in
      let own₂ : part at d l₂ ≡ sum = rw f₂ (part-written l at d sum ns room.within) in
      let quotients : List Float → List Float = map (λ x. div binary32 x (of_int binary32 (pos (length ids)))) in
      e₃
      ∙ ap₂ (λ (x s : List Float). sets x at (quotients s)) f₂ own₂
      ∙ sets-sets-same l at sum (quotients sum) (sym (length-map sum (λ x. div binary32 x (of_int binary32 (pos (length ids))))))
