-- The marks are written in the order of the ids.
use Prim.Native.Nat.{ℕ, ◌+◌, ◌-◌, ◌*◌, ◌≤◌, ◌<◌, ◌^◌}
use mathlib.Core.Path.{◌≡◌, sym, ap, ◌∙◌}
use mathlib.Core.List.{List}
use native.Mathlib.Nat.{zero-add}
use native.Mathlib.Omega.{arith}
use lib.ListN.{length, get_or, set, take, drop}
use lib.Seq.{sets}
use lib.Ieee.{Float}
use Rattle.lists.specs.Lists.{part}
use Rattle.lists.specs.Parts.{length_part, lent-run}
use Rattle.cluster.specs.Clusters.{nearest}
use Rattle.cluster.specs.Vectors.{vectors_in}
use Rattle.kmeans.specs.Marks.{assignment}
use Rattle.cluster.specs.Promises.{BehindVectors}
use Rattle.cluster.specs.VectorsLaws.{vector_of-vectors_in, vector-before}
use Rattle.kmeans.specs.MarksLaws.{length-assignment, get_d_assignment}
use Rattle.cluster.specs.ClustersLaws.{nearest-below}
use Rattle.lists.specs.Writes.{write_turn, write_end}

module _ (floats : List Float) (ids work₀ : List ℕ) (d n : ℕ) (centres : List (List Float)) (below : (i : ℕ) → i < length ids → get_or ids i 0 < n) where
  abbrev marks : List ℕ
  marks = assignment (vectors_in d n floats) centres ids

  pub assign_turn : (work : List ℕ) (i x : ℕ) → work ≡ sets work₀ 0 (take i marks) → i < length ids
      → x ≡ nearest (part (get_or ids i 0 * d) d floats) centres → set work i x ≡ sets work₀ 0 (take (i + 1) marks)
  assign_turn work i x e h q =
      ap (λ (p : ℕ). set work p x) (sym (zero-add i))
      ∙ write_turn work₀ work 0 i marks 0 x e (rw length-assignment h)
      (q
      ∙ ap (λ (v : List Float). nearest v centres) (sym (vector_of-vectors_in d n floats (get_or ids i 0) (below i h)))
      ∙ sym (get_d_assignment (vectors_in d n floats) centres ids i 0 h))

  pub assign_end : (work : List ℕ) (i : ℕ) → work ≡ sets work₀ 0 (take i marks) → length ids ≤ i → work ≡ sets work₀ 0 marks
  assign_end work i e h = write_end work₀ work 0 i (length ids) marks e (length-assignment (vectors_in d n floats) centres ids) h

-- a mark is a number of 32 bits
pub mark-fits : (v : List Float) (centres : List (List Float)) (k r : ℕ) → length centres ≡ k → r ≡ nearest v centres → 1 ≤ k → k < 2 ^ 32 → r < 2 ^ 32
mark-fits v centres k r n e h g = let b = nearest-below v centres k (omega arith) h in omega arith

-- the lent vector of an id has all components
pub lent-whole : (floats : List Float) (ids : List ℕ) (d n at size i : ℕ) → BehindVectors floats ids d n at size → i < length ids
    → length (take (get_or ids i 0 * d + d - get_or ids i 0 * d) (drop (get_or ids i 0 * d) floats)) ≡ d
lent-whole floats ids d n at size i room h =
    let start : ℕ = get_or ids i 0 * d in
    let end = vector-before d n at (get_or ids i 0) room.behind (room.below i h) in
    ap length (lent-run start d floats) ∙ length_part start d floats (omega (arith, end, room.within))
