-- What a loop over the components of a part leaves.
use Prim.Native.Nat.{ℕ, ◌+◌, ◌≤◌, ◌<◌}
use mathlib.Core.Path.{◌≡◌, sym, ap₂, ◌∙◌}
use mathlib.Core.List.{List, map, ◌++◌}
use native.Mathlib.Omega.{arith}
use lib.ListN.{length, get_or, take, drop}
use lib.Ieee.{Float, nan, binary32, add}
use Rattle.std.proofs.Common.{append-nil, drop_of_length-le, take_all}
use Rattle.lists.specs.Lists.{part}
use Rattle.lists.specs.Parts.{length_part, get_d_part}
use Rattle.lists.specs.Writes.{Writing, unwritten, before-written}
use Rattle.cluster.specs.Clusters.{add_vectors}
use Rattle.cluster.specs.ClustersLaws.{length-add_vectors, get_d_add_vectors}

module _ {l v m : List Float} {to n i : ℕ} (w : Writing l to n v m i) (h : i < n) where
  -- the component of a part that is read, before the part that is written and in it
  pub earlier : (from : ℕ) → from + n ≤ to → get_or m (from + i) nan ≡ get_or (part from n l) i nan
  earlier from g = before-written l m to i v (from + i) nan w.list (omega arith) ∙ sym (get_d_part from n l i nan h)

  own : get_or m (to + i) nan ≡ get_or (part to n l) i nan
  own = unwritten l m to i v nan w.list ∙ sym (get_d_part to n l i nan h)

abbrev pub sum_of : List Float → ℕ → ℕ → ℕ → List Float
sum_of l from to n = add_vectors (part to n l) (part from n l)

pub length-sum_of : (l : List Float) (from to n : ℕ) → to + n ≤ length l → length (sum_of l from to n) ≡ n
length-sum_of l from to n f = length-add_vectors (part to n l) (part from n l) ∙ length_part to n l f

pub added : (l m : List Float) (from to n i : ℕ) → Writing l to n (sum_of l from to n) m i → from + n ≤ to → to + n ≤ length l → i < n
    → add binary32 (get_or m (to + i) nan) (get_or m (from + i) nan) ≡ get_or (sum_of l from to n) i nan
added l m from to n i w g f h =
    let a : length (part to n l) ≡ n = length_part to n l f in
    let b : length (part from n l) ≡ n = length_part from n l (omega arith) in
    ap₂ (λ (x y : Float). add binary32 x y) (own w h) (earlier w h from g)
    ∙ sym (get_d_add_vectors (part to n l) (part from n l) i (omega arith) (omega arith))

-- the end of a loop that writes f x over each element x
pub mapped : (f : Float → Float) (l m : List Float) (i : ℕ) → m ≡ map f (take i l) ++ drop i l → length l ≤ i → m ≡ map f l
mapped f l m i e h = e ∙ simp (take_all i l h, drop_of_length-le l h, append-nil)
