-- The choice after sixteen centres, one after the other.
use Prim.Native.Nat.{ℕ, ◌+◌, ◌*◌, ◌/◌, ◌%◌, ◌≤◌, ◌<◌}
use mathlib.Core.Path.{◌≡◌, sym, ap, subst, ◌∙◌}
use mathlib.Core.List.{List, ◌++◌}
use native.Mathlib.Omega.{arith}
use lib.ListN.{length, get_or, length-append, get_or-append}
use lib.Seq.{get_or-append-add}
use lib.Ieee.{Float, nan, binary32, sub}
use Rattle.vector.specs.Vector.{dot}
use Rattle.distance.specs.Distance.{one32, distance}
use Rattle.distance.specs.declared.Four.{Four}
use Rattle.distance.specs.DistanceLaws.{distance-alike}
use Rattle.cluster.specs.Clusters.{vector_of}
use Rattle.nearest_centre.specs.declared.Best.{Best}
use Rattle.nearest_centre.specs.ChoiceLaws.{nearest_from-end}
use Rattle.centre_blocks.specs.declared.lanes.Sixteen.{Sixteen}
use Rattle.centre_blocks.specs.Blocks.{four_list, lanes, column, column_at, centres_in}
use Rattle.centre_blocks.specs.Choice.{to_choose, SumIs, SumsAre}
use Rattle.centre_blocks.specs.BlocksLaws.{length-column, vector_of-centres_in, length-centres_in}

-- there is no centre with the number
pub none-there : (v : List Float) (centres : List (List Float)) (i : ℕ) (best : Best) → length centres ≤ i
    → to_choose v centres i best ≡ to_choose v centres (i + 1) best
none-there v centres i best h =
    nearest_from-end v centres i best.number best.least h
    ∙ sym (nearest_from-end v centres (i + 1) best.number best.least (omega arith))

-- sums of some centres, and of those behind them
module _ (v : List Float) (centres : List (List Float)) (first : ℕ) (xs ys : List Float) (are : SumsAre v centres first (xs ++ ys)) where
  pub sums_front : SumsAre v centres first xs
  sums_front l h g =
      ap (sub binary32 one32) (sym (get_or-append xs ys nan l h))
      ∙ are l (rw length-append (omega arith)) g

  pub sums_behind : (n : ℕ) → n ≡ first + length xs → SumsAre v centres n ys
  sums_behind n q l h g =
      let e : n + l ≡ first + (length xs + l) = omega arith in
      ap (sub binary32 one32) (sym (get_or-append-add xs ys l nan))
      ∙ are (length xs + l) (rw length-append (omega arith)) (omega arith)
      ∙ ap (λ (i : ℕ). distance v (vector_of centres i)) (sym e)

-- four centres, and sixteen
module _ (v : List Float) (centres : List (List Float)) (first : ℕ) where
  on : (best : Best) {i j : ℕ} → i ≡ j → to_choose v centres i best ≡ to_choose v centres j best
  on best e = ap (λ (k : ℕ). to_choose v centres k best) e

  abbrev one_more : ℕ → Float → Best → Best → Type 0
  one_more i sum best next = SumIs v centres i sum → to_choose v centres i best ≡ to_choose v centres (i + 1) next

  pub four_chosen : (sums : Four) (best one two three four : Best) → one_more first sums.a best one → one_more (first + 1) sums.b one two
      → one_more (first + 2) sums.c two three → one_more (first + 3) sums.d three four
      → SumsAre v centres first (four_list sums) → to_choose v centres first best ≡ to_choose v centres (first + 4) four
  four_chosen sums best one two three four a b c d are =
      let start : first + 0 ≡ first = omega arith in
      a (subst (λ (i : ℕ). SumIs v centres i sums.a) start (are 0 (omega arith)))
      ∙ b (are 1 (omega arith))
      ∙ on two (omega arith)
      ∙ c (are 2 (omega arith))
      ∙ on three (omega arith)
      ∙ d (are 3 (omega arith))
      ∙ on four (omega arith)

  abbrev four_more : ℕ → Four → Best → Best → Type 0
  four_more i sums best next = SumsAre v centres i (four_list sums) → to_choose v centres i best ≡ to_choose v centres (i + 4) next

  pub sixteen_chosen : (sums : Sixteen) (best one two three four : Best) → four_more first sums.a best one → four_more (first + 4) sums.b one two
      → four_more (first + 8) sums.c two three → four_more (first + 12) sums.d three four
      → SumsAre v centres first (lanes sums) → to_choose v centres first best ≡ to_choose v centres (first + 16) four
  sixteen_chosen sums best one two three four a b c d are =
      let A = four_list sums.a in
      let B = four_list sums.b in
      let C = four_list sums.c in
      let D = four_list sums.d in
      let bcd : SumsAre v centres (first + 4) (B ++ (C ++ D)) = sums_behind v centres first A (B ++ (C ++ D)) are (first + 4) (omega arith) in
      let cd : SumsAre v centres (first + 8) (C ++ D) = sums_behind v centres (first + 4) B (C ++ D) bcd (first + 8) (omega arith) in
      a (sums_front v centres first A (B ++ (C ++ D)) are)
      ∙ b (sums_front v centres (first + 4) B (C ++ D) bcd)
      ∙ on two (omega arith)
      ∙ c (sums_front v centres (first + 8) C D cd)
      ∙ on three (omega arith)
      ∙ d (sums_behind v centres (first + 8) C D cd (first + 12) (omega arith))
      ∙ on four (omega arith)

-- the columns of a block are its centres
pub block_sums : (v blocks : List Float) (k c at : ℕ) (s : Sixteen) → at ≡ c / 16 * (length v * 16) → c % 16 ≡ 0
    → ((l : ℕ) → l < 16 → get_or (lanes s) l nan ≡ dot v (column (length v) blocks (at + l)))
    → SumsAre v (centres_in (length v) k blocks) c (lanes s)
block_sums v blocks k c at s e z f l h g =
    let n : ℕ = length v in
    let col : List Float = column n blocks (at + l) in
    let b : c + l < k = omega (arith, length-centres_in n k blocks) in
    let q : (c + l) / 16 ≡ c / 16 = omega arith in
    let r : (c + l) % 16 ≡ l = omega arith in
    let place : column_at n (c + l) ≡ at + l = rw (q, r, e) in
    ap (sub binary32 one32) (f l h)
    ∙ sym (distance-alike v col (sym (length-column n blocks (at + l))))
    ∙ ap (distance v) (sym (vector_of-centres_in n k blocks (c + l) b ∙ ap (column n blocks) place))
