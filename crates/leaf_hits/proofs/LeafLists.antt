-- Gathering the vectors of a leaf's list: damage where fewer hits may be, or where there are more, and part of a block after another. Assumes nothing.
use Rattle.std.specs.Prelude.{Result}
use Prim.Native.Nat.{ℕ, ◌+◌, ◌-◌, ◌≤◌, ◌<◌}
use native.Mathlib.Omega.{arith}
use mathlib.Core.Path.{◌≡◌, ap, ◌∙◌, subst}
use mathlib.Core.Logic.{inl, inr}
use mathlib.Core.Bool.{Bool}
use mathlib.Core.List.{List}
use Rattle.lists.specs.Lists.{part}
use Rattle.lists.specs.Parts.{part-append-parts}
use Rattle.walk.specs.declared.Damaged.{Damaged}
use Rattle.leaf_hits.specs.Promises.{GatheredBy, GatherDamageBy, GathersBy}
use Rattle.leaf_hits.specs.Gathering.{gathers_append, damage-append}

-- damage where more hits may be is damage where fewer may
pub damage-fewer : (test wants : ℕ → Bool) (vector : ℕ → ℕ) (fewer most : ℕ) (l : List ℕ) (before : ℕ) → fewer ≤ most → GatherDamageBy test wants vector most l before
    → GatherDamageBy test wants vector fewer l before
damage-fewer test wants vector fewer most l before h (inl f) = inl f
damage-fewer test wants vector fewer most l before h (inr over) = inr (omega (arith, h, over))

-- more hits than there may be
pub damage-over : (test wants : ℕ → Bool) (vector : ℕ → ℕ) (fewer most : ℕ) (l : List ℕ) (before total : ℕ) (found found' : List ℕ) → fewer < total
    → GatheredBy test wants vector most l before found total found' → GatherDamageBy test wants vector fewer l before
damage-over test wants vector fewer most l before total found found' h g = inr (omega (arith, h, g.count))

-- ---- part of a block after another

module _ (test wants : ℕ → Bool) (vector : ℕ → ℕ) (most : ℕ) (numbers : List ℕ) (start before : ℕ) where
  -- of those read, and the n behind them
  pub gathers_further : (read n one : ℕ) (found found₁ found₂ : List ℕ) (r : Result ℕ Damaged)
      → GatheredBy test wants vector most (part start read numbers) before found one found₁
      → GathersBy test wants vector most (part (start + read) n numbers) one found₁ r found₂
      → GathersBy test wants vector most (part start (read + n) numbers) before found r found₂
  gathers_further read n one found found₁ found₂ r a b =
      subst (λ (l : List ℕ). GathersBy test wants vector most l before found r found₂) (part-append-parts start read n numbers)
      (gathers_append test wants vector most (part start read numbers) (part (start + read) n numbers) before one found found₁ found₂ r a b)

  -- damage in those read
  pub damage-further : (read count : ℕ) → read ≤ count → GatherDamageBy test wants vector most (part start read numbers) before
      → GatherDamageBy test wants vector most (part start count numbers) before
  damage-further read count h d =
      let left : ℕ = count - read in
      let all : read + left ≡ count = omega (arith, h) in
      subst (λ (l : List ℕ). GatherDamageBy test wants vector most l before)
      (part-append-parts start read left numbers ∙ ap (λ (n : ℕ). part start n numbers) all)
      (damage-append test wants vector most (part start read numbers) (part (start + read) left numbers) before d)
