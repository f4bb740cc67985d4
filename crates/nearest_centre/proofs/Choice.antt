-- The choice of the nearest centre, centre by centre.
use Prim.Native.Nat.{ℕ, suc, ◌+◌, ◌*◌, ◌≤◌, ◌<◌}
use mathlib.Core.Path.{◌≡◌, refl, sym, ap, ap₂, ◌∙◌}
use mathlib.Core.Bool.{cond}
use mathlib.Core.List.{List, [], ◌∷◌}
use native.Mathlib.Nat.{suc-mul, add-mul, mul-le-mul_right}
use native.Mathlib.Numerals.{add-one}
use native.Mathlib.Omega.{arith}
use lib.ListN.{length, drop}
use lib.Seq.{drop-cons}
use lib.Ieee.{Float, lt}
use Rattle.lists.specs.Lists.{part}
use Rattle.distance.specs.Distance.{distance}
use Rattle.cluster.specs.Clusters.{nearest_from}
use Rattle.cluster.specs.Vectors.{vectors_from}
use Rattle.cluster.specs.VectorsLaws.{length-vectors_in, vector_of-vectors_from, row-end}
use Rattle.nearest_centre.specs.ChoiceLaws.{nearest_from-cons, nearest_from_turn, nearest_from-end}

pub nearest_turn : (floats : List Float) (v : List Float) (at k dim : ℕ) (x c best : ℕ) (least d : Float) (b : ℕ) (l : Float)
    → x ≡ nearest_from v c best least (drop c (vectors_from dim k at floats)) → c < k → d ≡ distance v (part (at + c * dim) dim floats)
    → b ≡ cond (lt d least) c best → l ≡ cond (lt d least) d least
    → x ≡ nearest_from v (c + 1) b l (drop (c + 1) (vectors_from dim k at floats))
nearest_turn floats v at k dim x c best least d b l e h f p q =
    let centres : List (List Float) = vectors_from dim k at floats in
    e
    ∙ nearest_from_turn v centres c best least d b l (rw length-vectors_in h)
    (f ∙ ap (λ (w : List Float). distance v w) (sym (vector_of-vectors_from dim k at floats c h))) p q

pub nearest-end : (floats : List Float) (v : List Float) (at k dim : ℕ) (x c best : ℕ) (least : Float)
    → x ≡ nearest_from v c best least (drop c (vectors_from dim k at floats)) → k ≤ c → best ≡ x
nearest-end floats v at k dim x c best least e h =
    sym (e ∙ nearest_from-end v (vectors_from dim k at floats) c best least (rw length-vectors_in h))

-- a centre is within the float list
pub centre_within : (at k dim n c : ℕ) → at + k * dim ≤ n → c < k → at + c * dim + dim ≤ n
centre_within at k dim n c h g = let e = row-end dim c k g in omega arith

-- ---- four centres

nearest-step : (v : List Float) (i j best : ℕ) (least : Float) (centre : List Float) (centres : List (List Float)) (d : Float) (b : ℕ) (l : Float) → j ≡ suc i
    → d ≡ distance v centre → b ≡ cond (lt d least) i best → l ≡ cond (lt d least) d least
    → nearest_from v i best least (centre ∷ centres) ≡ nearest_from v j b l centres
nearest-step v i j best least centre centres d b l n e p q =
    nearest_from-cons v i best least centre centres d b l e p q ∙ ap (λ (k : ℕ). nearest_from v k b l centres) (sym n)

pub four_steps : (v w₁ w₂ w₃ w₄ : List Float) (i b₀ b₁ b₂ b₃ b₄ : ℕ) (l₀ l₁ l₂ l₃ l₄ d₁ d₂ d₃ d₄ : Float) → d₁ ≡ distance v w₁ → d₂ ≡ distance v w₂
    → d₃ ≡ distance v w₃ → d₄ ≡ distance v w₄ → b₁ ≡ cond (lt d₁ l₀) i b₀ → l₁ ≡ cond (lt d₁ l₀) d₁ l₀ → b₂ ≡ cond (lt d₂ l₁) (i + 1) b₁
    → l₂ ≡ cond (lt d₂ l₁) d₂ l₁ → b₃ ≡ cond (lt d₃ l₂) (i + 2) b₂ → l₃ ≡ cond (lt d₃ l₂) d₃ l₂ → b₄ ≡ cond (lt d₄ l₃) (i + 3) b₃
    → l₄ ≡ cond (lt d₄ l₃) d₄ l₃ → (rest : List (List Float))
    → nearest_from v i b₀ l₀ (w₁ ∷ w₂ ∷ w₃ ∷ w₄ ∷ rest) ≡ nearest_from v (i + 4) b₄ l₄ rest
four_steps v w₁ w₂ w₃ w₄ i b₀ b₁ b₂ b₃ b₄ l₀ l₁ l₂ l₃ l₄ d₁ d₂ d₃ d₄ e₁ e₂ e₃ e₄ p₁ q₁ p₂ q₂ p₃ q₃ p₄ q₄ rest =
    nearest-step v i (i + 1) b₀ l₀ w₁ (w₂ ∷ w₃ ∷ w₄ ∷ rest) d₁ b₁ l₁ (omega arith) e₁ p₁ q₁
    ∙ nearest-step v (i + 1) (i + 2) b₁ l₁ w₂ (w₃ ∷ w₄ ∷ rest) d₂ b₂ l₂ (omega arith) e₂ p₂ q₂
    ∙ nearest-step v (i + 2) (i + 3) b₂ l₂ w₃ (w₄ ∷ rest) d₃ b₃ l₃ (omega arith) e₃ p₃ q₃
    ∙ nearest-step v (i + 3) (i + 4) b₃ l₃ w₄ rest d₄ b₄ l₄ (omega arith) e₄ p₄ q₄

drop_centre : (floats : List Float) (at k dim p c n : ℕ) → p ≡ at + c * dim → n ≡ suc c → c < k
    → drop c (vectors_from dim k at floats) ≡ part p dim floats ∷ drop n (vectors_from dim k at floats)
drop_centre floats at k dim p c n e f h =
    let centres : List (List Float) = vectors_from dim k at floats in
    let g : c < length centres = rw length-vectors_in h in
    drop-cons centres c [] g
    ∙ ap₂ (λ (x : List Float) (m : ℕ). x ∷ drop m centres)
    (vector_of-vectors_from dim k at floats c h ∙ ap (λ (x : ℕ). part x dim floats) (sym e)) (sym f)

pub four_turn : (floats v : List Float) (at k dim x c best best' : ℕ) (least least' : Float)
    → x ≡ nearest_from v c best least (drop c (vectors_from dim k at floats)) → c + 4 ≤ k
    → ((rest : List (List Float)) → nearest_from v c best least (part (at + c * dim) dim floats ∷ part (at + c * dim + dim) dim floats ∷ part (at + c * dim + dim + dim) dim floats ∷ part (at + c * dim + dim + dim + dim) dim floats ∷ rest) ≡ nearest_from v (c + 4) best' least' rest)
    → x ≡ nearest_from v (c + 4) best' least' (drop (c + 4) (vectors_from dim k at floats))
four_turn floats v at k dim x c best best' least least' e h f =
    let p : ℕ = at + c * dim in
    let centres : List (List Float) = vectors_from dim k at floats in
    let m₁ : (c + 1) * dim ≡ c * dim + dim = rw add-one (suc-mul c dim) in
    let m₂ : (c + 2) * dim ≡ (c + 1) * dim + dim = let n : c + 2 ≡ suc (c + 1) = omega arith in rw n (suc-mul (c + 1) dim) in
    let m₃ : (c + 3) * dim ≡ (c + 2) * dim + dim = let n : c + 3 ≡ suc (c + 2) = omega arith in rw n (suc-mul (c + 2) dim) in
    let split : drop c centres ≡ part p dim floats ∷ part (p + dim) dim floats ∷ part (p + dim + dim) dim floats ∷ part (p + dim + dim + dim) dim floats ∷ drop (c + 4) centres =
    drop_centre floats at k dim p c (c + 1) refl (omega arith) (omega arith)
    ∙ ap (λ (l : List (List Float)). part p dim floats ∷ l) (drop_centre floats at k dim (p + dim) (c + 1) (c + 2) (omega (arith, m₁)) (omega arith) (omega arith)
    ∙ ap (λ (l : List (List Float)). part (p + dim) dim floats ∷ l) (drop_centre floats at k dim (p + dim + dim) (c + 2) (c + 3) (omega (arith, m₁, m₂)) (omega arith) (omega arith)
    ∙ ap (λ (l : List (List Float)). part (p + dim + dim) dim floats ∷ l) (drop_centre floats at k dim (p + dim + dim + dim) (c + 3) (c + 4) (omega (arith, m₁, m₂, m₃)) (omega arith) (omega arith)))) in
    e ∙ ap (λ (l : List (List Float)). nearest_from v c best least l) split ∙ f (drop (c + 4) centres)

-- four centres are within the float list
pub four-within : (at k dim n c : ℕ) → at + k * dim ≤ n → c + 4 ≤ k → at + c * dim + 4 * dim ≤ n
four-within at k dim n c h g =
    let m : (c + 4) * dim ≤ k * dim = mul-le-mul_right dim g in
    omega (arith, add-mul c 4 dim, m)
