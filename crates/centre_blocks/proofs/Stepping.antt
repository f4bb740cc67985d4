-- Sums of products with sixteen columns, component by component.
use Prim.Native.Nat.{ℕ, zero, suc, ◌+◌, ◌*◌, ◌≤◌, ◌<◌}
use mathlib.Core.Path.{◌≡◌, refl, sym, ap, ap₂, ◌∙◌}
use mathlib.Core.List.{List, [], ◌∷◌, ◌++◌}
use native.Mathlib.Nat.{not-suc-le-zero, le_of_suc-le-suc}
use native.Mathlib.Omega.{arith}
use lib.ListN.{length, get_or, drop}
use lib.Ieee.{Float, nan, binary32, add, mul}
use Rattle.lists.specs.Lists.{part}
use Rattle.lists.specs.Parts.{length_part, get_d_part, part-four, part-append-parts}
use Rattle.vector.specs.Vector.{dot_from}
use Rattle.vector.specs.VectorLaws.{dot_from_turn, dot_from-end}
use Rattle.distance.specs.declared.Four.{Four}
use Rattle.centre_blocks.specs.declared.lanes.Sixteen.{Sixteen}
use Rattle.centre_blocks.specs.Blocks.{four_list, lanes, stepped, column}
use Rattle.centre_blocks.specs.BlocksLaws.{length-column, get_d_column}

-- four lanes
pub four-stepped : (a b c d x : Float) (l : List Float) (at : ℕ) → at + 4 ≤ length l
    → add binary32 a (mul binary32 x (get_or l at nan)) ∷ add binary32 b (mul binary32 x (get_or l (at + 1) nan)) ∷ add binary32 c (mul binary32 x (get_or l (at + 2) nan)) ∷ add binary32 d (mul binary32 x (get_or l (at + 3) nan)) ∷ []
    ≡ stepped (a ∷ b ∷ c ∷ d ∷ []) x (part at 4 l)
unfolding stepped
four-stepped a b c d x l at h = ap (stepped (a ∷ b ∷ c ∷ d ∷ []) x) (sym (part-four at l nan h))

-- sixteen lanes, by fours
stepped-append : (ss ts : List Float) (x : Float) (ys zs : List Float) → length ys ≡ length ss
    → stepped (ss ++ ts) x (ys ++ zs) ≡ stepped ss x ys ++ stepped ts x zs
unfolding stepped
stepped-append [] ts x [] zs e = refl
stepped-append [] ts x (y ∷ ys) zs e = absurd (omega arith)
stepped-append (s ∷ ss) ts x [] zs e = absurd (omega arith)
stepped-append (s ∷ ss) ts x (y ∷ ys) zs e = ap (λ (r : List Float). add binary32 s (mul binary32 x y) ∷ r) (stepped-append ss ts x ys zs (omega arith))

-- one four more in front
four_more : (f r : Four) (x : Float) (l : List Float) (at behind n : ℕ) (ss ts : List Float) → at + (4 + n) ≤ length l → behind ≡ at + 4
    → four_list r ≡ stepped (four_list f) x (part at 4 l) → ts ≡ stepped ss x (part behind n l)
    → four_list r ++ ts ≡ stepped (four_list f ++ ss) x (part at (4 + n) l)
four_more f r x l at behind n ss ts h b e g =
    ap₂ (λ (a b : List Float). a ++ b) e (g ∙ ap (λ (p : ℕ). stepped ss x (part p n l)) b)
    ∙ sym (ap (stepped (four_list f ++ ss) x) (sym (part-append-parts at 4 n l))
    ∙ stepped-append (four_list f) ss x (part at 4 l) (part (at + 4) n l) (length_part at 4 l (omega arith)))

pub sixteen_stepped : (s r : Sixteen) (x : Float) (l : List Float) (at : ℕ) → at + 16 ≤ length l
    → four_list r.a ≡ stepped (four_list s.a) x (part at 4 l) → four_list r.b ≡ stepped (four_list s.b) x (part (at + 4) 4 l)
    → four_list r.c ≡ stepped (four_list s.c) x (part (at + 8) 4 l) → four_list r.d ≡ stepped (four_list s.d) x (part (at + 12) 4 l)
    → lanes r ≡ stepped (lanes s) x (part at 16 l)
sixteen_stepped s r x l at h a b c d =
    four_more s.a r.a x l at (at + 4) 12 _ _ h refl a
    (four_more s.b r.b x l (at + 4) (at + 8) 8 _ _ (omega arith) (omega arith) b
    (four_more s.c r.c x l (at + 8) (at + 12) 4 _ _ (omega arith) (omega arith) c d))

-- ---- one lane

get_d_stepped : (ss : List Float) (x : Float) (ys : List Float) (l : ℕ) → l < length ss → l < length ys
    → get_or (stepped ss x ys) l nan ≡ add binary32 (get_or ss l nan) (mul binary32 x (get_or ys l nan))
unfolding stepped
get_d_stepped [] x ys l h g = absurd (not-suc-le-zero h)
get_d_stepped (s ∷ ss) x [] l h g = absurd (not-suc-le-zero g)
get_d_stepped (s ∷ ss) x (y ∷ ys) zero h g = refl
get_d_stepped (s ∷ ss) x (y ∷ ys) (suc l) h g = get_d_stepped ss x ys l (le_of_suc-le-suc h) (le_of_suc-le-suc g)

-- what a lane is to be is what is due of its column from component i on
pub lane_turn : (v blocks : List Float) (at i l : ℕ) (s r : Sixteen) (y : Float) → l < 16 → i < length v → at + i * 16 + 16 ≤ length blocks
    → y ≡ dot_from (get_or (lanes s) l nan) (drop i v) (drop i (column (length v) blocks (at + l)))
    → lanes r ≡ stepped (lanes s) (get_or v i nan) (part (at + i * 16) 16 blocks)
    → y ≡ dot_from (get_or (lanes r) l nan) (drop (i + 1) v) (drop (i + 1) (column (length v) blocks (at + l)))
lane_turn v blocks at i l s r y b h w e f =
    let col : List Float = column (length v) blocks (at + l) in
    let n : length col ≡ length v = length-column (length v) blocks (at + l) in
    let p : ℕ = at + i * 16 in
    let component : get_or (part p 16 blocks) l nan ≡ get_or col i nan =
    get_d_part p 16 blocks l nan b
    ∙ ap (λ (k : ℕ). get_or blocks k nan) (let q : p + l ≡ at + l + i * 16 = omega arith in q)
    ∙ sym (get_d_column (length v) blocks (at + l) i h) in
    let m : length (part p 16 blocks) ≡ 16 = length_part p 16 blocks w in
    let step : get_or (lanes r) l nan ≡ add binary32 (get_or (lanes s) l nan) (mul binary32 (get_or v i nan) (get_or col i nan)) =
    ap (λ (t : List Float). get_or t l nan) f
    ∙ get_d_stepped (lanes s) (get_or v i nan) (part p 16 blocks) l b (omega arith)
    ∙ ap (λ (c : Float). add binary32 (get_or (lanes s) l nan) (mul binary32 (get_or v i nan) c)) component in
    dot_from_turn y (get_or (lanes s) l nan) v col (length v) i e (omega arith) h
    ∙ ap (λ (a : Float). dot_from a (drop (i + 1) v) (drop (i + 1) col)) (sym step)

pub lane_end : (v blocks : List Float) (at i l : ℕ) (s : Sixteen) (y : Float) → length v ≤ i
    → y ≡ dot_from (get_or (lanes s) l nan) (drop i v) (drop i (column (length v) blocks (at + l))) → get_or (lanes s) l nan ≡ y
lane_end v blocks at i l s y h e =
    let n : length (column (length v) blocks (at + l)) ≡ length v = length-column (length v) blocks (at + l) in
    dot_from-end y (get_or (lanes s) l nan) v (column (length v) blocks (at + l)) (length v) i e (omega arith) h
