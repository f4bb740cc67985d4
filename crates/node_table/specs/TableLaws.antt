-- Laws of `written`, places written one after the other, and of `sum_to`. The places are distinct where a law says so, as those of a column are.
use Rattle.std.specs.Prelude.{ℕ, zero, suc, ◌+◌, ◌≤◌, ◌<◌, ◌≡◌, refl, ◌⊎◌, true, false, List, [], ◌∷◌, ◌++◌, map, eqb, length, get_or, set}
use Rattle.std.proofs.Common.{sym, ap, ap₂, ◌∙◌, inl, inr, not-suc-le-zero, le_of_suc-le-suc, zero-add, add-zero, add-one, arith, length-set, get_or-set_same, get_or-set_other, set-set, eqb-true}
use Rattle.std.proofs.lemmas.List.{map-append, length-map, set_comm}
use Rattle.std.proofs.Math.Arith.{lt_of_le-ne}
use Rattle.std.proofs.lemmas.Bool.{eqb-false}
use Rattle.lists.specs.Lists.{count_from}
use Rattle.lists.specs.Counting.{sum_of, sum_of-append, count_from_snoc, length-count_from, get_d_count_from}
use Rattle.lists.specs.Tests.{which}
use Rattle.lists.specs.Maps.{map_same, get_d_map}
use Rattle.node_table.specs.Table.{written, cell_at, cell, cells, column, sum_to, start_at}

-- below the last, or the last
pub last_or_below : (i n : ℕ) → i < suc n → (i ≡ n) ⊎ (i < n)
last_or_below i n h = go (which (eqb i n))
  where
    go : (eqb i n ≡ true) ⊎ (eqb i n ≡ false) → (i ≡ n) ⊎ (i < n)
    go (inl e) = inl (eqb-true i n e)
    go (inr e) = inr (lt_of_le-ne (le_of_suc-le-suc h) (eqb-false i n e))

-- no place twice
abbrev pub DistinctPlaces : (ℕ → ℕ) → ℕ → Type 0
DistinctPlaces p n = (i j : ℕ) → j < i → i < n → p i ≡ p j → ⊥

pub distinct_cells : (at n : ℕ) → DistinctPlaces (cell_at at) n
distinct_cells at n i j h g e = omega arith

fewer : (p : ℕ → ℕ) (n : ℕ) → DistinctPlaces p (suc n) → DistinctPlaces p n
fewer p n d i j h g = d i j h (let k : i < suc n = omega arith in k)

-- a turn of a loop that writes
pub written_next : (p f : ℕ → ℕ) (l : List ℕ) (i x : ℕ) (m : List ℕ) → m ≡ written p f i l → x ≡ f i → set m (p i) x ≡ written p f (i + 1) l
unfolding written
written_next p f l i x m h e = ap₂ (λ (r : List ℕ) (y : ℕ). set r (p i) y) h e ∙ ap (λ (k : ℕ). written p f k l) (sym (add-one i))

pub written_none : (p f : ℕ → ℕ) (l : List ℕ) → written p f 0 l ≡ l
unfolding written
written_none p f l = refl

pub length-written : (p f : ℕ → ℕ) (n : ℕ) (l : List ℕ) → length (written p f n l) ≡ length l
unfolding written
length-written p f zero l = refl
length-written p f (suc n) l = length-set (written p f n l) (p n) (f n) ∙ length-written p f n l

pub get_d_written_other : (p f : ℕ → ℕ) (n : ℕ) (l : List ℕ) (q : ℕ) → ((i : ℕ) → i < n → q ≡ p i → ⊥) → get_or (written p f n l) q 0 ≡ get_or l q 0
unfolding written
get_d_written_other p f zero l q h = refl
get_d_written_other p f (suc n) l q h =
    get_or-set_other (written p f n l) (p n) q (f n) 0 (h n (let k : n < suc n = omega arith in k))
    ∙ get_d_written_other p f n l q (λ i g. h i (let k : i < suc n = omega arith in k))

pub get_d_written-same : (p f : ℕ → ℕ) (n : ℕ) (l : List ℕ) (i : ℕ) → DistinctPlaces p n → i < n → p i < length l → get_or (written p f n l) (p i) 0 ≡ f i
unfolding written
get_d_written-same p f zero l i d h g = absurd (not-suc-le-zero h)
get_d_written-same p f (suc n) l i d h g = go (last_or_below i n h) (λ b. get_d_written-same p f n l i (fewer p n d) b g)
  where
    go : (i ≡ n) ⊎ (i < n) → (i < n → get_or (written p f n l) (p i) 0 ≡ f i) → get_or (set (written p f n l) (p n) (f n)) (p i) 0 ≡ f i
    go (inl e) rest =
        ap (λ (k : ℕ). get_or (set (written p f n l) (p n) (f n)) (p k) 0) e
        ∙ get_or-set_same (written p f n l) (p n) (f n) 0 (let k = length-written p f n l in let b = ap p e in omega arith)
        ∙ ap f (sym e)
    go (inr b) rest = get_or-set_other (written p f n l) (p n) (p i) (f n) 0 (λ e. d n i b (let k : n < suc n = omega arith in k) (sym e)) ∙ rest b

pub written_congr : (p q f g : ℕ → ℕ) (n : ℕ) (l : List ℕ) → ((i : ℕ) → i < n → p i ≡ q i) → ((i : ℕ) → i < n → f i ≡ g i)
    → written p f n l ≡ written q g n l
unfolding written
written_congr p q f g zero l h k = refl
written_congr p q f g (suc n) l h k =
    let b : n < suc n = omega arith in
    let m = written_congr p q f g n l (λ i c. h i (let k : i < suc n = omega arith in k)) (λ i c. k i (let k : i < suc n = omega arith in k)) in
    let x = h n b in
    let y = k n b in
    λ t. set (m t) (x t) (y t)

-- a store elsewhere, before or after
pub set-written_other : (p f : ℕ → ℕ) (n : ℕ) (l : List ℕ) (q x : ℕ) → ((i : ℕ) → i < n → q ≡ p i → ⊥)
    → set (written p f n l) q x ≡ written p f n (set l q x)
unfolding written
set-written_other p f zero l q x h = refl
set-written_other p f (suc n) l q x h =
    set_comm (written p f n l) (p n) q (f n) x (λ e. h n (let k : n < suc n = omega arith in k) (sym e))
    ∙ ap (λ (r : List ℕ). set r (p n) (f n)) (set-written_other p f n l q x (λ i g. h i (let k : i < suc n = omega arith in k)))

-- the later of two writers wins
pub written_over : (p f g : ℕ → ℕ) (n : ℕ) (l : List ℕ) → DistinctPlaces p n → written p f n (written p g n l) ≡ written p f n l
unfolding written
written_over p f g zero l d = refl
written_over p f g (suc n) l d =
    ap (λ (r : List ℕ). set r (p n) (f n))
    (sym (set-written_other p f n (written p g n l) (p n) (g n) (λ i h e. d n i h (let k : n < suc n = omega arith in k) e)))
    ∙ set-set (written p f n (written p g n l)) (p n) (g n) (f n)
    ∙ ap (λ (r : List ℕ). set r (p n) (f n)) (written_over p f g n l (fewer p n d))

-- a store at one of the places
pub set-written : (p f g : ℕ → ℕ) (n : ℕ) (l : List ℕ) (i x : ℕ) → DistinctPlaces p n → i < n → ((j : ℕ) → j < n → (j ≡ i → ⊥) → f j ≡ g j) → x ≡ g i
    → set (written p f n l) (p i) x ≡ written p g n l
unfolding written
set-written p f g zero l i x d h other e = absurd (not-suc-le-zero h)
set-written p f g (suc n) l i x d h other e =
    go (last_or_below i n h) (λ b. set-written p f g n l i x (fewer p n d) b (λ j c. other j (let k : j < suc n = omega arith in k)) e)
  where
    go : (i ≡ n) ⊎ (i < n) → (i < n → set (written p f n l) (p i) x ≡ written p g n l)
        → set (set (written p f n l) (p n) (f n)) (p i) x ≡ set (written p g n l) (p n) (g n)
    go (inl q) rest =
        ap (λ (k : ℕ). set (set (written p f n l) (p n) (f n)) (p k) x) q
        ∙ set-set (written p f n l) (p n) (f n) x
        ∙ ap₂ (λ (r : List ℕ) (y : ℕ). set r (p n) y)
        (written_congr p p f g n l (λ j b. refl) (λ j b. other j (let k : j < suc n = omega arith in k) (λ w. omega (arith, q)))) (e ∙ ap g q)
    go (inr b) rest =
        set_comm (written p f n l) (p n) (p i) (f n) x (d n i b (let k : n < suc n = omega arith in k))
        ∙ ap₂ (λ (r : List ℕ) (y : ℕ). set r (p n) y) (rest b) (other n (let k : n < suc n = omega arith in k) (λ w. omega arith))

-- ---- sums

pub sum_to_le : (f : ℕ → ℕ) (i n : ℕ) → i ≤ n → sum_to f i ≤ sum_to f n
unfolding sum_to
sum_to_le f i zero h = let e : i ≡ 0 = omega arith in let k = ap (sum_to f) e in omega arith
sum_to_le f i (suc n) h = go (last_or_below i (suc n) (let k : i < suc (suc n) = omega arith in k)) (λ b. sum_to_le f i n b)
  where
    go : (i ≡ suc n) ⊎ (i < suc n) → (i ≤ n → sum_to f i ≤ sum_to f n) → sum_to f i ≤ sum_to f n + f n
    go (inl e) rest = let k = ap (sum_to f) e in omega arith
    go (inr b) rest = let r = rest (le_of_suc-le-suc b) in omega arith

pub sum_to-next : (f : ℕ → ℕ) (i n : ℕ) → i < n → sum_to f i + f i ≤ sum_to f n
unfolding sum_to
sum_to-next f i n h = sum_to_le f (suc i) n h

pub sum_to-suc : (f : ℕ → ℕ) (i : ℕ) → sum_to f (i + 1) ≡ sum_to f i + f i
unfolding sum_to
sum_to-suc f i = ap (sum_to f) (add-one i)

pub sum-none : (f : ℕ → ℕ) → 0 ≡ sum_to f 0
unfolding sum_to
sum-none f = refl

-- two writers that share no place
pub written_comm : (p f : ℕ → ℕ) (n : ℕ) (q g : ℕ → ℕ) (m : ℕ) (l : List ℕ) → ((i j : ℕ) → i < n → j < m → p i ≡ q j → ⊥)
    → written p f n (written q g m l) ≡ written q g m (written p f n l)
unfolding written
written_comm p f zero q g m l h = refl
written_comm p f (suc n) q g m l h =
    ap (λ (r : List ℕ). set r (p n) (f n)) (written_comm p f n q g m l (λ i j a b. h i j (let k : i < suc n = omega arith in k) b))
    ∙ set-written_other q g m (written p f n l) (p n) (f n) (λ j b. h n j (let k : n < suc n = omega arith in k) b)

pub sum_to_congr : (f g : ℕ → ℕ) (n : ℕ) → ((i : ℕ) → i < n → f i ≡ g i) → sum_to f n ≡ sum_to g n
unfolding sum_to
sum_to_congr f g zero h = refl
sum_to_congr f g (suc n) h =
    ap₂ (λ (a b : ℕ). a + b) (sum_to_congr f g n (λ i b. h i (let k : i < suc n = omega arith in k))) (h n (let k : n < suc n = omega arith in k))

pub start_at-some : (at n : ℕ) → 0 < n → start_at at n ≡ at
unfolding start_at
start_at-some at zero h = absurd (omega arith)
start_at-some at (suc n) h = refl

-- ---- columns

pub length-cells : (at rows : ℕ) (l : List ℕ) → length (cells at rows l) ≡ rows
length-cells at rows l = length-map (count_from 0 rows) (cell at l) ∙ length-count_from 0 rows

pub get_d_cells : (at rows : ℕ) (l : List ℕ) (i : ℕ) → i < rows → get_or (cells at rows l) i 0 ≡ cell at l i
get_d_cells at rows l i h =
    get_d_map (cell at l) (count_from 0 rows) i 0 0 (let n = length-count_from 0 rows in omega arith)
    ∙ ap (cell at l) (get_d_count_from 0 rows i 0 h ∙ (let e : 0 + i ≡ i = omega arith in e))

-- a column's sum, and a column that another leaves as it was
pub sum-cells : (at n : ℕ) (l : List ℕ) → sum_to (cell at l) n ≡ sum_of (λ c. c) (cells at n l)
unfolding sum_to sum_of count_from
sum-cells at zero l = refl
sum-cells at (suc n) l =
    let z = zero-add n in
    ap₂ (λ (a b : ℕ). a + b) (sum-cells at n l) (sym (add-zero (cell at l n)))
    ∙ sym (ap (λ (r : List ℕ). sum_of (λ c. c) (map (cell at l) r)) (count_from_snoc 0 n ∙ ap (λ (k : ℕ). count_from 0 n ++ (k ∷ [])) z)
    ∙ ap (sum_of (λ c. c)) (map-append (cell at l) (count_from 0 n) (n ∷ []))
    ∙ sum_of-append (λ c. c) (cells at n l) (cell at l n ∷ []))

pub cells-kept : (at n : ℕ) (f : ℕ → ℕ) (l m : List ℕ) → m ≡ column at n f l → cells (at + 1) n m ≡ cells (at + 1) n l
cells-kept at n f l m h =
    ap (cells (at + 1) n) h
    ∙ map_same (cell (at + 1) (column at n f l)) (cell (at + 1) l) (count_from 0 n) 0
    (λ k b. get_d_written_other (cell_at at) f n l (cell_at (at + 1) (get_or (count_from 0 n) k 0)) (λ i c w. omega arith))
