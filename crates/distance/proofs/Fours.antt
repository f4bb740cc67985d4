-- What is proved of one sum, for four side by side, each conjunct of a contract in its order; and of four and four, for eight. Assumes nothing.
use Prim.Native.Nat.{ℕ, ◌+◌, ◌-◌, ◌≤◌}
use mathlib.Core.Path.{◌≡◌, sym, ◌∙◌}
use mathlib.Core.Bool.{Bool, true, ◌&&◌}
use mathlib.Core.List.{List}
use borrow.Author.Tests.{eqb-true}
use lib.Dec.{eqb}
use lib.ListN.{length, drop}
use lib.Ieee.{Float, binary32, sub}
use Rattle.lists.specs.Tests.{and_left, and_right}
use Rattle.vector.specs.Vector.{dot, dot_from, dot_step}
use Rattle.distance.specs.Distance.{one32, distance}
use Rattle.distance.specs.DistanceLaws.{distance-alike}
use Rattle.distance.specs.declared.Four.{Four}
use Rattle.distance.proofs.Steps.{Due, due-four}

-- four facts, of four values or vectors
abbrev pub FourOf : Type 0 → Type 0 → Type 0 → Type 0 → Type 0
FourOf A B C D = record { a_value : A; b_value : B; c_value : C; d_value : D }

-- and those of four others
abbrev pub EightOf : Type 0 → Type 0 → Type 0 → Type 0 → Type 0 → Type 0 → Type 0 → Type 0 → Type 0
EightOf A B C D E F G H =
    record { a_value : A; b_value : B; c_value : C; d_value : D; a_value_2 : E; b_value_2 : F; c_value_2 : G; d_value_2 : H }

module _ {A B C D E F G H : Type 0} where
  -- four facts and those of four others are those of eight
  pub eight : FourOf A B C D → FourOf E F G H → EightOf A B C D E F G H
  eight x y =
      record {
        a_value = x.a_value;
        b_value = x.b_value;
        c_value = x.c_value;
        d_value = x.d_value;
        a_value_2 = y.a_value;
        b_value_2 = y.b_value;
        c_value_2 = y.c_value;
        d_value_2 = y.d_value;
      }

  pub front_of : EightOf A B C D E F G H → FourOf A B C D
  front_of x = record { a_value = x.a_value; b_value = x.b_value; c_value = x.c_value; d_value = x.d_value }

  pub back_of : EightOf A B C D E F G H → FourOf E F G H
  back_of x = record { a_value = x.a_value_2; b_value = x.b_value_2; c_value = x.c_value_2; d_value = x.d_value_2 }

-- the lengths are equal, as `all_equal` tests it
abbrev pub Equal : ℕ → ℕ → ℕ → ℕ → ℕ → Type 0
Equal n a b c d = record { a_len : a ≡ n; b_len : b ≡ n; c_len : c ≡ n; d_len : d ≡ n }

abbrev equals : ℕ → ℕ → ℕ → ℕ → ℕ → Bool
equals n a b c d = eqb n a && (eqb n b && (eqb n c && eqb n d))

pub equal : (n a b c d : ℕ) (r : Bool) → r ≡ equals n a b c d → r ≡ true → Equal n a b c d
equal n a b c d r is holds =
    let all : equals n a b c d ≡ true = sym is ∙ holds in
    let more = and_right (eqb n a) (eqb n b && (eqb n c && eqb n d)) all in
    let last = and_right (eqb n b) (eqb n c && eqb n d) more in
    record {
      a_len = sym (eqb-true n a (and_left (eqb n a) (eqb n b && (eqb n c && eqb n d)) all));
      b_len = sym (eqb-true n b (and_left (eqb n b) (eqb n c && eqb n d) more));
      c_len = sym (eqb-true n c (and_left (eqb n c) (eqb n d) last));
      d_len = sym (eqb-true n d (and_right (eqb n c) (eqb n d) last));
    }

-- a field: what `from_one` gives for the field's sum
field : (xs ys : List Float) (r s : Float) → length ys ≡ length xs → s ≡ dot xs ys → r ≡ sub binary32 one32 s → r ≡ distance xs ys
field xs ys r s l e f = f ∙ rw e (sym (distance-alike xs ys (sym l)))

module _ (q a b c d : List Float) where
  -- each sum is what is due from i on
  abbrev pub Dues : Four → ℕ → Type 0
  Dues s i = FourOf (Due (dot q a) s.a q a i) (Due (dot q b) s.b q b i) (Due (dot q c) s.c q c i) (Due (dot q d) s.d q d i)

  -- t is what `step_four` makes of s
  abbrev Stepped : Four → Four → ℕ → Type 0
  Stepped s t i = FourOf (t.a ≡ dot_step s.a q a i) (t.b ≡ dot_step s.b q b i) (t.c ≡ dot_step s.c q c i) (t.d ≡ dot_step s.d q d i)

  -- and `rest_four`
  abbrev Rest : Four → Four → ℕ → Type 0
  Rest s t i =
      FourOf (t.a ≡ dot_from s.a (drop i q) (drop i a)) (t.b ≡ dot_from s.b (drop i q) (drop i b))
      (t.c ≡ dot_from s.c (drop i q) (drop i c)) (t.d ≡ dot_from s.d (drop i q) (drop i d))

  -- and `from_ones`
  abbrev FromOnes : Four → Four → Type 0
  FromOnes s t =
      FourOf (t.a ≡ sub binary32 one32 s.a) (t.b ≡ sub binary32 one32 s.b)
      (t.c ≡ sub binary32 one32 s.c) (t.d ≡ sub binary32 one32 s.d)

  -- the sums of products, and the distances
  abbrev Dots : Four → Type 0
  Dots s = FourOf (s.a ≡ dot q a) (s.b ≡ dot q b) (s.c ≡ dot q c) (s.d ≡ dot q d)

  abbrev pub Distances : Four → Type 0
  Distances s = FourOf (s.a ≡ distance q a) (s.b ≡ distance q b) (s.c ≡ distance q c) (s.d ≡ distance q d)

  -- a turn
  pub dues_turn : (s t u v w : Four) (i : ℕ) → Dues s i → 4 ≤ length q - i
      → Stepped s t i → Stepped t u (i + 1) → Stepped u v (i + 2) → Stepped v w (i + 3) → Dues w (i + 4)
  dues_turn s t u v w i due more ft fu fv fw =
      record {
        a_value = due-four _ _ _ _ _ _ q a i due.a_value more ft.a_value fu.a_value fv.a_value fw.a_value;
        b_value = due-four _ _ _ _ _ _ q b i due.b_value more ft.b_value fu.b_value fv.b_value fw.b_value;
        c_value = due-four _ _ _ _ _ _ q c i due.c_value more ft.c_value fu.c_value fv.c_value fw.c_value;
        d_value = due-four _ _ _ _ _ _ q d i due.d_value more ft.d_value fu.d_value fv.d_value fw.d_value;
      }

  pub dots : (s t : Four) (i : ℕ) → Dues s i → Rest s t i → Dots t
  dots s t i due rest =
      record {
        a_value = rest.a_value ∙ sym due.a_value.1;
        b_value = rest.b_value ∙ sym due.b_value.1;
        c_value = rest.c_value ∙ sym due.c_value.1;
        d_value = rest.d_value ∙ sym due.d_value.1;
      }

  pub distances : (s t : Four) → Equal (length q) (length a) (length b) (length c) (length d) → Dots s → FromOnes s t → Distances t
  distances s t same sums ones =
      record {
        a_value = field q a _ _ same.a_len sums.a_value ones.a_value;
        b_value = field q b _ _ same.b_len sums.b_value ones.b_value;
        c_value = field q c _ _ same.c_len sums.c_value ones.c_value;
        d_value = field q d _ _ same.d_len sums.d_value ones.d_value;
      }
