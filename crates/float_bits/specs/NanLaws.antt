-- Which value is the NaN.
use Rattle.std.specs.Prelude.{◌≡◌, refl, true, false, not, T, Float}
use Rattle.std.proofs.Common.{sym, ◌∙◌, subst}
use Rattle.std.specs.Float.{nan, inf, fin}
use Rattle.std.specs.Float.Ieee.{is_nan, ne}
use Rattle.std.specs.Float.Ieee.Compare.{nan_differs}

pub nan_of_is_nan : (x : Float) → is_nan x ≡ true → x ≡ nan
unfolding is_nan
nan_of_is_nan nan h = refl
nan_of_is_nan (inf s) h = absurd (subst T (sym h) tt)
nan_of_is_nan (fin s m e) h = absurd (subst T (sym h) tt)

-- what equals itself is no NaN, so a program may ask for its bits
pub equal_no_nan : (x : Float) → ne x x ≡ false → T (not (is_nan x))
unfolding is_nan
equal_no_nan nan h = absurd (subst T (sym nan_differs ∙ h) tt)
equal_no_nan (inf s) h = tt
equal_no_nan (fin s m e) h = tt
