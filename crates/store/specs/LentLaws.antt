-- Lists that are not too short are as long as the sizes. Assumes nothing.
use Rattle.std.specs.Prelude.{ℕ, ◌≤◌, Bool, false, ◌&&◌, ◌≡◌, leb}
use Rattle.std.proofs.Math.Bool.{true, not}
use borrow.Author.Tests.{leb-true, not-false}
use Rattle.lists.specs.Tests.{and_left, and_right, or_left, or_right}
use Rattle.store.specs.declared.Shape.{Shape}
use Rattle.store.specs.declared.Lengths.{Lengths}
use Rattle.store.specs.Store.{floats_size, numbers_size, hashes_size, work_size}
use Rattle.store.specs.Lent.{Long, store_short, lists_short}

module _ (s : Shape) (lent : Lengths) where
  abbrev floats_fit : Bool
  floats_fit = leb (floats_size s) lent.floats

  abbrev numbers_fit : Bool
  numbers_fit = leb (numbers_size s) lent.numbers

  abbrev hashes_fit : Bool
  hashes_fit = leb (hashes_size s) lent.hashes

  abbrev text_fits : Bool
  text_fits = leb s.text lent.text

  pub store_long : store_short s lent ≡ false → Long s lent
  unfolding store_short
  store_long e =
      let all : (floats_fit && (numbers_fit && (hashes_fit && text_fits))) ≡ true = not-false (floats_fit && (numbers_fit && (hashes_fit && text_fits))) e in
      let three = and_right floats_fit (numbers_fit && (hashes_fit && text_fits)) all in
      let two = and_right numbers_fit (hashes_fit && text_fits) three in
      record {
        floats = leb-true (floats_size s) lent.floats (and_left floats_fit (numbers_fit && (hashes_fit && text_fits)) all);
        numbers = leb-true (numbers_size s) lent.numbers (and_left numbers_fit (hashes_fit && text_fits) three);
        hashes = leb-true (hashes_size s) lent.hashes (and_left hashes_fit text_fits two);
        text = leb-true s.text lent.text (and_right hashes_fit text_fits two);
      }

  pub lists-long : (work : ℕ) → lists_short s lent work ≡ false → Long s lent × (work_size s ≤ work)
  unfolding lists_short
  lists-long work e =
      let short = not (leb (work_size s) work) in
      (store_long (or_left (store_short s lent) short e), leb-true (work_size s) work (not-false (leb (work_size s) work) (or_right (store_short s lent) short e)))
