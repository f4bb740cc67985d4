-- What a call is lent of a store: its lists together, their lengths, and when they are long enough. A new list is said here and in Store.antt.
use Rattle.std.specs.Prelude.{ℕ, ◌≤◌, Bool, not, ◌&&◌, ◌||◌, List, ◌++◌, leb, Float, length}
use Rattle.std.specs.Borrow.{Bor}
use Rattle.store.specs.declared.Shape.{Shape}
use Rattle.store.specs.declared.Lengths.{Lengths}
use Rattle.store.specs.declared.Lists.{Lists}
use Rattle.store.specs.Store.{Store, floats_size, numbers_size, hashes_size, work_size}

-- lists as a store
abbrev pub store_of : List Float → List ℕ → List ℕ → List ℕ → Store
store_of floats numbers hashes text = record { floats = floats; numbers = numbers; hashes = hashes; text = text }

-- lent lists as a store
abbrev pub lent : Bor (List Float) → Bor (List ℕ) → Bor (List ℕ) → Bor (List ℕ) → Store
lent floats numbers hashes text = store_of floats.now numbers.now hashes.now text.now

abbrev pub stored : Lists → Store
stored l = lent l.floats l.numbers l.hashes l.text

abbrev pub lengths_of : Store → Lengths
lengths_of store =
    record { floats = length store.floats; numbers = length store.numbers; hashes = length store.hashes; text = length store.text }

-- the sizes of 'The store', and the capacity of label text
abbrev pub sizes_of : Shape → Lengths
sizes_of s = record { floats = floats_size s; numbers = numbers_size s; hashes = hashes_size s; text = s.text }

-- no list is shorter than another's
pub record NoShorter (a b : Lengths) : Type 0 where
  pub floats : a.floats ≤ b.floats
  pub numbers : a.numbers ≤ b.numbers
  pub hashes : a.hashes ≤ b.hashes
  pub text : a.text ≤ b.text

-- long enough for a shape
abbrev pub Long : Shape → Lengths → Type 0
Long s lent = NoShorter (sizes_of s) lent

-- row 3: 'a lent store or work list too short'; add is lent no work list; 'a short byte list is 3' (02, K4)
unfoldable pub store_short : Shape → Lengths → Bool
store_short s lent =
    not (leb (floats_size s) lent.floats && (leb (numbers_size s) lent.numbers && (leb (hashes_size s) lent.hashes && leb s.text lent.text)))

unfoldable pub lists_short : Shape → Lengths → ℕ → Bool
unfolding store_short
lists_short s lent work = store_short s lent || not (leb (work_size s) work)

-- two stores one behind the other, list by list
abbrev pub join_stores : Store → Store → Store
join_stores front rest =
    store_of (front.floats ++ rest.floats) (front.numbers ++ rest.numbers) (front.hashes ++ rest.hashes) (front.text ++ rest.text)
