-- The contracts of adding the vectors that are wanted: marks of vectors in the front of the hits' part of the work list, the vectors found behind.
use Rattle.std.specs.Prelude.{ℕ, ◌+◌, ◌≤◌, ◌<◌, ◌≡◌, Bool, true, false, not, ◌&&◌, List, [], ◌∷◌, map, ltb, eqb, length, get_or, drop, set, ⊤, Result, Ok, Err}
use Rattle.lists.specs.Lists.{part, keep}
use Rattle.lists.specs.Tests.{all_pass}
use Rattle.store.specs.declared.Shape.{Shape}
use Rattle.store.specs.declared.Counts.{Counts}
use Rattle.store.specs.Store.{CountsWithin, numbers_size, hashes_size}
use Rattle.walk.specs.StoreView.{entries_in, end_in}
use Rattle.walk.specs.Wanted.{Sought, number_held, text_held, owners_of}
use Rattle.walk.specs.declared.Damaged.{Damaged}
use Rattle.leaf_hits.specs.Promises.{AddLent, Gathers}

-- `add_hits` wants the hits' part of the work list: a mark for each vector in its front, and the vectors found from a place behind the marks on
pub record HitsLent (s : Shape) (c : Counts) (numbers hashes text hits : List ℕ) (wanted : Sought) (from before start count : ℕ) : Type 0 where
  pub lent : AddLent s c numbers hashes text (drop from hits) wanted before start count
  pub marks : c.vectors ≤ from

-- `compare_label` wants an entry that is held
pub record CompareLent (s : Shape) (c : Counts) (numbers hashes text : List ℕ) (entry : ℕ) : Type 0 where
  pub within : CountsWithin s c
  pub numbers_enough : numbers_size s ≤ length numbers
  pub hashes_enough : hashes_size s ≤ length hashes
  pub text_size : s.text ≤ length text
  pub held : entry < c.entries

-- `clear_owners` wants the owners from a place on, and a mark for each vector
pub record ClearLent (c : Counts) (numbers marks : List ℕ) (owners start count : ℕ) : Type 0 where
  pub owners_held : owners + c.entries ≤ length numbers
  pub marks_held : c.vectors ≤ length marks
  pub block : start + count ≤ length numbers

-- `mark_owners` and `take_marked` want entries that are held, and their owners too
pub record MarkLent (s : Shape) (c : Counts) (numbers hashes text marks : List ℕ) (start count : ℕ) : Type 0 where
  pub within : CountsWithin s c
  pub numbers_enough : numbers_size s ≤ length numbers
  pub hashes_enough : hashes_size s ≤ length hashes
  pub text_size : s.text ≤ length text
  pub marks_held : c.vectors ≤ length marks
  pub block : start + count ≤ length numbers
  pub held : all_pass (number_held c (entries_in s numbers hashes text)) (part start count numbers) ≡ true

-- ---- two labels

-- an entry against a label, by whether its bytes are held if it has the hash, and whether it is the label's
abbrev pub Compares : Bool → Bool → Result Bool Damaged → Type 0
Compares held is (Err _) = held ≡ false
Compares held is (Ok b) = (held ≡ true) × (is ≡ b)

-- a number written at each of some places
unfoldable pub written : ℕ → List ℕ → List ℕ → List ℕ
written x [] l = l
written x (at ∷ places) l = written x places (set l at x)

-- whether a list passed, and then what was written
abbrev pub Writes : Bool → ℕ → List ℕ → List ℕ → Result ⊤ Damaged → List ℕ → Type 0
Writes sound x places before (Err _) after = sound ≡ false
Writes sound x places before (Ok _) after = (sound ≡ true) × (after ≡ written x places before)

-- the marks of the owners of a list's entries are cleared
abbrev pub ClearsOwners : Counts → List ℕ → ℕ → List ℕ → List ℕ → Result ⊤ Damaged → List ℕ → Type 0
ClearsOwners c numbers owners l marks r marks' =
    Writes (all_pass (λ x. ltb x c.entries && ltb (get_or numbers (owners + x) 0) c.vectors) l) 0 (map (λ x. get_or numbers (owners + x) 0) l) marks r marks'

-- the owners of a label's entries are marked
abbrev pub MarksOwners : Shape → Counts → List ℕ → List ℕ → List ℕ → ℕ → List ℕ → List ℕ → List ℕ → Result ⊤ Damaged → List ℕ → Type 0
MarksOwners s c numbers hashes text hash name l marks r marks' =
    let read = entries_in s numbers hashes text in
    Writes (all_pass (text_held c read (end_in s numbers) hash) l) 1 (owners_of read hash name l) marks r marks'

-- the owners of a label's entries that are marked are added to the vectors found
abbrev pub TakesMarked : Shape → Counts → List ℕ → List ℕ → List ℕ → ℕ → List ℕ → List ℕ → ℕ → ℕ → List ℕ → Result ℕ Damaged → List ℕ → Type 0
TakesMarked s c numbers hashes text hash name l from before hits r hits' =
    let read = entries_in s numbers hashes text in
    Gathers (all_pass (text_held c read (end_in s numbers) hash) l) (keep (λ v. not (eqb (get_or hits v 0) 0)) (owners_of read hash name l)) c.entries before (drop from hits) r (drop from hits')
