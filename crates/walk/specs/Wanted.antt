-- What is wanted of a search, its cases told apart (document 01, 'Search'; 02, K4 and K1). A new case is a clause of each of these; its laws are in
-- WantedLaws.antt. A lent store and the model of all calls differ in how an entry is read alone.
use Rattle.std.specs.Prelude.{ℕ, Bool, false, not, ◌&&◌, ◌||◌, List, ◌++◌, map, leb, ltb, eqb}
use Rattle.lists.specs.Lists.{keep, is_in, same_list}
use Rattle.store.specs.declared.Counts.{Counts}
use Rattle.bloom.specs.Filter.{may_contain}
use Rattle.walk.specs.declared.Wanted.{Wanted}
use Rattle.walk.specs.declared.Label.{Label}
use Rattle.walk.specs.declared.Wanted.TheVariants.{Everything, Both}
use Rattle.walk.specs.declared.Wanted.TheVariants as wanted

-- what a search is about: every vector, those with a label, which is a hash and bytes, or those with each of two labels
pub data Sought : Type 0 where
  all_vectors : Sought
  with_label : ℕ → List ℕ → Sought
  with_both : ℕ → List ℕ → ℕ → List ℕ → Sought

-- as code has it, by the labels' hashes alone, for names of any bytes
abbrev pub sought : Wanted → List ℕ → List ℕ → Sought
sought Everything name other = all_vectors
sought (wanted.Label l) name other = with_label l.hash name
sought (Both l m) name other = with_both l.hash name m.hash other

-- the bytes of a label's name
abbrev pub name_of : Label → List ℕ
name_of l = l.first.now ++ l.second.now

-- what is wanted, by hashes and names
abbrev pub about : Wanted → Sought
about Everything = all_vectors
about (wanted.Label l) = with_label l.hash (name_of l)
about (Both l m) = with_both l.hash (name_of l) m.hash (name_of m)

-- what is read of an entry by its number: its hash, the number of the vector that owns it, and the bytes of its label
pub record EntryRead : Type 0 where
  pub hash : ℕ → ℕ
  pub owner : ℕ → ℕ
  pub name : ℕ → List ℕ

-- the two lists of a leaf
pub data LeafList : Type 0 where
  vector_list : LeafList
  entry_list : LeafList

-- 'filtered, a node whose filter denies the hash gives nothing'; 'Filters go on by hash'; 'a node whose filter denies either is opened and gives nothing'
unfoldable pub denies : Sought → List ℕ → Bool
unfolding may_contain
denies all_vectors filter = false
denies (with_label hash name) filter = not (may_contain filter hash)
denies (with_both hash name others other) filter = not (may_contain filter hash) || not (may_contain filter others)

-- 'A leaf gives its entries of that hash (unfiltered: its vectors)': the list that is read
abbrev pub list_read : Sought → LeafList
list_read all_vectors = vector_list
list_read (with_label hash name) = entry_list
list_read (with_both hash name others other) = entry_list

-- what each number of that list has to pass: 'a vector or entry number not below the count held, an entry with such an owner' is damage; so is an entry
-- 'of a hash searched for whose start plus length passes the bytes held'. `end` is where an entry's bytes end.
unfoldable pub number_held : Counts → EntryRead → ℕ → Bool
number_held c read x = ltb x c.entries && ltb (read.owner x) c.vectors

unfoldable pub text_held : Counts → EntryRead → (ℕ → ℕ) → ℕ → ℕ → Bool
text_held c read end hash x = not (eqb (read.hash x) hash) || leb (end x) c.bytes

unfoldable pub passes : Sought → Counts → EntryRead → (ℕ → ℕ) → ℕ → Bool
unfolding number_held text_held
passes all_vectors c read end x = ltb x c.vectors
passes (with_label hash name) c read end x = number_held c read x && text_held c read end hash x
passes (with_both hash name others other) c read end x = number_held c read x && (text_held c read end hash x && text_held c read end others x)

-- 'an entry is a label's if its hash and bytes are'
unfoldable pub is_labels : EntryRead → ℕ → List ℕ → ℕ → Bool
unfolding same_list
is_labels read hash name entry = eqb (read.hash entry) hash && same_list (read.name entry) name

-- the owners of a label's entries in a list
unfoldable pub owners_of : EntryRead → ℕ → List ℕ → List ℕ → List ℕ
unfolding keep is_labels
owners_of read hash name l = map read.owner (keep (is_labels read hash name) l)

-- the numbers of the vectors that the leaf gives, from the whole list: 'a leaf gives its entries of the first whose owner has one of the second there'
unfoldable pub given : Sought → EntryRead → List ℕ → List ℕ
unfolding owners_of keep is_in
given all_vectors read l = l
given (with_label hash name) read l = owners_of read hash name l
given (with_both hash name others other) read l = keep (λ v. is_in v (owners_of read others other l)) (owners_of read hash name l)

-- how many of a list's numbers are held
abbrev pub held_in : LeafList → Counts → ℕ
held_in vector_list c = c.vectors
held_in entry_list c = c.entries

-- 'one hit too many: over the entries held, unfiltered over n'
abbrev pub most : Sought → Counts → ℕ
most wanted c = held_in (list_read wanted) c
