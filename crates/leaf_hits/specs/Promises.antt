-- The contracts of gathering: the vectors that a leaf's list is about are added to those found, each of them a hit.
use Rattle.std.specs.Prelude.{ℕ, ◌+◌, ◌≤◌, ◌<◌, ◌≡◌, ◌⊎◌, Bool, true, false, ◌&&◌, List, ◌++◌, map, leb, ltb, eqb, length, get_or, take, Result, Ok, Err}
use Rattle.walk.specs.StoreView.{entries_in, end_in}
use Rattle.lists.specs.Lists.{part, keep, same_list}
use Rattle.lists.specs.Tests.{all_pass}
use Rattle.store.specs.declared.Shape.{Shape}
use Rattle.store.specs.declared.Counts.{Counts}
use Rattle.store.specs.Store.{CountsWithin, owners_at, numbers_size, hashes_size, entry_name}
use Rattle.walk.specs.Wanted.{Sought, with_label, passes, is_labels, given, most}
use Rattle.walk.specs.declared.Damaged.{Damaged}

-- the vectors that those of a list are about that have what is wanted
abbrev pub new_vectors : (ℕ → Bool) → (ℕ → ℕ) → List ℕ → List ℕ
new_vectors wants vector l = map vector (keep wants l)

-- `add_vectors` wants a block within the numbers, and room for one number more than there can be hits
pub record AddHits (numbers found : List ℕ) (before most start count : ℕ) : Type 0 where
  pub block : start + count ≤ length numbers
  pub few : before ≤ most
  pub room : most < length found

-- `add_entries` wants a store's numbers, hashes and label text
pub record AddLent (s : Shape) (c : Counts) (numbers hashes text found : List ℕ) (wanted : Sought) (before start count : ℕ) : Type 0 where
  pub within : CountsWithin s c
  pub numbers_enough : numbers_size s ≤ length numbers
  pub hashes_enough : hashes_size s ≤ length hashes
  pub text_size : s.text ≤ length text
  pub hits : AddHits numbers found before (most wanted c) start count

-- `add_chunk` wants room for every number of the block beside
pub record ChunkLent (s : Shape) (c : Counts) (numbers hashes text found : List ℕ) (before start count : ℕ) : Type 0 where
  pub within : CountsWithin s c
  pub numbers_enough : numbers_size s ≤ length numbers
  pub hashes_enough : hashes_size s ≤ length hashes
  pub text_size : s.text ≤ length text
  pub block : start + count ≤ length numbers
  pub few : before + count ≤ c.entries + 1
  pub room : c.entries < length found

-- `gather_entries`, `gather_four` and `gather_rest` want the owners from a place on, and the hashes
pub record GatherLent (c : Counts) (numbers hashes found : List ℕ) (owners before start count : ℕ) : Type 0 where
  pub owners_held : owners + c.entries ≤ length numbers
  pub hashes_held : c.entries ≤ length hashes
  pub block : start + count ≤ length numbers
  pub few : before + count ≤ c.entries + 1
  pub room : c.entries < length found

-- `keep_named` wants entries that are held, behind the numbers before
pub record KeepLent (s : Shape) (c : Counts) (numbers text found : List ℕ) (before count : ℕ) : Type 0 where
  pub within : CountsWithin s c
  pub numbers_enough : numbers_size s ≤ length numbers
  pub text_size : s.text ≤ length text
  pub few : before + count ≤ c.entries + 1
  pub room : c.entries < length found
  pub held : all_pass (λ x. ltb x c.entries) (part before count found) ≡ true

-- Numbers of vectors were added behind those before, where a list was sound
pub record Gathered (sound : Bool) (new : List ℕ) (most before : ℕ) (found : List ℕ) (total : ℕ) (found' : List ℕ) : Type 0 where
  pub pass : sound ≡ true
  pub count : total ≡ length new + before
  pub few : total ≤ most
  pub vectors : take total found' ≡ take before found ++ new

-- damage: the list is not sound, or there is one hit too many
abbrev pub GatherDamage : Bool → List ℕ → ℕ → ℕ → Type 0
GatherDamage sound new most before = (sound ≡ false) ⊎ (most < length new + before)

abbrev pub Gathers : Bool → List ℕ → ℕ → ℕ → List ℕ → Result ℕ Damaged → List ℕ → Type 0
Gathers sound new most before found (Err _) found' = GatherDamage sound new most before
Gathers sound new most before found (Ok total) found' = Gathered sound new most before found total found'

-- the same by a test of each number, whether it is wanted, and the vector that it is about
abbrev pub GatheredBy : (ℕ → Bool) → (ℕ → Bool) → (ℕ → ℕ) → ℕ → List ℕ → ℕ → List ℕ → ℕ → List ℕ → Type 0
GatheredBy test wants vector most l before found total found' = Gathered (all_pass test l) (new_vectors wants vector l) most before found total found'

abbrev pub GatherDamageBy : (ℕ → Bool) → (ℕ → Bool) → (ℕ → ℕ) → ℕ → List ℕ → ℕ → Type 0
GatherDamageBy test wants vector most l before = GatherDamage (all_pass test l) (new_vectors wants vector l) most before

abbrev pub GathersBy : (ℕ → Bool) → (ℕ → Bool) → (ℕ → ℕ) → ℕ → List ℕ → ℕ → List ℕ → Result ℕ Damaged → List ℕ → Type 0
GathersBy test wants vector most l before found r found' = Gathers (all_pass test l) (new_vectors wants vector l) most before found r found'

-- every vector of a leaf's list
abbrev pub AddedVectors : Counts → List ℕ → ℕ → List ℕ → Result ℕ Damaged → List ℕ → Type 0
AddedVectors c l before found r found' = GathersBy (λ x. ltb x c.vectors) (λ x. true) (λ x. x) c.vectors l before found r found'

-- the entries of a hash, where there is room for one more than there can be hits
abbrev pub GathersHash : Counts → List ℕ → List ℕ → ℕ → ℕ → List ℕ → ℕ → List ℕ → Result ℕ Damaged → List ℕ → Type 0
GathersHash c numbers hashes hash owners l before found r found' =
    GathersBy (λ x. ltb x c.entries && ltb (get_or numbers (owners + x) 0) c.vectors) (λ x. eqb (get_or hashes x 0) hash) (λ x. x) (c.entries + 1) l before found r found'

-- of such entries, the owners of those with a name
abbrev pub KeepsNamed : Shape → Counts → List ℕ → List ℕ → List ℕ → List ℕ → ℕ → List ℕ → Result ℕ Damaged → List ℕ → Type 0
KeepsNamed s c numbers text name l before found r found' =
    GathersBy (λ x. leb (end_in s numbers x) c.bytes) (λ x. same_list (entry_name s numbers text x) name) (λ x. get_or numbers (owners_at s + x) 0) c.entries l before found r found'

-- the owners of a label's entries
abbrev pub AddedEntries : Shape → Counts → List ℕ → List ℕ → List ℕ → ℕ → List ℕ → List ℕ → ℕ → List ℕ → Result ℕ Damaged → List ℕ → Type 0
AddedEntries s c numbers hashes text hash name l before found r found' =
    GathersBy (passes (with_label hash name) c (entries_in s numbers hashes text) (end_in s numbers)) (is_labels (entries_in s numbers hashes text) hash name)
    (λ x. get_or numbers (owners_at s + x) 0) c.entries l before found r found'

-- what is wanted
abbrev pub AddedHits : Shape → Counts → List ℕ → List ℕ → List ℕ → Sought → List ℕ → ℕ → List ℕ → Result ℕ Damaged → List ℕ → Type 0
AddedHits s c numbers hashes text wanted l before found r found' =
    Gathers (all_pass (passes wanted c (entries_in s numbers hashes text) (end_in s numbers)) l) (given wanted (entries_in s numbers hashes text) l) (most wanted c) before found r found'
