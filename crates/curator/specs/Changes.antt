-- The result of `new`, `add`, `take_back`, `withdraw` and `build` in full: the answer, the state, and every place of every lent list.
use Rattle.std.specs.Prelude.{ℕ, ◌+◌, ◌*◌, Bool, true, false, not, cond, List, [], ◌∷◌, ◌≡◌, ltb, eqb, Float, length, set, replicate}
use Rattle.std.proofs.lemmas.List.Edits.{sets}
use Rattle.vector.specs.Vector.{dot, Normalized}
use Rattle.store.specs.declared.Shape.{Shape}
use Rattle.store.specs.declared.Counts.{Counts}
use Rattle.store.specs.Store.{Store, owners_at, starts_at, lengths_at, live_at, centres_part, work_part, centroids_part, order_part, nodes_part, links_part, entry_order_part, filters_part}
use Rattle.tree.specs.Tree.{tree_of, size}
use Rattle.tree.specs.Nodes.{Node, nodes_of}
use Rattle.tree.specs.Layout.{numbers_of, hashes_of, floats_of}
use Rattle.lists.specs.Lists.{is_in}
use Rattle.lists.specs.Tests.{all_pass}
use Rattle.lists.specs.Frame.{Part, Freed}
use Rattle.settings.specs.declared.CuratorParams.{CuratorParams}
use Rattle.settings.specs.declared.Capacities.{Capacities}
use Rattle.curator.specs.declared.CuratorIndex.{CuratorIndex}
use Rattle.std.specs.Prelude.{Result, Ok, Err, ⊤}
use Rattle.settings.specs.declared.refusal.Refusal.{Refusal}
use Rattle.settings.specs.declared.refusal.Refusal.TheVariants as Refusal'
use Rattle.settings.specs.declared.refusal.StoreRefusal.{StoreRefusal}
use Rattle.settings.specs.declared.refusal.StoreRefusal.TheVariants.{ListTooShort, VectorsFull, EntriesFull, NodesFull, Damaged, TextFull}
use Rattle.curator.specs.Outcome.{Succeeded, ChangeRefused}
use Rattle.curator.specs.Limits.{state_sound, index_shape}
use Rattle.store.specs.Lent.{store_of, lengths_of}
use Rattle.curator.specs.Arguments.{AddCall}
use Rattle.curator.specs.Rows.{first_of, state_row, new_rows, add_rows, take_back_rows, withdraw_rows, build_rows}
use Rattle.label.specs.Names.{hashes_of_labels, starts_from, lengths_of_names, bytes_of_names}
use Rattle.curator.specs.Calls.{facts_of, held_vectors, held_documents, held_entries, held_marks, last_entries, bytes_left, splitting_of, fresh, grown, shrunk, built_with}

-- ---- free parts

-- what a call may leave other than it was, list by list
pub record Free : Type 0 where
  pub floats : List Part
  pub numbers : List Part
  pub hashes : List Part
  pub work : List Part

-- The table's last column. Row 13: 'centroids, the six per node, child links, leaf orders, filters, work, centres'; row 15: 'work'; no other row
-- has anything there.
unfoldable pub free_store : Shape → StoreRefusal → Free
free_store s ListTooShort = record { floats = []; numbers = []; hashes = []; work = [] }
free_store s VectorsFull = record { floats = []; numbers = []; hashes = []; work = [] }
free_store s EntriesFull = record { floats = []; numbers = []; hashes = []; work = [] }
free_store s NodesFull =
    record {
      floats = centroids_part s ∷ centres_part s ∷ [];
      numbers = order_part s ∷ nodes_part s ∷ links_part s ∷ entry_order_part s ∷ [];
      hashes = filters_part s ∷ [];
      work = work_part s ∷ [];
    }
free_store s Damaged = record { floats = []; numbers = []; hashes = []; work = work_part s ∷ [] }
free_store s TextFull = record { floats = []; numbers = []; hashes = []; work = [] }

unfoldable pub free_of : Shape → Refusal → Free
unfolding free_store
free_of s (Refusal'.Settings r) = record { floats = []; numbers = []; hashes = []; work = [] }
free_of s (Refusal'.State r) = record { floats = []; numbers = []; hashes = []; work = [] }
free_of s (Refusal'.Input r) = record { floats = []; numbers = []; hashes = []; work = [] }
free_of s (Refusal'.Store r) = free_store s r

-- 'Any refusal leaves state, store and answer lists unchanged; the last column names what is free.'
pub record Left (s : Shape) (r : Refusal) (store : Store) (lent : List ℕ) (store' : Store) (lent' : List ℕ) : Type 0 where
  pub floats : Freed (free_of s r).floats store.floats store'.floats
  pub numbers : Freed (free_of s r).numbers store.numbers store'.numbers
  pub hashes : Freed (free_of s r).hashes store.hashes store'.hashes
  pub text : store'.text ≡ store.text
  pub work : Freed (free_of s r).work lent lent'

-- ---- new

-- what `new` answers
unfoldable pub new_answer : Result ⊤ Refusal → ℕ → CuratorParams → Capacities → Result CuratorIndex Refusal
new_answer (Ok _) dimension params capacities = Ok (fresh dimension params capacities)
new_answer (Err r) dimension params capacities = Err r

unfoldable pub created : ℕ → CuratorParams → Capacities → Result CuratorIndex Refusal
unfolding new_answer first_of new_rows
created dimension params capacities = new_answer (first_of (new_rows dimension params capacities)) dimension params capacities

unfoldable pub NewBy : Result ⊤ Refusal → ℕ → CuratorParams → Capacities → Result CuratorIndex Refusal → Type 0
NewBy (Ok _) dimension params capacities answer = Succeeded (fresh dimension params capacities) answer
NewBy (Err r) dimension params capacities answer = ChangeRefused r answer

-- the whole result of `new`
unfoldable pub Creates : ℕ → CuratorParams → Capacities → Result CuratorIndex Refusal → Type 0
unfolding NewBy first_of new_rows
Creates dimension params capacities answer = NewBy (first_of (new_rows dimension params capacities)) dimension params capacities answer

-- ---- add

unfoldable pub add_check : CuratorIndex → Store → AddCall → Result ⊤ Refusal
unfolding first_of state_sound add_rows
add_check index store call =
    first_of (state_row (state_sound index) ∷ add_rows (facts_of index) (lengths_of store) call)

-- the numbers with start and length of each label after those held
unfoldable pub with_labels : Shape → Counts → List (List ℕ) → List ℕ → List ℕ
unfolding starts_from lengths_of_names
with_labels s held names numbers =
    sets (sets numbers (starts_at s + held.entries) (starts_from held.bytes names)) (lengths_at s + held.entries) (lengths_of_names names)

-- the numbers with a live mark of 1 for the vector after those held: 'add writes 1' (02, K10)
abbrev pub with_mark : Shape → ℕ → List ℕ → List ℕ
with_mark s vectors numbers = set numbers (live_at s + vectors) 1

-- An accepted add writes the normalised vector, the document id, and one owner and hash for each label, after those held; its start and length, and its
-- bytes after the bytes held (02, K4); the vector's live mark (02, K10); nothing else
pub record Wrote (index : CuratorIndex) (store : Store) (call : AddCall) (store' : Store) : Type 0 where
  pub stored : List Float
  pub normalized : Normalized (dot call.vector call.vector) call.vector stored
  pub floats : store'.floats ≡ sets store.floats (index.counts.vectors * index.dimension) stored
  pub numbers :
      store'.numbers
      ≡ with_mark (index_shape index) index.counts.vectors
      (with_labels (index_shape index) index.counts call.names
      (sets (set store.numbers index.counts.vectors call.document) (owners_at (index_shape index) + index.counts.entries)
      (replicate (length call.names) index.counts.vectors)))
  pub hashes : store'.hashes ≡ sets store.hashes index.counts.entries (hashes_of_labels call.names)
  pub text : store'.text ≡ sets store.text index.counts.bytes (bytes_of_names call.names)

unfoldable pub AddsBy : Result ⊤ Refusal → CuratorIndex → Store → AddCall → Result CuratorIndex Refusal → Store → Type 0
AddsBy (Ok _) index store call answer store' =
    Succeeded (grown index call.names) answer × Wrote index store call store'
AddsBy (Err r) index store call answer store' = ChangeRefused r answer × (store' ≡ store)

-- the whole result of an add: state, store and call at entry; answer and store at exit
unfoldable pub Adds : CuratorIndex → Store → AddCall → Result CuratorIndex Refusal → Store → Type 0
unfolding AddsBy add_check
Adds index store call answer store' = AddsBy (add_check index store call) index store call answer store'

-- ---- take back

unfoldable pub take_back_check : CuratorIndex → Store → Result ⊤ Refusal
unfolding first_of state_sound take_back_rows
take_back_check index store = first_of (state_row (state_sound index) ∷ take_back_rows (facts_of index) (lengths_of store))

-- 02, K3: 'the last accepted add can be taken back': the state has one vector less, and its entries at the end less; the bytes held are lowered (K4)
unfoldable pub TakesBackBy : Result ⊤ Refusal → CuratorIndex → Store → Result CuratorIndex Refusal → Type 0
unfolding last_entries bytes_left
TakesBackBy (Ok _) index store answer = Succeeded (shrunk index store) answer
TakesBackBy (Err r) index store answer = ChangeRefused r answer

-- The whole result of a taking back: state and store, and the answer. The store is lent to be read: 'places past the counts keep their numbers', and so
-- do all others.
unfoldable pub TakesBack : CuratorIndex → Store → Result CuratorIndex Refusal → Type 0
unfolding TakesBackBy take_back_check
TakesBack index store answer = TakesBackBy (take_back_check index store) index store answer

-- ---- withdraw

-- whether a vector held has a document id
unfoldable pub holds_document : CuratorIndex → Store → ℕ → Bool
unfolding is_in held_documents
holds_document index store document = is_in document (held_documents index store)

unfoldable pub withdraw_check : CuratorIndex → Store → ℕ → Result ⊤ Refusal
unfolding first_of state_sound withdraw_rows holds_document
withdraw_check index store document =
    first_of (state_row (state_sound index) ∷ withdraw_rows (facts_of index) (lengths_of store) (holds_document index store document))

-- 02, K10: 'Withdrawing a document id .. writes 0 on every vector with that id': the marks of vectors, by their document ids
unfoldable pub marks_withdrawn : ℕ → List ℕ → List ℕ → List ℕ
marks_withdrawn document [] marks = []
marks_withdrawn document (d ∷ documents) [] = []
marks_withdrawn document (d ∷ documents) (mark ∷ marks) = cond (eqb document d) 0 mark ∷ marks_withdrawn document documents marks

-- the store with these marks, and nothing else altered
unfoldable pub withdrawn_from : CuratorIndex → Store → ℕ → Store
unfolding marks_withdrawn held_documents held_marks
withdrawn_from index store document =
    store_of store.floats (sets store.numbers (live_at (index_shape index)) (marks_withdrawn document (held_documents index store) (held_marks index store)))
    store.hashes store.text

-- The whole result of withdrawing a document id: the state stays, built or not.
unfoldable pub WithdrawsBy : Result ⊤ Refusal → CuratorIndex → Store → ℕ → Result CuratorIndex Refusal → Store → Type 0
unfolding withdrawn_from
WithdrawsBy (Ok _) index store document answer store' = Succeeded index answer × (store' ≡ withdrawn_from index store document)
WithdrawsBy (Err r) index store document answer store' = ChangeRefused r answer × (store' ≡ store)

unfoldable pub Withdraws : CuratorIndex → Store → ℕ → Result CuratorIndex Refusal → Store → Type 0
unfolding WithdrawsBy withdraw_check
Withdraws index store document answer store' = WithdrawsBy (withdraw_check index store document) index store document answer store'

-- ---- build

-- 'Build's 15: an owner not below n.'
unfoldable pub owners_damaged : CuratorIndex → Store → Bool
unfolding all_pass held_entries
owners_damaged index store = not (all_pass (λ owner. ltb owner index.counts.vectors) (held_entries index store).owners)

-- 'the defined tree has more than M nodes'
unfoldable pub too_many_nodes : CuratorIndex → Store → Bool
unfolding tree_of size held_vectors
too_many_nodes index store =
    ltb index.capacities.nodes (size (tree_of (splitting_of index.dimension index.params) (held_vectors index store)))

unfoldable pub build_check : CuratorIndex → Store → List ℕ → Result ⊤ Refusal
unfolding first_of state_sound build_rows owners_damaged too_many_nodes
build_check index store work =
    first_of
    (state_row (state_sound index) ∷ build_rows (facts_of index) (lengths_of store) (length work) (owners_damaged index store) (too_many_nodes index store))

-- the nodes of the tree of what is held
unfoldable pub held_nodes : CuratorIndex → Store → List Node
unfolding nodes_of held_vectors held_entries
held_nodes index store = nodes_of (splitting_of index.dimension index.params) (held_vectors index store) (held_entries index store)

-- an accepted build of an unbuilt index lays its nodes out; 'Work and cluster centres are free after an accepted build'
pub record LaidOut (index : CuratorIndex) (store : Store) (lent : List ℕ) (store' : Store) (lent' : List ℕ) : Type 0 where
  pub centres : List Float
  pub centres_length : length centres ≡ index.dimension * index.params.branching_factor
  pub floats : store'.floats ≡ floats_of (index_shape index) (held_nodes index store) centres store.floats
  pub numbers : store'.numbers ≡ numbers_of (index_shape index) (held_nodes index store) store.numbers
  pub hashes : store'.hashes ≡ hashes_of (index_shape index) (held_nodes index store) store.hashes
  pub text : store'.text ≡ store.text
  pub work : Freed (work_part (index_shape index) ∷ []) lent lent'

unfoldable pub BuildsFine : Bool → CuratorIndex → Store → List ℕ → Result CuratorIndex Refusal → Store → List ℕ → Type 0
BuildsFine true index store work answer store' work' = Succeeded index answer × (store' ≡ store) × (work' ≡ work)
BuildsFine false index store work answer store' work' =
    Succeeded (built_with index (length (held_nodes index store))) answer × LaidOut index store work store' work'

unfoldable pub BuildsBy : Result ⊤ Refusal → CuratorIndex → Store → List ℕ → Result CuratorIndex Refusal → Store → List ℕ → Type 0
unfolding BuildsFine
BuildsBy (Ok _) index store work answer store' work' = BuildsFine index.built index store work answer store' work'
BuildsBy (Err r) index store work answer store' work' =
    ChangeRefused r answer × Left (index_shape index) r store work store' work'

-- the whole result of a build: state, store and work at entry; answer, store and work at exit
unfoldable pub Builds : CuratorIndex → Store → List ℕ → Result CuratorIndex Refusal → Store → List ℕ → Type 0
unfolding BuildsBy build_check
Builds index store work answer store' work' = BuildsBy (build_check index store work) index store work answer store' work'
