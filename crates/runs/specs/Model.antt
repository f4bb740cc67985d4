-- Document 01, 'The book', here the model: 'It is written from the settings, the capacities and the calls' arguments, list lengths among them; never
-- from state, store or answers.' A line of the book is a row of the model. It says what is expected of every call, and is changed by it.
use Rattle.std.specs.Prelude.{ℕ, suc, ◌-◌, Bool, true, false, not, ◌&&◌, Result, Ok, Err, ⊤, List, [], ◌∷◌, ◌++◌, map, ltb, eqb, Float, length, get_or, take, replicate}
use Rattle.lists.specs.Lists.{joined, is_in}
use Rattle.distance.specs.Distance.{distance}
use Rattle.total_order.specs.TotalOrder.{key_of}
use Rattle.vector.specs.Normalized.{normalized}
use Rattle.store.specs.declared.Shape.{Shape}
use Rattle.store.specs.declared.Counts.{Counts}
use Rattle.store.specs.declared.Lengths.{Lengths}
use Rattle.tree.specs.Tree.{tree_of, size}
use Rattle.tree.specs.Nodes.{Node, no_node, Entries, nodes_of}
use Rattle.walk.specs.Walk.{View, Shown, State, damaged, going, children, hits, walk}
use Rattle.walk.specs.Answer.{Answer, answer, hit_of, vector_of}
use Rattle.walk.specs.Wanted.{Sought, EntryRead, LeafList, vector_list, entry_list, denies, list_read, given, most}
use Rattle.settings.specs.declared.CuratorParams.{CuratorParams}
use Rattle.settings.specs.declared.Capacities.{Capacities}
use Rattle.settings.specs.declared.refusal.Refusal.{Refusal}
use Rattle.curator.specs.Limits.{shape_of}
use Rattle.settings.specs.Refusals.{number, check_number}
use Rattle.curator.specs.Rows.{Facts, Row, first_of, add_rows, take_back_rows, withdraw_rows, build_rows, search_rows}
use Rattle.label.specs.Names.{hashes_of_labels, bytes_of_names}
use Rattle.curator.specs.Calls.{splitting_of}
use Rattle.curator.specs.Arguments.{AddCall, Question, SearchCall, asking_of}
use Rattle.curator.specs.Searches.{wanted_of}
use Rattle.runs.specs.Calls.{Change, add, take_back, withdraw, build, Call, change, search}

-- the settings and capacities of an accepted `new`
pub record Setting : Type 0 where
  pub dimension : ℕ
  pub params : CuratorParams
  pub capacities : Capacities

abbrev pub setting_shape : Setting → Shape
setting_shape s = shape_of s.dimension s.params s.capacities

-- a line: 'document id, normalised vector, each label's hash'; 'The book's lines keep their labels' bytes too' (02, K4), and a hash is that of the bytes; 'the
-- book's lines have the live mark too' (02, K10)
pub record ModelRow : Type 0 where
  pub document : ℕ
  pub vector : List Float
  pub names : List (List ℕ)
  pub live : Bool

abbrev pub hashes_in : ModelRow → List ℕ
hashes_in r = hashes_of_labels r.names

-- 'It holds lines, and whether it is built.'
pub record Model : Type 0 where
  pub rows : List ModelRow
  pub built : Bool

-- 'It begins with no line, not built.'
abbrev pub empty_model : Model
empty_model = record { rows = []; built = false }

-- 'For these, n is the number of lines, entries held are the lines' hashes, line by line, and the defined tree is over the lines' vectors in order.'
unfoldable pub row_vectors : Model → List (List Float)
row_vectors m = map (λ r. r.vector) m.rows

unfoldable pub row_hashes : Model → List ℕ
unfolding joined hashes_of_labels
row_hashes m = joined hashes_in m.rows

unfoldable pub row_documents : Model → List ℕ
row_documents m = map (λ r. r.document) m.rows

-- the labels, line by line; 'and those are its bytes held'
unfoldable pub row_names : Model → List (List ℕ)
unfolding joined
row_names m = joined (λ r. r.names) m.rows

unfoldable pub row_bytes : Model → ℕ
unfolding row_names bytes_of_names
row_bytes m = length (bytes_of_names (row_names m))

-- the number of a row, once for each of its hashes
unfoldable pub owners_from : ℕ → List ModelRow → List ℕ
unfolding hashes_of_labels
owners_from i [] = []
owners_from i (r ∷ rows) = replicate (length (hashes_in r)) i ++ owners_from (suc i) rows

unfoldable pub row_entries : Model → Entries
unfolding owners_from row_hashes
row_entries m = record { owners = owners_from 0 m.rows; hashes = row_hashes m }

unfoldable pub model_facts : Setting → Model → Facts
unfolding row_hashes row_bytes
model_facts s m =
    record { shape = setting_shape s; vectors = length m.rows; entries = length (row_hashes m); bytes = row_bytes m; built = m.built }

-- 'the book's node count is that of its tree'
unfoldable pub node_count : Setting → Model → ℕ
unfolding tree_of size row_vectors
node_count s m = size (tree_of (splitting_of s.dimension s.params) (row_vectors m))

unfoldable pub model_nodes : Setting → Model → List Node
unfolding nodes_of row_vectors row_entries
model_nodes s m = nodes_of (splitting_of s.dimension s.params) (row_vectors m) (row_entries m)

-- how many vectors, entries, nodes and bytes a built model has
abbrev pub model_counts : Setting → Model → Counts
model_counts s m = record { vectors = length m.rows; entries = length (row_hashes m); nodes = node_count s m; bytes = row_bytes m }

-- ---- the calls that change the index

-- 'Each call is put to the refusals in their order, without 4 and 15'; of the lists that it is lent the rows look at the lengths
unfoldable pub change_rows : Setting → Model → Lengths → ℕ → Change → List Row
unfolding add_rows take_back_rows withdraw_rows build_rows model_facts node_count is_in row_documents
change_rows s m lent work (add call) = add_rows (model_facts s m) lent call
change_rows s m lent work take_back = take_back_rows (model_facts s m) lent
change_rows s m lent work (withdraw document) = withdraw_rows (model_facts s m) lent (is_in document (row_documents m))
change_rows s m lent work build = build_rows (model_facts s m) lent work false (ltb s.capacities.nodes (node_count s m))

unfoldable pub change_check : Setting → Model → Lengths → ℕ → Change → Result ⊤ Refusal
unfolding first_of change_rows
change_check s m lent work c = first_of (change_rows s m lent work c)

-- 'document id, normalised vector, each label's hash', and the labels' bytes
abbrev pub new_row : AddCall → ModelRow
new_row call = record { document = call.document; vector = normalized call.vector; names = call.names; live = true }

-- the lines without the last
abbrev pub struck : List ModelRow → List ModelRow
struck rows = take (length rows - 1) rows

-- a line after a document id was withdrawn: one that has the id is not live
abbrev pub withdraw_row : ℕ → ModelRow → ModelRow
withdraw_row document r =
    record { document = r.document; vector = r.vector; names = r.names; live = r.live && not (eqb document r.document) }

-- 'Any other add writes a line at the end'; taking back 'strikes the book's last line' (02, K3); withdrawing reaches 'every vector with that id' (02, K10); 'Any
-- other build makes it built'
unfoldable pub carried_out : Change → Model → Model
unfolding normalized
carried_out (add call) m = record { rows = m.rows ++ (new_row call ∷ []); built = m.built }
carried_out take_back m = record { rows = struck m.rows; built = m.built }
carried_out (withdraw document) m = record { rows = map (withdraw_row document) m.rows; built = m.built }
carried_out build m = record { rows = m.rows; built = true }

-- 'A refused call leaves the book as it is.'
unfoldable pub changed_by : Result ⊤ Refusal → Change → Model → Model
unfolding carried_out
changed_by (Err r) c m = m
changed_by (Ok _) c m = carried_out c m

-- ---- the search over the rows and their tree: no list of a store occurs in it

abbrev pub no_row : ModelRow
no_row = record { document = 0; vector = []; names = []; live = false }

-- the hit of the row with a number: 'Distances are from the normalised query to the lines' vectors'
unfoldable pub row_hit : Model → List Float → ℕ → ℕ
row_hit m query i = hit_of (distance query (get_or m.rows i no_row).vector) (get_or m.rows i no_row).document i

-- whether the row of a hit is live: 'Every search .. gives only live vectors' (02, K10)
unfoldable pub row_live : Model → ℕ → Bool
row_live m hit = (get_or m.rows (vector_of hit) no_row).live

-- what the rows have of an entry
abbrev pub row_read : Model → EntryRead
row_read m =
    record {
      hash = λ entry. get_or (row_entries m).hashes entry 0;
      owner = λ entry. get_or (row_entries m).owners entry 0;
      name = λ entry. get_or (row_names m) entry [];
    }

-- the two lists of a node
abbrev pub node_list : LeafList → Node → List ℕ
node_list vector_list node = node.ids
node_list entry_list node = node.entries

-- what a leaf gives of the list that is read
unfoldable pub leaf_hits : Model → List Float → Sought → Node → List ℕ
unfolding row_hit row_entries row_names given
leaf_hits m query wanted node = map (row_hit m query) (given wanted (row_read m) (node_list (list_read wanted) node))

unfoldable pub node_gives : Model → List Float → Sought → Node → List ℕ → Shown
unfolding leaf_hits
node_gives m query wanted node [] = hits (leaf_hits m query wanted node)
node_gives m query wanted node (child ∷ rest) = children (child ∷ rest)

-- the view of the rows' tree
unfoldable pub tree_view : Setting → Model → List Float → Sought → View
unfolding model_nodes node_gives denies row_hashes row_bytes node_count key_of
tree_view s m query wanted =
    let nodes = model_nodes s m in
    record {
      key = λ i. key_of (distance query (get_or nodes i no_node).centroid);
      denied = λ i. denies wanted (get_or nodes i no_node).filter;
      shows = λ i. node_gives m query wanted (get_or nodes i no_node) (get_or nodes i no_node).children;
      most = most wanted (model_counts s m);
    }

-- the defined search: the walk over the rows' tree from the normalised query
unfoldable pub model_walk : Setting → Model → Question → State
unfolding walk tree_view normalized wanted_of
model_walk s m question = walk (tree_view s m (normalized question.query) (wanted_of question.asked)) s.params.ef_search

-- ---- every call

-- 'Each call is put to the refusals in their order, without 4 and 15'
unfoldable pub model_search_check : Setting → Model → Lengths → ℕ → SearchCall → Result ⊤ Refusal
unfolding first_of search_rows model_facts
model_search_check s m lent work call = first_of (search_rows (model_facts s m) lent work (asking_of call))

unfoldable pub model_check : Setting → Model → Call → Result ⊤ Refusal
unfolding change_check model_search_check
model_check s m (change fronts work c) = change_check s m fronts (length work) c
model_check s m (search fronts work call) = model_search_check s m fronts (length work) call

-- What is expected: a number (a refusal's, or 0 for a change that is carried out), or the answer of a search. The defined walk over the rows' tree is
-- never damaged; a damaged one would be matched by nothing.
pub data Expected : Type 0 where
  returns : ℕ → Expected
  answers : Answer → Expected
  nothing : Expected

-- 'Any other search is answered': by the defined walk's first k that are live
unfoldable pub answered : Model → ℕ → State → Expected
unfolding answer row_live
answered m k damaged = nothing
answered m k (going p) = answers (answer (row_live m) k p)

-- a search that is refused, and one that is not
unfoldable pub searched_by : Model → Result ⊤ Refusal → ℕ → State → Expected
unfolding answered
searched_by m (Ok _) k walked = answered m k walked
searched_by m (Err r) k walked = returns (number r)

-- what is expected of a call that is put to a model
unfoldable pub expected : Setting → Model → Call → Expected
unfolding change_check model_search_check model_walk searched_by
expected s m (change fronts work c) = returns (check_number (change_check s m fronts (length work) c))
expected s m (search fronts work call) = searched_by m (model_search_check s m fronts (length work) call) call.k (model_walk s m call.question)

-- the model after a call: 'Any other search is answered and writes nothing'
unfoldable pub after : Setting → Model → Call → Model
unfolding change_check changed_by
after s m (change fronts work c) = changed_by (change_check s m fronts (length work) c) c m
after s m (search fronts work call) = m

-- the model after a list of calls
unfoldable pub model_from : Setting → Model → List Call → Model
unfolding after
model_from s m [] = m
model_from s m (call ∷ calls) = model_from s (after s m call) calls
