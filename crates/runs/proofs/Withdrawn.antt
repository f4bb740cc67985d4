-- The model after a withdrawal: a row keeps its document id, vector and labels, so all that is read off these is as it was: the counts and the state, the tree and
-- its nodes, and what each withdrawal is refused for. Withdrawing the same id again leaves the model as it is.
use Rattle.std.specs.Prelude.{ℕ, suc, Bool, not, ◌&&◌, ◌≡◌, eqb, Float}
use Rattle.std.proofs.Common.{arith, sym, ◌∙◌, subst}
use Rattle.std.proofs.Math.Bool.{true, false}
use mathlib.Core.List.{List, [], ◌∷◌, ◌++◌, map, map-map}
use Rattle.std.proofs.Math.Path.{refl, ap, ap₂}
use Rattle.std.proofs.Math.ListN.{length, replicate}
use Rattle.std.proofs.lemmas.List.{length-map}
use Rattle.lists.specs.Lists.{joined, is_in}
use Rattle.lists.specs.Maps.{map_on}
use Rattle.lists.specs.Counting.{joined-map}
use Rattle.store.specs.declared.Lengths.{Lengths}
use Rattle.store.specs.Store.{Store, centroids_at, order_at, nodes_at, links_at, entry_order_at, filters_at}
use Rattle.label.specs.Names.{bytes_of_names}
use Rattle.tree.specs.Tree.{tree_of, size}
use Rattle.tree.specs.Nodes.{Node, Entries, nodes_of}
use Rattle.tree.specs.Layout.{six_from}
use Rattle.curator.specs.Rows.{first_of, withdraw_rows}
use Rattle.curator.specs.Calls.{splitting_of}
use Rattle.runs.specs.Calls.{withdraw}
use Rattle.runs.specs.Model.{Setting, Model, ModelRow, hashes_in, setting_shape, row_vectors, row_hashes, row_documents, row_names, row_bytes, owners_from, row_entries, model_facts, node_count, model_nodes, change_check, withdraw_row, carried_out}
use Rattle.runs.proofs.State.{Within, state_for, nodes_held}
use Rattle.runs.proofs.Built.{StandsAt, Laid}

abbrev pub withdrawn : ℕ → Model → Model
withdrawn document m = record { rows = map (withdraw_row document) m.rows; built = m.built }

module _ (document : ℕ) (m : Model) where
  abbrev m' : Model
  m' = withdrawn document m

  pub rows_as_many : length m'.rows ≡ length m.rows
  rows_as_many = length-map m.rows (withdraw_row document)

  pub same-documents : row_documents m' ≡ row_documents m
  unfolding row_documents
  same-documents = map-map (λ r. r.document) (withdraw_row document) m.rows

  pub same-vectors : row_vectors m' ≡ row_vectors m
  unfolding row_vectors
  same-vectors = map-map (λ r. r.vector) (withdraw_row document) m.rows

  pub same-hashes : row_hashes m' ≡ row_hashes m
  unfolding row_hashes
  same-hashes = joined-map hashes_in (withdraw_row document) m.rows

  pub same_names : row_names m' ≡ row_names m
  unfolding row_names
  same_names = joined-map (λ r. r.names) (withdraw_row document) m.rows

  pub same_bytes : row_bytes m' ≡ row_bytes m
  unfolding row_bytes
  same_bytes = ap (λ (l : List (List ℕ)). length (bytes_of_names l)) same_names

  pub same-owners : (i : ℕ) (rows : List ModelRow) → owners_from i (map (withdraw_row document) rows) ≡ owners_from i rows
  unfolding owners_from
  same-owners i [] = refl
  same-owners i (r ∷ rows) = ap (λ (l : List ℕ). replicate (length (hashes_in r)) i ++ l) (same-owners (suc i) rows)

  same_entries : row_entries m' ≡ row_entries m
  unfolding row_entries
  same_entries = λ i. record { owners = same-owners 0 m.rows i; hashes = same-hashes i }

  same_count : (s : Setting) → node_count s m' ≡ node_count s m
  unfolding node_count
  same_count s = ap (λ (v : List (List Float)). size (tree_of (splitting_of s.dimension s.params) v)) same-vectors

  same_nodes : (s : Setting) → model_nodes s m' ≡ model_nodes s m
  unfolding model_nodes
  same_nodes s = ap₂ (λ (v : List (List Float)) (e : Entries). nodes_of (splitting_of s.dimension s.params) v e) same-vectors same_entries

  same-held-nodes : (b : Bool) (s : Setting) → nodes_held b s m' ≡ nodes_held b s m
  unfolding nodes_held
  same-held-nodes true s = same_count s
  same-held-nodes false s = refl

  pub same-state : (s : Setting) → state_for s m' ≡ state_for s m
  same-state s =
      let n = same-held-nodes m.built s in
      λ i. record {
        dimension = s.dimension;
        params = s.params;
        capacities = s.capacities;
        counts = record { vectors = rows_as_many i; entries = length (same-hashes i); nodes = n i; bytes = same_bytes i };
        built = m.built;
      }

  pub same-within : (s : Setting) → Within s m → Within s m'
  same-within s w =
      record {
        vectors = omega (arith, rows_as_many, w.vectors);
        entries = omega (arith, ap length same-hashes, w.entries);
        bytes = omega (arith, same_bytes, w.bytes);
        rows = λ b. omega (arith, rows_as_many, w.rows b);
        nodes = λ b. omega (arith, same_count s, w.nodes b);
      }

  pub same-laid : (s : Setting) (store : Store) → Laid s m store → Laid s m' store
  same-laid s store l =
      let sh = setting_shape s in
      let e : model_nodes s m ≡ model_nodes s m' = sym (same_nodes s) in
      record {
        centroids = subst (λ (N : List Node). StandsAt (centroids_at sh) (joined (λ node. node.centroid) N) store.floats) e l.centroids;
        order = subst (λ (N : List Node). StandsAt (order_at sh) (joined (λ node. node.ids) N) store.numbers) e l.order;
        six = subst (λ (N : List Node). StandsAt (nodes_at sh) (six_from 0 0 0 N) store.numbers) e l.six;
        links = subst (λ (N : List Node). StandsAt (links_at sh) (joined (λ node. node.children) N) store.numbers) e l.links;
        entries = subst (λ (N : List Node). StandsAt (entry_order_at sh) (joined (λ node. node.entries) N) store.numbers) e l.entries;
        filters = subst (λ (N : List Node). StandsAt (filters_at sh) (joined (λ node. node.filter) N) store.hashes) e l.filters;
      }

-- ---- 'withdrawing again at once succeeds and alters nothing' (02, K10)

-- every id is refused, or not, as before
pub withdraw-check : (s : Setting) (m : Model) (lent : Lengths) (work document other : ℕ)
    → change_check s (carried_out (withdraw document) m) lent work (withdraw other) ≡ change_check s m lent work (withdraw other)
unfolding change_check carried_out model_facts
withdraw-check s m lent work document other =
    λ i. first_of
    (withdraw_rows
    (record { shape = setting_shape s; vectors = rows_as_many document m i; entries = length (same-hashes document m i); bytes = same_bytes document m i; built = m.built })
    lent (is_in other (same-documents document m i)))

-- and the rows with the id are not live already
twice : (live has : Bool) → ((live && has) && has) ≡ (live && has)
twice true true = refl
twice true false = refl
twice false has = refl

pub withdraw_again : (m : Model) (document : ℕ) → carried_out (withdraw document) (carried_out (withdraw document) m) ≡ carried_out (withdraw document) m
unfolding carried_out
withdraw_again m document =
    let rows =
    map-map (withdraw_row document) (withdraw_row document) m.rows
    ∙ map_on (λ r. withdraw_row document (withdraw_row document r)) (withdraw_row document) m.rows
    (λ r k. ap (λ (b : Bool). record { document = r.document; vector = r.vector; names = r.names; live = b }) (twice r.live (not (eqb document r.document)))) in
    λ i. record { rows = rows i; built = m.built }
