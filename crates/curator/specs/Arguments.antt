-- What the calls bring beside the store and the work list.
use Rattle.std.specs.Prelude.{ℕ, Bool, List, Float, length}
use Rattle.label.specs.Names.{names_of, lengths_fit}

-- what an add brings: document id, vector, whether the lengths part the label bytes into names, and the names, each joined from its two parts
pub record AddCall : Type 0 where
  pub document : ℕ
  pub vector : List Float
  pub lengths_allowed : Bool
  pub names : List (List ℕ)

-- as it is called, with label lengths and label bytes
abbrev pub add_of : ℕ → List Float → List ℕ → List ℕ → AddCall
add_of document vector lengths bytes =
    record { document = document; vector = vector; lengths_allowed = lengths_fit lengths (length bytes); names = names_of lengths bytes }

-- what a search asks for: every vector, those with a label, which is any bytes, joined from its two parts, or those with each of two labels (02, K1)
pub data Asked : Type 0 where
  everything : Asked
  labelled : List ℕ → Asked
  labelled_both : List ℕ → List ℕ → Asked

-- a question: the query, and what is asked for
pub record Question : Type 0 where
  pub query : List Float
  pub asked : Asked

-- what a search brings: a question, k, and the two answer lists
pub record SearchCall : Type 0 where
  pub question : Question
  pub k : ℕ
  pub ids : List ℕ
  pub distances : List Float

-- what the rows of a search look at: the query, k, and the lengths of the answer lists
pub record Asking : Type 0 where
  pub query : List Float
  pub k : ℕ
  pub ids : ℕ
  pub distances : ℕ

abbrev pub asking_of : SearchCall → Asking
asking_of call = record { query = call.question.query; k = call.k; ids = length call.ids; distances = length call.distances }
