-- Document 01, 'The echo file and its printer': the format of the file, by the bytes of each record.
use Rattle.std.specs.Prelude.{ℕ, zero, suc, ◌/◌, ◌%◌, ◌^◌, ◌<◌, ◌≡◌, length}
use mathlib.Core.List.{List, [], ◌∷◌, ◌++◌, map, Memᴰ}
use Rattle.lists.specs.Lists.{joined}
use Rattle.echo_file.specs.declared.Known.{Known}

-- A record of the file. A float is its bit pattern.
pub data FileRecord : Type 0 where
  -- 'D, B, leaf size, ef, beam'
  settings : (dimension branching leaf_size ef beam : ℕ) → FileRecord
  -- 'document id, label count, that many length bytes, label bytes, D floats'
  vector : (document : ℕ) (labels : List (List ℕ)) (patterns : List ℕ) → FileRecord
  -- 'k, label length, label, D floats'
  filtered : (k : ℕ) (label : List ℕ) (patterns : List ℕ) → FileRecord
  -- 'k, D floats'
  unfiltered : (k : ℕ) (patterns : List ℕ) → FileRecord

-- 'Each record has a two-byte mark before it': 5A and a second byte
unfoldable pub mark : ℕ → List ℕ
mark second = 0x5A ∷ second ∷ []

-- 'numbers are low byte first': a number in a count of bytes
unfoldable pub number_bytes : ℕ → ℕ → List ℕ
number_bytes zero n = []
number_bytes (suc width) n = n % 256 ∷ number_bytes width (n / 256)

-- numbers of four bytes each, one after the other
unfoldable pub fours : List ℕ → List ℕ
unfolding number_bytes joined
fours ns = joined (number_bytes 4) ns

-- the bytes of all labels, one after the other
unfoldable pub label_bytes : List (List ℕ) → List ℕ
unfolding joined
label_bytes labels = joined (λ label. label) labels

-- the bytes of a record
unfoldable pub encode : FileRecord → List ℕ
unfolding mark number_bytes fours label_bytes
encode (settings dimension branching leaf_size ef beam) = mark 0x01 ++ fours (dimension ∷ branching ∷ leaf_size ∷ ef ∷ beam ∷ [])
encode (vector document labels patterns) =
    mark 0x02 ++ number_bytes 4 document ++ number_bytes 1 (length labels) ++ map length labels ++ label_bytes labels ++ fours patterns
encode (filtered k label patterns) = mark 0x04 ++ number_bytes 2 k ++ number_bytes 1 (length label) ++ label ++ fours patterns
encode (unfiltered k patterns) = mark 0x05 ++ number_bytes 2 k ++ fours patterns

-- every element of a list has a property
abbrev pub Each : {A : Type 0} → (A → Type 0) → List A → Type 0
Each {A} P l = (x : A) → Memᴰ x l → P x

-- bytes
abbrev pub Bytes : List ℕ → Type 0
Bytes l = Each (λ b. b < 256) l

-- a label of the file: its length has one byte
pub record Label (label : List ℕ) : Type 0 where
  pub short : length label < 256
  pub bytes : Bytes label

-- 'D floats'. 'Before settings, D counts as 0': then there are none.
pub record Floats (known : Known) (patterns : List ℕ) : Type 0 where
  pub count : length patterns ≡ known.dimension
  pub width : Each (λ p. p < 2 ^ 32) patterns

-- A record that the format can hold: each number fits its bytes, and there are D floats.
abbrev pub Fits : Known → FileRecord → Type 0
Fits known (settings dimension branching leaf_size ef beam) =
    (dimension < 2 ^ 32) × (branching < 2 ^ 32) × (leaf_size < 2 ^ 32) × (ef < 2 ^ 32) × (beam < 2 ^ 32)
Fits known (vector document labels patterns) = (document < 2 ^ 32) × (length labels < 256) × Each Label labels × Floats known patterns
Fits known (filtered k label patterns) = (k < 2 ^ 16) × Label label × Floats known patterns
Fits known (unfiltered k patterns) = (k < 2 ^ 16) × Floats known patterns

-- The bytes begin with the record, and the rest comes after it.
pub record Begins (known : Known) (bytes : List ℕ) (r : FileRecord) (rest : List ℕ) : Type 0 where
  pub fits : Fits known r
  pub split : bytes ≡ encode r ++ rest
