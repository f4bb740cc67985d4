-- What the reader answers: `Reads` is the promise of `read_record`.
use Rattle.std.specs.Prelude.{ℕ, ◌+◌, ◌-◌, ◌*◌, ◌≤◌, ◌<◌, ◌≡◌, List, map, length, drop, Option, None, Some}
use Rattle.lists.specs.Lists.{part}
use Rattle.echo_file.specs.declared.Known.{Known}
use Rattle.echo_file.specs.declared.Located.{Located}
use Rattle.echo_file.specs.declared.Located.TheVariants.{Settings, Vector, Filtered, Search}
use Rattle.echo_file.specs.Format.{FileRecord, settings, vector, filtered, unfiltered, label_bytes, Begins}
use Rattle.echo_file.specs.Decode.{numbers}

-- the bytes from a place to another, `&file[from..to]`
abbrev pub bytes_between : ℕ → ℕ → List ℕ → List ℕ
bytes_between from to file = part from (to - from) file

-- the patterns of D floats from a place on
abbrev pub patterns_at : Known → List ℕ → ℕ → List ℕ
patterns_at known file at = numbers known.dimension (drop at file)

-- A record stands in the file from one place to another.
pub record Stands (known : Known) (file : List ℕ) (at : ℕ) (r : FileRecord) (next : ℕ) : Type 0 where
  pub begins : Begins known (drop at file) r (drop next file)
  pub forward : at < next
  pub inside : next ≤ length file

-- A vector stands there, its length bytes, label bytes and floats at these places.
pub record VectorStands (known : Known) (file : List ℕ) (at document lengths-at labels_at floats_at next : ℕ) : Type 0 where
  pub labels : List (List ℕ)
  pub stands : Stands known file at (vector document labels (patterns_at known file floats_at)) next
  pub lengths_order : lengths-at ≤ labels_at
  pub lengths : bytes_between lengths-at labels_at file ≡ map length labels
  pub labels_order : labels_at ≤ floats_at
  pub bytes : bytes_between labels_at floats_at file ≡ label_bytes labels
  pub floats_end : floats_at + 4 * known.dimension ≡ next

-- A filtered search stands there, its label and floats at these places.
pub record FilteredStands (known : Known) (file : List ℕ) (at k label_at floats_at next : ℕ) : Type 0 where
  pub stands : Stands known file at (filtered k (bytes_between label_at floats_at file) (patterns_at known file floats_at)) next
  pub label_order : label_at ≤ floats_at
  pub floats_end : floats_at + 4 * known.dimension ≡ next

-- A search stands there, its floats at this place.
pub record SearchStands (known : Known) (file : List ℕ) (at k floats_at next : ℕ) : Type 0 where
  pub stands : Stands known file at (unfiltered k (patterns_at known file floats_at)) next
  pub floats_end : floats_at + 4 * known.dimension ≡ next

-- The reading of a file at a place: `None` exactly where no record begins there ('unknown mark, or it ends inside a record').
abbrev pub Reads : Known → List ℕ → ℕ → Option Located → Type 0
Reads known file at None = (r : FileRecord) (rest : List ℕ) → Begins known (drop at file) r rest → ⊥
Reads known file at (Some (Settings dimension branching leaf_size ef beam next)) = Stands known file at (settings dimension branching leaf_size ef beam) next
Reads known file at (Some (Vector document lengths-at labels_at floats_at next)) = VectorStands known file at document lengths-at labels_at floats_at next
Reads known file at (Some (Filtered k label_at floats_at next)) = FilteredStands known file at k label_at floats_at next
Reads known file at (Some (Search k floats_at next)) = SearchStands known file at k floats_at next
