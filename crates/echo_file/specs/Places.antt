-- What the reader's inner functions promise: numbers, places, and a reading that is what is decoded.
use Rattle.std.specs.Prelude.{ℕ, ◌+◌, ◌*◌, ◌^◌, ◌≤◌, ◌<◌, ◌≡◌, ◌≢◌, cond, List, length, drop, leb, Option, None, Some}
use Rattle.lists.specs.Lists.{part, pieces, total}
use Rattle.echo_file.specs.declared.Known.{Known}
use Rattle.std.specs.declared.ops.Range.{Range}
use Rattle.echo_file.specs.declared.Located.{Located}
use Rattle.echo_file.specs.declared.Located.TheVariants.{Settings, Vector, Filtered, Search}
use Rattle.echo_file.specs.declared.Mark.{Mark}
use Rattle.echo_file.specs.declared.Mark.TheVariants.{Settings as SettingsMark, Vector as VectorMark, Filtered as FilteredMark, Search as SearchMark}
use Rattle.echo_file.specs.Format.{FileRecord, settings, vector, filtered, unfiltered}
use Rattle.echo_file.specs.Decode.{Decoded, none, found, bytes_value, counted}
use Rattle.echo_file.specs.Reads.{bytes_between, patterns_at}

-- the number in a count of bytes from a place on
pub record NumberAt (width : ℕ) (file : List ℕ) (at n : ℕ) : Type 0 where
  pub is : n ≡ bytes_value (part at width file)
  pub below : n < 256 ^ width

-- the place after a count of bytes, in a file of a length
unfoldable pub skipped : ℕ → ℕ → ℕ → Option ℕ
skipped size at count = cond (leb (at + count) size) (Some (at + count)) None

-- a mark as a number
abbrev pub mark_number : Mark → ℕ
mark_number SettingsMark = 0x015A
mark_number VectorMark = 0x025A
mark_number FilteredMark = 0x045A
mark_number SearchMark = 0x055A

-- the mark that a number is, if any
abbrev pub IsMark : ℕ → Option Mark → Type 0
IsMark n None = (m : Mark) → n ≢ mark_number m
IsMark n (Some m) = n ≡ mark_number m

-- a count in the byte at a place, and that many bytes after it
abbrev pub counted_shown : List ℕ → Option (Range ℕ) → Decoded (List ℕ)
counted_shown file None = none
counted_shown file (Some r) = found (bytes_between r.start r.end file) (drop r.end file)

abbrev pub CountedPlaced : List ℕ → ℕ → Option (Range ℕ) → Type 0
CountedPlaced file at None = Unit
CountedPlaced file at (Some r) = (at ≤ r.start) × (r.start ≤ r.end) × (r.end ≤ length file) × (length (bytes_between r.start r.end file) < 256)

pub record CountedAt (file : List ℕ) (at : ℕ) (r : Option (Range ℕ)) : Type 0 where
  pub same : counted (drop at file) ≡ counted_shown file r
  pub placed : CountedPlaced file at r

-- The record that a reading stands for, its lists cut from the file.
abbrev pub reading_shown : Known → List ℕ → Option Located → Decoded FileRecord
reading_shown known file None = none
reading_shown known file (Some (Settings dimension branching leaf_size ef beam next)) = found (settings dimension branching leaf_size ef beam) (drop next file)
reading_shown known file (Some (Vector document lengths-at labels_at floats_at next)) =
    found
    (vector document (pieces (bytes_between lengths-at labels_at file) (bytes_between labels_at floats_at file)) (patterns_at known file floats_at))
    (drop next file)
reading_shown known file (Some (Filtered k label_at floats_at next)) =
    found (filtered k (bytes_between label_at floats_at file) (patterns_at known file floats_at)) (drop next file)
reading_shown known file (Some (Search k floats_at next)) = found (unfiltered k (patterns_at known file floats_at)) (drop next file)

-- where the parts of a reading stand, from the place after the mark on
abbrev pub PlacedBy : Known → List ℕ → ℕ → Option Located → Type 0
PlacedBy known file at None = Unit
PlacedBy known file at (Some (Settings dimension branching leaf_size ef beam next)) = (at ≤ next) × (next ≤ length file)
PlacedBy known file at (Some (Vector document lengths-at labels_at floats_at next)) =
    (at ≤ lengths-at)
    × (lengths-at ≤ labels_at)
    × (labels_at + total (bytes_between lengths-at labels_at file) ≡ floats_at)
    × (floats_at + 4 * known.dimension ≡ next)
    × (next ≤ length file)
PlacedBy known file at (Some (Filtered k label_at floats_at next)) =
    (at ≤ label_at) × (label_at ≤ floats_at) × (floats_at + 4 * known.dimension ≡ next) × (next ≤ length file)
PlacedBy known file at (Some (Search k floats_at next)) = (at ≤ floats_at) × (floats_at + 4 * known.dimension ≡ next) × (next ≤ length file)

-- The reading is what is decoded.
pub record Shows (known : Known) (file : List ℕ) (at : ℕ) (decoded : Decoded FileRecord) (reading : Option Located) : Type 0 where
  pub same : decoded ≡ reading_shown known file reading
  pub placed : PlacedBy known file at reading

-- whatever the reader knows
abbrev pub ShowsAlways : List ℕ → ℕ → Decoded FileRecord → Option Located → Type 0
ShowsAlways file at decoded reading = (known : Known) → Shows known file at decoded reading
