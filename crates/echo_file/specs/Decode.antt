-- The record that some bytes begin with, computed. DecodeLaws shows that it is the format's: `decode` finds a record and a rest exactly
-- if the bytes are the record's and the rest.
use Rattle.std.specs.Prelude.{ℕ, zero, suc, ◌+◌, ◌*◌, cond, List, [], ◌∷◌, length, get_or, take, drop, eqb, leb}
use Rattle.lists.specs.Lists.{pieces, total}
use Rattle.echo_file.specs.declared.Known.{Known}
use Rattle.echo_file.specs.Format.{FileRecord, settings, vector, filtered, unfiltered}

-- what stands at the front of some bytes, and the rest; or nothing that fits
pub data Decoded (A : Type 0) : Type 0 where
  none : Decoded A
  found : A → List ℕ → Decoded A

unfoldable pub and_then : {A B : Type 0} → Decoded A → (A → List ℕ → Decoded B) → Decoded B
and_then none next = none
and_then (found a rest) next = next a rest

-- a count of bytes
unfoldable pub split : ℕ → List ℕ → Decoded (List ℕ)
split n bytes = cond (leb n (length bytes)) (found (take n bytes) (drop n bytes)) none

-- the number of some bytes, low byte first
unfoldable pub bytes_value : List ℕ → ℕ
bytes_value [] = 0
bytes_value (b ∷ bytes) = b + 256 * bytes_value bytes

-- a count in one byte, and that many bytes
unfoldable pub counted : List ℕ → Decoded (List ℕ)
unfolding and_then split bytes_value
counted bytes = and_then (split 1 bytes) (λ count rest. split (bytes_value count) rest)

-- a count of numbers, four bytes each, from the front
unfoldable pub numbers : ℕ → List ℕ → List ℕ
unfolding bytes_value
numbers zero bytes = []
numbers (suc n) bytes = bytes_value (take 4 bytes) ∷ numbers n (drop 4 bytes)

-- five numbers, as settings
unfoldable pub settings_of : List ℕ → FileRecord
settings_of ns = settings (get_or ns 0 0) (get_or ns 1 0) (get_or ns 2 0) (get_or ns 3 0) (get_or ns 4 0)

-- ---- what comes after each mark

unfoldable pub decode_settings : List ℕ → Decoded FileRecord
unfolding and_then split numbers settings_of
decode_settings bytes = and_then (split 20 bytes) (λ five rest. found (settings_of (numbers 5 five)) rest)

unfoldable pub decode_vector : Known → List ℕ → Decoded FileRecord
unfolding and_then split bytes_value counted numbers pieces total
decode_vector known bytes =
    and_then (split 4 bytes) (λ document rest.
    and_then (counted rest) (λ lengths rest.
    and_then (split (total lengths) rest) (λ labels rest.
    and_then (split (4 * known.dimension) rest) (λ floats rest.
    found (vector (bytes_value document) (pieces lengths labels) (numbers known.dimension floats)) rest))))

unfoldable pub decode_filtered : Known → List ℕ → Decoded FileRecord
unfolding and_then split bytes_value counted numbers
decode_filtered known bytes =
    and_then (split 2 bytes) (λ k rest.
    and_then (counted rest) (λ label rest.
    and_then (split (4 * known.dimension) rest) (λ floats rest.
    found (filtered (bytes_value k) label (numbers known.dimension floats)) rest)))

unfoldable pub decode_unfiltered : Known → List ℕ → Decoded FileRecord
unfolding and_then split bytes_value numbers
decode_unfiltered known bytes =
    and_then (split 2 bytes) (λ k rest.
    and_then (split (4 * known.dimension) rest) (λ floats rest.
    found (unfiltered (bytes_value k) (numbers known.dimension floats)) rest))

-- by the mark, read as a number
unfoldable pub decode_after : Known → ℕ → List ℕ → Decoded FileRecord
unfolding decode_settings decode_vector decode_filtered decode_unfiltered
decode_after known mark =
    cond (eqb mark 0x015A) decode_settings
    (cond (eqb mark 0x025A) (decode_vector known)
    (cond (eqb mark 0x045A) (decode_filtered known)
    (cond (eqb mark 0x055A) (decode_unfiltered known)
    (λ bytes. none))))

unfoldable pub decode : Known → List ℕ → Decoded FileRecord
unfolding and_then split bytes_value decode_after
decode known bytes = and_then (split 2 bytes) (λ mark rest. decode_after known (bytes_value mark) rest)
