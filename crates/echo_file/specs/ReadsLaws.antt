-- From the decoder to the reader's answer, and back: what `Reads` says of a place is what `decode` finds there.
use Rattle.std.specs.Prelude.{ℕ, ◌-◌, ◌<◌, ◌≡◌, List, length, get_or, drop, Option, None, Some}
use Rattle.std.proofs.Common.{sym, ◌∙◌, arith}
use Rattle.lists.specs.Counting.{every-Memᴰ}
use Rattle.lists.specs.Parts.{length_part}
use Rattle.echo_file.specs.declared.Known.{Known}
use Rattle.echo_file.specs.declared.Located.{Located}
use Rattle.echo_file.specs.declared.Located.TheVariants.{Settings, Vector, Filtered, Search}
use Rattle.echo_file.specs.Format.{FileRecord, Bytes}
use Rattle.echo_file.specs.Decode.{none, found, decode}
use Rattle.lists.specs.Lists.{pieces, total}
use Rattle.echo_file.specs.Places.{Shows}
use Rattle.echo_file.specs.Reads.{bytes_between, Stands, Reads}
use Rattle.echo_file.specs.FieldLaws.{bytes_drop, lengths-pieces, label_bytes-pieces}
use Rattle.echo_file.specs.DecodeLaws.{sound, finds, none_exactly}

-- a lent list of bytes holds bytes
pub bytes_of : (file : List ℕ) → ((i : ℕ) → get_or file i 0 < 256) → Bytes file
bytes_of file h = every-Memᴰ (λ b. b < 256) file 0 (λ k l. h k)

-- What is decoded after the mark, which ends at `start`, is the reading.
pub reads : (known : Known) (file : List ℕ) (at start : ℕ) (r : Option Located) → Bytes file → at < start
    → Shows known file start (decode known (drop at file)) r → Reads known file at r
reads known file at start None h l s = (none_exactly known (drop at file) (bytes_drop at file h)).0 s.same
reads known file at start (Some (Settings d b leaf e w next)) h l s =
    record {
      begins = sound known (drop at file) _ _ (bytes_drop at file h) s.same;
      forward = omega (arith, s.placed.0);
      inside = s.placed.1;
    }
reads known file at start (Some (Vector document lengths-at labels_at floats_at next)) h l s =
    let p = s.placed in
    let size : length (bytes_between labels_at floats_at file) ≡ total (bytes_between lengths-at labels_at file) =
    length_part labels_at (floats_at - labels_at) file (omega (arith, p.2, p.3, p.4)) ∙ omega (arith, p.2) in
    record {
      labels = pieces (bytes_between lengths-at labels_at file) (bytes_between labels_at floats_at file);
      stands = record {
        begins = sound known (drop at file) _ _ (bytes_drop at file h) s.same;
        forward = omega (arith, p.0, p.1, p.2, p.3);
        inside = p.4;
      };
      lengths_order = p.1;
      lengths = sym (lengths-pieces (bytes_between lengths-at labels_at file) (bytes_between labels_at floats_at file) size);
      labels_order = omega (arith, p.2);
      bytes = sym (label_bytes-pieces (bytes_between lengths-at labels_at file) (bytes_between labels_at floats_at file) size);
      floats_end = p.3;
    }
reads known file at start (Some (Filtered k label_at floats_at next)) h l s =
    let p = s.placed in
    record {
      stands = record {
        begins = sound known (drop at file) _ _ (bytes_drop at file h) s.same;
        forward = omega (arith, p.0, p.1, p.2);
        inside = p.3;
      };
      label_order = p.1;
      floats_end = p.2;
    }
reads known file at start (Some (Search k floats_at next)) h l s =
    let p = s.placed in
    record {
      stands = record {
        begins = sound known (drop at file) _ _ (bytes_drop at file h) s.same;
        forward = omega (arith, p.0, p.1);
        inside = p.2;
      };
      floats_end = p.1;
    }

-- A `None` place decodes to nothing.
pub bad_decode : (known : Known) (file : List ℕ) (at : ℕ) → Bytes file → Reads known file at None → decode known (drop at file) ≡ none
bad_decode known file at h r = (none_exactly known (drop at file) (bytes_drop at file h)).1 r

-- A record that stands there is decoded, and the rest goes on at the next place.
pub stands-decode : {known : Known} {file : List ℕ} {at : ℕ} {r : FileRecord} {next : ℕ} → Stands known file at r next
    → decode known (drop at file) ≡ found r (drop next file)
stands-decode {known} {file} {at} {r} {next} s = finds known (drop at file) r (drop next file) s.begins
