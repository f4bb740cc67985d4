-- Each kind of record at its places: the decoder goes from part to part as the reader skips, and ends where a skip is cut.
use Prim.Native.Nat.{ℕ, ◌+◌, ◌-◌, ◌*◌, ◌<◌}
use mathlib.Core.Path.{◌≡◌, refl, sym, ap, ◌∙◌}
use mathlib.Core.List.{List}
use native.Mathlib.Nat.{add-zero}
use native.Mathlib.Omega.{arith}
use borrow.Author.Tests.{ne_eqb}
use lib.ListN.{get_or, drop}
use Rattle.lists.specs.Parts.{part-part}
use Rattle.echo_file.specs.declared.Known.{Known}
use Rattle.std.specs.Prelude.{None, Some}
use Rattle.std.specs.declared.ops.Range.{Range}
use Rattle.echo_file.specs.declared.Mark.TheVariants.{Settings as SettingsMark, Vector as VectorMark, Filtered as FilteredMark, Search as SearchMark}
use Rattle.echo_file.specs.declared.Located.TheVariants.{Settings, Vector, Filtered, Search}
use Rattle.echo_file.specs.Format.{FileRecord}
use Rattle.echo_file.specs.Decode.{Decoded, none, and_then, bytes_value, counted, numbers, settings_of, decode_settings, decode_vector, decode_filtered, decode_unfiltered, decode_after, decode}
use Rattle.lists.specs.Lists.{total}
use Rattle.echo_file.specs.Places.{NumberAt, CountedAt, Shows, IsMark}
use Rattle.echo_file.specs.Reads.{bytes_between}
use Rattle.echo_file.specs.FieldLaws.{get_d_numbers}
use Rattle.echo_file.proofs.Skips.{Skip, Ends, skip-end, skip-length, split_goes, split-ends, goes, ends, number_is, patterns_between}

-- one of the five numbers of settings
five_at : (file : List ℕ) (at k : ℕ) {next n : ℕ} → Skip file at 20 next → k < 5 → NumberAt 4 file (at + 4 * k) n
    → get_or (numbers 5 (bytes_between at next file)) k 0 ≡ n
five_at file at k {next} five h n-is =
    get_d_numbers 5 k (bytes_between at next file) h
    ∙ ap bytes_value (part-part at (next - at) (4 * k) 4 file (omega (arith, five.place)))
    ∙ sym n-is.is

-- a count and the bytes that it counts
module _ {B : Type 0} {file : List ℕ} {at : ℕ} (next : List ℕ → List ℕ → Decoded B) where
  pub counted-ends : CountedAt file at None → and_then (counted (drop at file)) next ≡ none
  unfolding and_then
  counted-ends cut = rw cut.same

  pub counted-goes : {r : Range ℕ} → CountedAt file at (Some r) → and_then (counted (drop at file)) next ≡ next (bytes_between r.start r.end file) (drop r.end file)
  unfolding and_then
  counted-goes part = rw part.same

pub counted_cut_count : {file : List ℕ} {at : ℕ} → Ends file at 1 → CountedAt file at None
unfolding counted
counted_cut_count cut = record { same = ends _ refl cut; placed = tt }

module _ {file : List ℕ} {at from count : ℕ} (one : Skip file at 1 from) (count_is : NumberAt 1 file at count) where
  pub counted_cut : Ends file from count → CountedAt file at None
  unfolding counted
  counted_cut cut = record { same = goes _ refl one ∙ split-ends (number_is one count_is) cut; placed = tt }

  pub counted-bytes : {to : ℕ} → Skip file from count to → CountedAt file at (Some (record { start = from; end = to }))
  unfolding counted
  counted-bytes {to} part = record {
    same = goes _ refl one ∙ split_goes (number_is one count_is) part;
    placed = (omega (arith, one.place), omega (arith, part.place), skip-end part, omega (arith, skip-length part, count_is.below));
  }

-- nothing is decoded
pub bad : {decoded : Decoded FileRecord} (known : Known) (file : List ℕ) (at : ℕ) → decoded ≡ none → Shows known file at decoded None
bad known file at e = record { same = e; placed = tt }

module _ (known : Known) (file : List ℕ) (at : ℕ) where
  -- ---- settings

  pub settings_cut : Ends file at 20 → decode_settings (drop at file) ≡ none
  unfolding decode_settings
  settings_cut cut = ends _ refl cut

  pub settings-shows : {next d b l e w : ℕ} → Skip file at 20 next → NumberAt 4 file at d → NumberAt 4 file (at + 4) b → NumberAt 4 file (at + 8) l
      → NumberAt 4 file (at + 12) e → NumberAt 4 file (at + 16) w
      → Shows known file at (decode_settings (drop at file)) (Some (Settings d b l e w next))
  unfolding decode_settings settings_of
  settings-shows {next} {d} {b} {l} {e} {w} five d-is b-is l-is e-is w-is = record {
    same =
        let first : NumberAt 4 file (at + 4 * 0) d = rw add-zero d-is in
        goes _ refl five
        ∙ cc (
          five_at file at 0 five (omega arith) first,
          five_at file at 1 five (omega arith) b-is,
          five_at file at 2 five (omega arith) l-is,
          five_at file at 3 five (omega arith) e-is,
          five_at file at 4 five (omega arith) w-is,
        );
    placed = (omega (arith, five.place), omega (arith, five.inside, five.place));
  }

  -- ---- a vector

  pub vector_cut : Ends file at 4 → decode_vector known (drop at file) ≡ none
  unfolding decode_vector
  vector_cut cut = ends _ refl cut

  module _ {count_at : ℕ} (id : Skip file at 4 count_at) where
    pub vector_cut_lengths : CountedAt file count_at None → decode_vector known (drop at file) ≡ none
    unfolding decode_vector
    vector_cut_lengths cut = goes _ refl id ∙ counted-ends _ cut

    module _ {lengths-at labels_at all : ℕ} (lengths : CountedAt file count_at (Some (record { start = lengths-at; end = labels_at })))
        (all-is : all ≡ total (bytes_between lengths-at labels_at file)) where
      pub vector_cut_labels : Ends file labels_at all → decode_vector known (drop at file) ≡ none
      unfolding decode_vector
      vector_cut_labels cut = goes _ refl id ∙ counted-goes _ lengths ∙ ends _ (sym all-is) cut

      module _ {floats_at : ℕ} (labels : Skip file labels_at all floats_at) where
        pub vector_cut_floats : Ends file floats_at (4 * known.dimension) → decode_vector known (drop at file) ≡ none
        unfolding decode_vector
        vector_cut_floats cut = goes _ refl id ∙ counted-goes _ lengths ∙ goes _ (sym all-is) labels ∙ ends _ refl cut

        pub vector-shows : {next document : ℕ} → Skip file floats_at (4 * known.dimension) next → NumberAt 4 file at document
            → Shows known file at (decode_vector known (drop at file)) (Some (Vector document lengths-at labels_at floats_at next))
        unfolding decode_vector
        vector-shows {next} {document} floats document-is = record {
          same =
              goes _ refl id ∙ counted-goes _ lengths ∙ goes _ (sym all-is) labels ∙ goes _ refl floats
              ∙ cc (number_is id document-is, patterns_between known file floats);
          placed = (
            omega (arith, id.place, lengths.placed.0),
            lengths.placed.1,
            omega (arith, labels.place),
            sym floats.place,
            omega (arith, floats.inside, floats.place),
          );
        }

  -- ---- a filtered search

  pub filtered_cut : Ends file at 2 → decode_filtered known (drop at file) ≡ none
  unfolding decode_filtered
  filtered_cut cut = ends _ refl cut

  module _ {length_at : ℕ} (k-part : Skip file at 2 length_at) where
    pub filtered_cut_label : CountedAt file length_at None → decode_filtered known (drop at file) ≡ none
    unfolding decode_filtered
    filtered_cut_label cut = goes _ refl k-part ∙ counted-ends _ cut

    module _ {label_at floats_at : ℕ} (label : CountedAt file length_at (Some (record { start = label_at; end = floats_at }))) where
      pub filtered_cut_floats : Ends file floats_at (4 * known.dimension) → decode_filtered known (drop at file) ≡ none
      unfolding decode_filtered
      filtered_cut_floats cut = goes _ refl k-part ∙ counted-goes _ label ∙ ends _ refl cut

      pub filtered-shows : {next k : ℕ} → Skip file floats_at (4 * known.dimension) next → NumberAt 2 file at k
          → Shows known file at (decode_filtered known (drop at file)) (Some (Filtered k label_at floats_at next))
      unfolding decode_filtered
      filtered-shows {next} {k} floats k-is = record {
        same =
            goes _ refl k-part ∙ counted-goes _ label ∙ goes _ refl floats ∙ cc (number_is k-part k-is, patterns_between known file floats);
        placed = (
          omega (arith, k-part.place, label.placed.0),
          label.placed.1,
          sym floats.place,
          omega (arith, floats.inside, floats.place),
        );
      }

  -- ---- a search

  pub search_cut : Ends file at 2 → decode_unfiltered known (drop at file) ≡ none
  unfolding decode_unfiltered
  search_cut cut = ends _ refl cut

  module _ {floats_at : ℕ} (k-part : Skip file at 2 floats_at) where
    pub search_cut_floats : Ends file floats_at (4 * known.dimension) → decode_unfiltered known (drop at file) ≡ none
    unfolding decode_unfiltered
    search_cut_floats cut = goes _ refl k-part ∙ ends _ refl cut

    pub search-shows : {next k : ℕ} → Skip file floats_at (4 * known.dimension) next → NumberAt 2 file at k
        → Shows known file at (decode_unfiltered known (drop at file)) (Some (Search k floats_at next))
    unfolding decode_unfiltered
    search-shows {next} {k} floats k-is = record {
      same = goes _ refl k-part ∙ goes _ refl floats ∙ cc (number_is k-part k-is, patterns_between known file floats);
      placed = (omega (arith, k-part.place), sym floats.place, omega (arith, floats.inside, floats.place));
    }

  -- ---- the mark

  -- the record is decoded by its mark, from the place after it
  pub marked : {start m : ℕ} → Skip file at 2 start → NumberAt 2 file at m → decode known (drop at file) ≡ decode_after known m (drop start file)
  unfolding decode
  marked {start} {m} two m-is = goes _ refl two ∙ ap (λ (n : ℕ). decode_after known n (drop start file)) (number_is two m-is)

  pub mark_cut : Ends file at 2 → decode known (drop at file) ≡ none
  unfolding decode
  mark_cut cut = ends _ refl cut

  -- no record has another mark
  pub no_mark : {start m : ℕ} → Skip file at 2 start → NumberAt 2 file at m → IsMark m None → decode known (drop at file) ≡ none
  unfolding decode_after
  no_mark {start} {m} two m-is other =
      let none_after : decode_after known m (drop start file) ≡ none =
      rw (ne_eqb m 0x015A (other SettingsMark), ne_eqb m 0x025A (other VectorMark), ne_eqb m 0x045A (other FilteredMark), ne_eqb m 0x055A (other SearchMark)) in
      marked two m-is ∙ none_after
