-- Lemmas of the proofs in `load`.
use Prim.Native.Nat.{ℕ, ◌-◌, ◌≤◌}
use native.Mathlib.Omega.{arith}
use mathlib.Core.Bool.{true}
use mathlib.Core.List.{List, map}
use mathlib.Core.Path.{◌≡◌, refl, sym, ap, ap₂, ◌∙◌, subst}
use lib.Ieee.{Float}
use lib.ListN.{length, drop, length-map}
use Rattle.lists.specs.Lists.{total, pieces}
use Rattle.lists.specs.Parts.{length_part}
use Rattle.label.specs.Names.{whole_lengths}
use Rattle.label.specs.NameLaws.{names-whole, whole-fit}
use Rattle.curator.specs.declared.CuratorIndex.{CuratorIndex}
use Rattle.std.specs.Prelude.{Option, Some, None}
use Rattle.settings.specs.declared.refusal.Refusal.TheVariants.{Input}
use Rattle.settings.specs.declared.refusal.InputRefusal.TheVariants.{BadRecord, SettingsOrder}
use Rattle.curator.specs.Changes.{Adds}
use Rattle.curator.specs.Arguments.{AddCall, add_of}
use Rattle.echo_file.specs.Format as format
use Rattle.echo_file.specs.Format.{Bytes, Begins}
use Rattle.echo_file.specs.FieldLaws.{bytes_drop, length-label_bytes, pieces-label_bytes}
use Rattle.echo_file.specs.Decode.{Decoded, decode}
use Rattle.text.specs.Lines.{Written}
use Rattle.echo_file.specs.DecodeLaws.{finds, none_exactly}
use Rattle.echo_file.specs.declared.Located.{Located}
use Rattle.echo_file.specs.declared.Located.TheVariants.{Settings as SettingsAt, Vector, Filtered, Search}
use Rattle.echo_file.specs.Reads.{bytes_between, patterns_at, Stands, Reads}
use Rattle.load.specs.declared.carry.Carried.{Carried}
use Rattle.load.specs.declared.carry.Carried.TheVariants.{Refused}
use Rattle.load.specs.File.{add_call}
use Rattle.load.specs.declared.task.Vector.{Vector as Placed}
use Rattle.load.specs.Step.{LoadLists, known, KeepsLists, CarriesOut, CarriesRead}
use Rattle.load.specs.Code.{floats_at, add_at, CarriesNext, Asks, task_of}

-- ---- the record at a place

pub stands-carried : (file : List ℕ) (at : ℕ) (loading : Option CuratorIndex) (lent : LoadLists) (carried : Carried) (lent' : LoadLists) (r : format.FileRecord) (next : ℕ)
    → Stands (known loading) file at r next → CarriesOut loading r next lent carried lent'
    → CarriesRead (decode (known loading) (drop at file)) file at loading lent carried lent'
stands-carried file at loading lent carried lent' r next s out =
    subst (λ (d : Decoded format.FileRecord). CarriesRead d file at loading lent carried lent')
    (sym (finds (known loading) (drop at file) r (drop next file) s.begins)) (next, refl, s.forward, s.inside, out)

pub bad_carried : (file : List ℕ) (at : ℕ) (loading : Option CuratorIndex) (lent : LoadLists) (carried : Carried) (lent' : LoadLists) → Bytes file
    → ((r : format.FileRecord) (rest : List ℕ) → Begins (known loading) (drop at file) r rest → ⊥) → KeepsLists lent (Refused (Input BadRecord)) carried lent'
    → CarriesRead (decode (known loading) (drop at file)) file at loading lent carried lent'
bad_carried file at loading lent carried lent' b never keeps =
    subst (λ (d : Decoded format.FileRecord). CarriesRead d file at loading lent carried lent')
    (sym ((none_exactly (known loading) (drop at file) (bytes_drop at file b)).1 never)) keeps

-- ---- what a record asks for

-- the names of an add are the labels that were read
read_names : (document : ℕ) (vector : List Float) (labels : List (List ℕ)) {lengths bytes : List ℕ} → lengths ≡ map length labels → bytes ≡ format.label_bytes labels
    → add_of document vector (whole_lengths lengths) bytes ≡ record { document = document; vector = vector; lengths_allowed = true; names = labels }
read_names document vector labels {lengths} {bytes} e f =
    let sum : total lengths ≡ length bytes = ap total e ∙ sym (length-label_bytes labels) ∙ ap length (sym f) in
    let fit = whole-fit lengths (length bytes) sum in
    let names = names-whole lengths bytes ∙ ap₂ pieces e f ∙ pieces-label_bytes labels in
    λ i. record { document = document; vector = vector; lengths_allowed = fit i; names = names i }

-- after the settings
pub task_asks : (index : CuratorIndex) (file : List ℕ) (at : ℕ) (located : Located) → index.dimension ≤ 16
    → Reads (known (Some index)) file at (Some located) → Asks file (CarriesNext index file at) (task_of index located)
task_asks index file at (SettingsAt d b l e w next) n s =
    λ lent. stands-carried file at (Some index) lent (Refused (Input SettingsOrder)) lent (format.settings d b l e w) next s (refl, refl)
task_asks index file at (Vector document lengths-at labels-at place next) n s =
    let patterns = patterns_at (known (Some index)) file place in
    let v : Placed = record { doc_id = document; lengths_at = lengths-at; labels_at = labels-at; floats_at = place; next = next } in
    let same : add_at index file v ≡ add_call document s.labels patterns =
    read_names document (floats_at index.dimension file place) s.labels s.lengths s.bytes in
    let many : labels-at - lengths-at ≡ length s.labels =
    sym (length_part lengths-at (labels-at - lengths-at) file (omega (arith, s.lengths_order, s.labels_order, s.floats_end, s.stands.inside))) ∙ ap length s.lengths
    ∙ length-map s.labels length in
    record {
      stands = record { narrow = n; lengths_order = s.lengths_order; few = omega (arith, many, s.stands.begins.fits.1); labels_order = s.labels_order; inside = omega (arith, s.floats_end, s.stands.inside) };
      comes = λ lent carried store a.
          let lent' : LoadLists = record { store = store; work = lent.work; ids = lent.ids; distances = lent.distances } in
          stands-carried file at (Some index) lent carried lent' (format.vector document s.labels patterns) next s.stands
          (record {
            answer = a.0;
            adds = subst (λ (x : AddCall). Adds index lent.store x a.0 store) same a.1;
            work = refl;
            ids = refl;
            distances = refl;
            comes = a.2;
          });
    }
task_asks index file at (Filtered k label_at place next) n s =
    record {
      stands = record { narrow = n; label_order = s.label_order; inside = omega (arith, s.floats_end, s.stands.inside) };
      comes = λ lent carried lent' a.
          stands-carried file at (Some index) lent carried lent'
          (format.filtered k (bytes_between label_at place file) (patterns_at (known (Some index)) file place))
          next
          s.stands
          a;
    }
task_asks index file at (Search k place next) n s =
    record {
      stands = record { narrow = n; label_order = tt; inside = omega (arith, s.floats_end, s.stands.inside) };
      comes = λ lent carried lent' a.
          stands-carried file at (Some index) lent carried lent' (format.unfiltered k (patterns_at (known (Some index)) file place)) next s.stands a;
    }

-- a first record that is not settings
pub first_misplaced : (file : List ℕ) (at : ℕ) (lent : LoadLists) (carried : Carried) (located : Located)
    → ((d b l e w next : ℕ) → located ≡ SettingsAt d b l e w next → ⊥)
    → Reads (known None) file at (Some located) → carried ≡ Refused (Input SettingsOrder)
    → CarriesRead (decode (known None) (drop at file)) file at None lent carried lent
first_misplaced file at lent carried (SettingsAt d b l e w next) o s k = absurd (o d b l e w next refl)
first_misplaced file at lent carried (Vector document lengths-at labels-at floats-at next) o s k =
    stands-carried file at None lent carried lent _ next s.stands (k, refl)
first_misplaced file at lent carried (Filtered n label_at floats-at next) o s k = stands-carried file at None lent carried lent _ next s.stands (k, refl)
first_misplaced file at lent carried (Search n floats-at next) o s k = stands-carried file at None lent carried lent _ next s.stands (k, refl)

-- ---- what is written

pub written-text : {l m : List ℕ} {i j : ℕ} {xs ys : List ℕ} → xs ≡ ys → Written l i xs m j → Written l i ys m j
written-text {l} {m} {i} {j} e w = subst (λ (t : List ℕ). Written l i t m j) e w
