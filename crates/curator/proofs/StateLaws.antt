-- Laws of states and of what a store holds, for the theory of runs.
use Rattle.std.specs.Prelude.{ℕ, ◌≤◌, Bool, true, not, ◌&&◌, ◌≡◌, refl, List, [], ◌∷◌, leb, Float, length}
use Rattle.std.proofs.Common.{sym, ap, ◌∙◌, arith, leb-true, le-leb}
use Rattle.std.proofs.lemmas.Bool.{not-false}
use Rattle.std.proofs.Math.Dec.{leb-zero}
use Rattle.vector.specs.Vector.{Normalized}
use Rattle.vector.specs.VectorLaws.{length-divided_by}
use Rattle.store.specs.Store.{Limits}
use Rattle.settings.specs.declared.Capacities.{Capacities}
use Rattle.std.specs.Prelude.{Result, Ok, Err, ⊤}
use Rattle.settings.specs.declared.refusal.Refusal.{Refusal}
use Rattle.curator.specs.declared.CuratorIndex.{CuratorIndex}
use Rattle.settings.specs.declared.CuratorParams.{CuratorParams}
use Rattle.curator.specs.Calls.{fresh}
use Rattle.curator.specs.Changes.{new_answer, created, Creates}
use Rattle.curator.proofs.RowLaws.{creates-is, NoneHolds, fine_none, row-passes}
use Rattle.curator.specs.Rows.{Row, first_of, state_row, new_rows}
use Rattle.curator.specs.Limits.{state_sound, index_shape}
use Rattle.settings.specs.Limits.{every, dimension_allowed, params_allowed, capacities_allowed, counts_allowed, built_allowed}
use Rattle.lists.specs.Tests.{and_both}

-- what is stored of a vector is as long as the vector
pub length-stored : {squares : Float} {v w : List Float} → Normalized squares v w → length w ≡ length v
length-stored {v = v} h = ap length h.stored ∙ length-divided_by h.norm v

-- ---- tests that all hold

abbrev All : List Bool → Type 0
All [] = Unit
All (test ∷ tests) = (test ≡ true) × All tests

both : {a b : Bool} → a ≡ true → b ≡ true → a && b ≡ true
both e f = rw e f

every-all : (tests : List Bool) → every tests ≡ true → All tests
every-all [] h = tt
every-all (test ∷ tests) h = let (a, b) = and_both test (every tests) h in (a, every-all tests b)

all-every : (tests : List Bool) → All tests → every tests ≡ true
all-every [] h = refl
all-every (test ∷ tests) (a, b) = rw a (all-every tests b)

-- ---- a sound state as plain facts

pub record Sound (index : CuratorIndex) : Type 0 where
  pub limits : Limits (index_shape index)
  pub leaf_size : index.params.max_leaf_size ≤ 4096
  pub ef_search : index.params.ef_search ≤ 65537
  pub beam_width : index.params.beam_width ≤ 65535
  pub vectors : index.counts.vectors ≤ index.capacities.vectors
  pub entries : index.counts.entries ≤ index.capacities.entries
  pub nodes : index.counts.nodes ≤ index.capacities.nodes
  pub bytes : index.counts.bytes ≤ index.capacities.text
  pub built : built_allowed index.built index.counts ≡ true

-- the tests of a state, group by group
abbrev groups : CuratorIndex → List Bool
groups index =
    dimension_allowed index.dimension ∷ params_allowed index.params ∷ capacities_allowed index.capacities
    ∷ counts_allowed index.capacities index.counts
    ∷ built_allowed index.built index.counts
    ∷ []

sound-groups : (index : CuratorIndex) → state_sound index ≡ every (groups index)
unfolding state_sound
sound-groups index = refl

dimension_tests : (d : ℕ) → dimension_allowed d ≡ true → (1 ≤ d) × (d ≤ 128)
unfolding dimension_allowed
dimension_tests d h = let (a, b) = and_both (leb 1 d) (leb d 128) h in (leb-true 1 d a, leb-true d 128 b)

abbrev params_tests : CuratorParams → List Bool
params_tests p =
    leb 1 p.branching_factor ∷ leb p.branching_factor 64 ∷ leb p.max_leaf_size 4096 ∷ leb p.ef_search 65537
    ∷ leb p.beam_width 65535
    ∷ []

params_tests_lem : (p : CuratorParams) → params_allowed p ≡ every (params_tests p)
unfolding params_allowed
params_tests_lem p = refl

abbrev capacities_tests : Capacities → List Bool
capacities_tests c = leb 1 c.vectors ∷ leb c.vectors 4096 ∷ leb c.entries 16384 ∷ leb 1 c.nodes ∷ leb c.nodes 65537 ∷ leb c.text 4177920 ∷ []

capacities_tests_lem : (c : Capacities) → capacities_allowed c ≡ every (capacities_tests c)
unfolding capacities_allowed
capacities_tests_lem c = refl

abbrev counts_tests : CuratorIndex → List Bool
counts_tests index =
    leb index.counts.vectors index.capacities.vectors ∷ leb index.counts.entries index.capacities.entries
    ∷ leb index.counts.nodes index.capacities.nodes
    ∷ leb index.counts.bytes index.capacities.text
    ∷ []

counts_tests_lem : (index : CuratorIndex) → counts_allowed index.capacities index.counts ≡ every (counts_tests index)
unfolding counts_allowed
counts_tests_lem index = refl

pub sound_facts : (index : CuratorIndex) → state_sound index ≡ true → Sound index
sound_facts index h =
    let (d, (p, (c, (n, (b, _))))) = every-all (groups index) (sym (sound-groups index) ∙ h) in
    let ds = dimension_tests index.dimension d in
    let ps = every-all (params_tests index.params) (sym (params_tests_lem index.params) ∙ p) in
    let cs = every-all (capacities_tests index.capacities) (sym (capacities_tests_lem index.capacities) ∙ c) in
    let ns = every-all (counts_tests index) (sym (counts_tests_lem index) ∙ n) in
    record {
      limits =
          record {
            dimension_low = ds.0;
            dimension_high = ds.1;
            branching_low = omega (arith, leb-true);
            branching_high = omega (arith, leb-true);
            vectors_low = omega (arith, leb-true);
            vectors_high = omega (arith, leb-true);
            entries_high = omega (arith, leb-true);
            nodes_low = omega (arith, leb-true);
            nodes_high = omega (arith, leb-true);
            text_high = omega (arith, leb-true);
          };
      leaf_size = omega (arith, leb-true);
      ef_search = omega (arith, leb-true);
      beam_width = omega (arith, leb-true);
      vectors = omega (arith, leb-true);
      entries = omega (arith, leb-true);
      nodes = omega (arith, leb-true);
      bytes = omega (arith, leb-true);
      built = b;
    }

pub facts_sound : (index : CuratorIndex) → Sound index → state_sound index ≡ true
unfolding dimension_allowed
facts_sound index s =
    let l = s.limits in
    let p = index.params in
    let c = index.capacities in
    let d : dimension_allowed index.dimension ≡ true = both (le-leb _ _ l.dimension_low) (le-leb _ _ l.dimension_high) in
    let ps =
    all-every (params_tests p) (
      le-leb _ _ l.branching_low,
      (
        le-leb _ _ l.branching_high,
        (
          le-leb _ _ s.leaf_size,
          (
            le-leb _ _ s.ef_search,
            (le-leb _ _ s.beam_width, tt),
          ),
        ),
      ),
    ) in
    let cs =
    all-every (capacities_tests c) (
      le-leb _ _ l.vectors_low,
      (
        le-leb _ _ l.vectors_high,
        (
          le-leb _ _ l.entries_high,
          (
            le-leb _ _ l.nodes_low,
            (le-leb _ _ l.nodes_high, (le-leb _ _ l.text_high, tt)),
          ),
        ),
      ),
    ) in
    let ns = all-every (counts_tests index) (le-leb _ _ s.vectors, (le-leb _ _ s.entries, (le-leb _ _ s.nodes, (le-leb _ _ s.bytes, tt)))) in
    sound-groups index
    ∙ all-every (groups index) (d, (params_tests_lem p ∙ ps, (capacities_tests_lem c ∙ cs, (counts_tests_lem index ∙ ns, (s.built, tt)))))

-- ---- new

-- an accepted `new` returns the fresh state, and no row's case holds
pub created-accepted : (dimension : ℕ) (params : CuratorParams) (capacities : Capacities) (index : CuratorIndex)
    → Creates dimension params capacities (Ok index)
    → (index ≡ fresh dimension params capacities) × NoneHolds (new_rows dimension params capacities)
unfolding created new_answer
created-accepted dimension params capacities index h =
    by (first_of (new_rows dimension params capacities)) refl (sym (creates-is dimension params capacities (Ok index) h))
  where
    by : (check : Result ⊤ Refusal) → first_of (new_rows dimension params capacities) ≡ check
        → new_answer check dimension params capacities ≡ Ok index
        → (index ≡ fresh dimension params capacities) × NoneHolds (new_rows dimension params capacities)
    by (Ok _) f g = (cc, fine_none (new_rows dimension params capacities) f)
    by (Err r) f g = let z : ◌≡◌ {A = ℕ} 0 1 = cc in absurd (omega arith)

-- a fresh state within the limits is sound
pub fresh-sound : (dimension : ℕ) (params : CuratorParams) (capacities : Capacities) → NoneHolds (new_rows dimension params capacities)
    → state_sound (fresh dimension params capacities) ≡ true
unfolding new_rows built_allowed
fresh-sound dimension params capacities (d, (s, _)) =
    let (p, c) = and_both (params_allowed params) (capacities_allowed capacities) (not-false _ s) in
    let index = fresh dimension params capacities in
    let ns = all-every (counts_tests index) (leb-zero capacities.vectors, (leb-zero capacities.entries, (leb-zero capacities.nodes, (leb-zero capacities.text, tt)))) in
    sound-groups index ∙ all-every (groups index) (not-false _ d, (p, (c, (counts_tests_lem index ∙ ns, (refl, tt)))))

-- 'A state from an accepted `new`' is sound
pub created-sound : (dimension : ℕ) (params : CuratorParams) (capacities : Capacities) (index : CuratorIndex)
    → Creates dimension params capacities (Ok index) → state_sound index ≡ true
created-sound dimension params capacities index e =
    let (f, none) = created-accepted dimension params capacities index e in
    ap state_sound f ∙ fresh-sound dimension params capacities none

-- a sound state never gets 4: the rows after it decide, whichever call it is
pub sound-passes : (index : CuratorIndex) (rows : List Row) → state_sound index ≡ true → first_of (state_row (state_sound index) ∷ rows) ≡ first_of rows
sound-passes index rows h = row-passes (state_row (state_sound index)) rows (ap not h)
