-- Runs of 01's worked example, computed: 'D 2, B 2, leaf size 1, ef 5, beam 4; 7: (1, 0) `a`; 8: (0, 2) `b`; 9: (3, 4) `a`; search k 4, `a`, (1, 0)', with
-- refused calls in between; V 4, E 4, M 5; and M 4, where the build is refused; with takings back; with withdrawals; with names in two parts;
-- with two labels of one hash; with two labels searched for together. The premise holds of it, and it has runs.
use Rattle.std.specs.Prelude.{ℕ, Bool, true, List, [], ◌∷◌, ◌++◌, map, ◌≡◌, refl, Float, length, get_or, take, replicate}
use Rattle.std.proofs.Common.{arith, subst}
use Rattle.std.specs.Float.{binary32, nan}
use Rattle.std.specs.Float.Ieee.{of_bits}
use Rattle.distance.specs.Distance.{distance}
use Rattle.label.specs.Fnv.{fnv, fnv_from, fnv_step}
use Rattle.label.specs.Names.{names_of, lengths_fit}
use Rattle.store.specs.declared.Lengths.{Lengths}
use Rattle.store.specs.Lent.{sizes_of}
use Rattle.curator.specs.Calls.{fresh}
use Rattle.curator.specs.Changes.{created}
use Rattle.curator.specs.Arguments.{add_of, Asked, everything, labelled, labelled_both}
use Rattle.runs.specs.Calls.{add, take_back, withdraw, build, Call, change, search, AllTyped, Alike, AllAlike}
use Rattle.runs.specs.Model.{Setting, setting_shape, Model, empty_model, Expected, returns, answers, expected, after, model_from}
use Rattle.runs.specs.Run.{Ended, Run}
use Rattle.runs.specs.Theorem.{Matches, InPairs, Premise, Better}
use Rattle.runs.proofs.Exists.{every-run}
use Rattle.runs.proofs.Places.{at_place, premise_test, test_premise}
use Rattle.runs.proofs.Demand.{demand3}
use Rattle.curator.proofs.RowLaws.{is-created}

-- ---- the calls

-- 'D 2, B 2, leaf size 1, beam 4', V 4, E 4 and 40 bytes of label text, with an `ef_search` and a capacity of nodes
abbrev pub sample : ℕ → ℕ → Setting
sample ef nodes =
    record {
      dimension = 2;
      params = record { branching_factor = 2; max_leaf_size = 1; ef_search = ef; beam_width = 4 };
      capacities = record { vectors = 4; entries = 4; nodes = nodes; text = 40 };
    }

-- lists with room for a node more
abbrev pub fronts : Lengths
fronts = sizes_of (setting_shape (sample 5 6))

-- an add of a document with a vector, by bits, and a label of one byte: its first part, the second is empty
abbrev pub adds : ℕ → List ℕ → ℕ → Call
adds document bits label = change fronts [] (add (add_of document (map (of_bits binary32) bits) (1 ∷ 0 ∷ []) (label ∷ [])))

-- a search from (1, 0) for the first k, lent work and answer lists of some content
abbrev pub searches : ℕ → Float → ℕ → Asked → Call
searches number float k asked =
    search fronts (replicate 30 number)
    (record {
      question = record { query = map (of_bits binary32) (0x3F800000 ∷ 0 ∷ []); asked = asked };
      k = k;
      ids = replicate 4 number;
      distances = replicate 4 float;
    })

-- `a` is 97, `b` 98
abbrev pub first : Call
first = adds 7 (0x3F800000 ∷ 0 ∷ []) 97

abbrev pub second : Call
second = adds 8 (0 ∷ 0x40000000 ∷ []) 98

abbrev pub third : Call
third = adds 9 (0x40400000 ∷ 0x40800000 ∷ []) 97

abbrev pub label_a : Asked
label_a = labelled (97 ∷ [])

-- a search before the build, an add of three components, an add after the build, and k beyond the answer lists are refused
abbrev pub calls_over : ℕ → Float → List Call
calls_over number float =
    first ∷ searches number float 4 label_a ∷ second ∷ adds 10 (0 ∷ 0 ∷ 0 ∷ []) 97 ∷ third ∷ change fronts (replicate 30 number) build
    ∷ adds 10 (0x3F800000 ∷ 0 ∷ []) 97
    ∷ searches number float 4 label_a
    ∷ searches number float 2 everything
    ∷ searches number float 5 everything
    ∷ []

abbrev pub calls : List Call
calls = calls_over 0 nan

-- ---- what the model expects

-- of a list of calls, from a model on
unfoldable pub expectations : Setting → Model → List Call → List Expected
unfolding expected after
expectations s m [] = []
expectations s m (call ∷ calls) = expected s m call ∷ expectations s (after s m call) calls

-- an answer of the example, distances by bits
abbrev pub hits : List ℕ → List ℕ → ℕ → Bool → Expected
hits ids bits opened complete = answers (record { ids = ids; distances = map (of_bits binary32) bits; total = length ids; opened = opened; complete = complete })

-- 'whole 5', and unfiltered the first two of three
pub expects : expectations (sample 5 5) empty_model calls
    ≡ returns 0 ∷ returns 6 ∷ returns 0 ∷ returns 7 ∷ returns 0 ∷ returns 0 ∷ returns 5 ∷ hits (7 ∷ 9 ∷ []) (0 ∷ 0x3ecccccc ∷ []) 5 true
    ∷ answers (record { ids = 7 ∷ 9 ∷ []; distances = map (of_bits binary32) (0 ∷ 0x3ecccccc ∷ []); total = 3; opened = 5; complete = true })
    ∷ returns 14
    ∷ []
unfolding expectations of_bits fnv_from fnv_step distance names_of lengths_fit
expects = refl

-- with M 4 the build is refused 13; an add may still follow, and a search finds no index
pub too_many : expectations (sample 5 4) empty_model (first ∷ second ∷ third ∷ change fronts (replicate 30 0) build ∷ adds 10 (0x3F800000 ∷ 0 ∷ []) 97 ∷ searches 0 nan 4 label_a ∷ [])
    ≡ returns 0 ∷ returns 0 ∷ returns 0 ∷ returns 13 ∷ returns 0 ∷ returns 6 ∷ []
unfolding expectations of_bits fnv_from fnv_step distance names_of lengths_fit
too_many = refl

-- a run of any calls
run_of : (list : List Call) → AllTyped list → (ends : List Ended) × Run (sample 5 5) list ends
unfolding created
run_of list t =
    every-run (sample 5 5) (fresh 2 (sample 5 5).params (sample 5 5).capacities) (is-created 2 (sample 5 5).params (sample 5 5).capacities _ refl) list t

-- ---- taking back

-- 9 is taught wrong, taken back and taught again, 10 is taught, taken back and left out; nothing can be taken back of an empty or a built index
abbrev pub backs : Call
backs = change fronts [] take_back

abbrev pub calls_back : List Call
calls_back =
    backs ∷ first ∷ adds 9 (0 ∷ 0x40000000 ∷ []) 98 ∷ backs ∷ second ∷ third ∷ adds 10 (0x3F800000 ∷ 0 ∷ []) 97 ∷ backs
    ∷ change fronts (replicate 30 0) build
    ∷ backs
    ∷ searches 0 nan 4 label_a
    ∷ []

-- the answer is that of the example, and the premise holds
pub expects_back : expectations (sample 5 5) empty_model calls_back
    ≡ returns 19 ∷ returns 0 ∷ returns 0 ∷ returns 0 ∷ returns 0 ∷ returns 0 ∷ returns 0 ∷ returns 0 ∷ returns 0 ∷ returns 5
    ∷ hits (7 ∷ 9 ∷ []) (0 ∷ 0x3ecccccc ∷ []) 5 true
    ∷ []
unfolding expectations of_bits fnv_from fnv_step distance names_of lengths_fit
expects_back = refl

tested_back : premise_test (sample 5 5) empty_model calls_back ≡ true
unfolding premise_test of_bits fnv_from fnv_step distance names_of lengths_fit
tested_back = refl

pub premise_back : Premise (sample 5 5) calls_back
premise_back = test_premise (sample 5 5) calls_back tested_back

typed_back : AllTyped calls_back
typed_back =
    (tt, (omega arith, (omega arith, (tt, (omega arith, (omega arith, (omega arith, (tt, (tt, (tt, (tt, tt)))))))))))

-- it has a run
pub back_run : (ends : List Ended) × Run (sample 5 5) calls_back ends
back_run = run_of calls_back typed_back

-- ---- withdrawing

abbrev pub withdraws : ℕ → Call
withdraws document = change fronts [] (withdraw document)

-- an id that no vector has is refused, as 9 is after its vector was taken back; 9 is then taught again, and 8 withdrawn twice before the build, 7 after it
abbrev pub calls_withdrawn : List Call
calls_withdrawn =
    withdraws 7 ∷ first ∷ second ∷ third ∷ withdraws 9 ∷ backs ∷ withdraws 9 ∷ third ∷ withdraws 8 ∷ withdraws 8
    ∷ change fronts (replicate 30 0) build
    ∷ searches 0 nan 4 label_a
    ∷ searches 0 nan 4 (labelled (98 ∷ []))
    ∷ searches 0 nan 4 everything
    ∷ withdraws 7
    ∷ searches 0 nan 1 label_a
    ∷ searches 0 nan 4 everything
    ∷ withdraws 10
    ∷ []

-- as many nodes are opened as before; of those that carry the label only the live are found, and the first k are of these
pub expects_withdrawn : expectations (sample 5 5) empty_model calls_withdrawn
    ≡ returns 24 ∷ returns 0 ∷ returns 0 ∷ returns 0 ∷ returns 0 ∷ returns 0 ∷ returns 24 ∷ returns 0 ∷ returns 0 ∷ returns 0
    ∷ returns 0
    ∷ hits (7 ∷ 9 ∷ []) (0 ∷ 0x3ecccccc ∷ []) 5 true
    ∷ hits [] [] 5 true
    ∷ hits (7 ∷ 9 ∷ []) (0 ∷ 0x3ecccccc ∷ []) 5 true
    ∷ returns 0
    ∷ hits (9 ∷ []) (0x3ecccccc ∷ []) 5 true
    ∷ hits (9 ∷ []) (0x3ecccccc ∷ []) 5 true
    ∷ returns 24
    ∷ []
unfolding expectations of_bits fnv_from fnv_step distance names_of lengths_fit
expects_withdrawn = refl

tested_withdrawn : premise_test (sample 5 5) empty_model calls_withdrawn ≡ true
unfolding premise_test of_bits fnv_from fnv_step distance names_of lengths_fit
tested_withdrawn = refl

pub premise_withdrawn : Premise (sample 5 5) calls_withdrawn
premise_withdrawn = test_premise (sample 5 5) calls_withdrawn tested_withdrawn

typed-withdrawn : AllTyped calls_withdrawn
typed-withdrawn =
    (tt, (omega arith, (omega arith, (omega arith, (tt, (tt, (tt, (omega arith, (tt, (tt, (tt, (tt, (tt, (tt, (tt, (tt, (tt, (tt, tt))))))))))))))))))

-- it has a run
pub withdrawn-run : (ends : List Ended) × Run (sample 5 5) calls_withdrawn ends
withdrawn-run = run_of calls_withdrawn typed-withdrawn

-- ---- names in two parts

-- an add of 7 with these lengths and label bytes
abbrev pub named : List ℕ → List ℕ → Call
named lengths bytes = change fronts [] (add (add_of 7 (map (of_bits binary32) (0x3F800000 ∷ 0 ∷ [])) lengths bytes))

-- one length and three are odd lists, and 9; `a` and `b` are the name `ab`, which is found joined
abbrev pub calls_parted : List Call
calls_parted =
    named (1 ∷ []) (97 ∷ []) ∷ named (1 ∷ 0 ∷ 0 ∷ []) (97 ∷ []) ∷ named (1 ∷ 1 ∷ []) (97 ∷ 98 ∷ []) ∷ second ∷ change fronts (replicate 30 0) build
    ∷ searches 0 nan 4 (labelled (97 ∷ 98 ∷ []))
    ∷ []

pub expects_parted : expectations (sample 5 5) empty_model calls_parted
    ≡ returns 9 ∷ returns 9 ∷ returns 0 ∷ returns 0 ∷ returns 0 ∷ hits (7 ∷ []) (0 ∷ []) 3 true ∷ []
unfolding expectations of_bits fnv_from fnv_step distance names_of lengths_fit
expects_parted = refl

-- it has a run
pub parted_run : (ends : List Ended) × Run (sample 5 5) calls_parted ends
parted_run = run_of calls_parted (omega arith, (omega arith, (omega arith, (omega arith, (tt, (tt, tt))))))

-- ---- two labels of one hash

-- eight bytes, and the text `77kepQFQ8Kl`
abbrev pub eight : List ℕ
eight = 0xd5 ∷ 0x6b ∷ 0xb9 ∷ 0x53 ∷ 0x42 ∷ 0x87 ∷ 0x08 ∷ 0x36 ∷ []

abbrev pub eleven : List ℕ
eleven = 55 ∷ 55 ∷ 107 ∷ 101 ∷ 112 ∷ 81 ∷ 70 ∷ 81 ∷ 56 ∷ 75 ∷ 108 ∷ []

pub one-hash : fnv eight ≡ fnv eleven
unfolding fnv fnv_from fnv_step
one-hash = refl

-- 7 has both, 8 the second; of the 40 bytes 10 are left, so 9 is refused with eleven more, and taught with one
abbrev pub teaches : ℕ → List ℕ → List ℕ → List ℕ → Call
teaches document bits lengths bytes = change fronts [] (add (add_of document (map (of_bits binary32) bits) lengths bytes))

abbrev pub calls_text : List Call
calls_text =
    teaches 7 (0x3F800000 ∷ 0 ∷ []) (8 ∷ 0 ∷ 4 ∷ 7 ∷ []) (eight ++ eleven) ∷ teaches 8 (0 ∷ 0x40000000 ∷ []) (11 ∷ 0 ∷ []) eleven
    ∷ teaches 9 (0x40400000 ∷ 0x40800000 ∷ []) (11 ∷ 0 ∷ []) eleven
    ∷ third
    ∷ change fronts (replicate 30 0) build
    ∷ searches 0 nan 4 (labelled eight)
    ∷ searches 0 nan 4 (labelled eleven)
    ∷ searches 0 nan 4 label_a
    ∷ []

pub expects_text : expectations (sample 5 5) empty_model calls_text
    ≡ returns 0 ∷ returns 0 ∷ returns 20 ∷ returns 0 ∷ returns 0 ∷ hits (7 ∷ []) (0 ∷ []) 5 true ∷ hits (7 ∷ 8 ∷ []) (0 ∷ 0x3F800000 ∷ []) 5 true
    ∷ hits (9 ∷ []) (0x3ecccccc ∷ []) 5 true
    ∷ []
unfolding expectations of_bits fnv_from fnv_step distance names_of lengths_fit
expects_text = refl

-- the premise is read by bytes: a line may have two labels of one hash
tested_text : premise_test (sample 5 5) empty_model calls_text ≡ true
unfolding premise_test of_bits fnv_from fnv_step distance names_of lengths_fit
tested_text = refl

pub premise_text : Premise (sample 5 5) calls_text
premise_text = test_premise (sample 5 5) calls_text tested_text

-- it has a run
pub text-run : (ends : List Ended) × Run (sample 5 5) calls_text ends
text-run = run_of calls_text (omega arith, (omega arith, (omega arith, (omega arith, (tt, (tt, (tt, (tt, tt))))))))

-- ---- two labels searched for together

-- `silt`, and `kerb-7` taught as `kerb` and `-7`
abbrev pub silt : List ℕ
silt = 115 ∷ 105 ∷ 108 ∷ 116 ∷ []

abbrev pub kerb_7 : List ℕ
kerb_7 = 107 ∷ 101 ∷ 114 ∷ 98 ∷ 45 ∷ 55 ∷ []

-- 7 has both, 8 the first, 9 the second; the two are asked for in both orders, each with itself, and with one that no vector has; then 7 is withdrawn
abbrev pub calls_both : List Call
calls_both =
    teaches 7 (0x3F800000 ∷ 0 ∷ []) (4 ∷ 0 ∷ 4 ∷ 2 ∷ []) (silt ++ kerb_7) ∷ teaches 8 (0 ∷ 0x40000000 ∷ []) (4 ∷ 0 ∷ []) silt
    ∷ teaches 9 (0x40400000 ∷ 0x40800000 ∷ []) (4 ∷ 2 ∷ []) kerb_7
    ∷ searches 0 nan 4 (labelled_both silt kerb_7)
    ∷ change fronts (replicate 30 0) build
    ∷ searches 0 nan 4 (labelled_both silt kerb_7)
    ∷ searches 0 nan 4 (labelled_both kerb_7 silt)
    ∷ searches 0 nan 4 (labelled_both silt silt)
    ∷ searches 0 nan 4 (labelled_both kerb_7 kerb_7)
    ∷ searches 0 nan 4 (labelled_both silt (97 ∷ []))
    ∷ searches 0 nan 4 (labelled_both (97 ∷ []) silt)
    ∷ searches 0 nan 5 (labelled_both silt kerb_7)
    ∷ withdraws 7
    ∷ searches 0 nan 4 (labelled_both silt kerb_7)
    ∷ []

-- all are whole: a leaf that is denied is opened all the same, and where the root is, since no vector has the label, nothing waits after it
pub expects_both : expectations (sample 5 5) empty_model calls_both
    ≡ returns 0 ∷ returns 0 ∷ returns 0 ∷ returns 6 ∷ returns 0
    ∷ hits (7 ∷ []) (0 ∷ []) 5 true
    ∷ hits (7 ∷ []) (0 ∷ []) 5 true
    ∷ hits (7 ∷ 8 ∷ []) (0 ∷ 0x3F800000 ∷ []) 5 true
    ∷ hits (7 ∷ 9 ∷ []) (0 ∷ 0x3ecccccc ∷ []) 5 true
    ∷ hits [] [] 1 true
    ∷ hits [] [] 1 true
    ∷ returns 14
    ∷ returns 0
    ∷ hits [] [] 5 true
    ∷ []
unfolding expectations of_bits fnv_from fnv_step distance names_of lengths_fit
expects_both = refl

tested_both : premise_test (sample 5 5) empty_model calls_both ≡ true
unfolding premise_test of_bits fnv_from fnv_step distance names_of lengths_fit
tested_both = refl

pub premise_both : Premise (sample 5 5) calls_both
premise_both = test_premise (sample 5 5) calls_both tested_both

-- it has a run
pub both_run : (ends : List Ended) × Run (sample 5 5) calls_both ends
both_run = run_of calls_both (omega arith, (omega arith, (omega arith, (tt, (tt, (tt, (tt, (tt, (tt, (tt, (tt, (tt, (tt, (tt, tt))))))))))))))

-- ---- the premise, the types and a run

tested : (ef : ℕ) → premise_test (sample ef 5) empty_model calls ≡ true
unfolding premise_test of_bits fnv_from fnv_step distance names_of lengths_fit
tested ef = refl

pub premise : (ef : ℕ) → Premise (sample ef 5) calls
premise ef = test_premise (sample ef 5) calls (tested ef)

pub typed : AllTyped calls
typed =
    (omega arith, (tt, (omega arith, (omega arith, (omega arith, (tt, (omega arith, (tt, (tt, (tt, tt))))))))))

pub example-run : (ends : List Ended) × Run (sample 5 5) calls ends
example-run = run_of calls typed

-- so in every run the eighth call finds 7 and 9 and is whole
eighth_expected : expected (sample 5 5) (model_from (sample 5 5) empty_model (take 7 calls)) (searches 0 nan 4 label_a) ≡ hits (7 ∷ 9 ∷ []) (0 ∷ 0x3ecccccc ∷ []) 5 true
unfolding expected model_from of_bits fnv_from fnv_step distance names_of lengths_fit
eighth_expected = refl

pub eighth : (ends : List Ended) → Run (sample 5 5) calls ends → (none : Ended)
    → Matches (hits (7 ∷ 9 ∷ []) (0 ∷ 0x3ecccccc ∷ []) 5 true) (searches 0 nan 4 label_a) (get_or ends 7 none)
eighth ends run none =
    subst (λ (x : Expected). Matches x (searches 0 nan 4 label_a) (get_or ends 7 none)) eighth_expected
    (at_place (sample 5 5) (λ m call end. Matches (expected (sample 5 5) m call) call end) empty_model calls ends ((demand3 (sample 5 5) calls).matches ends run) 7 first none (omega arith))

-- ---- (a)

-- the calls are alike whatever stands in work and answer lists
alike-search : (number number' : ℕ) (float float' : Float) (k : ℕ) (asked : Asked) → Alike (searches number float k asked) (searches number' float' k asked)
alike-search number number' float float' k asked = (refl, refl, record { question = refl; k = refl; ids = refl; distances = refl })

pub over_alike : (number number' : ℕ) (float float' : Float) → AllAlike (calls_over number float) (calls_over number' float')
over_alike number number' float float' =
    let four = alike-search number number' float float' 4 label_a in
    let every : (k : ℕ) → Alike (searches number float k everything) (searches number' float' k everything) =
    λ k. alike-search number number' float float' k everything in
    ((refl, refl, refl), (four, ((refl, refl, refl), ((refl, refl, refl), ((refl, refl, refl), ((refl, refl, refl), ((refl, refl, refl), (four, (every 2, (every 5, tt))))))))))

-- with ef 5 no answer is worse than with ef 2
pub five_not_worse : (number : ℕ) (float : Float) (ends ends' : List Ended) → Run (sample 2 5) calls ends → Run (sample 5 5) (calls_over number float) ends'
    → InPairs Better ends ends'
five_not_worse number float ends ends' run run' =
    (demand3 (sample 2 5) calls).larger (premise 2) (calls_over number float) (over_alike 0 number nan float) 5 (omega arith) ends ends' run run'
