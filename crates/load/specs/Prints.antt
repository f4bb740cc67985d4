-- The texts of a chain of steps, joined, are what is printed of the file. By the chain: each step reads the record that the definition reads, which comes
-- to the same (Agrees), and goes on with the same rest of the file.
use Prim.Native.Nat.{ℕ, zero, suc, ◌+◌, ◌≤◌, ◌<◌}
use Rattle.std.proofs.Common.{zero-add, arith, ◌∙◌, leb-false, leb-true}
use Rattle.std.specs.Prelude.{Bool, cond, ◌≡◌, ltb, leb, take, Option, Some, None}
use Rattle.std.proofs.Math.Bool.{true, false}
use Rattle.std.proofs.lemmas.Bool.{false≢true}
use mathlib.Core.List.{List, [], ◌∷◌, ◌++◌, append-nil}
use Rattle.std.proofs.Math.Path.{refl, sym, ap, ap₂, subst}
use Rattle.std.proofs.Math.ListN.{length, drop, length-drop}
use Rattle.std.proofs.lemmas.List.Edits.{sets-eq}
use Rattle.std.proofs.Math.Seq.{take-append_seam}
use Rattle.lists.specs.Lists.{joined}
use Rattle.store.specs.Store.{Store}
use Rattle.curator.specs.declared.CuratorIndex.{CuratorIndex}
use Rattle.settings.specs.declared.refusal.Refusal.{Refusal}
use Rattle.settings.specs.declared.refusal.Refusal.TheVariants.{Input}
use Rattle.settings.specs.declared.refusal.InputRefusal.TheVariants.{BadRecord, FileTooLong}
use Rattle.echo_file.specs.declared.Known.{Known}
use Rattle.echo_file.specs.Format.{FileRecord}
use Rattle.echo_file.specs.Decode.{Decoded, none, found, decode}
use Rattle.text.specs.Lines.{Written}
use Rattle.text.specs.LinesLaws.{length_line}
use Rattle.load.specs.declared.carry.Carried.{Carried}
use Rattle.load.specs.declared.carry.Carried.TheVariants.{End, Refused}
use Rattle.load.specs.declared.LoadStep.{LoadStep}
use Rattle.load.specs.declared.LoadStep.TheVariants.{Ended, Next}
use Rattle.load.specs.File.{FileProgress, unset, running, known_of, Outcome, stops, printed, carried, Front, ends, goes, then, read, front, refused_text, text_of, text_from, file_text}
use Rattle.load.specs.Step.{LoadLists, Steps, known, CarriesRead, CarriesAt, carried_text, step_of, printed_of}
use Rattle.load.specs.Onward.{printed-step}
use Rattle.load.specs.Theorem.{Sized, Chain, last, more, Prints}
use Rattle.load.specs.Agrees.{StandsAs, Agrees, record_agrees}

-- what a step wrote is what it printed
written-front : {text text' t : List ℕ} {n : ℕ} → Written text 0 t text' n → take n text' ≡ t
written-front {text} {text'} {t} {n} w =
    let fits : 0 + length t ≤ length text = omega (arith, w.end, w.within, length_line w) in
    ap₂ (λ (k : ℕ) (l : List ℕ). take k l) (w.end ∙ zero-add (length t)) (w.list ∙ sets-eq t text 0 fits) ∙ take-append_seam t (drop (0 + length t) text)

-- the reader knows what the definition knows
same_known : (progress : FileProgress) (loading : Option CuratorIndex) (store : Store) → StandsAs progress loading store → known loading ≡ known_of progress
same_known unset None store h = refl
same_known unset (Some index) store h = absurd h
same_known (running s m) None store h = absurd h
same_known (running s m) (Some index) store h =
    let e : index.dimension ≡ s.dimension = ap (λ (i : CuratorIndex). i.dimension) h.1.state in
    λ i. record { dimension = e i }

-- What a step comes to, beside what the definition says of the front of the file.
abbrev Comes : Front → List ℕ → ℕ → Carried → LoadLists → Type 0
Comes (ends text) file at c lent = (q : Refusal) × (c ≡ Refused q) × (refused_text q ≡ text)
Comes (goes text progress rest) file at c lent =
    (loading : Option CuratorIndex) × (next : ℕ) × ((n : ℕ) → step_of c n ≡ Next loading next n) × (carried_text c lent.ids lent.distances ≡ text)
    × StandsAs progress loading lent.store × (rest ≡ drop next file) × (at < next)

outcome-comes : (o : Outcome) (rest file : List ℕ) (at next : ℕ) (c : Carried) (lent : LoadLists) → rest ≡ drop next file → at < next → Agrees o next c lent
    → Comes (then o rest) file at c lent
unfolding then
outcome-comes (stops text) rest file at next c lent e l a = a
outcome-comes (printed text progress) rest file at next c lent e l a = (a.0, next, a.1, a.2, a.3, e, l)

read-comes : (d : Decoded FileRecord) (file : List ℕ) (at : ℕ) (progress : FileProgress) (loading : Option CuratorIndex) (lent : LoadLists) (c : Carried) (lent' : LoadLists) → Sized lent
    → StandsAs progress loading lent.store → CarriesRead d file at loading lent c lent' → Comes (read d progress) file at c lent'
unfolding read
read-comes none file at progress loading lent c lent' z h by = (Input BadRecord, by.0, refl)
read-comes (found r rest) file at progress loading lent c lent' z h by =
    outcome-comes (carried progress r) rest file at by.0 c lent' by.1 by.2 (record_agrees progress loading r by.0 lent c lent' z h by.4)

front-comes : (file : List ℕ) (at : ℕ) (progress : FileProgress) (loading : Option CuratorIndex) (lent : LoadLists) (c : Carried) (lent' : LoadLists) → Sized lent
    → StandsAs progress loading lent.store → CarriesRead (decode (known loading) (drop at file)) file at loading lent c lent'
    → Comes (front progress (drop at file)) file at c lent'
unfolding front
front-comes file at progress loading lent c lent' z h by =
    read-comes (decode (known_of progress) (drop at file)) file at progress loading lent c lent' z h
    (subst (λ (k : Known). CarriesRead (decode k (drop at file)) file at loading lent c lent') (same_known progress loading lent.store h) by)

-- ---- what a step says

abbrev loading_of : LoadStep → Option CuratorIndex
loading_of (Ended n) = None
loading_of (Next loading at n) = loading

abbrev place_of : LoadStep → ℕ
place_of (Ended n) = 0
place_of (Next loading at n) = at

abbrev goes_on : LoadStep → Bool
goes_on (Ended n) = false
goes_on (Next loading at n) = true

module _ (file : List ℕ) {at : ℕ} {loading : Option CuratorIndex} {lent lent' : LoadLists} {text text' : List ℕ} {step : LoadStep} (st : Steps file at loading lent text step lent' text') where
  -- the text of a step
  step-text : take (printed_of step) text' ≡ carried_text st.carried lent'.ids lent'.distances
  step-text =
      ap (λ (k : ℕ). take k text') (ap printed_of st.comes ∙ printed-step st.carried st.printed) ∙ written-front st.writes

  -- a file that is not too long, at a place in it
  step-comes : ltb 65536 (length file) ≡ false → leb (length file) at ≡ false → Sized lent → (progress : FileProgress) → StandsAs progress loading lent.store
      → Comes (front progress (drop at file)) file at st.carried lent'
  step-comes short inside z progress h =
      front-comes file at progress loading lent st.carried lent' z h
      (subst (λ (b : Bool). CarriesAt b false file at loading lent st.carried lent') short
      (subst (λ (b : Bool). CarriesAt (ltb 65536 (length file)) b file at loading lent st.carried lent') inside st.carries))

  -- and at its end
  step-ends : ltb 65536 (length file) ≡ false → leb (length file) at ≡ true → st.carried ≡ End
  step-ends short outside =
      (subst (λ (b : Bool). CarriesAt b true file at loading lent st.carried lent') short
      (subst (λ (b : Bool). CarriesAt (ltb 65536 (length file)) b file at loading lent st.carried lent') outside st.carries)).0

  -- and of a file that is
  step-long : ltb 65536 (length file) ≡ true → st.carried ≡ Refused (Input FileTooLong)
  step-long long =
      (subst (λ (b : Bool). CarriesAt b (leb (length file) at) file at loading lent st.carried lent') long st.carries).0

-- a step that ended did not go on
not_both : {C : Type 0} (s t : LoadStep) → goes_on s ≡ false → goes_on t ≡ true → s ≡ t → C
not_both s t p q e = absurd (false≢true (sym p ∙ ap goes_on e ∙ q))

-- ---- the rest of the file

-- at its end nothing is printed
none_left : (steps : ℕ) (progress : FileProgress) (bytes : List ℕ) → length bytes ≤ 0 → text_from steps progress bytes ≡ []
unfolding text_from
none_left zero progress bytes h = refl
none_left (suc steps) progress [] h = refl
none_left (suc steps) progress (b ∷ bytes) h = absurd (omega (arith, h))

-- before it, what the front comes to
some_left : (steps : ℕ) (progress : FileProgress) (bytes : List ℕ) → 0 < length bytes
    → text_from (suc steps) progress bytes ≡ text_of (front progress bytes) (λ p rest. text_from steps p rest)
unfolding text_from
some_left steps progress [] h = absurd (omega (arith, h))
some_left steps progress (b ∷ bytes) h = refl

-- the last step
last-prints : (file : List ℕ) (at : ℕ) (f : Front) (c : Carried) (lent : LoadLists) (n : ℕ) (later : FileProgress → List ℕ → List ℕ) → Comes f file at c lent
    → goes_on (step_of c n) ≡ false → carried_text c lent.ids lent.distances ≡ text_of f later
unfolding text_of
last-prints file at (ends text) c lent n later a e = ap (λ (x : Carried). carried_text x lent.ids lent.distances) a.1 ∙ a.2
last-prints file at (goes text progress rest) c lent n later a e = not_both (step_of c n) (Next a.0 a.1 n) e refl (a.2 n)

-- a step after which others come
record Onward (file : List ℕ) (at : ℕ) (c : Carried) (lent : LoadLists) (n : ℕ) (f : Front) : Type 0 where
  text : List ℕ
  progress : FileProgress
  rest : List ℕ
  is : f ≡ goes text progress rest
  prints : carried_text c lent.ids lent.distances ≡ text
  stands : StandsAs progress (loading_of (step_of c n)) lent.store
  left : rest ≡ drop (place_of (step_of c n)) file
  further : at < place_of (step_of c n)

onward : (file : List ℕ) (at : ℕ) (f : Front) (c : Carried) (lent : LoadLists) (n : ℕ) → Comes f file at c lent → goes_on (step_of c n) ≡ true
    → Onward file at c lent n f
onward file at (ends text) c lent n a e = not_both (step_of (Refused a.0) n) (step_of c n) refl e (ap (λ (x : Carried). step_of x n) (sym a.1))
onward file at (goes text progress rest) c lent n a e =
    let s = sym (a.2 n) in
    record {
      text = text;
      progress = progress;
      rest = rest;
      is = refl;
      prints = a.3;
      stands = subst (λ (l : Option CuratorIndex). StandsAs progress l lent.store) (ap loading_of s) a.4;
      left = subst (λ (k : ℕ). rest ≡ drop k file) (ap place_of s) a.5;
      further = subst (λ (k : ℕ). at < k) (ap place_of s) a.6;
    }

module _ (file : List ℕ) (short : ltb 65536 (length file) ≡ false) where
  -- at a place in the file some bytes are left, at its end none
  bytes_left_lem : (at : ℕ) → leb (length file) at ≡ false → 0 < length (drop at file)
  bytes_left_lem at e = let h = leb-false (length file) at e in omega (arith, h, length-drop at file)

  no_bytes-left : (at : ℕ) → leb (length file) at ≡ true → length (drop at file) ≤ 0
  no_bytes-left at e = let h = leb-true (length file) at e in omega (arith, h, length-drop at file)

  last_from : {at n : ℕ} {loading : Option CuratorIndex} {lent lent' : LoadLists} {text text' : List ℕ} → Sized lent → (st : Steps file at loading lent text (Ended n) lent' text')
      → (progress : FileProgress) → StandsAs progress loading lent.store → (steps : ℕ) → length (drop at file) ≤ steps → (b : Bool)
      → leb (length file) at ≡ b
      → carried_text st.carried lent'.ids lent'.distances ≡ text_from steps progress (drop at file)
  last_from {at} {n} {loading} {lent} {lent'} {text} {text'} z st progress h steps le true e =
      ap (λ (c : Carried). carried_text c lent'.ids lent'.distances) (step-ends file st short e) ∙ sym (none_left steps progress (drop at file) (no_bytes-left at e))
  last_from {at} {n} {loading} {lent} {lent'} {text} {text'} z st progress h zero le false e = absurd (omega (arith, bytes_left_lem at e, le))
  last_from {at} {n} {loading} {lent} {lent'} {text} {text'} z st progress h (suc steps) le false e =
      last-prints file at (front progress (drop at file)) st.carried lent' st.printed (λ p rest. text_from steps p rest)
      (step-comes file st short e z progress h)
      (ap goes_on (sym st.comes))
      ∙ sym (some_left steps progress (drop at file) (bytes_left_lem at e))

  more_from : {at at' n : ℕ} {loading loading' : Option CuratorIndex} {lent lent' : LoadLists} {text text' : List ℕ} (texts : List (List ℕ)) → Sized lent
      → (st : Steps file at loading lent text (Next loading' at' n) lent' text')
      → ((progress : FileProgress) → StandsAs progress loading' lent'.store → (steps : ℕ) → length (drop at' file) ≤ steps
      → joined (λ t. t) texts ≡ text_from steps progress (drop at' file))
      → (progress : FileProgress) → StandsAs progress loading lent.store → (steps : ℕ) → length (drop at file) ≤ steps → (b : Bool) → leb (length file) at ≡ b
      → carried_text st.carried lent'.ids lent'.distances ++ joined (λ t. t) texts ≡ text_from steps progress (drop at file)
  unfolding text_of
  more_from {at} {at'} {n} {loading} {loading'} {lent} {lent'} texts z st later progress h steps le true e =
      let k = st.printed in
      not_both (step_of End k) (Next loading' at' n) refl refl (ap (λ (c : Carried). step_of c k) (sym (step-ends file st short e)) ∙ sym st.comes)
  more_from {at} {at'} {n} {loading} {loading'} {lent} {lent'} texts z st later progress h zero le false e = absurd (omega (arith, bytes_left_lem at e, le))
  more_from {at} {at'} {n} {loading} {loading'} {lent} {lent'} texts z st later progress h (suc steps) le false e =
      let k = st.printed in
      let o : Onward file at st.carried lent' k (front progress (drop at file)) =
      onward file at (front progress (drop at file)) st.carried lent' k (step-comes file st short e z progress h) (ap goes_on (sym st.comes)) in
      let place : place_of (step_of st.carried k) ≡ at' = ap place_of (sym st.comes) in
      let stands : StandsAs o.progress loading' lent'.store =
      subst (λ (l : Option CuratorIndex). StandsAs o.progress l lent'.store) (ap loading_of (sym st.comes)) o.stands in
      let left : o.rest ≡ drop at' file = o.left ∙ ap (λ (i : ℕ). drop i file) place in
      let fewer : length (drop at' file) ≤ steps =
      (let f = o.further in let b = bytes_left_lem at e in omega (arith, f, b, place, le, length-drop at file, length-drop at' file)) in
      ap₂ (λ (a b : List ℕ). a ++ b) o.prints (later o.progress stands steps fewer)
      ∙ ap (λ (r : List ℕ). o.text ++ text_from steps o.progress r) (sym left)
      ∙ sym (ap (λ (f : Front). text_of f (λ p rest. text_from steps p rest)) o.is)
      ∙ sym (some_left steps progress (drop at file) (bytes_left_lem at e))

  prints_from : {at : ℕ} {loading : Option CuratorIndex} {store : Store} {texts : List (List ℕ)} → Chain file at loading store texts → (progress : FileProgress)
      → StandsAs progress loading store
      → (steps : ℕ) → length (drop at file) ≤ steps → joined (λ t. t) texts ≡ text_from steps progress (drop at file)
  unfolding joined
  prints_from (last {at} {n} {loading} {lent} {lent'} {text} {text'} z st) progress h steps le =
      append-nil (take n text') ∙ step-text file st ∙ last_from z st progress h steps le (leb (length file) at) refl
  prints_from (more {at} {at'} {n} {loading} {loading'} {lent} {lent'} {text} {text'} {texts} z st chain) progress h steps le =
      ap (λ (t : List ℕ). t ++ joined (λ t. t) texts) (step-text file st)
      ∙ more_from texts z st (λ p h k l. prints_from chain p h k l) progress h steps le (leb (length file) at) refl

-- a file that is too long is refused at its first step
long-prints : (file : List ℕ) → ltb 65536 (length file) ≡ true → {at : ℕ} {loading : Option CuratorIndex} {store : Store} {texts : List (List ℕ)}
    → Chain file at loading store texts → joined (λ t. t) texts ≡ refused_text (Input FileTooLong)
unfolding joined
long-prints file e (last {at} {n} {loading} {lent} {lent'} {text} {text'} z st) =
    append-nil (take n text') ∙ step-text file st ∙ ap (λ (c : Carried). carried_text c lent'.ids lent'.distances) (step-long file st e)
long-prints file e (more {at} {at'} {n} {loading} {loading'} {lent} {lent'} {text} {text'} {texts} z st chain) =
    let k = st.printed in
    not_both (step_of (Refused (Input FileTooLong)) k) (Next loading' at' n) refl refl
    (ap (λ (c : Carried). step_of c k) (sym (step-long file st e)) ∙ sym st.comes)

-- ---- the claim

pub prints : (file : List ℕ) → Prints file
unfolding file_text
prints file store texts chain = by (ltb 65536 (length file)) refl
  where
    by : (b : Bool) → ltb 65536 (length file) ≡ b → joined (λ t. t) texts ≡ cond b (refused_text (Input FileTooLong)) (text_from (length file) unset file)
    by false e = prints_from file e chain unset tt (length file) (omega (arith, length-drop 0 file))
    by true e = long-prints file e chain
