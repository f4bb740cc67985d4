-- Request K1 of document 02, a search for two labels. Their order makes no difference to a whole answer: it is the first k of every reference list of the search
-- with the labels the other way round (`whole-swapped`), and gives the same hits as that one's whole answer (`same-swapped`). This follows from (b), since the rows
-- that carry both are the same. Assumes nothing.
use Rattle.std.specs.Prelude.{ℕ, zero, suc, Bool, true, false, ◌&&◌, ◌≡◌, refl, Float, take}
use mathlib.Core.List.{List, [], ◌∷◌, map, Permᴰ}
use Rattle.std.proofs.Common.{sym, ap, ◌∙◌, subst}
use Rattle.lists.specs.Lists.{keep}
use Rattle.lists.specs.Counting.{keep_congr}
use Rattle.curator.specs.Arguments.{Asked, everything, labelled, labelled_both, Question}
use Rattle.runs.specs.Calls.{Call, change, search}
use Rattle.runs.specs.Model.{Setting, Model, ModelRow, empty_model, expected, after, model_from}
use Rattle.runs.specs.Run.{Ended, changed, found, Run}
use Rattle.runs.specs.Theorem.{Reply, AnsweredWith, Matches, AtEach, InPairs, Distinct, Premise, has_label, carries, carrying, about, InOrder, Reference, WholeIsFirst}
use Rattle.runs.proofs.Reference.{reference_exists}
use Rattle.runs.proofs.Demand.{demand3}

-- ---- the other way round

-- the two labels the other way round
abbrev pub other_way : Asked → Asked
other_way everything = everything
other_way (labelled name) = labelled name
other_way (labelled_both name other) = labelled_both other name

-- a question, and a call, that asks so and is otherwise the same
abbrev pub turned : Question → Question
turned question = record { query = question.query; asked = other_way question.asked }

abbrev pub swapped : Call → Call
swapped (change fronts work c) = change fronts work c
swapped (search fronts work call) =
    search fronts work (record { question = turned call.question; k = call.k; ids = call.ids; distances = call.distances })

-- ---- the same whole answer

-- two answers give the same hits
pub record SameHits (reply reply' : Reply) : Type 0 where
  pub count : reply.hits ≡ reply'.hits
  pub ids : take reply.hits reply.ids ≡ take reply'.hits reply'.ids
  pub distances : take reply.hits reply.distances ≡ take reply'.hits reply'.distances

-- of two answered searches that are both whole
abbrev pub SameWhole : Ended → Ended → Type 0
SameWhole end end' =
    (reply reply' : Reply) → AnsweredWith end reply → AnsweredWith end' reply' → reply.complete ≡ true → reply'.complete ≡ true → SameHits reply reply'

-- ---- the rows that carry it are the same

other_way_lem : (a b : Bool) → (a && b) ≡ (b && a)
other_way_lem true true = refl
other_way_lem true false = refl
other_way_lem false true = refl
other_way_lem false false = refl

carries_other : (asked : Asked) (r : ModelRow) → carries (other_way asked) r ≡ carries asked r
unfolding carries
carries_other everything r = refl
carries_other (labelled name) r = refl
carries_other (labelled_both name other) r = other_way_lem (has_label other r.names) (has_label name r.names)

about-turned : (question : Question) (m : Model) → about (turned question) m ≡ about question m
unfolding about carrying
about-turned question m =
    ap (keep (λ r. r.live)) (keep_congr (carries (other_way question.asked)) (carries question.asked) m.rows (λ r k. carries_other question.asked r))

pub about-swapped : (query : List Float) (name other : List ℕ) (m : Model)
    → about (record { query = query; asked = labelled_both name other }) m ≡ about (record { query = query; asked = labelled_both other name }) m
about-swapped query name other m = about-turned (record { query = query; asked = labelled_both other name }) m

-- ---- whole answers

-- the order is by the query alone
order-turned : (question : Question) (rows : List ModelRow) → InOrder (turned question) rows → InOrder question rows
order-turned question [] h = tt
order-turned question (r ∷ rows) h = (h.0, order-turned question rows h.1)

reference_turned : (m : Model) (question : Question) (rows : List ModelRow) → Reference m (turned question) rows
    → Reference m question rows
reference_turned m question rows h =
    record { same = subst (λ (l : List ModelRow). Permᴰ rows l) (about-turned question m) h.same; ordered = order-turned question rows h.ordered }

call_swapped : (m : Model) (call : Call) (end : Ended) → WholeIsFirst m call end → WholeIsFirst m (swapped call) end
call_swapped m (change fronts work c) end w = tt
call_swapped m (search fronts work call) end w = λ reply is marked rows h.
    (let first = w reply is marked rows (reference_turned m call.question rows h) in
    record { count = first.count; ids = first.ids; distances = first.distances })

each_swapped : (s : Setting) (m : Model) (calls : List Call) (ends : List Ended)
    → AtEach s (λ m call end. WholeIsFirst m call end) m calls ends → AtEach s (λ m call end. WholeIsFirst m (swapped call) end) m calls ends
each_swapped s m [] [] a = tt
each_swapped s m [] (end ∷ ends) a = a
each_swapped s m (call ∷ calls) [] a = a
each_swapped s m (call ∷ calls) (end ∷ ends) a = (call_swapped m call end a.0, each_swapped s (after s m call) calls ends a.1)

pub whole-swapped : (s : Setting) (calls : List Call) → Premise s calls → (ends : List Ended) → Run s calls ends
    → AtEach s (λ m call end. WholeIsFirst m (swapped call) end) empty_model calls ends
whole-swapped s calls p ends run = each_swapped s empty_model calls ends ((demand3 s calls).whole p ends run)

-- ---- two runs

-- a search leaves the model as it is, so both runs come to the same models
after-swapped : (s : Setting) (m : Model) (call : Call) → after s m (swapped call) ≡ after s m call
unfolding after
after-swapped s m (change fronts work c) = refl
after-swapped s m (search fronts work call) = refl

model_swapped : (s : Setting) (m : Model) (calls : List Call) (n : ℕ)
    → model_from s m (take n (map swapped calls)) ≡ model_from s m (take n calls)
unfolding model_from
model_swapped s m calls zero = refl
model_swapped s m [] (suc n) = refl
model_swapped s m (call ∷ calls) (suc n) =
    ap (λ (x : Model). model_from s x (take n (map swapped calls))) (after-swapped s m call) ∙ model_swapped s (after s m call) calls n

-- both are the first k of one reference list; a change is no answered search
same_whole : (s : Setting) (m : Model) (call : Call) (end end' : Ended) → Matches (expected s m call) call end
    → WholeIsFirst m (swapped call) end → WholeIsFirst m (swapped call) end' → SameWhole end end'
unfolding expected
same_whole s m (change fronts work c) (changed answer) end' e w w' = λ reply reply' is. absurd is
same_whole s m (change fronts work c) (found end) end' e w w' = absurd e
same_whole s m (search fronts work call) end end' e w w' = λ reply reply' is is' marked marked'.
    (let (rows, h) = reference_exists m (turned call.question) in
    let one = w reply is marked rows h in
    let two = w' reply' is' marked' rows h in
    record { count = one.count ∙ sym two.count; ids = one.ids ∙ sym two.ids; distances = one.distances ∙ sym two.distances })

pairs-swapped : (s : Setting) (m : Model) (calls : List Call) (ends ends' : List Ended)
    → AtEach s (λ m call end. Matches (expected s m call) call end) m calls ends → AtEach s (λ m call end. WholeIsFirst m (swapped call) end) m calls ends
    → AtEach s (λ m call end. WholeIsFirst m call end) m (map swapped calls) ends' → InPairs SameWhole ends ends'
pairs-swapped s m [] [] [] e w w' = tt
pairs-swapped s m [] [] (end' ∷ ends') e w w' = w'
pairs-swapped s m [] (end ∷ ends) ends' e w w' = absurd e
pairs-swapped s m (call ∷ calls) [] ends' e w w' = absurd e
pairs-swapped s m (call ∷ calls) (end ∷ ends) [] e w w' = w'
pairs-swapped s m (call ∷ calls) (end ∷ ends) (end' ∷ ends') e w w' =
    let later = subst (λ (x : Model). AtEach s (λ m call end. WholeIsFirst m call end) x (map swapped calls) ends') (after-swapped s m call) w'.1 in
    (same_whole s m call end end' e.0 w.0 w'.0, pairs-swapped s (after s m call) calls ends ends' e.1 w.1 later)

pub same-swapped : (s : Setting) (calls : List Call) → Premise s calls → (ends ends' : List Ended) → Run s calls ends → Run s (map swapped calls) ends'
    → InPairs SameWhole ends ends'
same-swapped s calls p ends ends' run run' =
    let others = map swapped calls in
    let p' : Premise s others = λ n. subst Distinct (sym (model_swapped s empty_model calls n)) (p n) in
    pairs-swapped s empty_model calls ends ends' ((demand3 s calls).matches ends run) (whole-swapped s calls p ends run) ((demand3 s others).whole p' ends' run')
