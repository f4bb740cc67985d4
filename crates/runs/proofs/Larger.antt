-- (a) A larger `ef_search` walks on where the smaller stopped, so what the smaller found is among what the larger found; no document is twice among
-- it, so in order, place by place, the larger has a hit no later; and so it is with the hits that pass a test, as that of live rows.
use Rattle.std.specs.Prelude.{ℕ, ◌+◌, ◌-◌, ◌≤◌, ◌<◌, Bool, ◌≡◌, Float, length, get_or, take}
use Rattle.std.proofs.Common.{zero-add, ap₂, ◌∙◌, le-leb, length-take}
use native.Mathlib.Omega.{arith}
use mathlib.Core.List.{List, [], ◌∷◌, map, Memᴰ}
use Rattle.std.proofs.Math.Path.{sym, ap, subst}
use Rattle.std.specs.Float.{nan}
use Rattle.std.proofs.lemmas.List.{length-map}
use Rattle.std.proofs.lemmas.List.Edits.{sets}
use Rattle.lists.specs.Maps.{get_d_map, take-Memᴰ}
use Rattle.lists.specs.Lists.{keep}
use Rattle.lists.specs.Counting.{get_d_Memᴰ, Memᴰ-keep}
use Rattle.lists.specs.Parts.{get_d_sets_in}
use Rattle.store.specs.declared.Lengths.{Lengths}
use Rattle.record_queue.specs.Sorted.{sort}
use Rattle.record_queue.specs.SortedLaws.{sort_mem, no_later-length}
use Rattle.distance.specs.DistanceLaws.{distance-fits}
use Rattle.total_order.specs.TotalOrder.{total_order, key_of}
use Rattle.total_order.specs.OrderLaws.{total_order-key}
use Rattle.vector.specs.Normalized.{normalized}
use Rattle.walk.specs.Walk.{Progress, going, walk, whole}
use Rattle.walk.proofs.BudgetLaws.{larger-later}
use Rattle.walk.specs.Answer.{answer, document_of, distance_of, ranked}
use Rattle.walk.proofs.AnswerLaws.{never_worse, never-later}
use Rattle.settings.specs.Refusals.{check_number}
use Rattle.curator.specs.Arguments.{Question, SearchCall}
use Rattle.runs.specs.Calls.{Call, change, search, AlikeSearch, Alike, AllAlike}
use Rattle.runs.specs.Model.{Setting, Model, row_live, model_nodes, change_check, tree_view, model_walk, expected, after}
use Rattle.runs.specs.Run.{Ended}
use Rattle.runs.specs.Theorem.{end_number, Reply, reply_of, Matches, AtEach, InPairs, Distinct, NotWorse, Better, with_budget, row_distance}
use Rattle.runs.proofs.State.{Allowed, Within, Small}
use Rattle.runs.proofs.Refusals.{search-room}
use Rattle.runs.proofs.Search.{walk_is}
use Rattle.runs.proofs.Reached.{Ends, Along, Finds, answered-finds, not_answered, end-number}
use Rattle.runs.proofs.Contents.{alike-check, alike-after, budget-check, budget-after}
use Rattle.runs.proofs.Hits.{search_view, found-different, found-ranked, found-key}

-- ---- the answer lists

-- an answered search's hits are the first k of what was ranked, by a test
pub record Listed (test : ℕ → Bool) (k : ℕ) (ids : List ℕ) (distances : List Float) (p : Progress) (reply : Reply) : Type 0 where
  pub count : reply.hits ≡ length (take k (ranked test p))
  pub whole_is : reply.complete ≡ whole p
  pub ids_are : reply.ids ≡ sets ids 0 (map document_of (take k (ranked test p)))
  pub distances_are : reply.distances ≡ sets distances 0 (map distance_of (take k (ranked test p)))

pub reply_listed : (test : ℕ → Bool) (call : SearchCall) (p : Progress) (reply : Reply) → reply ≡ reply_of (answer test call.k p) call
    → Listed test call.k call.ids call.distances p reply
unfolding answer
reply_listed test call p reply e =
    record {
      count = ap (λ (r : Reply). r.hits) e ∙ length-map (take call.k (ranked test p)) document_of;
      whole_is = ap (λ (r : Reply). r.complete) e;
      ids_are = ap (λ (r : Reply). r.ids) e;
      distances_are = ap (λ (r : Reply). r.distances) e;
    }

-- the distance at a place below the hit count
listed-distance : (test : ℕ → Bool) (k : ℕ) (ids : List ℕ) (distances : List Float) (p : Progress) (reply : Reply) → Listed test k ids distances p reply → k ≤ length distances
    → (i : ℕ) → i < length (take k (ranked test p)) → get_or reply.distances i nan ≡ distance_of (get_or (take k (ranked test p)) i 0)
listed-distance test k ids distances p reply l long i h =
    let hs = take k (ranked test p) in
    let ds = map distance_of hs in
    let n : length ds ≡ length hs = length-map hs distance_of in
    let fit : 0 + length ds ≤ length distances = omega (arith, n, length-take k (ranked test p), long) in
    ap (λ (d : List Float). get_or d i nan) l.distances_are
    ∙ ap (λ (j : ℕ). get_or (sets distances 0 ds) j nan) (sym (zero-add i))
    ∙ get_d_sets_in distances 0 ds i nan (omega (arith, n, h)) fit
    ∙ get_d_map distance_of hs i 0 nan h

-- a hit of the answer was found
first_found : (test : ℕ → Bool) (k : ℕ) (p : Progress) → ranked test p ≡ sort (keep test p.found) → (i : ℕ) → i < length (take k (ranked test p))
    → Memᴰ (get_or (take k (ranked test p)) i 0) p.found
first_found test k p e i h =
    let hit = get_or (take k (ranked test p)) i 0 in
    let in_order : Memᴰ (get_or (take k (ranked test p)) i 0) (sort (keep test p.found)) =
    subst (λ (l : List ℕ). Memᴰ (get_or (take k (ranked test p)) i 0) l) e (take-Memᴰ k (ranked test p) (get_d_Memᴰ (take k (ranked test p)) i 0 h)) in
    (Memᴰ-keep test hit p.found (sort_mem (keep test p.found) in_order)).1

-- ---- one search

module _ (s : Setting) (m : Model) (a : Allowed s) (w : Within s m) (d : Distinct m) (small : Small m) where
  -- answers of one question with the same k, of a walk and of one that went on
  not_worse : (test : ℕ → Bool) (question : Question) (b more : ℕ) (p q : Progress) → walk (search_view s m question) b ≡ going p
      → walk (search_view s m question) (b + more) ≡ going q
      → (ids ids' : List ℕ) (distances distances' : List Float) (k : ℕ) (reply reply' : Reply) → Listed test k ids distances p reply
      → Listed test k ids' distances' q reply' → k ≤ length distances → k ≤ length distances' → NotWorse reply reply'
  not_worse test question b more p q e f ids ids' distances distances' k reply reply' l l' long long' =
      let later = larger-later (search_view s m question) b more p q e f in
      let different = found-different s m a w d small question (b + more) q f in
      let fewer : length (take k (ranked test p)) ≤ length (take k (ranked test q)) =
      no_later-length (take k (ranked test p)) (take k (ranked test q)) (never_worse test p q later.found.0 k later.found.1 different) in
      record {
        more = omega (arith, l.count, l'.count, fewer);
        later = λ i h.
            (let low : i < length (take k (ranked test p)) = omega (arith, h, l.count) in
            let low' : i < length (take k (ranked test q)) = omega (arith, low, fewer) in
            let old = found-key s m a w d small question b p e (get_or (take k (ranked test p)) i 0) (first_found test k p (found-ranked s m a w d small question b p e test) i low) in
            let new =
            found-key s m a w d small question (b + more) q f (get_or (take k (ranked test q)) i 0) (first_found test k q (found-ranked s m a w d small question (b + more) q f test) i low') in
            let keys = never-later test p q later.found.0 k later.found.1 different i low in
            let query = normalized question.query in
            let x = row_distance question new.0 in
            let y = row_distance question old.0 in
            ap₂ total_order (listed-distance test k ids' distances' q reply' l' long' i low' ∙ new.1) (listed-distance test k ids distances p reply l long i low ∙ old.1)
            ∙ total_order-key x y (distance-fits query new.0.vector) (distance-fits query old.0.vector)
            ∙ le-leb (key_of x) (key_of y) (omega (arith, keys, old.2, new.2)));
      }

  -- two answered searches that are alike
  better : (ef : ℕ) → s.params.ef_search ≤ ef → (call call' : SearchCall) → AlikeSearch call call' → (fronts fronts' : Lengths) (work work' : List ℕ) (reply reply' : Reply)
      → Finds s m fronts work call reply → Finds (with_budget ef s) m fronts' work' call' reply' → NotWorse reply reply'
  unfolding tree_view model_nodes
  better ef h call call' same fronts fronts' work work' reply reply' x y =
      let budget = s.params.ef_search in
      let more = ef - s.params.ef_search in
      let sum : s.params.ef_search + (ef - s.params.ef_search) ≡ ef = omega arith in
      let walk' : walk (search_view s m call.question) (s.params.ef_search + (ef - s.params.ef_search)) ≡ going y.progress =
      ap (walk (search_view s m call.question)) sum ∙ sym (walk_is (with_budget ef s) m call.question)
      ∙ ap (model_walk (with_budget ef s) m) same.question ∙ y.walked in
      let l' : Listed (row_live m) call.k call'.ids call'.distances y.progress reply' =
      subst (λ (k : ℕ). Listed (row_live m) k call'.ids call'.distances y.progress reply') (sym same.k)
      (reply_listed (row_live m) call' y.progress reply' y.is) in
      let long = (search-room s m fronts (length work) call x.check).distances in
      not_worse (row_live m) call.question budget more x.progress y.progress (sym (walk_is s m call.question) ∙ x.walked) walk' call.ids call'.ids
      call.distances call'.distances
      call.k reply reply' (reply_listed (row_live m) call x.progress reply x.is) l' long (subst (λ (n : ℕ). call.k ≤ n) same.distances long)

-- ---- every call

-- the model after alike calls with another `ef_search`
same_after : (s : Setting) (ef : ℕ) (m : Model) (call call' : Call) → Alike call call' → after (with_budget ef s) m call' ≡ after s m call
same_after s ef m call call' e = budget-after s ef m call' ∙ sym (alike-after s m call call' e)

-- refused alike
pub call_alike : (s : Setting) (ef : ℕ) (m : Model) (call call' : Call) → Alike call call' → (end end' : Ended) → Matches (expected s m call) call end
    → Matches (expected (with_budget ef s) m call') call' end' → end_number end ≡ end_number end'
call_alike s ef m call call' e end end' x y =
    end-number s m call end x ∙ ap check_number (alike-check s m call call' e ∙ sym (budget-check s ef m call')) ∙ sym (end-number (with_budget ef s) m call' end' y)

module _ (s : Setting) (a : Allowed s) (ef : ℕ) (more : s.params.ef_search ≤ ef) (m : Model) (w : Within s m) (d : Distinct m) (small : Small m) where
  pub call_better : (call call' : Call) → Alike call call' → (end end' : Ended) → Matches (expected s m call) call end
      → Matches (expected (with_budget ef s) m call') call' end' → Better end end'
  unfolding expected
  call_better (change f work c) call' e end end' x y =
      λ reply reply' g g'. absurd (not_answered f work c (check_number (change_check s m f (length work) c)) end reply x g)
  call_better (search f work call) (change f' work' c') e end end' x y = absurd e
  call_better (search f work call) (search f' work' call') e end end' x y = λ reply reply' g g'.
      better s m a w d small ef more call call' e.2 f f' work work' reply reply' (answered-finds s m f work call end reply x g)
      (answered-finds (with_budget ef s) m f' work' call' end' reply' y g')

-- ---- both runs

-- what follows for each two alike calls from how they ended in both runs, and from a fact about the models that are reached
pub in_pairs : (s : Setting) (ef : ℕ) (Fact : Model → Type 0) (claim : Ended → Ended → Type 0)
    → ((m : Model) (call call' : Call) → Alike call call' → (end end' : Ended) → Fact m → Ends s m call end → Ends (with_budget ef s) m call' end' → claim end end')
    → (m : Model) (calls calls' : List Call) → AllAlike calls calls' → (ends ends' : List Ended) → Along s Fact m calls → AtEach s (Ends s) m calls ends
    → AtEach (with_budget ef s) (Ends (with_budget ef s)) m calls' ends' → InPairs claim ends ends'
in_pairs s ef Fact claim f m [] [] e [] [] g x y = tt
in_pairs s ef Fact claim f m [] [] e [] (end' ∷ ends') g x y = y
in_pairs s ef Fact claim f m [] [] e (end ∷ ends) ends' g x y = absurd x
in_pairs s ef Fact claim f m [] (call' ∷ calls') e ends ends' g x y = absurd e
in_pairs s ef Fact claim f m (call ∷ calls) [] e ends ends' g x y = absurd e
in_pairs s ef Fact claim f m (call ∷ calls) (call' ∷ calls') e [] ends' g x y = absurd x
in_pairs s ef Fact claim f m (call ∷ calls) (call' ∷ calls') e (end ∷ ends) [] g x y = absurd y
in_pairs s ef Fact claim f m (call ∷ calls) (call' ∷ calls') e (end ∷ ends) (end' ∷ ends') g x y = (
  f m call call' e.0 end end' g.0 x.0 y.0,
  in_pairs s ef Fact claim f (after s m call) calls calls' e.1 ends ends' g.1 x.1
      (subst (λ (n : Model). AtEach (with_budget ef s) (Ends (with_budget ef s)) n calls' ends') (same_after s ef m call call' e.0) y.1),
)
