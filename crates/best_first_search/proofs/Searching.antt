-- From the walk and its first k hits to the answer. Assumes nothing.
use Prim.Native.Nat.{ℕ, ◌+◌, ◌*◌, ◌≤◌, max}
use native.Mathlib.Omega.{arith}
use mathlib.Core.Path.{◌≡◌, refl, sym, ap, ◌∙◌, subst}
use mathlib.Core.Bool.{Bool, true}
use mathlib.Core.List.{List, map}
use lib.Dec.{ltb}
use lib.Ieee.{Float}
use lib.ListN.{length, take, drop, length-map}
use lib.Seq.{sets, take-take}
use Rattle.lists.specs.Lists.{part, keep}
use Rattle.lists.specs.Parts.{length_part, part-part}
use Rattle.record_queue.specs.RecordsLaws.{heap-none}
use Rattle.store.specs.declared.Shape.{Shape}
use Rattle.store.specs.Store.{Limits, hits_at, work_size}
use Rattle.store.specs.declared.Counts.{Counts}
use Rattle.walk.specs.Walk.{View, Progress, State, damaged, going, walk}
use Rattle.walk.proofs.WalkLaws.{found-most}
use Rattle.std.specs.Prelude.{Ok, Err}
use Rattle.walk.specs.Answer.{document_of, distance_of, drop_repeats, listed, ranked, answer}
use Rattle.walk.proofs.AnswerLaws.{ranked-is}
use Rattle.lists.specs.Tests.{all_pass}
use Rattle.walk.specs.Promises.{Answers, SearchEnds}
use Rattle.walk.specs.Wanted as Wanted
use Rattle.walk.specs.Wanted.{Sought}
use Rattle.walk.specs.Promises.{VectorsLent}
use Rattle.best_first_walk.specs.Walks.{hits_part, found_in, found_at, found_part, EndsAs, WalkEnds}
use Rattle.best_first_walk.specs.WalksLaws.{few-hits}
use Rattle.best_first_search.specs.Ranks.{FirstHits, Firsts}
use Rattle.best_first_search.proofs.Struck.{listed-is}

module _ (s : Shape) (c : Counts) (hit : ℕ → ℕ) where
  pub damaged-search : (st : State) (test : ℕ → Bool) (k : ℕ) (work ids : List ℕ) (distances : List Float) → WalkEnds s c hit st (Err (record {})) work
      → SearchEnds st test k (Err (record {})) ids ids distances distances
  damaged-search damaged test k work ids distances w = record { is = refl; ids_kept = refl; distances_kept = refl }
  damaged-search (going p) test k work ids distances w = absurd w

  answered : (p : Progress) (test : ℕ → Bool) (k found opened : ℕ) (complete : Bool) (work ids ids' : List ℕ) (distances distances' : List Float) (r : ℕ)
      → EndsAs s c hit p found opened complete work → Firsts test (map hit (take found (found_part s work))) k ids distances r ids' distances'
      → Answers (answer test k p) (Ok (record { hits = r; opened = opened; whole = complete })) ids ids' distances distances'
  unfolding answer
  answered p test k found opened complete work ids ids' distances distances' r e q =
      let hits : List ℕ = map hit (take found (found_part s work)) in
      let same : take k (listed test hits) ≡ take k (ranked test p) =
      ap (take k) (listed-is test hits ∙ ap (λ (l : List ℕ). keep test (drop_repeats l)) e.finds.are ∙ sym (ranked-is test p)) in
      let count : r ≡ length (map document_of (take k (ranked test p))) = q.count_is ∙ ap length same ∙ sym (length-map (take k (ranked test p)) document_of) in
      record {
        is = cc (count, e.nodes, e.all);
        ids_are = q.ids_are ∙ ap (λ (l : List ℕ). sets ids 0 (map document_of l)) same;
        distances_are = q.distances_are ∙ ap (λ (l : List ℕ). sets distances 0 (map distance_of l)) same;
      }

  pub ended-search : (st : State) (test : ℕ → Bool) (k found opened : ℕ) (complete : Bool) (work ids ids' : List ℕ) (distances distances' : List Float) (r : ℕ)
      → WalkEnds s c hit st (Ok (record { hits = found; opened = opened; whole = complete })) work → Firsts test (map hit (take found (found_part s work))) k ids distances r ids' distances'
      → SearchEnds st test k (Ok (record { hits = r; opened = opened; whole = complete })) ids ids' distances distances'
  ended-search damaged test k found opened complete work ids ids' distances distances' r w q = absurd w
  ended-search (going p) test k found opened complete work ids ids' distances distances' r w q =
      answered p test k found opened complete work ids ids' distances distances' r w q

  -- the vectors that a walk found
  ended-few : (view : View) (ef : ℕ) (st : State) (found opened : ℕ) (complete : Bool) (work : List ℕ) → walk view ef ≡ st
      → WalkEnds s c hit st (Ok (record { hits = found; opened = opened; whole = complete })) work
      → (found ≤ view.most) × (all_pass (λ x. ltb x c.vectors) (take found (found_part s work)) ≡ true)
  ended-few view ef damaged found opened complete work e w = absurd w
  ended-few view ef (going p) found opened complete work e w =
      (subst (λ (n : ℕ). n ≤ view.most) (sym w.finds.count) (found-most view ef p e), w.finds.held)

  -- the numbers, by their place in the hits' part
  numbers_are : (work : List ℕ) (found : ℕ) → Limits s → found ≤ max s.vectors s.entries → part (found_in s) found (hits_part s work) ≡ take found (found_part s work)
  numbers_are work found limits few =
      part-part (hits_at s) (3 * max s.vectors s.entries) (found_in s) found work (omega (arith, limits.vectors_low))
      ∙ sym (take-take found (max s.vectors s.entries + 1) (drop (found_at s) work) (omega arith))

  module _ (wanted : Sought) (view : View) (ef k found opened : ℕ) (complete : Bool) (work heap : List ℕ) (from : ℕ) (limits : Limits s) (most : view.most ≡ Wanted.most wanted c)
      (v : c.vectors ≤ s.vectors) (e : c.entries ≤ s.entries) (size : work_size s ≤ length work) (is : heap ≡ hits_part s work) (at : from ≡ found_in s)
      (w : WalkEnds s c hit (walk view ef) (Ok (record { hits = found; opened = opened; whole = complete })) work) where
    few : found ≤ max s.vectors s.entries
    few = omega (arith, (ended-few view ef (walk view ef) found opened complete work refl w).0, most, few-hits s c wanted v e)

    pub ended-numbers : part from found heap ≡ take found (found_part s work)
    ended-numbers = ap (λ (n : ℕ). part n found heap) at ∙ ap (part (found_in s) found) is ∙ numbers_are work found limits few

    pub ended-first : (floats : List Float) (numbers : List ℕ) → VectorsLent s c floats numbers → (ids : List ℕ) (distances : List Float) → k ≤ length ids
        → k ≤ length distances → FirstHits s c floats numbers heap from found k ids distances
    ended-first floats numbers vectors ids distances a b =
        let long : length heap ≡ 3 * max s.vectors s.entries = ap length is ∙ length_part (hits_at s) (3 * max s.vectors s.entries) work size in
        record {
          vectors = record {
            lent = vectors;
            measure = record {
              queue = heap-none 3 heap;
              held = ap (all_pass (λ x. ltb x c.vectors)) ended-numbers ∙ (ended-few view ef (walk view ef) found opened complete work refl w).1;
              inside = omega (arith, few, long, at, limits.vectors_low);
              apart = omega (arith, few, at, limits.vectors_low);
              room = omega (arith, few, long);
            };
          };
          ids_room = a;
          distances_room = b;
        }
