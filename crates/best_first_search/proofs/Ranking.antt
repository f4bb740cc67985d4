-- From the vectors found to the first k of their hits: hits are measured, those that come after k documents are left out, and more are measured. Assumes
-- nothing.
use Prim.Native.Nat.{ℕ, ◌+◌, ◌-◌, ◌*◌, ◌/◌, ◌^◌, ◌≤◌, ◌<◌, min}
use native.Mathlib.Omega.{arith}
use mathlib.Core.Path.{◌≡◌, refl, sym, ap, ap₂, ◌∙◌, subst}
use mathlib.Core.Logic.{◌⊎◌, inl, inr}
use mathlib.Core.Bool.{Bool, true, false, not, false≢true}
use mathlib.Core.List.Memᴰ
use mathlib.Core.List.{List, [], ◌∷◌, ◌++◌, map, map-append, append_assoc, append-nil, Memᴰ}
use lib.Dec.{ltb}
use lib.Ieee.{Float}
use lib.ListN.{length, take, drop, length-append, length-map}
use lib.Seq.{sets}
use borrow.Author.Tests.{leb-false, ltb-true}
use Rattle.lists.specs.Lists.{part, keep}
use Rattle.lists.specs.Parts.{length_part, part-append-parts, drop_more}
use Rattle.lists.specs.Counting.{Memᴰ-keep}
use Rattle.lists.specs.Tests.{which, all_pass-Memᴰ}
use Rattle.record_queue.specs.declared.Record.{Record}
use Rattle.record_queue.specs.Sorted.{sort, insert, Sorted}
use Rattle.record_queue.specs.SortedLaws.{sort-nil, sort-cons, sort_snoc, sort_sorted, sort_of_sorted, sort-append_comm, sort-append_cong}
use Rattle.record_queue.specs.Records.{value, records, Heap}
use Rattle.record_queue.specs.RecordsLaws.{records-zero}
use Rattle.store.specs.declared.Shape.{Shape}
use Rattle.store.specs.declared.Counts.{Counts}
use Rattle.store.specs.Store.{live_marks}
use Rattle.walk.specs.StoreView.{hit_at}
use Rattle.walk.specs.Answer.{document_of, vector_of, distance_of, is_live, drop_after, drop_repeats, listed}
use Rattle.walk.proofs.AnswerLaws.{drop-nil, drop-same, drop_other}
use Rattle.hit_queue.specs.declared.answer.Taken.{Taken}
use Rattle.hit_queue.specs.Promises.{hits_of, within, hits_from, Measure, MeasureLent, Measured, PoppedBehind, QueuedAgain, ranked_queue, Takes}
use Rattle.hit_queue.specs.QueueLaws.{repeats_after, document_popped, key-is, rest-same, measure-rest, numbers-same, measure-fewer}
use Rattle.best_first_search.specs.declared.rank.Kept.{Kept}
use Rattle.best_first_search.specs.Ranks.{first_documents, Enough, Front, PopsDocuments, KeepsFirst, Ranked, withdrawn, Firsts}
use Rattle.best_first_search.proofs.Runs.{last_of, after-append, without, sorted_before, sorted_front, sort-split}
use Rattle.best_first_search.proofs.Struck.{passes-first, listed-is, listed-few, hit-vector, struck-are}

-- ---- hits are popped until there are k documents

-- what was popped is a front of the hits in order, stands behind what is left, and has as many runs as were counted
pub record Popping (heap₀ : List ℕ) (count k : ℕ) (heap : List ℕ) (hits left last key : ℕ) : Type 0 where
  pub taken : List ℕ
  pub split : sort (records 3 count heap₀) ≡ taken ++ sort (records 3 left heap)
  pub placed : sort (hits_from left (count - left) heap) ≡ sort taken
  pub low : (y : ℕ) → Memᴰ y taken → y / 2 ^ 64 ≤ key
  pub runs : length (drop_after (2 ^ 32) taken) ≡ hits
  pub ends : last_of (2 ^ 32) taken ≡ last
  pub most : hits ≤ k
  pub few : left ≤ count
  pub queue : Heap (records 3 left heap)
  pub behind : drop (count * 3) heap ≡ drop (count * 3) heap₀
  pub size : length heap ≡ length heap₀

last_snoc : (d : ℕ) (xs : List ℕ) (x : ℕ) → last_of d (xs ++ (x ∷ [])) ≡ document_of x
last_snoc d [] x = refl
last_snoc d (y ∷ ys) x = last_snoc (document_of y) ys x

module _ (heap₀ : List ℕ) (count k : ℕ) where
  pub popping_start : Heap (records 3 count heap₀) → Popping heap₀ count k heap₀ 0 count (2 ^ 32) 0
  popping_start queue = record {
    taken = [];
    split = refl;
    placed = ap sort (ap (λ (n : ℕ). hits_from count n heap₀) (let t : count - count ≡ 0 = omega arith in t) ∙ records-zero 3 (drop (count * 3) heap₀));
    low = λ y m. absurd (Memᴰ.not-nil m);
    runs = ap length (drop-nil (2 ^ 32));
    ends = refl;
    most = omega arith;
    few = omega arith;
    queue = queue;
    behind = refl;
    size = refl;
  }

  module _ (heap heap' : List ℕ) (hits left last key : ℕ) (r : Record) (p : Popping heap₀ count k heap hits left last key) (q : PoppedBehind left heap r heap')
      (some : 0 < left) (fits : r.rest < 2 ^ 64) where
    abbrev rest : List ℕ
    rest = sort (records 3 (left - 1) heap')

    popped : sort (records 3 count heap₀) ≡ p.taken ++ (value r ∷ rest)
    popped = p.split ∙ ap (λ (l : List ℕ). p.taken ++ l) q.sorted

    lower : (y : ℕ) → Memᴰ y (p.taken ++ (value r ∷ [])) → y / 2 ^ 64 ≤ r.key
    lower y m = go (Memᴰ.append_cases p.taken m)
      where
        go : Memᴰ y p.taken ⊎ Memᴰ y (value r ∷ []) → y / 2 ^ 64 ≤ r.key
        go (inl i) =
            let le : y ≤ value r = sorted_before p.taken (value r ∷ rest) (subst Sorted popped (sort_sorted (records 3 count heap₀))) y i (value r) (Memᴰ.head refl) in
            omega (arith, le, key-is r fits)
        go (inr i) = go' (Memᴰ.cases_cons i)
          where
            go' : (y ≡ value r) ⊎ Memᴰ y [] → y / 2 ^ 64 ≤ r.key
            go' (inl e) = omega (arith, ap (λ (n : ℕ). n / 2 ^ 64) e, key-is r fits)
            go' (inr n) = absurd (Memᴰ.not-nil n)

    popping_next : (hits' last' : ℕ) → length (drop_after last (value r ∷ [])) + hits ≡ hits' → document_of (value r) ≡ last' → hits' ≤ k
        → Popping heap₀ count k heap' hits' (left - 1) last' r.key
    popping_next hits' last' n e most = record {
      taken = p.taken ++ (value r ∷ []);
      split = popped ∙ sym (append_assoc p.taken (value r ∷ []) rest);
      placed = ap sort (ap (λ (m : ℕ). hits_from (left - 1) m heap') (let t : count - (left - 1) ≡ count - left + 1 = omega (arith, p.few, some) in t) ∙ q.placed (count - left))
          ∙ sort-cons (value r) (hits_from left (count - left) heap) ∙ ap (insert (value r)) p.placed ∙ sym (sort_snoc p.taken (value r));
      low = lower;
      runs = ap length (after-append (2 ^ 32) p.taken (value r ∷ []) ∙ ap (λ (d : ℕ). drop_after (2 ^ 32) p.taken ++ drop_after d (value r ∷ [])) p.ends)
          ∙ length-append (drop_after (2 ^ 32) p.taken) (drop_after last (value r ∷ [])) ∙ (let t : length (drop_after (2 ^ 32) p.taken) + length (drop_after last (value r ∷ [])) ≡ hits' = omega (arith, n, p.runs) in t);
      ends = last_snoc (2 ^ 32) p.taken (value r) ∙ e;
      most = most;
      few = omega (arith, p.few);
      queue = q.queue;
      behind = drop_more (left * 3) (count * 3) heap' heap (omega (arith, p.few)) q.behind ∙ p.behind;
      size = q.size ∙ p.size;
    }

    -- its document is the last one, or another
    pub popping_same : r.rest / 2 ^ 32 ≡ last → Popping heap₀ count k heap' hits (left - 1) last r.key
    popping_same e =
        let same : document_of (value r) ≡ last = document_popped r fits ∙ e in
        popping_next hits last (omega (arith, ap length (drop-same last (value r) [] same ∙ drop-nil last))) same p.most

    pub popping_other : (r.rest / 2 ^ 32 ≡ last → ⊥) → (hits ≡ k → ⊥) → Popping heap₀ count k heap' (hits + 1) (left - 1) (r.rest / 2 ^ 32) r.key
    popping_other n more =
        let other : document_of (value r) ≡ last → ⊥ = λ e. n (sym (document_popped r fits) ∙ e) in
        popping_next (hits + 1) (r.rest / 2 ^ 32)
        (omega (arith, ap length (drop_other last (value r) [] other ∙ ap {B = List ℕ} (λ l. value r ∷ l) (drop-nil (document_of (value r)))))) (document_popped r fits)
        (omega (arith, p.most, more))

  module _ (heap : List ℕ) (hits left last key : ℕ) (p : Popping heap₀ count k heap hits left last key) where
    -- what stands behind is what was popped, in order
    front-is : (kept : ℕ) → kept ≡ count - left → sort (hits_from (count - kept) kept heap) ≡ p.taken
    front-is kept e =
        ap sort (ap₂ (λ (place n : ℕ). hits_from place n heap) (let t : count - kept ≡ left = omega (arith, e, p.few) in t) e) ∙ p.placed
        ∙ sort_of_sorted p.taken (sorted_front p.taken (sort (records 3 left heap)) (subst Sorted p.split (sort_sorted (records 3 count heap₀))))

    -- there are k, or none is left
    pub pops_enough : hits ≡ k → PopsDocuments heap₀ count k (record { count = count - left; bound = key }) heap
    pops_enough e = record {
      few = omega arith;
      front = subst (Front k key (sort (records 3 count heap₀))) (sym (front-is (count - left) refl)) (record {
        rest = sort (records 3 left heap);
        split = p.split;
        enough = inr (record { documents = omega (arith, e, p.runs, ap length (repeats_after p.taken)); low = p.low });
      });
      behind = p.behind;
      size = p.size;
    }

    pub pops_all : left ≡ 0 → PopsDocuments heap₀ count k (record { count = count; bound = 2 ^ 32 - 1 }) heap
    pops_all none = record {
      few = omega arith;
      front = subst (Front k (2 ^ 32 - 1) (sort (records 3 count heap₀))) (sym (front-is count (omega (arith, none)))) (record {
        rest = sort (records 3 left heap);
        split = p.split;
        enough = inl (refl, ap (λ (n : ℕ). sort (records 3 n heap)) none ∙ ap sort (records-zero 3 heap) ∙ sort-nil);
      });
      behind = p.behind;
      size = p.size;
    }

-- and they are made the queue
pub keeps-first : (heap heap₁ heap₂ : List ℕ) (count k : ℕ) (r : Kept) → PopsDocuments heap count k r heap₁ → QueuedAgain (count - r.count) r.count heap₁ heap₂
    → KeepsFirst heap count k r heap₂
keeps-first heap heap₁ heap₂ count k r p q = record {
  few = p.few;
  queue = q.queue;
  front = subst (Front k r.bound (sort (records 3 count heap))) (sym q.sorted) p.front;
  behind = drop_more (r.count * 3) (count * 3) heap₂ heap₁ (omega (arith, p.few)) q.behind ∙ p.behind;
  size = q.size ∙ p.size;
}

-- ---- hits that are left out

-- the hits of a queue in order, and others
sort_beside : (queue others : List ℕ) → sort (queue ++ others) ≡ sort (sort queue ++ others)
sort_beside queue others = sort-append_cong queue (sort queue) others others (sym (sort_of_sorted (sort queue) (sort_sorted queue))) refl

module _ (k bound : ℕ) where
  -- those past the bound, of the next ones
  next-first : (queue next later queue' : List ℕ) → sort queue' ≡ sort (keep (within bound) next ++ queue) → (bound ≡ 2 ^ 32 - 1 → keep (within bound) next ≡ next)
      → (bound ≡ 2 ^ 32 - 1) ⊎ Enough k bound (sort queue)
      → take k (drop_repeats (sort (queue' ++ later))) ≡ take k (drop_repeats (sort (queue ++ (next ++ later))))
  next-first queue next later queue' is all e = ap (λ (l : List ℕ). take k (drop_repeats l)) same ∙ go e
    where
      p : ℕ → Bool
      p = within bound

      past : List ℕ
      past = keep (λ x. not (p x)) next

      near : List ℕ
      near = keep p next ++ later

      same : sort (queue' ++ later) ≡ sort (queue ++ near)
      same =
          sort-append_cong queue' (queue ++ keep p next) later later (is ∙ sort-append_comm (keep p next) queue) refl ∙ ap sort (append_assoc queue (keep p next) later)

      whole : sort (queue ++ (next ++ later)) ≡ sort (sort queue ++ (past ++ near))
      whole =
          sort-append_cong queue (sort queue) (next ++ later) (past ++ near) (sym (sort_of_sorted (sort queue) (sort_sorted queue)))
          (sort-append_cong next (past ++ keep p next) later later (sort-split p next) refl ∙ ap sort (append_assoc past (keep p next) later))

      far : (b : ℕ) → Memᴰ b past → bound < b / 2 ^ 64
      far b m = go' (which (p b)) (Memᴰ-keep (λ x. not (p x)) b next m).0
        where
          go' : (p b ≡ true) ⊎ (p b ≡ false) → not (p b) ≡ true → bound < b / 2 ^ 64
          go' (inl t) n = absurd (false≢true (sym (ap not t) ∙ n))
          go' (inr f) n = leb-false (b / 2 ^ 64) bound f

      go : (bound ≡ 2 ^ 32 - 1) ⊎ Enough k bound (sort queue) → take k (drop_repeats (sort (queue ++ near))) ≡ take k (drop_repeats (sort (queue ++ (next ++ later))))
      go (inl top) = ap (λ (l : List ℕ). take k (drop_repeats (sort (queue ++ (l ++ later))))) (all top)
      go (inr enough) =
          ap (λ (l : List ℕ). take k (drop_repeats l)) (sort_beside queue near)
          ∙ sym (ap (λ (l : List ℕ). take k (drop_repeats l)) whole
          ∙ without k (sort queue) (subst (λ (l : List ℕ). k ≤ length (drop_repeats l)) (sym (sort_of_sorted (sort queue) (sort_sorted queue))) enough.documents) past near
          (λ y m b n. let t : y ≤ b = omega (arith, enough.low y m, far b n) in t))

  -- and those behind a front of the queue
  front-first : (queue queue' others : List ℕ) → Front k bound (sort queue) (sort queue')
      → take k (drop_repeats (sort (queue' ++ others))) ≡ take k (drop_repeats (sort (queue ++ others)))
  front-first queue queue' others f = ap (λ (l : List ℕ). take k (drop_repeats l)) (sort_beside queue' others) ∙ go f.enough ∙ sym (ap (λ (l : List ℕ). take k (drop_repeats l)) whole)
    where
      front : List ℕ
      front = sort queue'

      whole : sort (queue ++ others) ≡ sort (front ++ (f.rest ++ others))
      whole = sort_beside queue others ∙ ap (λ (l : List ℕ). sort (l ++ others)) f.split ∙ ap sort (append_assoc front f.rest others)

      go : ((bound ≡ 2 ^ 32 - 1) × (f.rest ≡ [])) ⊎ Enough k bound front
          → take k (drop_repeats (sort (front ++ others))) ≡ take k (drop_repeats (sort (front ++ (f.rest ++ others))))
      go (inl none) = ap (λ (l : List ℕ). take k (drop_repeats (sort (front ++ (l ++ others))))) (sym none.1)
      go (inr enough) =
          sym (without k front (subst (λ (l : List ℕ). k ≤ length (drop_repeats l)) (sym (sort_of_sorted front (sort_sorted queue'))) enough.documents) f.rest others
          (sorted_before front f.rest (subst Sorted f.split (sort_sorted queue))))

-- ---- the vectors found, part after part

-- the first k of the hits in the queue and of those still to be measured are the first k of all
pub record Ranking (c : Counts) (h : ℕ → ℕ) (k found : ℕ) (hits heap₀ heap : List ℕ) (chunk queued bound at left : ℕ) : Type 0 where
  pub few : left ≤ found
  pub some : min found 1 ≤ chunk
  pub measure : Measure c heap queued at left
  pub first : take k (drop_repeats (sort (records 3 queued heap ++ map h (part at left heap)))) ≡ first_documents k hits
  pub enough : (bound ≡ 2 ^ 32 - 1) ⊎ Enough k bound (sort (records 3 queued heap))
  pub size : length heap ≡ length heap₀

module _ (c : Counts) (h : ℕ → ℕ) (k found : ℕ) where
  pub ranking_start : (from chunk : ℕ) (heap : List ℕ) → min found 1 ≤ chunk → Measure c heap 0 from found
      → Ranking c h k found (map h (part from found heap)) heap heap chunk 0 (2 ^ 32 - 1) from found
  ranking_start from chunk heap some w = record {
    few = omega arith;
    some = some;
    measure = w;
    first = ap (λ (l : List ℕ). first_documents k (l ++ map h (part from found heap))) (records-zero 3 heap);
    enough = inl refl;
    size = refl;
  }

  module _ (hits heap₀ heap heap₁ : List ℕ) (chunk queued bound at left n total : ℕ) (s : Ranking c h k found hits heap₀ heap chunk queued bound at left) (le : n ≤ left)
      (m : Measured bound (map h (part at n heap)) queued heap total heap₁) where
    -- the next n were measured
    long : length (map h (part at n heap)) ≡ n
    long = length-map (part at n heap) h ∙ length_part at n heap (let t : at + n ≤ length heap = omega (arith, s.measure.inside, le) in t)

    pub next-room : total * 3 ≤ length heap₁
    next-room = omega (arith, m.few, long, s.measure.room, le, m.size)

    next-measure : Measure c heap₁ total (at + n) (left - n)
    next-measure = measure-rest c bound queued total at left n heap heap₁ (map h (part at n heap)) s.measure long le m

    measured_first : take k (drop_repeats (sort (records 3 total heap₁ ++ map h (part (at + n) (left - n) heap₁)))) ≡ first_documents k hits
    measured_first =
        next-first k bound (records 3 queued heap) (map h (part at n heap)) later (records 3 total heap₁) m.sorted m.all s.enough
        ∙ ap (λ (l : List ℕ). take k (drop_repeats (sort (records 3 queued heap ++ l)))) parts ∙ s.first
      where
        later : List ℕ
        later = map h (part (at + n) (left - n) heap₁)

        parts : map h (part at n heap) ++ later ≡ map h (part at left heap)
        parts =
            ap (λ (l : List ℕ). map h (part at n heap) ++ map h l) (rest-same c bound queued total at left n heap heap₁ (map h (part at n heap)) s.measure long le m)
            ∙ sym (map-append h (part at n heap) (part (at + n) (left - n) heap))
            ∙ ap (map h) (part-append-parts at n (left - n) heap ∙ ap (λ (i : ℕ). part at i heap) (let t : n + (left - n) ≡ left = omega (arith, le) in t))

    -- and the first of the queue kept
    pub ranking_next : (chunk' : ℕ) (r : Kept) (heap₂ : List ℕ) → min found 1 ≤ chunk' → n < left → KeepsFirst heap₁ total k r heap₂
        → Ranking c h k found hits heap₀ heap₂ chunk' r.count r.bound (at + n) (left - n)
    ranking_next chunk' r heap₂ some less kept = record {
      few = omega (arith, s.few);
      some = some;
      measure = measure-fewer c total r.count (at + n) (left - n) heap₁ heap₂ next-measure more kept.few kept.behind kept.size kept.queue;
      first = front-first k r.bound (records 3 total heap₁) (records 3 r.count heap₂) (map h (part (at + n) (left - n) heap₂)) kept.front
          ∙ ap (λ (l : List ℕ). take k (drop_repeats (sort (records 3 total heap₁ ++ map h l))))
          (numbers-same c total r.count (at + n) (left - n) heap₁ heap₂ next-measure more kept.few kept.behind kept.size)
          ∙ measured_first;
      enough = go kept.front.enough;
      size = kept.size ∙ m.size ∙ s.size;
    }
      where
        more : 0 < left - n
        more = omega (arith, less)

        go : ((r.bound ≡ 2 ^ 32 - 1) × (kept.front.rest ≡ [])) ⊎ Enough k r.bound (sort (records 3 r.count heap₂))
            → (r.bound ≡ 2 ^ 32 - 1) ⊎ Enough k r.bound (sort (records 3 r.count heap₂))
        go (inl none) = inl none.0
        go (inr enough) = inr enough

    -- or all were measured
    pub ranked : n ≡ left → Ranked hits k total heap₁
    ranked all = record {
      room = next-room;
      queue = m.queue;
      first = ap (λ (l : List ℕ). take k (drop_repeats (sort l)))
          (sym (append-nil (records 3 total heap₁)) ∙ ap (λ (i : ℕ). records 3 total heap₁ ++ map h (part (at + n) i heap₁)) (let t : 0 ≡ left - n = omega (arith, all) in t))
          ∙ measured_first;
    }

-- ---- the first k that pass a test were taken

-- Where one document more was asked for than k for each hit that fails, they are the first k of all that pass
pub firsts : (test : ℕ → Bool) (hits heap heap' ids ids' : List ℕ) (distances distances' : List Float) (k documents total : ℕ) (t : Taken)
    → k + length (keep (λ x. not (test x)) hits) ≤ documents → Ranked hits documents total heap → Takes test heap total k ids distances t heap' ids' distances'
    → Firsts test hits k ids distances t.hits ids' distances'
firsts test hits heap heap' ids ids' distances distances' k documents total t asked r q =
    let same : take k (keep test (ranked_queue total heap)) ≡ take k (listed test hits) =
    passes-first test k documents (ranked_queue total heap) (drop_repeats (sort hits)) r.first (omega (arith, asked, listed-few (λ x. not (test x)) hits))
    ∙ ap (take k) (sym (listed-is test hits)) in
    record {
      count_is = q.count_is ∙ ap length same;
      ids_are = q.ids_are ∙ ap (λ (l : List ℕ). sets ids 0 (map document_of l)) same;
      distances_are = q.distances_are ∙ ap (λ (l : List ℕ). sets distances 0 (map distance_of l)) same;
    }

-- and the hits that fail are those of withdrawn vectors
module _ (s : Shape) (c : Counts) (floats : List Float) (numbers : List ℕ) (query : List Float) (from found : ℕ) (list : List ℕ) (w : MeasureLent s c floats numbers list 0 from found) where
  vectors-are : (x : ℕ) → Memᴰ x (part from found list) → vector_of (hit_at s floats numbers query x) ≡ x
  vectors-are x m =
      hit-vector s floats numbers query x
      (omega (
        arith,
        ltb-true x c.vectors (all_pass-Memᴰ (λ y. ltb y c.vectors) (part from found list) w.measure.held x m),
        w.lent.within.vectors,
        w.lent.within.limits.vectors_high,
      ))

  pub firsts_live : (marks heap heap' ids ids' : List ℕ) (distances distances' : List Float) (k documents total : ℕ) (t : Taken) → marks ≡ live_marks s c.vectors numbers
      → k + length (keep (withdrawn marks) (part from found list)) ≤ documents → Ranked (hits_of s floats numbers query (part from found list)) documents total heap
      → Takes (is_live marks) heap total k ids distances t heap' ids' distances'
      → Firsts (is_live (live_marks s c.vectors numbers)) (hits_of s floats numbers query (part from found list)) k ids distances t.hits ids' distances'
  firsts_live marks heap heap' ids ids' distances distances' k documents total t is asked r q =
      let hits : List ℕ = hits_of s floats numbers query (part from found list) in
      subst (λ (m : List ℕ). Firsts (is_live m) hits k ids distances t.hits ids' distances') is
      (firsts (is_live marks) hits heap heap' ids ids' distances distances' k documents total t
      (omega (arith, asked, struck-are marks (part from found list) (hit_at s floats numbers query) vectors-are)) r q)
