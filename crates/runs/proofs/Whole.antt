-- (b) A whole answer's ranks are, in order, those of the rows that the search is about; so are any reference list's; and a list in order is the only one
-- with its elements. The document ids and distances are read off the ranks. With as many openings as nodes no node waits at the end.
use Rattle.std.specs.Prelude.{ℕ, ◌/◌, ◌%◌, ◌^◌, ◌≤◌, ◌<◌, true, ◌≡◌, refl, Float, length, take}
use Rattle.std.proofs.Common.{arith, sym, ap, ap₂, ◌∙◌, subst, length-take}
use mathlib.Core.List.Permᴰ
use mathlib.Core.List.{List, [], ◌∷◌, map, map-map, Memᴰ}
use Rattle.std.proofs.lemmas.List.{length-map}
use Rattle.lists.specs.Maps.{map_on, map-take, take-Memᴰ}
use Rattle.lists.specs.Parts.{part-sets-same}
use Rattle.lists.specs.Partition.{perm_Memᴰ, perm_of_eq}
use Rattle.record_queue.specs.Sorted.{sort, Sorted, Least}
use Rattle.record_queue.specs.SortedLaws.{le_or_lt, sort_sorted, sort_perm, sorted_unique}
use Rattle.lists.specs.Tests.{either}
use Rattle.distance.specs.DistanceLaws.{distance-fits}
use Rattle.total_order.specs.TotalOrder.{key_of, of_key}
use Rattle.total_order.specs.OrderLaws.{total_order_le, key_of_injective}
use Rattle.vector.specs.Normalized.{normalized}
use Rattle.walk.specs.Walk.{Progress, going, walk, whole}
use Rattle.walk.specs.Answer.{document_of, distance_of, ranked}
use Rattle.walk.proofs.SoundWalk.{sound-enough}
use Rattle.settings.specs.Refusals.{check_number}
use Rattle.curator.specs.Searches.{wanted_of}
use Rattle.curator.specs.Arguments.{Question}
use Rattle.runs.specs.Calls.{Call, change, search}
use Rattle.runs.specs.Model.{Setting, Model, ModelRow, row_live, change_check, expected}
use Rattle.runs.specs.Run.{Ended}
use Rattle.runs.specs.Theorem.{Reply, Matches, Distinct, row_distance, NoLaterRow, InOrder, Reference, FirstOf, WholeIsFirst, Marked}
use Rattle.runs.proofs.State.{Allowed, Within, Small}
use Rattle.runs.proofs.Refusals.{search-room, SearchRoom}
use Rattle.runs.proofs.Search.{walk_is}
use Rattle.runs.proofs.Reached.{Finds, answered-finds, not_answered}
use Rattle.runs.proofs.Due.{due_below, size_at, IsNode, sound_tree, root-size}
use Rattle.runs.proofs.Eligible.{hits_about, ranks_about, row_rank, hit_rank}
use Rattle.runs.proofs.Hits.{search_view, about-rows, rank_document, rank_distance, hit-distance, found-ranked, found-whole}
use Rattle.runs.proofs.Larger.{Listed, reply_listed}

-- ---- lists in order

-- ranks of hits in order are in order
least_ranks : (x : ℕ) (l : List ℕ) → Least x l → Least (hit_rank x) (map hit_rank l)
least_ranks x [] h = tt
least_ranks x (y ∷ ys) h = (let le : x ≤ y = h.0 in let t : x / 2 ^ 32 ≤ y / 2 ^ 32 = omega arith in t, least_ranks x ys h.1)

sorted_ranks : (l : List ℕ) → Sorted l → Sorted (map hit_rank l)
sorted_ranks [] h = tt
sorted_ranks (x ∷ xs) h = (least_ranks x xs h.0, sorted_ranks xs h.1)

-- ranks of rows in order are in order
rank_le : (question : Question) (r t : ModelRow) → r.document < 2 ^ 32 → NoLaterRow question r t → row_rank question r ≤ row_rank question t
rank_le question r t low h =
    let query = normalized question.query in
    let fr = distance-fits query r.vector in
    let ft = distance-fits query t.vector in
    let x = key_of (row_distance question r) in
    let y = key_of (row_distance question t) in
    let le : key_of (row_distance question r) ≤ key_of (row_distance question t) = total_order_le (row_distance question r) (row_distance question t) fr ft h.0 in
    either (le_or_lt y x)
    (λ ge. let same : key_of (row_distance question r) ≡ key_of (row_distance question t) = omega arith in
    let docs : r.document ≤ t.document = h.1 (key_of_injective (row_distance question r) (row_distance question t) fr ft same) in
    omega arith)
    (λ lt. omega arith)

least-rows : (question : Question) (r : ModelRow) (l : List ModelRow) → r.document < 2 ^ 32 → ((t : ModelRow) → Memᴰ t l → NoLaterRow question r t)
    → Least (row_rank question r) (map (row_rank question) l)
least-rows question r [] low h = tt
least-rows question r (t ∷ l) low h = (rank_le question r t low (h t (Memᴰ.head refl)), least-rows question r l low (λ u k. h u (Memᴰ.tail k)))

sorted-rows : (question : Question) (l : List ModelRow) → ((r : ModelRow) → Memᴰ r l → r.document < 2 ^ 32) → InOrder question l → Sorted (map (row_rank question) l)
sorted-rows question [] low h = tt
sorted-rows question (r ∷ l) low h = (least-rows question r l (low r (Memᴰ.head refl)) h.0, sorted-rows question l (λ t k. low t (Memᴰ.tail k)) h.1)

-- ---- a whole answer

module _ (s : Setting) (m : Model) (a : Allowed s) (w : Within s m) (d : Distinct m) (small : Small m) (question : Question) (reference : List ModelRow)
    (ref : Reference m question reference) where
  low : (r : ModelRow) → Memᴰ r reference → r.document < 2 ^ 32
  low r k = small r (about-rows m question r (perm_Memᴰ ref.same k))

  module _ (b : ℕ) (p : Progress) (e : walk (search_view s m question) b ≡ going p) (f : whole p ≡ true) (k : ℕ) where
    -- the ranks of a whole walk's hits are those of the reference list
    ranks_same : map hit_rank (ranked (row_live m) p) ≡ map (row_rank question) reference
    ranks_same =
        let all : ranked (row_live m) p ≡ sort (hits_about m question) = found-ranked s m a w d small question b p e (row_live m) ∙ found-whole s m a w d small question b p e f in
        ap (map hit_rank) all
        ∙ sorted_unique (sorted_ranks (sort (hits_about m question)) (sort_sorted (hits_about m question))) (sorted-rows question reference low ref.ordered)
        (Permᴰ.trans (Permᴰ.map hit_rank (Permᴰ.symm (sort_perm (hits_about m question))))
        (Permᴰ.trans (perm_of_eq (ranks_about s m a w question)) (Permᴰ.map (row_rank question) (Permᴰ.symm ref.same))))

    first_ranks : map hit_rank (take k (ranked (row_live m) p)) ≡ map (row_rank question) (take k reference)
    first_ranks = map-take hit_rank k (ranked (row_live m) p) ∙ ap (take k) ranks_same ∙ sym (map-take (row_rank question) k reference)

    first-low : (r : ModelRow) → Memᴰ r (take k reference) → r.document < 2 ^ 32
    first-low r n = low r (take-Memᴰ k reference n)

    first-documents : map document_of (take k (ranked (row_live m) p)) ≡ map (λ r. r.document) (take k reference)
    first-documents =
        let rows = take k reference in
        sym (map-map (λ n. n % 2 ^ 32) hit_rank (take k (ranked (row_live m) p))) ∙ ap (map (λ n. n % 2 ^ 32)) first_ranks
        ∙ map-map (λ n. n % 2 ^ 32) (row_rank question) rows
        ∙ map_on (λ r. row_rank question r % 2 ^ 32) (λ r. r.document) rows (λ r n. rank_document question r (first-low r n))

    first-distances : map distance_of (take k (ranked (row_live m) p)) ≡ map (row_distance question) (take k reference)
    first-distances =
        let rows = take k reference in
        let hits = take k (ranked (row_live m) p) in
        map_on distance_of (λ h. of_key (hit_rank h / 2 ^ 32)) hits (λ h n. hit-distance h)
        ∙ sym (map-map (λ n. of_key (n / 2 ^ 32)) hit_rank hits) ∙ ap (map (λ n. of_key (n / 2 ^ 32))) first_ranks
        ∙ map-map (λ n. of_key (n / 2 ^ 32)) (row_rank question) rows
        ∙ map_on (λ r. of_key (row_rank question r / 2 ^ 32)) (row_distance question) rows (λ r n. rank_distance question r (first-low r n))

    pub first_of : (ids : List ℕ) (distances : List Float) (reply : Reply) → Listed (row_live m) k ids distances p reply → k ≤ length ids → k ≤ length distances
        → FirstOf question k reference reply
    first_of ids distances reply l ids_room distances_room =
        let hs = take k (ranked (row_live m) p) in
        let n : length hs ≡ length (take k reference) =
        sym (length-map hs hit_rank) ∙ ap length first_ranks ∙ length-map (take k reference) (row_rank question) in
        let most = length-take k (ranked (row_live m) p) in
        let i : length (map document_of hs) ≡ length hs = length-map hs document_of in
        let j : length (map distance_of hs) ≡ length hs = length-map hs distance_of in
        record {
          count = l.count ∙ n;
          ids =
              ap₂ (λ (c : ℕ) (x : List ℕ). take c x) (l.count ∙ sym i) l.ids_are
              ∙ part-sets-same ids 0 (map document_of hs) (omega (arith, i, most, ids_room)) ∙ first-documents;
          distances =
              ap₂ (λ (c : ℕ) (x : List Float). take c x) (l.count ∙ sym j) l.distances_are
              ∙ part-sets-same distances 0 (map distance_of hs) (omega (arith, j, most, distances_room)) ∙ first-distances;
        }

-- ---- every call

module _ (s : Setting) (a : Allowed s) (m : Model) (w : Within s m) where
  pub call_whole : Distinct m → Small m → (call : Call) (end : Ended) → Matches (expected s m call) call end → WholeIsFirst m call end
  call_whole d small (change fronts work c) end h = tt
  call_whole d small (search fronts work call) end h = λ reply g e reference ref.
      (let x : Finds s m fronts work call reply = answered-finds s m fronts work call end reply h g in
      let l = reply_listed (row_live m) call x.progress reply x.is in
      let room : SearchRoom s m fronts call = search-room s m fronts (length work) call x.check in
      first_of s m a w d small call.question reference ref s.params.ef_search x.progress (sym (walk_is s m call.question) ∙ x.walked)
      (sym l.whole_is ∙ e) call.k call.ids call.distances reply l room.ids room.distances)

  pub call_marked : (call : Call) (end : Ended) → Matches (expected s m call) call end → Marked s m end
  unfolding expected
  call_marked (change fronts work c) end h = λ enough reply g. absurd (not_answered fronts work c (check_number (change_check s m fronts (length work) c)) end reply h g)
  call_marked (search fronts work call) end h = λ enough reply g.
      (let x : Finds s m fronts work call reply = answered-finds s m fronts work call end reply h g in
      let query = normalized call.question.query in
      let wanted = wanted_of call.question.asked in
      (reply_listed (row_live m) call x.progress reply x.is).whole_is
      ∙ sound-enough (search_view s m call.question) (due_below s m query wanted) (size_at s m) (IsNode s m) (sound_tree s m a w query wanted) s.params.ef_search x.progress
      (subst (λ (n : ℕ). n ≤ s.params.ef_search) (sym (root-size s m a w)) enough) (sym (walk_is s m call.question) ∙ x.walked))
