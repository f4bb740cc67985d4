-- The hits that the defined walk has found, whatever its budget: each is a row's, so its key is its distance's, and no two have one document id, since
-- at most what is due was found and that has each row once. So nothing is dropped, and of a whole walk's hits those of live rows are the hits that the search
-- is about.
use Rattle.std.specs.Prelude.{ℕ, ◌/◌, ◌%◌, ◌^◌, ◌≤◌, ◌<◌, Bool, true, ◌≡◌, refl, Float, length, get_or}
use Rattle.std.proofs.Common.{arith, sym, ap, ◌∙◌, subst}
use mathlib.Core.List.{List, map, map-map, Memᴰ}
use Rattle.lists.specs.Lists.{keep}
use Rattle.lists.specs.Maps.{map_on, Memᴰ-map}
use Rattle.lists.specs.Counting.{sum_of, sum_of-map, get_d_Memᴰ, Memᴰ-keep}
use Rattle.lists.specs.Partition.{hit, count, count-Memᴰ, Memᴰ-count, Different}
use Rattle.record_queue.specs.Sorted.{sort}
use Rattle.record_queue.specs.SortedLaws.{sort-keep}
use Rattle.distance.specs.DistanceLaws.{distance-fits}
use Rattle.total_order.specs.TotalOrder.{key_of, of_key}
use Rattle.total_order.specs.OrderLaws.{of_key-key_of}
use Rattle.vector.specs.Normalized.{normalized}
use Rattle.walk.specs.Walk.{View, Progress, going, walk, whole}
use Rattle.walk.specs.Answer.{document_of, distance_of, ranked}
use Rattle.walk.proofs.SoundWalk.{sound-part, sound-whole}
use Rattle.walk.proofs.AnswerLaws.{ranked-all}
use Rattle.walk.specs.Wanted.{Sought}
use Rattle.curator.specs.Searches.{wanted_of}
use Rattle.curator.specs.Arguments.{Question}
use Rattle.runs.specs.Model.{Setting, Model, ModelRow, no_row, row_hit, row_live, tree_view}
use Rattle.runs.specs.Theorem.{Distinct, carries, carrying, about, row_distance}
use Rattle.runs.proofs.State.{Allowed, Within, Small}
use Rattle.runs.proofs.Due.{due_below, size_at, IsNode, sound_tree, root-due}
use Rattle.runs.proofs.Eligible.{due-carrying, number-below, rank_hit, hits_carrying, hits_about, ranks_carrying, row_rank, hit_rank, documents-different}

-- the rows that carry what is wanted, and those that a search is about, are rows
carrying-rows : (m : Model) (question : Question) (r : ModelRow) → Memᴰ r (carrying question m) → Memᴰ r m.rows
unfolding carrying
carrying-rows m question r k = (Memᴰ-keep (carries question.asked) r m.rows k).1

pub about-rows : (m : Model) (question : Question) (r : ModelRow) → Memᴰ r (about question m) → Memᴰ r m.rows
unfolding about
about-rows m question r k = carrying-rows m question r (Memᴰ-keep (λ t. t.live) r (carrying question m) k).1

-- what a rank says: the document id, and the key of the distance
pub rank_document : (question : Question) (r : ModelRow) → r.document < 2 ^ 32 → row_rank question r % 2 ^ 32 ≡ r.document
rank_document question r h = let key = key_of (row_distance question r) in omega arith

pub rank_distance : (question : Question) (r : ModelRow) → r.document < 2 ^ 32 → of_key (row_rank question r / 2 ^ 32) ≡ row_distance question r
rank_distance question r h =
    let key = key_of (row_distance question r) in
    let e : row_rank question r / 2 ^ 32 ≡ key_of (row_distance question r) = omega arith in
    ap of_key e ∙ of_key-key_of (row_distance question r) (distance-fits (normalized question.query) r.vector)

-- a hit by its rank
pub hit-distance : (hit : ℕ) → distance_of hit ≡ of_key (hit_rank hit / 2 ^ 32)
unfolding distance_of
hit-distance hit = let e : hit / 2 ^ 64 ≡ hit / 2 ^ 32 / 2 ^ 32 = omega arith in ap of_key e

count-sum : (x : ℕ) (l : List ℕ) → count x (map document_of l) ≡ sum_of (λ h. hit x (document_of h)) l
unfolding count
count-sum x l = sum_of-map (hit x) document_of l

count_is : (x : ℕ) (l : List ℕ) → count x l ≡ sum_of (hit x) l
unfolding count
count_is x l = refl

-- the view that a search walks
abbrev pub search_view : Setting → Model → Question → View
search_view s m question = tree_view s m (normalized question.query) (wanted_of question.asked)

module _ (s : Setting) (m : Model) (a : Allowed s) (w : Within s m) (d : Distinct m) (small : Small m) (question : Question) where
  abbrev query : List Float
  query = normalized question.query

  abbrev wanted : Sought
  wanted = wanted_of question.asked

  all-due : due_below s m query wanted 0 ≡ hits_carrying m question
  all-due = root-due s m a w query wanted ∙ due-carrying m d query wanted

  hits-documents : map document_of (hits_carrying m question) ≡ map (λ r. r.document) (carrying question m)
  hits-documents =
      let rows = carrying question m in
      sym (map-map (λ n. n % 2 ^ 32) hit_rank (hits_carrying m question))
      ∙ ap (map (λ n. n % 2 ^ 32)) (ranks_carrying s m a w question)
      ∙ map-map (λ n. n % 2 ^ 32) (row_rank question) rows
      ∙ map_on (λ r. row_rank question r % 2 ^ 32) (λ r. r.document) rows (λ r k. rank_document question r (small r (carrying-rows m question r k)))

  module _ (b : ℕ) (p : Progress) (e : walk (search_view s m question) b ≡ going p) where
    -- at most what is due was found
    found_part_lem : (f : ℕ → ℕ) → sum_of f p.found ≤ sum_of f (hits_carrying m question)
    found_part_lem f =
        subst (λ (l : List ℕ). sum_of f p.found ≤ sum_of f l) all-due
        (sound-part (search_view s m question) (due_below s m query wanted) (size_at s m) (IsNode s m) (sound_tree s m a w query wanted) b p e f)

    pub found-different : Different (map document_of p.found)
    found-different x =
        let one : count x (map document_of (hits_carrying m question)) ≤ 1 =
        subst (λ (l : List ℕ). count x l ≤ 1) (sym hits-documents) (documents-different m d question x) in
        omega (arith, found_part_lem (λ h. hit x (document_of h)), count-sum x p.found, count-sum x (hits_carrying m question), one)

    pub found-ranked : (test : ℕ → Bool) → ranked test p ≡ sort (keep test p.found)
    found-ranked test = ranked-all test p found-different

    -- each hit is a row's
    found-row : (h : ℕ) → Memᴰ h p.found → (i : ℕ) × (i < length m.rows) × (h ≡ row_hit m query i)
    found-row h k =
        let some : 0 < count h (hits_carrying m question) = omega (arith, Memᴰ-count k, found_part_lem (hit h), count_is h p.found, count_is h (hits_carrying m question)) in
        let r = Memᴰ-map (row_hit m query) (count-Memᴰ h (hits_carrying m question) some) in
        (r.0, number-below wanted m r.0 r.1, r.2)

    -- so its key is its distance's
    pub found-key : (h : ℕ) → Memᴰ h p.found
        → (r : ModelRow) × (distance_of h ≡ row_distance question r) × (h / 2 ^ 64 ≡ key_of (row_distance question r))
    found-key h k =
        let (i, low, is) = found-row h k in
        let r = get_or m.rows i no_row in
        let doc : r.document < 2 ^ 32 = small r (get_d_Memᴰ m.rows i no_row low) in
        let rank : hit_rank h ≡ row_rank question r = ap hit_rank is ∙ rank_hit s m a w question i low in
        let key = key_of (row_distance question r) in
        (r, hit-distance h ∙ ap (λ (n : ℕ). of_key (n / 2 ^ 32)) rank ∙ rank_distance question r doc, omega arith)

    -- a whole walk has found all that is due
    found-due : whole p ≡ true → sort p.found ≡ sort (hits_carrying m question)
    found-due f =
        sound-whole (search_view s m question) (due_below s m query wanted) (size_at s m) (IsNode s m) (sound_tree s m a w query wanted) b p e f ∙ ap sort all-due

    -- so of it the search is about those of live rows
    pub found-whole : whole p ≡ true → sort (keep (row_live m) p.found) ≡ sort (hits_about m question)
    found-whole f =
        sort-keep (row_live m) p.found ∙ ap (keep (row_live m)) (found-due f) ∙ sym (sort-keep (row_live m) (hits_carrying m question))
