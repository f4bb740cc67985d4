-- What is due in all is one hit for each row that carries what is wanted (WantedLaws.antt); of these the hits of live rows are those that the search is about. A
-- hit without its vector number ranks as its row does.
use Rattle.std.specs.Prelude.{ℕ, suc, ◌+◌, ◌*◌, ◌/◌, ◌^◌, ◌<◌, Bool, true, false, cond, ◌≡◌, refl, Float, length, get_or}
use Rattle.std.proofs.Common.{arith, ◌∙◌}
use mathlib.Core.List.Memᴰ
use mathlib.Core.List.{List, [], ◌∷◌, map, map-map, Memᴰ}
use Rattle.std.proofs.Math.Path.{sym, ap}
use Rattle.lists.specs.Partition.{Different}
use Rattle.lists.specs.Lists.{keep, count_from, is_in}
use Rattle.lists.specs.Maps.{map_on}
use Rattle.lists.specs.Tests.{either}
use Rattle.lists.specs.Counting.{is_in-nil, is_in-later, keep_congr, keep-map, Memᴰ-keep}
use Rattle.distance.specs.Distance.{distance}
use Rattle.total_order.specs.TotalOrder.{key_of}
use Rattle.vector.specs.Normalized.{normalized}
use Rattle.walk.specs.Answer.{hit_of, vector_of}
use Rattle.walk.proofs.DifferentLaws.{different-nil, different-cons}
use Rattle.curator.specs.Arguments.{Question}
use Rattle.walk.specs.Wanted.{Sought}
use Rattle.curator.specs.Searches.{wanted_of}
use Rattle.runs.specs.Model.{Setting, Model, ModelRow, no_row, row_hit, row_live}
use Rattle.runs.specs.Theorem.{NoTwo, Distinct, carries, carrying, about, row_distance}
use Rattle.runs.proofs.State.{Allowed, Within, limits}
use Rattle.runs.proofs.WantedLaws.{carried, carried-is, numbers_carrying, given-all}
use Rattle.runs.proofs.Due.{due}

-- ---- what is due in all

pub due-carrying : (m : Model) → Distinct m → (query : List Float) (wanted : Sought)
    → due m query wanted (count_from 0 (length m.rows)) ≡ map (row_hit m query) (numbers_carrying wanted 0 m.rows)
unfolding due
due-carrying m d query wanted = ap (map (row_hit m query)) (given-all wanted m d.labels)

-- ---- the rows of the numbers

numbers-suc : (wanted : Sought) (i : ℕ) (rows : List ModelRow) → numbers_carrying wanted (suc i) rows ≡ map suc (numbers_carrying wanted i rows)
unfolding numbers_carrying
numbers-suc wanted i [] = refl
numbers-suc wanted i (r ∷ rows) = ap (λ (l : List ℕ). cond (carried wanted r) (suc i ∷ l) l) (numbers-suc wanted (suc i) rows) ∙ go (carried wanted r)
  where
    go : (b : Bool) → cond b (suc i ∷ map suc (numbers_carrying wanted (suc i) rows)) (map suc (numbers_carrying wanted (suc i) rows))
        ≡ map suc (cond b (i ∷ numbers_carrying wanted (suc i) rows) (numbers_carrying wanted (suc i) rows))
    go true = refl
    go false = refl

rows-carrying : (wanted : Sought) (rows : List ModelRow) → map (λ i. get_or rows i no_row) (numbers_carrying wanted 0 rows) ≡ keep (carried wanted) rows
unfolding numbers_carrying keep
rows-carrying wanted [] = refl
rows-carrying wanted (r ∷ rows) =
    let later : map (λ i. get_or (r ∷ rows) i no_row) (numbers_carrying wanted 1 rows) ≡ keep (carried wanted) rows =
    ap (map (λ i. get_or (r ∷ rows) i no_row)) (numbers-suc wanted 0 rows) ∙ map-map (λ i. get_or (r ∷ rows) i no_row) suc (numbers_carrying wanted 0 rows)
    ∙ rows-carrying wanted rows in
    go (carried wanted r) ∙ ap (λ (l : List ModelRow). cond (carried wanted r) (r ∷ l) l) later
  where
    go : (b : Bool) → map (λ i. get_or (r ∷ rows) i no_row) (cond b (0 ∷ numbers_carrying wanted 1 rows) (numbers_carrying wanted 1 rows))
        ≡ cond b (r ∷ map (λ i. get_or (r ∷ rows) i no_row) (numbers_carrying wanted 1 rows)) (map (λ i. get_or (r ∷ rows) i no_row) (numbers_carrying wanted 1 rows))
    go true = refl
    go false = refl

pub carrying-is : (question : Question) (m : Model)
    → map (λ i. get_or m.rows i no_row) (numbers_carrying (wanted_of question.asked) 0 m.rows) ≡ carrying question m
unfolding carrying
carrying-is question m =
    rows-carrying (wanted_of question.asked) m.rows
    ∙ keep_congr (carried (wanted_of question.asked)) (carries question.asked) m.rows (λ r k. carried-is question.asked r)

numbers-below : (wanted : Sought) (i : ℕ) (rows : List ModelRow) (x : ℕ) → Memᴰ x (numbers_carrying wanted i rows) → x < i + length rows
unfolding numbers_carrying
numbers-below wanted i [] x k = absurd (Memᴰ.not-nil k)
numbers-below wanted i (r ∷ rows) x k = go (carried wanted r) k (numbers-below wanted (suc i) rows x)
  where
    go : (b : Bool) → Memᴰ x (cond b (i ∷ numbers_carrying wanted (suc i) rows) (numbers_carrying wanted (suc i) rows))
        → (Memᴰ x (numbers_carrying wanted (suc i) rows) → x < suc i + length rows) → x < i + suc (length rows)
    go true k later = either (Memᴰ.cases_cons k) (λ e. omega arith) (λ n. let b : x < suc i + length rows = later n in omega arith)
    go false k later = let b : x < suc i + length rows = later k in omega arith

pub number-below : (wanted : Sought) (m : Model) (x : ℕ) → Memᴰ x (numbers_carrying wanted 0 m.rows) → x < length m.rows
number-below wanted m x k = let b = numbers-below wanted 0 m.rows x k in omega (arith, b)

-- ---- ranks

-- a row's rank: its distance's key, then its document id; a hit's is the hit without its vector number
abbrev pub row_rank : Question → ModelRow → ℕ
row_rank question r = key_of (row_distance question r) * 2 ^ 32 + r.document

abbrev pub hit_rank : ℕ → ℕ
hit_rank hit = hit / 2 ^ 32

pub rank_hit : (s : Setting) (m : Model) → Allowed s → Within s m → (question : Question) (i : ℕ) → i < length m.rows
    → hit_rank (row_hit m (normalized question.query) i) ≡ row_rank question (get_or m.rows i no_row)
unfolding row_hit
rank_hit s m a w question i h =
    let key = key_of (row_distance question (get_or m.rows i no_row)) in
    let doc = (get_or m.rows i no_row).document in
    let low : i < 2 ^ 32 = omega (arith, h, w.vectors, (limits s a).vectors_high) in
    omega arith

-- a hit tells its row
live-hit : (s : Setting) (m : Model) → Allowed s → Within s m → (query : List Float) (i : ℕ) → i < length m.rows
    → row_live m (row_hit m query i) ≡ (get_or m.rows i no_row).live
unfolding row_live row_hit
live-hit s m a w query i h =
    let low : i < 2 ^ 32 = omega (arith, h, w.vectors, (limits s a).vectors_high) in
    let e : vector_of (hit_of (distance query (get_or m.rows i no_row).vector) (get_or m.rows i no_row).document i) ≡ i = omega arith in
    ap (λ (k : ℕ). (get_or m.rows k no_row).live) e

-- one hit for each row that carries what is wanted, and those of them that a search is about
abbrev pub hits_carrying : Model → Question → List ℕ
hits_carrying m question = map (row_hit m (normalized question.query)) (numbers_carrying (wanted_of question.asked) 0 m.rows)

abbrev pub hits_about : Model → Question → List ℕ
hits_about m question = keep (row_live m) (hits_carrying m question)

module _ (s : Setting) (m : Model) (a : Allowed s) (w : Within s m) (question : Question) where
  abbrev wanted : Sought
  wanted = wanted_of question.asked

  abbrev query : List Float
  query = normalized question.query

  abbrev numbers : List ℕ
  numbers = numbers_carrying wanted 0 m.rows

  abbrev row_at : ℕ → ModelRow
  row_at i = get_or m.rows i no_row

  -- hits of some rows
  ranks_of : (l : List ℕ) → ((i : ℕ) → Memᴰ i l → i < length m.rows) → map hit_rank (map (row_hit m query) l) ≡ map (row_rank question) (map row_at l)
  ranks_of l low =
      map-map hit_rank (row_hit m query) l
      ∙ map_on (λ i. hit_rank (row_hit m query i)) (λ i. row_rank question (row_at i)) l (λ i k. rank_hit s m a w question i (low i k))
      ∙ sym (map-map (row_rank question) row_at l)

  pub ranks_carrying : map hit_rank (hits_carrying m question) ≡ map (row_rank question) (carrying question m)
  ranks_carrying = ranks_of numbers (λ i k. number-below wanted m i k) ∙ ap (map (row_rank question)) (carrying-is question m)

  -- the hits that the search is about are those of the numbers of live rows
  hits-live : hits_about m question ≡ map (row_hit m query) (keep (λ i. (row_at i).live) numbers)
  hits-live =
      keep-map (row_live m) (row_hit m query) numbers
      ∙ ap (map (row_hit m query))
      (keep_congr (λ i. row_live m (row_hit m query i)) (λ i. (row_at i).live) numbers (λ i k. live-hit s m a w query i (number-below wanted m i k)))

  rows-live : map row_at (keep (λ i. (row_at i).live) numbers) ≡ about question m
  unfolding about
  rows-live = sym (keep-map (λ r. r.live) row_at numbers) ∙ ap (keep (λ r. r.live)) (carrying-is question m)

  pub ranks_about : map hit_rank (hits_about m question) ≡ map (row_rank question) (about question m)
  ranks_about =
      let live = keep (λ i. (row_at i).live) numbers in
      ap (map hit_rank) hits-live ∙ ranks_of live (λ i k. number-below wanted m i (Memᴰ-keep (λ i. (row_at i).live) i numbers k).1)
      ∙ ap (map (row_rank question)) rows-live

-- ---- documents are different

keep_two : {A : Type 0} (Same : A → A → Type 0) (p : A → Bool) (l : List A) → NoTwo Same l → NoTwo Same (keep p l)
unfolding keep
keep_two Same p [] d = tt
keep_two {A} Same p (x ∷ xs) d = go (p x) (keep_two Same p xs d.1)
  where
    go : (b : Bool) → NoTwo Same (keep p xs) → NoTwo Same (cond b (x ∷ keep p xs) (keep p xs))
    go true rest = (λ y k. d.0 y (Memᴰ-keep p y xs k).1, rest)
    go false rest = rest

two-different : (rows : List ModelRow) → NoTwo (λ (r t : ModelRow). r.document ≡ t.document) rows → Different (map (λ r. r.document) rows)
two-different [] d = different-nil
two-different (r ∷ rows) d =
    different-cons r.document (map (λ t. t.document) rows) (absent rows d.0) (two-different rows d.1)
  where
    absent : (l : List ModelRow) → ((t : ModelRow) → Memᴰ t l → r.document ≡ t.document → ⊥) → is_in r.document (map (λ t. t.document) l) ≡ false
    absent [] h = is_in-nil r.document
    absent (t ∷ l) h =
        is_in-later r.document t.document (map (λ t. t.document) l) (h t (Memᴰ.head refl)) ∙ absent l (λ y k. h y (Memᴰ.tail k))

pub documents-different : (m : Model) → Distinct m → (question : Question) → Different (map (λ r. r.document) (carrying question m))
unfolding carrying
documents-different m d question =
    let test = carries question.asked in
    two-different (keep test m.rows) (keep_two (λ (r t : ModelRow). r.document ≡ t.document) test m.rows d.documents)
