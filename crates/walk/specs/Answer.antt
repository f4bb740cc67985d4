-- Document 01, 'Search': 'Hits are sorted, adjacent equal document ids lose the later, the first k stay.' 02, K10: 'Every search .. gives only live vectors'.
use Rattle.std.specs.Prelude.{ℕ, ◌+◌, ◌*◌, ◌/◌, ◌%◌, ◌^◌, Bool, not, cond, List, [], ◌∷◌, map, eqb, Float, length, get_or, take}
use Rattle.lists.specs.Lists.{keep}
use Rattle.record_queue.specs.Sorted.{sort}
use Rattle.total_order.specs.TotalOrder.{key_of, of_key}
use Rattle.walk.specs.Walk.{Progress, none, whole}

-- A hit is one number, so that `<` orders by distance in total order, then document id, then vector number: each of the three is below 2 ^ 32.
abbrev pub hit_of : Float → ℕ → ℕ → ℕ
hit_of distance document vector = key_of distance * 2 ^ 64 + (document * 2 ^ 32 + vector)

abbrev pub document_of : ℕ → ℕ
document_of hit = hit / 2 ^ 32 % 2 ^ 32

abbrev pub vector_of : ℕ → ℕ
vector_of hit = hit % 2 ^ 32

unfoldable pub distance_of : ℕ → Float
unfolding of_key
distance_of hit = of_key (hit / 2 ^ 64)

-- the hits after one with a document id: those directly after it with the same id go
unfoldable pub drop_after : ℕ → List ℕ → List ℕ
drop_after document [] = []
drop_after document (hit ∷ rest) =
    let same = drop_after document rest in
    let kept = hit ∷ drop_after (document_of hit) rest in
    cond (eqb (document_of hit) document) same kept

-- 'adjacent equal document ids lose the later'
unfoldable pub drop_repeats : List ℕ → List ℕ
unfolding drop_after
drop_repeats [] = []
drop_repeats (hit ∷ rest) = hit ∷ drop_after (document_of hit) rest

-- 02, K10: '0 is withdrawn, anything else live'. Whether a hit's vector is live, by the live marks of the vectors held
unfoldable pub is_live : List ℕ → ℕ → Bool
is_live marks hit = not (eqb (get_or marks (vector_of hit) 0) 0)

-- The hits of a search as they are listed: 'sorted, adjacent equal document ids lose the later', and of what is left those that pass a test: 'adjacent
-- repeats are dropped before withdrawn hits are struck' (02, K10).
unfoldable pub listed : (ℕ → Bool) → List ℕ → List ℕ
unfolding sort drop_repeats keep
listed test found = keep test (drop_repeats (sort found))

-- 'The answer carries the hit count, the nodes opened, and whole or cut'; its hits are document ids and distances.
pub record Answer : Type 0 where
  pub ids : List ℕ
  pub distances : List Float
  pub total : ℕ
  pub opened : ℕ
  pub complete : Bool

-- 'the first k stay', of hits as they are listed
unfoldable pub answer_of : List ℕ → ℕ → ℕ → Bool → Answer
unfolding distance_of
answer_of hits k opened complete =
    record {
      ids = map document_of (take k hits);
      distances = map distance_of (take k hits);
      total = length hits;
      opened = opened;
      complete = complete;
    }

-- the hits and the answer of a walk, by a test on hits
unfoldable pub ranked : (ℕ → Bool) → Progress → List ℕ
unfolding listed
ranked test p = listed test p.found

unfoldable pub answer : (ℕ → Bool) → ℕ → Progress → Answer
unfolding answer_of ranked none
answer test k p = answer_of (ranked test p) k (length p.opened) (whole p)
