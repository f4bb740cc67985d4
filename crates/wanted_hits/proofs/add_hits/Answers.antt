-- `add_hits` meets its contract: it is one of three. For every vector and for one label the vectors found are lent as the rest of the hits' part from their
-- place on, and what came back is the rest again. Assumes nothing.
use Rattle.std.proofs.Common.{ℕ, List, ◌++◌, ◌≡◌, ap, ◌∙◌, ◌-◌, ◌≤◌, ◌<◌, arith, length, take, drop, length-drop, append-nil}
use lib.ListN.{drop_of_length-le}
use lib.Seq.{take_all, drop_at, length-take-le}
use Rattle.leaf_hits.specs.LeafLaws.{as_everything, as_label}
use Rattle.wanted_hits.proofs.add_hits.Goals as goal

-- ---- the rest of a list, as it is lent and as it came back

rest-lent : (l : List ℕ) (a : ℕ) → take (length l - a) (drop a l) ≡ drop a l
rest-lent l a = take_all (length l - a) (drop a l) (omega (arith, length-drop a l))

rest_back : (l : List ℕ) (a : ℕ) (ys : List ℕ) → a ≤ length l → drop a (take a l ++ (ys ++ drop (length l - a) (drop a l))) ≡ ys
rest_back l a ys h =
    drop_at (take a l) (ys ++ drop (length l - a) (drop a l)) a (length-take-le a l h)
    ∙ ap (λ (r : List ℕ). ys ++ r) (drop_of_length-le (drop a l) {i = length l - a} (omega (arith, length-drop a l))) ∙ append-nil ys

-- there are places behind `from`
room-behind : (l : List ℕ) (a n : ℕ) → n < length (drop a l) → a ≤ length l
room-behind l a n h = omega (arith, length-drop a l, h)

pub returns-in-Everything : goal.returns-in-Everything
returns-in-Everything c =
    let a = c.args in
    rw (c.in-Everything.is, rest_back a.hits.now a.from c.add_vectors.new.found (room-behind a.hits.now a.from _ c.requires.lent.hits.room))
    (as_everything a.shape a.counts a.lists.numbers.now a.lists.hashes.now a.lists.text.now _ a.before _ c.add_vectors.result _
    (rw (rest-lent a.hits.now a.from) at c.add_vectors.ensures))

pub returns-in-Label : goal.returns-in-Label
returns-in-Label c =
    let a = c.args in
    rw (c.in-Label.is, rest_back a.hits.now a.from c.add_entries.new.found (room-behind a.hits.now a.from _ c.requires.lent.hits.room))
    (as_label a.shape a.counts a.lists.numbers.now a.lists.hashes.now a.lists.text.now _ _ _ a.before _ c.add_entries.result _
    (rw (rest-lent a.hits.now a.from) at c.add_entries.ensures))
