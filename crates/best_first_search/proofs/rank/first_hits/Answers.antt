-- `first_hits` meets its contract: the marks are those of the vectors held, and the documents asked for are enough (`firsts_live`). Assumes nothing.
use Rattle.best_first_search.proofs.Ranking.{firsts_live}
use Rattle.lists.specs.Lists.{part}
use Rattle.lists.specs.Parts.{length_part, lent_is}
use Rattle.lists.specs.Tests.{all_pass}
use Rattle.store.specs.Store.{live_at, live_marks}
use Rattle.std.proofs.Common.{ℕ, ◌+◌, ◌-◌, ◌≡◌, List, true, ltb, length, take, drop, arith, sym, ap, subst, ◌∙◌}
use Rattle.best_first_search.proofs.rank.first_hits.Goals as goal
use Rattle.best_first_search.proofs.rank.first_hits.Goals.{After-live_at-start}

-- the marks, of the vectors held
abbrev marks : After-live_at-start → List ℕ
marks l = let at : ℕ = l.live_at-start.result in
    take (at + l.args.counts.vectors - at) (drop at l.args.numbers.now)

marks-are : (l : After-live_at-start) → marks l ≡ live_marks l.args.shape l.args.counts.vectors l.args.numbers.now
marks-are l =
    let at : ℕ = l.live_at-start.result in
    lent_is l.args.numbers.now at (at + l.args.counts.vectors) (live_at l.args.shape) l.args.counts.vectors l.live_at-start.ensures (ap (λ (n : ℕ). n + l.args.counts.vectors) l.live_at-start.ensures)

marks-length : (l : After-live_at-start) → length (marks l) ≡ l.args.counts.vectors
marks-length l =
    let lent = l.requires.vectors.lent in
    ap length (marks-are l) ∙ length_part (live_at l.args.shape) l.args.counts.vectors l.args.numbers.now (omega (arith, lent.numbers_enough, lent.within.vectors))

pub documents_asked-documents-requires : goal.documents_asked-documents-requires
documents_asked-documents-requires c =
    let l = (goal.at.documents_asked-documents-requires c).After-live_at-start in
    let measure = c.requires.vectors.measure in
    record {
      numbers = record {
        held = subst (λ (n : ℕ). all_pass (λ x. ltb x n) (part c.args.from c.args.found c.args.heap.now) ≡ true) (sym (marks-length l)) measure.held;
        inside = measure.inside;
      };
      fits = omega (arith, c.requires.ids_room, measure.inside);
    }

pub returns : goal.returns
returns c =
    let a = c.args in
    let l = (goal.at.returns c).After-live_at-start in
    firsts_live a.shape a.counts a.floats.now a.numbers.now a.query.now a.from a.found a.heap.now c.requires.vectors
    (marks l) _ _ a.ids.now _ a.distances.now _ a.k c.documents_asked-documents.result c.rank-total.result c.take_hits.result (marks-are l)
    c.documents_asked-documents.ensures c.rank-total.ensures c.take_hits.ensures
