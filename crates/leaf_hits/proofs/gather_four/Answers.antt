-- `gather_four` meets its contract: both tests together are the list's, and the entries of the hash come one after the other to those before. Assumes nothing.
use Rattle.leaf_hits.specs.Gathering.{gathered_none, gathered_one, gathered_append, entry-held}
use Rattle.leaf_hits.specs.Promises.{GatheredBy}
use Rattle.leaf_hits.proofs.Entries.{all-below, first_fails, second_fails}
use Rattle.lists.specs.Parts.{part-four}
use Rattle.store.specs.declared.Counts.{Counts}
use Rattle.std.proofs.Common.{ℕ, List, [], ◌∷◌, ◌++◌, ◌≡◌, refl, sym, inl, Bool, ◌&&◌, cond, ltb, eqb, ◌+◌, ◌<◌, ◌≤◌, ◌∙◌, arith, length, get_or, set}
use Rattle.leaf_hits.proofs.gather_four.Goals as goal

abbrev low : Counts → ℕ → Bool
low counts x = ltb x counts.entries

abbrev held : Counts → List ℕ → ℕ → ℕ → Bool
held counts numbers at x = ltb (get_or numbers (at + x) 0) counts.vectors

abbrev test : Counts → List ℕ → ℕ → ℕ → Bool
test counts numbers at x = low counts x && held counts numbers at x

-- one more entry
module _ (counts : Counts) (numbers hashes : List ℕ) (hash at before : ℕ) (start : List ℕ) where
  step : (l : List ℕ) (x total total' : ℕ) (found found' : List ℕ) → total < length found → x < counts.entries → get_or numbers (at + x) 0 < counts.vectors
      → total' ≡ total + cond (eqb (get_or hashes x 0) hash) 1 0 → total' ≤ counts.entries + 1 → found' ≡ set found total x
      → GatheredBy (test counts numbers at) (λ x. eqb (get_or hashes x 0) hash) (λ x. x) (counts.entries + 1) l before start total found
      → GatheredBy (test counts numbers at) (λ x. eqb (get_or hashes x 0) hash) (λ x. x) (counts.entries + 1) (l ++ (x ∷ [])) before start total' found'
  step l x total total' found found' room under kept n few written g =
      gathered_append _ _ _ _ l (x ∷ []) before total total' start found found' g
      (gathered_one (test counts numbers at) _ _ _ x x total total' found found' room (entry-held x _ _ _ _ refl under kept) refl n few written)

pub returns-then-not-all_below : goal.returns-then-not-all_below
returns-then-not-all_below c =
    let a = c.args in
    inl (first_fails (low a.counts) (held a.counts a.lists.numbers.now a.owners_at) a.lists.numbers.now a.at c.requires.block
    (sym c.all_below.ensures ∙ c.if-not-all_below.true))

pub returns-then-not-all_below-2 : goal.returns-then-not-all_below-2
returns-then-not-all_below-2 c =
    let a = c.args in
    inl (second_fails (low a.counts) (held a.counts a.lists.numbers.now a.owners_at) a.lists.numbers.now a.at c.requires.block
    (sym c.all_below-2.ensures ∙ c.if-not-all_below-2.true))

pub returns : goal.returns
returns c =
    let a = c.args in
    let e1 = c.write_entry-one.ensures in
    let e2 = c.write_entry-two.ensures in
    let e3 = c.write_entry-three.ensures in
    let e4 = c.write_entry.ensures in
    let l1 = c.write_entry-one.auto.found in
    let l2 = c.write_entry-two.auto.found in
    let l3 = c.write_entry-three.auto.found in
    let under = all-below a.counts.entries _ _ _ _ (sym c.all_below.ensures ∙ c.if-not-all_below.false) in
    let owned = all-below a.counts.vectors _ _ _ _ (sym c.all_below-2.ensures ∙ c.if-not-all_below-2.false) in
    let more = step a.counts a.lists.numbers.now a.lists.hashes.now a.hash a.owners_at a.before a.found.now in
    rw (part-four a.at a.lists.numbers.now 0 c.requires.block)
    (more _ _ _ _ _ _ (omega arith) under.3 owned.3 e4.value (omega arith) e4.found_after
    (more _ _ _ _ _ _ (omega arith) under.2 owned.2 e3.value (omega arith) e3.found_after
    (more _ _ _ _ _ _ (omega arith) under.1 owned.1 e2.value (omega arith) e2.found_after
    (more [] _ _ _ _ _ (omega arith) under.0 owned.0 e1.value (omega arith) e1.found_after
    (gathered_none _ _ _ _ a.before a.found.now (omega (arith, c.requires.few)))))))
