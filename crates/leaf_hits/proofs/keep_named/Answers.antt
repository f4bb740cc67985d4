use Rattle.leaf_hits.specs.Gathering.{gather_start, gather_next, gather_fails, gather_end}
use Rattle.leaf_hits.proofs.LeafLists.{damage-fewer, damage-over}
use Rattle.lists.specs.Lists.{part}
use Rattle.lists.specs.Parts.{length_part, get_d_part, get_d_behind, drop_more}
use Rattle.lists.specs.Counting.{get_d_Memᴰ}
use Rattle.lists.specs.Tests.{all_pass-Memᴰ}
use Rattle.std.proofs.Common.{ℕ, ◌≡◌, ◌<◌, refl, sym, subst, ◌∙◌, ◌+◌, arith, rules, length, get_or, ltb}
use lib.Seq.{drop-set-lt}
use borrow.Author.Tests.{ltb-true, le-leb, lt-leb}
use Rattle.leaf_hits.proofs.keep_named.Goals.{In-loop-j}
use Rattle.leaf_hits.proofs.keep_named.Goals as goal

-- one is left, and it is the one read; it is held
left : (r : In-loop-j) → r.loop-j.j < length (part r.args.before r.args.count r.args.found.now)
left r = rw (length_part r.args.before r.args.count r.args.found.now (omega (arith, r.requires.few, r.requires.room))) r.loop-j-test.true

number : (r : In-loop-j) → get_or (part r.args.before r.args.count r.args.found.now) r.loop-j.j 0 ≡ get_or r.loop-j.found (r.args.before + r.loop-j.j) 0
number r =
    let at = r.args.before + r.loop-j.j in
    get_d_part _ _ _ _ 0 r.loop-j-test.true ∙ sym (get_d_behind at at r.loop-j.found r.args.found.now 0 (omega arith) r.loop-j.invariant.later)

held : (r : In-loop-j) → get_or r.loop-j.found (r.args.before + r.loop-j.j) 0 < r.args.counts.entries
held r =
    subst (λ (n : ℕ). n < r.args.counts.entries) (number r)
    (ltb-true _ _ (all_pass-Memᴰ (λ x. ltb x r.args.counts.entries) _ r.requires.held _ (get_d_Memᴰ _ r.loop-j.j 0 (left r))))

pub loop-j-init : goal.loop-j-init
loop-j-init c = record {
  gathering = gather_start _ _ _ _ _ _ _ (omega (arith, c.requires.few));
  few = omega arith;
  later = refl;
}

pub bounds-numbers-starts_at : goal.bounds-numbers-starts_at
bounds-numbers-starts_at c =
    let h = held ((goal.at.bounds-numbers-starts_at c).In-loop-j) in
    omega (arith, h, c.starts_at-starts_at.ensures, c.requires.within.entries, c.requires.numbers_enough)

pub bounds-numbers-lengths_at : goal.bounds-numbers-lengths_at
bounds-numbers-lengths_at c =
    let h = held ((goal.at.bounds-numbers-lengths_at c).In-loop-j) in
    omega (arith, h, c.lengths_at-lengths_at.ensures, c.requires.within.entries, c.requires.numbers_enough)

pub bounds-numbers-owners_at : goal.bounds-numbers-owners_at
bounds-numbers-owners_at c =
    let h = held ((goal.at.bounds-numbers-owners_at c).In-loop-j) in
    omega (arith, h, c.owners_at-owners_at.ensures, c.requires.within.entries, c.requires.numbers_enough)

pub loop-j-preserved : goal.loop-j-preserved
loop-j-preserved c =
    let r = (goal.at.loop-j-preserved c).In-loop-j in
    let i = c.loop-j.invariant in
    record {
      gathering = gather_next _ _ _ _ _ _ _ _ _ _ _ _ _ i.gathering (left r) (omega (arith, i.few, i.gathering.size, c.requires.few, c.requires.room)) (number r)
          (le-leb _ _ c.if-bytes-start.false) refl (rw c.named.ensures (search rules)) (grind (arith, i.few, c.requires.few));
      few = search rules;
      later =
          drop-set-lt (c.args.before + (c.loop-j.j + 1)) c.loop-j.found c.loop-j.kept _ (omega (arith, i.few))
          ∙ drop_more (c.args.before + c.loop-j.j) _ c.loop-j.found c.args.found.now (omega arith) i.later;
    }

pub returns-then-bytes-start : goal.returns-then-bytes-start
returns-then-bytes-start c =
    let r = (goal.at.returns-then-bytes-start c).In-loop-j in
    rw (c.owners_at-owners_at.ensures, c.starts_at-starts_at.ensures, c.lengths_at-lengths_at.ensures) at
    (damage-fewer _ _ _ c.args.counts.entries _ _ _ (omega arith)
    (gather_fails _ _ _ _ _ _ _ _ _ _ _ c.loop-j.invariant.gathering (left r) (number r) (lt-leb _ _ c.if-bytes-start.true)))

pub returns-then-counts-kept : goal.returns-then-counts-kept
returns-then-counts-kept c =
    rw (c.owners_at-owners_at.ensures, c.starts_at-starts_at.ensures, c.lengths_at-lengths_at.ensures) at
    (damage-over _ _ _ _ _ _ _ _ _ _ c.if-counts-kept.true
    (gather_end _ _ _ _ _ _ _ _ _ _ c.loop-j.invariant.gathering (rw (length_part c.args.before c.args.count c.args.found.now (omega (arith, c.requires.few, c.requires.room))) (omega arith))))
