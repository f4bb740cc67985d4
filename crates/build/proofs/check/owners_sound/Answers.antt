use Rattle.std.proofs.Common.{◌≡◌, ℕ, suc, ◌+◌, ◌-◌, ◌<◌, ◌≤◌, Bool, ◌&&◌, List, ltb, length, get_or, take, drop, sym, ap, ◌∙◌, arith}
use borrow.Author.Tests.{lt-ltb, le-ltb}
use lib.ListN.{drop_of_length-le}
use lib.Seq.{drop-cons}
use Rattle.lists.specs.Lists.{part}
use Rattle.lists.specs.Parts.{lent-run}
use Rattle.lists.specs.Tests.{all_pass, all_pass-nil, all_pass-cons}
use Rattle.build.proofs.check.owners_sound.Goals as goal

-- what is asked from a place on: of the element there, and of those after it
here : (test : ℕ → Bool) (l : List ℕ) (i : ℕ) → i < length l → all_pass test (drop i l) ≡ (test (get_or l i 0) && all_pass test (drop (i + 1) l))
here test l i h =
    let e : suc i ≡ i + 1 = omega arith in
    ap (all_pass test) (drop-cons l i 0 h) ∙ all_pass-cons test (get_or l i 0) (drop (suc i) l)
    ∙ ap (λ (k : ℕ). test (get_or l i 0) && all_pass test (drop k l)) e

-- the list that was gone through is the part
whole : (test : ℕ → Bool) (l : List ℕ) (at count : ℕ) → all_pass test (part at count l) ≡ all_pass test (take (at + count - at) (drop at l))
whole test l at count = ap (all_pass test) (sym (lent-run at count l))

pub returns-then-n-owner : goal.returns-then-n-owner
returns-then-n-owner c =
    let a = c.args in
    let items = take (a.at + a.count - a.at) (drop a.at a.numbers.now) in
    let i = c.loop-owner.owner-index in
    sym
    (whole (λ owner. ltb owner a.n) a.numbers.now a.at a.count ∙ c.loop-owner.invariant
    ∙ here (λ owner. ltb owner a.n) items i c.loop-owner-test.true
    ∙ ap (λ (b : Bool). b && all_pass (λ owner. ltb owner a.n) (drop (i + 1) items)) (le-ltb _ a.n c.if-n-owner.true))

pub loop-owner-preserved : goal.loop-owner-preserved
loop-owner-preserved c =
    let a = c.args in
    let items = take (a.at + a.count - a.at) (drop a.at a.numbers.now) in
    let i = c.loop-owner.owner-index in
    c.loop-owner.invariant ∙ here (λ owner. ltb owner a.n) items i c.loop-owner-test.true
    ∙ ap (λ (b : Bool). b && all_pass (λ owner. ltb owner a.n) (drop (i + 1) items)) (lt-ltb _ a.n c.if-n-owner.false)

pub returns : goal.returns
returns c =
    let a = c.args in
    let items = take (a.at + a.count - a.at) (drop a.at a.numbers.now) in
    sym
    (whole (λ owner. ltb owner a.n) a.numbers.now a.at a.count ∙ c.loop-owner.invariant
    ∙ ap (all_pass (λ owner. ltb owner a.n)) (drop_of_length-le items (let h : length items ≤ c.loop-owner.owner-index = omega arith in h))
    ∙ all_pass-nil (λ owner. ltb owner a.n))
