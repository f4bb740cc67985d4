use Rattle.std.proofs.Common.{◌≡◌, ℕ, suc, ◌-◌, ◌≤◌, ◌&&◌, length, get_or, drop, sym, ap, ap₂, ◌∙◌, arith}
use borrow.Author.Tests.{eq-eqb, ne_eqb}
use lib.ListN.{drop_of_length-le}
use lib.Seq.{drop-cons}
use Rattle.lists.specs.Tests.{all_pass-nil, all_pass-cons}
use Rattle.lists.specs.Suffix.{all_are}
use Rattle.lists.proofs.SuffixLaws.{at-end-all, at-end-behind}
use Rattle.curator.proofs.take_back.count_at_end.Goals as goal

pub loop-i-init : goal.loop-i-init
loop-i-init c =
    let owners = c.args.owners.now in
    ap (all_are c.args.owner) (drop_of_length-le owners (let h : length owners ≤ length owners = omega arith in h)) ∙ all_pass-nil _

pub returns-then-owners-i : goal.returns-then-owners-i
returns-then-owners-i c =
    let i = c.loop-i.i in
    let owners = c.args.owners.now in
    let owner = c.args.owner in
    let e : suc (i - 1) ≡ i = omega arith in
    let n : length owners - (i - 1) - 1 ≡ length owners - suc (i - 1) = omega arith in
    n ∙ sym (at-end-behind owner owners (i - 1) (omega arith) (ne_eqb _ _ c.if-owners-i.true) (ap (λ (k : ℕ). all_are owner (drop k owners)) e ∙ c.loop-i.invariant))

pub loop-i-preserved : goal.loop-i-preserved
loop-i-preserved c =
    let i = c.loop-i.i in
    let owners = c.args.owners.now in
    let owner = c.args.owner in
    let e : suc (i - 1) ≡ i = omega arith in
    ap (all_are owner) (drop-cons owners (i - 1) 0 (omega arith)) ∙ all_pass-cons _ (get_or owners (i - 1) 0) (drop (suc (i - 1)) owners)
    ∙ ap₂ ◌&&◌ (eq-eqb _ _ c.if-owners-i.false) (ap (λ (k : ℕ). all_are owner (drop k owners)) e ∙ c.loop-i.invariant)

pub returns : goal.returns
returns c =
    let args = c.args in
    let owners = args.owners.now in
    let none : c.loop-i.i ≡ 0 = omega arith in
    sym (at-end-all args.owner owners (ap (λ (k : ℕ). all_are args.owner (drop k owners)) (sym none) ∙ c.loop-i.invariant))
