-- The query is normalised at the front of an array and read from there; what the walk then gives is what the index gives.
use Rattle.std.proofs.Common.{rules, ◌≡◌, ◌-◌, length, sym, ap, ◌∙◌, arith}
use Rattle.std.specs.Prelude.{Err}
use Rattle.settings.specs.declared.refusal.Refusal.TheVariants.{Store}
use Rattle.settings.specs.declared.refusal.StoreRefusal.TheVariants.{Damaged}
use Rattle.lists.specs.Parts.{front_back}
use Rattle.curator.proofs.StateLaws.{length-stored}
use Rattle.search.specs.Lent.{found_of}
use Rattle.search.proofs.Laws.{search-lent, walked_of}
use Rattle.search.proofs.walk_from.Goals as goal

pub best_first_search-requires : goal.best_first_search-requires
best_first_search-requires c = search-lent _ _ _ _ _ _ _ c.requires.search_ready _ c.shape_of.ensures

pub returns-in_err-searched : goal.returns-in_err-searched
returns-in_err-searched c =
    let stored = c.normalize.new.out in
    let n = length c.args.query.now in
    let e : c.from_residual.result ≡ Err (Store Damaged) = search rules in
    λ asked w. walked_of _ _ _ _ _ _ _ _ stored _ _ c.shape_of.ensures
    (front_back _ stored n (n - 0) (length-stored c.normalize.ensures) (omega arith))
    w
    c.requires.squares_value
    c.normalize.ensures
    c.requires.search_ready.lent.work_enough
    (e ∙ sym (ap found_of c.in_err-searched.was))
    c.best_first_search.ensures

pub returns : goal.returns
returns c =
    let stored = c.normalize.new.out in
    let n = length c.args.query.now in
    λ asked w. walked_of _ _ _ _ _ _ _ _ stored _ _ c.shape_of.ensures
    (front_back _ stored n (n - 0) (length-stored c.normalize.ensures) (omega arith))
    w
    c.requires.squares_value
    c.normalize.ensures
    c.requires.search_ready.lent.work_enough
    (sym (ap found_of c.in_ok-searched.was))
    c.best_first_search.ensures
