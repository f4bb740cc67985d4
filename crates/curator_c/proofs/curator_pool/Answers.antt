-- A list of fewer than four words is refused as it stands; otherwise both filters are read, and their pool is written over the first.
use Rattle.std.proofs.Common.{Bool, refl, sym, ap, ap₂, ◌∙◌, subst}
use Rattle.std.proofs.lemmas.List.Edits.{sets}
use Rattle.bloom.specs.Filter.{union}
use Rattle.curator_c.specs.Results.{pool_short, PoolsBy, PoolResult}
use Rattle.curator_c.proofs.curator_pool.Goals as goal

pub returns-then-filter-other : goal.returns-then-filter-other
unfolding PoolResult pool_short PoolsBy
returns-then-filter-other c =
    let filter = c.args.filter.now in
    let other = c.args.other.now in
    subst (λ (b : Bool). PoolsBy b filter other 3 filter) (sym c.if-filter-other.true) (refl, refl)

pub returns : goal.returns
unfolding PoolResult pool_short PoolsBy
returns c =
    let filter = c.args.filter.now in
    let other = c.args.other.now in
    let is = c.write_words.ensures ∙ ap (sets filter 0) (c.unite-pool.ensures ∙ ap₂ union c.words.ensures c.words-2.ensures) in
    subst (λ (b : Bool). PoolsBy b filter other 0 c.write_words.new.list) (sym c.if-filter-other.false) (refl, is)
