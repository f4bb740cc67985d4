-- `look::admits` meets its contract. Assumes nothing.
use Rattle.lists.specs.Parts.{lent_is}
use Rattle.bloom.specs.Filter.{may_contain}
use Prim.Native.Nat.{◌+◌, ◌*◌}
use mathlib.Core.Path.{◌≡◌, ap, ◌∙◌}
use Rattle.store.specs.Store.{filters_at}
use Rattle.walk.proofs.look.admits.Goals as goal

pub returns : goal.returns
returns c =
    let a = c.args in
    let from = filters_at a.shape + a.i * 4 in
    let begins : c.filters_at.result + a.i * 4 ≡ from = ap (λ n. n + a.i * 4) c.filters_at.ensures in
    c.may_contain.ensures ∙ ap (λ f. may_contain f a.hash) (lent_is a.hashes.now _ _ from 4 begins (ap (λ n. n + 4) begins))
