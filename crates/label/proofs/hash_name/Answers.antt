-- Carrying on through the second part is hashing both joined.
-- Assumes nothing.
use Rattle.std.proofs.Common.{ℕ, sym, ap, ◌∙◌}
use Rattle.label.specs.Fnv.{offset_basis, fnv_from, fnv}
use Rattle.label.specs.Joined.{carries_on}
use Rattle.label.proofs.hash_name.Goals as goal

pub returns : goal.returns
unfolding fnv
returns c =
    let args = c.args in
    c.hash_label-2.ensures ∙ ap (λ (hash : ℕ). fnv_from hash args.second.now) c.hash_label.ensures
    ∙ sym (carries_on offset_basis args.first.now args.second.now).joined
