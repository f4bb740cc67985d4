-- What is wanted is the hash of the joined name, and the name.
use Rattle.std.proofs.Common.{ℕ, ◌++◌, sym, ap₂, List}
use Rattle.walk.specs.Wanted.{with_label}
use Rattle.curator.specs.Searches.{wanted_of}
use Rattle.curator.specs.Arguments.{labelled}
use Rattle.search.proofs.search_filtered.Goals as goal

pub returns : goal.returns
unfolding wanted_of
returns c =
    c.search_wanted.ensures (labelled (c.args.first.now ++ c.args.second.now))
    (ap₂ (λ (hash : ℕ) (name : List ℕ). with_label hash name) (sym c.label_of.ensures.hash) (sym c.label_of.ensures.name))
