-- What is wanted is the hashes of the joined names, and the names.
use Rattle.std.proofs.Common.{◌≡◌, ℕ, List, ◌++◌, sym}
use Rattle.walk.specs.Wanted.{with_both}
use Rattle.curator.specs.Searches.{wanted_of}
use Rattle.curator.specs.Arguments.{labelled_both}
use Rattle.search.proofs.search_both.Goals as goal

alike : (h h' : ℕ) (n n' : List ℕ) (g g' : ℕ) (m m' : List ℕ) → h ≡ h' → n ≡ n' → g ≡ g' → m ≡ m' → with_both h n g m ≡ with_both h' n' g' m'
alike h h' n n' g g' m m' a b c d = cc

pub returns : goal.returns
unfolding wanted_of
returns c =
    let a = c.args in
    let one = c.label_of.ensures in
    let two = c.label_of-2.ensures in
    c.search_wanted.ensures (labelled_both (a.first.now ++ a.second.now) (a.other_first.now ++ a.other_second.now))
    (alike _ _ _ _ _ _ _ _ (sym one.hash) (sym one.name) (sym two.hash) (sym two.name))
