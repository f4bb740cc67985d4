-- What the linking of children asks of the child counts.
use Rattle.std.specs.Prelude.{ℕ, suc, List, ◌≡◌, length}
use Rattle.lists.specs.Counting.{sum_of}
use Rattle.tree.specs.Links.{link_up}

-- the child counts of a tree: every node but the first becomes a child
pub record ChildCounts (counts : List ℕ) : Type 0 where
  pub all_linked : length (link_up 0 counts).links ≡ sum_of (λ c. c) counts
  pub one_root : suc (sum_of (λ c. c) counts) ≡ length counts
