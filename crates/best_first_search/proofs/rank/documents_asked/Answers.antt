-- `documents_asked` meets its contract: no more vectors are withdrawn than are found. Assumes nothing.
use Rattle.best_first_search.specs.Ranks.{withdrawn}
use Rattle.lists.specs.Lists.{part, keep}
use Rattle.lists.specs.Counting.{length-keep_le}
use Rattle.std.proofs.Common.{ℕ, ◌≤◌, List, length, drop, arith, length-take}
use Rattle.best_first_search.proofs.rank.documents_asked.Goals as goal

few : (marks list : List ℕ) (from found : ℕ) → length (keep (withdrawn marks) (part from found list)) ≤ found
few marks list from found = omega (arith, length-keep_le (withdrawn marks) (part from found list), length-take found (drop from list))

pub returns-then-found-k : goal.returns-then-found-k
returns-then-found-k c = omega (arith, few c.args.marks.now c.args.list.now c.args.from c.args.found)

pub overflow_add-result-2 : goal.overflow_add-result-2
overflow_add-result-2 c = omega (arith, few c.args.marks.now c.args.list.now c.args.from c.args.found, c.count_withdrawn.ensures, c.requires.fits)
