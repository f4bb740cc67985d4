-- `count_withdrawn` meets its contract: so many of the first numbers are of withdrawn vectors. Assumes nothing.
use Rattle.best_first_search.proofs.Struck.{Passed, counted_part}
use Rattle.best_first_search.specs.Ranks.{withdrawn}
use Rattle.best_first_search.proofs.rank.count_withdrawn.Given as goal

abbrev pub invariant-loop-vector : goal.invariant-loop-vector
invariant-loop-vector l = Passed (withdrawn l.marks) (counted_part l.from l.found l.list) l.count l.vector-index
