-- `add_vectors` meets its contract: the loop keeps `Gathering`, and each way out is one of its ends. Assumes nothing.
use Rattle.std.proofs.Common.{ltb, true}
use Rattle.leaf_hits.specs.Gathering.{Gathering}
use Rattle.leaf_hits.proofs.add_vectors.Given as goal

abbrev pub invariant-loop-vector : goal.invariant-loop-vector
invariant-loop-vector l = Gathering (λ x. ltb x l.counts.vectors) (λ x. true) (λ x. x) l.counts.vectors l.vector-items l.before l.fn.found l.vector-index l.total l.found
