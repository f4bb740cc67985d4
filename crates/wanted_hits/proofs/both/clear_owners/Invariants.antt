-- `clear_owners` meets its contract: the loop keeps that what is still to be cleared is what is due, and each way out is one of its ends. Assumes nothing.
use Rattle.std.proofs.Common.{◌+◌, ◌&&◌, map, ltb, get_or}
use Rattle.wanted_hits.proofs.Written.{Marking}
use Rattle.wanted_hits.proofs.both.clear_owners.Given as goal

abbrev pub invariant-loop-number : goal.invariant-loop-number
invariant-loop-number l =
    Marking (λ x. ltb x l.counts.entries && ltb (get_or l.numbers (l.owners_at + x) 0) l.counts.vectors) (map (λ x. get_or l.numbers (l.owners_at + x) 0)) 0
    l.number-items l.fn.marks l.number-index l.marks
