-- `rest_four` meets its contract. Invariant: what each sum is to be is what is due from i on, begun at the sum so far.
use lib.ListN.{drop}
use Rattle.vector.specs.Vector.{dot_from}
use Rattle.distance.proofs.Steps.{Due}
use Rattle.distance.proofs.rest_four.Given as goal

abbrev pub invariant-loop-i : goal.invariant-loop-i
invariant-loop-i l =
    Due (dot_from l.fn.begun.a (drop l.k l.q) (drop l.k l.a)) l.sums.a l.q l.a l.i
    × Due (dot_from l.fn.begun.b (drop l.k l.q) (drop l.k l.b)) l.sums.b l.q l.b l.i
    × Due (dot_from l.fn.begun.c (drop l.k l.q) (drop l.k l.c)) l.sums.c l.q l.c l.i
    × Due (dot_from l.fn.begun.d (drop l.k l.q) (drop l.k l.d)) l.sums.d l.q l.d l.i
