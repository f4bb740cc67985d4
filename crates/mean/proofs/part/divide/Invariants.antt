-- Invariant: the first components of the part are quotients.
use mathlib.Core.Path.{◌≡◌}
use mathlib.Core.List.{map, ◌++◌}
use lib.ListN.{take, drop}
use lib.Ieee.{binary32, div}
use Rattle.mean.proofs.part.divide.Given as goal

abbrev pub invariant-loop-x : goal.invariant-loop-x
invariant-loop-x l = l.x-items ≡ map (λ x. div binary32 x l.by) (take l.x-index l.initial.x-items) ++ drop l.x-index l.initial.x-items
