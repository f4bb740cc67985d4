-- Invariant: whether all owners are below n is whether those from the next one on are.
use Rattle.std.proofs.Common.{◌≡◌, ltb, drop}
use Rattle.lists.specs.Tests.{all_pass}
use Rattle.build.proofs.check.owners_sound.Given as goal

abbrev pub invariant-loop-owner : goal.invariant-loop-owner
invariant-loop-owner l = all_pass (λ owner. ltb owner l.n) l.owner-items ≡ all_pass (λ owner. ltb owner l.n) (drop l.owner-index l.owner-items)
