-- The part that is handed on is the entries held: it ends as many places after its start.
use Prim.Native.Nat.{ℕ, ◌+◌, ◌-◌}
use mathlib.Core.Path.{◌≡◌, ap, ◌∙◌}
use native.Mathlib.Omega.{arith}
use Rattle.lists.specs.Lists.{part}
use Rattle.lists.specs.Suffix.{count_at_end}
use Rattle.curator.proofs.take_back.last_entries.Goals as goal

pub returns : goal.returns
returns c =
    let args = c.args in
    let size : args.start + args.entries - args.start ≡ args.entries = omega arith in
    c.count_at_end.ensures ∙ ap (λ (k : ℕ). count_at_end (args.vectors - 1) (part args.start k args.numbers.now)) size
