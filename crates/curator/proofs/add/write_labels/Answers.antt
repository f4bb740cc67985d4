-- One call writes starts and lengths, and the mark is one place; where they begin is what the shape says.
use Prim.Native.Nat.{ℕ, ◌+◌}
use mathlib.Core.List.{List}
use mathlib.Core.Path.{◌≡◌, ap₂, ◌∙◌}
use lib.ListN.{set}
use lib.Seq.{sets}
use Rattle.label.specs.Names.{summed_pairs, starts_by_lengths}
use Rattle.curator.proofs.add.write_labels.Goals as goal

-- both runs, by equal places
placed : {after : List ℕ} (numbers starts lengths : List ℕ) (held : ℕ) {a b m n : ℕ}
    → after ≡ sets (sets numbers (a + held) starts) (b + held) lengths → a ≡ m → b ≡ n
    → after ≡ sets (sets numbers (m + held) starts) (n + held) lengths
placed numbers starts lengths held after e f = after ∙ ap₂ (λ (s l : ℕ). sets (sets numbers (s + held) starts) (l + held) lengths) e f

pub returns : goal.returns
returns c =
    let args = c.args in
    let sums = summed_pairs args.lengths.now in
    ap₂ (λ (l : List ℕ) (at : ℕ). set l (at + args.held.vectors) 1)
    (placed args.numbers.now (starts_by_lengths args.held.bytes sums) sums args.held.entries c.write_places.ensures
    c.starts_at.ensures
    c.lengths_at.ensures)
    c.live_at.ensures
