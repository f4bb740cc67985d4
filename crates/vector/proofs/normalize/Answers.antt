-- `normalize` meets its contract: `divided_by` by cases of whether the norm is above the threshold.
use mathlib.Core.Path.{◌≡◌, ◌∙◌}
use mathlib.Core.Bool.{true, false}
use mathlib.Core.List.{List, map}
use lib.Ieee.{Float, binary32, of_bits, div, lt}
use Rattle.vector.specs.Vector.{threshold, divided_by}
use Rattle.vector.proofs.normalize.Goals as goal

divided : (n : Float) (v w : List Float) → lt (of_bits binary32 0x2EDBE6FF) n ≡ true → w ≡ map (λ x. div binary32 x n) v → w ≡ divided_by n v
unfolding divided_by threshold
divided n v w t e = e ∙ rw t

undivided : (n : Float) (v w : List Float) → lt (of_bits binary32 0x2EDBE6FF) n ≡ false → w ≡ v → w ≡ divided_by n v
unfolding divided_by threshold
undivided n v w t e = e ∙ rw t

pub returns-then-n : goal.returns-then-n
returns-then-n c =
    record {
      norm = c.sqrt-n.result;
      root = c.sqrt-n.ensures;
      stored = divided _ _ _ c.if-n.true c.divide_into.ensures;
    }

pub returns-else-n : goal.returns-else-n
returns-else-n c =
    record {
      norm = c.sqrt-n.result;
      root = c.sqrt-n.ensures;
      stored = undivided _ _ _ c.if-n.false c.copy_into.ensures;
    }
