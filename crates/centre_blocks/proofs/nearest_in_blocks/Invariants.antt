-- `nearest_in_blocks` meets its contract. Invariant: what is to be chosen is what the centres from the block on leave of the choice so far, which
-- begins with centre 0 and infinity.
use Prim.Native.Nat.{◌*◌}
use mathlib.Core.Path.{◌≡◌}
use lib.ListN.{length}
use Rattle.cluster.specs.Clusters.{nearest}
use Rattle.centre_blocks.specs.Blocks.{centres_in}
use Rattle.centre_blocks.specs.Choice.{to_choose}
use Rattle.centre_blocks.proofs.nearest_in_blocks.Given as goal

abbrev pub invariant-loop-block : goal.invariant-loop-block
invariant-loop-block l =
    nearest l.vector (centres_in (length l.vector) l.k l.blocks) ≡ to_choose l.vector (centres_in (length l.vector) l.k l.blocks) (l.block * 16) l.best
