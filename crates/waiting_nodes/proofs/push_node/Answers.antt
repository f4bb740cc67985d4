-- `push_node` meets its contract: the queue stands before the marks. Assumes nothing.
-- ---- the places that needs go back to (primed: the same place, from another one)
use Rattle.waiting_nodes.proofs.Pushing.{pushed-one}
use mathlib.Core.Path.{refl}
use Rattle.waiting_nodes.proofs.push_node.Goals as goal

pub returns : goal.returns
returns c =
    pushed-one c.args.shape c.args.work.now _ c.args.waiting c.args.child _ c.requires.nodes.room refl c.push.ensures
