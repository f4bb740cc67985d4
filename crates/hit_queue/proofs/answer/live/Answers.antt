-- `live` meets its contract: the vector is the low half of what stands behind the key, and past the marks there is no mark. Assumes nothing.
use Rattle.hit_queue.proofs.Taking.{live_popped}
use Rattle.std.proofs.Common.{sym, ap, ◌∙◌, ℕ}
use lib.Dec.{eqb}
use lib.ListN.{get_or-eq_default}
use mathlib.Core.Bool.{not}
use Rattle.hit_queue.proofs.answer.live.Goals as goal

pub returns-in-Some : goal.returns-in-Some
returns-in-Some c =
    ap (λ (m : ℕ). not (eqb m 0)) (c.in-Some.ensures.lookup.3.1 0) ∙ sym (live_popped c.args.marks.now c.args.hit)

pub returns-in-None : goal.returns-in-None
returns-in-None c =
    ap (λ (m : ℕ). not (eqb m 0)) (sym (get_or-eq_default c.args.marks.now 0 c.in-None.ensures.lookup.3)) ∙ sym (live_popped c.args.marks.now c.args.hit)
