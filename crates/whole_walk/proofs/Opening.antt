-- What an opened leaf gives, as the work list holds it. Assumes nothing.
use Prim.Native.Nat.{ℕ, ◌*◌, max}
use native.Mathlib.Omega.{arith}
use mathlib.Core.Path.{◌≡◌, sym, subst}
use mathlib.Core.Bool.{Bool, true, cond}
use mathlib.Core.List.{List, map}
use lib.Dec.{ltb}
use lib.ListN.{length, drop}
use lib.Seq.{sets, length-sets}
use Rattle.lists.specs.Tests.{all_pass}
use Rattle.store.specs.declared.Shape.{Shape}
use Rattle.store.specs.declared.Counts.{Counts}
use Rattle.store.specs.Store.{CountsWithin, hits_at}
use Rattle.walk.specs.Walk.{View, Progress, State, give, hits, damage}
use Rattle.leaf_hits.specs.Promises.{Gathers}
use Rattle.std.specs.Prelude.{Result, Ok, Err}
use Rattle.walk.specs.declared.Damaged.{Damaged}
use Rattle.best_first_walk.specs.Walks.{found_in, found_part}
use Rattle.best_first_walk.specs.MarkLaws.{marked-found, finds-more}
use Rattle.best_first_walk.specs.GatherLaws.{gather_damages, gather_adds}
use Rattle.whole_walk.specs.Promises.{Notes, NotesState}

pub leaf_gives : (s : Shape) (c : Counts) (hit : ℕ → ℕ) (view : View) (p : Progress) (work ys : List ℕ) (found : ℕ) (sound : Bool) (vectors : List ℕ) (r : Result ℕ Damaged)
    → CountsWithin s c → (sound ≡ true → all_pass (λ x. ltb x c.vectors) vectors ≡ true) → length ys ≡ 3 * max s.vectors s.entries
    → Gathers sound vectors view.most found (found_part s work) r (drop (found_in s) ys) → Notes s c hit p work found
    → NotesState s c hit (give view (cond sound (hits (map hit vectors)) damage) p) r (sets work (hits_at s) ys)
leaf_gives s c hit view p work ys found sound vectors (Err e) within held long g n =
    subst (λ (st : State). NotesState s c hit st (Err e) (sets work (hits_at s) ys)) (sym (gather_damages view hit p sound vectors found n.finds.count g)) tt
leaf_gives s c hit view p work ys found sound vectors (Ok total) within held long g n =
    subst (λ (st : State). NotesState s c hit st (Ok total) (sets work (hits_at s) ys))
    (sym (gather_adds view hit p sound vectors found n.finds.count (found_part s work) total (drop (found_in s) ys) g))
    (record {
      size = omega (arith, length-sets work (hits_at s) ys, n.size);
      marks = marked-found s c hit work ys within.limits n.size long within.nodes p.pushed n.marks;
      finds = finds-more s c hit work ys within.limits n.size long p.found vectors found total (held g.pass) g.count g.vectors n.finds;
    })
