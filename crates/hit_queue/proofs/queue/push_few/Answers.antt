-- `push_few` meets its contract: one hit, two, or one after two. Assumes nothing.
use Rattle.hit_queue.proofs.Measuring.{measured_append}
use Rattle.hit_queue.specs.Promises.{Measured}
use Rattle.record_queue.specs.Records.{value}
use Rattle.record_queue.specs.declared.Record.{Record}
use mathlib.Core.List.{List, [], ◌∷◌}
use mathlib.Core.Path.{◌≡◌, sym, subst}
use lib.ListN.{take}
use native.Mathlib.Omega.{arith}
use Prim.Native.Nat.{ℕ}
use Rattle.hit_queue.proofs.queue.push_few.Goals as goal

-- the first few of three hits were added
abbrev Added : ℕ → Record → Record → Record → ℕ → List ℕ → ℕ → ℕ → List ℕ → Type 0
Added bound a b c count before n total heap = Measured bound (take n (value a ∷ value b ∷ value c ∷ [])) count before total heap

pub returns-then-few-eq1 : goal.returns-then-few-eq1
returns-then-few-eq1 c =
    let one = c.push_within in
    subst (λ (n : ℕ). Added c.args.bound c.args.a c.args.b c.args.c c.args.count c.args.heap.now n one.result one.new.heap) (sym c.if-few-eq1.true) one.ensures

pub returns-then-few-eq2 : goal.returns-then-few-eq2
returns-then-few-eq2 c =
    subst (λ (n : ℕ). Added c.args.bound c.args.a c.args.b c.args.c c.args.count c.args.heap.now n c.push_two-two.result c.push_two-two.new.heap) (sym c.if-few-eq2.true) c.push_two-two.ensures

pub returns : goal.returns
returns c =
    let a = c.args in
    let three : a.few ≡ 3 = omega (arith, c.if-few-eq2.false, c.if-few-eq1.false, c.requires.some, c.requires.most) in
    let first = c.push_two-two in
    let second = c.push_within-2 in
    subst (λ (n : ℕ). Added a.bound a.a a.b a.c a.count a.heap.now n second.result second.new.heap) (sym three)
    (measured_append a.bound a.count first.result second.result a.heap.now first.new.heap second.new.heap (value a.a ∷ value a.b ∷ []) (value a.c ∷ []) first.ensures second.ensures)
