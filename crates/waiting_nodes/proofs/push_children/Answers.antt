use Rattle.waiting_nodes.proofs.Pushing.{children-part, push-next, pushed-next}
use Rattle.waiting_nodes.specs.Promises.{node_for, waiting_records, PushNodes, Children, PushedNodes}
use Rattle.waiting_nodes.specs.PushLaws.{pushed_none}
use Rattle.lists.specs.Lists.{part}
use mathlib.Core.List.{List}
use mathlib.Core.Path.{◌≡◌, subst}
use native.Mathlib.Omega.{arith}
use Prim.Native.Nat.{ℕ, ◌+◌, ◌≤◌}
use Rattle.waiting_nodes.proofs.push_children.Goals.{At-loop-j}
use Rattle.waiting_nodes.proofs.push_children.Goals as goal

abbrev Turn : Type 0
Turn = At-loop-j

abbrev node : Turn → ℕ → ℕ
node e = node_for e.args.shape e.args.floats.now e.args.query.now

-- what the next nodes want
next : (t : Turn) (m : ℕ) → t.loop-j.j + m ≤ t.args.count
    → PushNodes t.args.shape t.loop-j.work (t.args.waiting + t.loop-j.j) m × Children t.args.shape t.args.numbers.now (t.args.start + t.loop-j.j) m
next t m h =
    let e = t in
    let a = e.args in (
      push-next a.shape (node e) a.numbers.now a.work.now t.loop-j.work a.waiting a.start a.count t.loop-j.j e.requires.children e.requires.nodes t.loop-j.invariant.within t.loop-j.invariant.pushed m h,
      children-part a.shape a.numbers.now a.start a.count t.loop-j.j m h e.requires.children,
    )

-- and what they add
grown : (t : Turn) (m : ℕ) (work : List ℕ)
    → PushedNodes t.args.shape t.loop-j.work (t.args.waiting + t.loop-j.j) (waiting_records t.args.shape t.args.floats.now t.args.query.now (part (t.args.start + t.loop-j.j) m t.args.numbers.now)) work
    → PushedNodes t.args.shape t.args.work.now t.args.waiting (waiting_records t.args.shape t.args.floats.now t.args.query.now (part t.args.start (t.loop-j.j + m) t.args.numbers.now)) work
grown t m work q =
    let e = t in
    let a = e.args in
    pushed-next a.shape (node e) a.numbers.now a.work.now t.loop-j.work a.waiting a.start a.count t.loop-j.j e.requires.children e.requires.nodes t.loop-j.invariant.within t.loop-j.invariant.pushed m work q

pub loop-j-init : goal.loop-j-init
loop-j-init c = record { within = omega arith; pushed = pushed_none c.args.shape c.args.work.now c.args.waiting c.requires.nodes.queue }

pub push_four-requires : goal.push_four-requires
push_four-requires c =
    let n = next ((goal.at.push_four-requires c).At-loop-j) 4 (omega (arith, c.if-count-j-ge4.true)) in
    record { floats_enough = c.requires.floats_enough; nodes = n.0; children = n.1 }

pub loop-j-preserved-then-count-j-ge4 : goal.loop-j-preserved-then-count-j-ge4
loop-j-preserved-then-count-j-ge4 c =
    record { within = omega arith; pushed = grown ((goal.at.loop-j-preserved-then-count-j-ge4 c).At-loop-j) 4 _ c.push_four.ensures }

pub push_one-requires : goal.push_one-requires
push_one-requires c =
    let n = next ((goal.at.push_one-requires c).At-loop-j) 1 (omega (arith, c.loop-j-test.true)) in
    record { floats_enough = c.requires.floats_enough; nodes = n.0; children = n.1 }

pub loop-j-preserved : goal.loop-j-preserved
loop-j-preserved c =
    record { within = omega arith; pushed = grown ((goal.at.loop-j-preserved c).At-loop-j) 1 _ c.push_one.ensures }

pub returns : goal.returns
returns c =
    let a = c.args in
    let all : c.loop-j.j ≡ a.count = omega arith in
    subst (λ (n : ℕ). PushedNodes a.shape a.work.now a.waiting (waiting_records a.shape a.floats.now a.query.now (part a.start n a.numbers.now)) c.loop-j.work) all c.loop-j.invariant.pushed
