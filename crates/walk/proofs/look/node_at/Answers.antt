-- `look::node_at` meets its contract: what was read of the node decides what it shows. Assumes nothing.
use Rattle.std.proofs.Common.{◌≡◌, ℕ, List, ◌+◌, ◌*◌, get_or, subst, subst₂}
use Rattle.std.specs.Prelude.{Result, Ok, Err}
use Rattle.store.specs.declared.Shape.{Shape}
use Rattle.store.specs.declared.Counts.{Counts}
use Rattle.store.specs.Store.{nodes_at, links_at}
use Rattle.walk.specs.declared.Wanted.{Wanted}
use Rattle.walk.specs.declared.Damaged.{Damaged}
use Rattle.walk.specs.declared.look.Block.{Block}
use Rattle.walk.specs.Wanted.{sought}
use Rattle.walk.specs.Promises.{Placing, LeafPlacing, LeafPlaced, Shows}
use Rattle.walk.proofs.Damage.{is_damage}
use Rattle.walk.proofs.Looks.{shows_leaf, shows_inner, leaf_look, inner_look}
use Rattle.walk.proofs.look.node_at.Goals as goal

leaf-shows : (s : Shape) (c : Counts) (numbers : List ℕ) (wanted : Wanted) (i at : ℕ) (r : Result Block Damaged) → at ≡ nodes_at s
    → get_or numbers (at + i * 6 + 1) 0 ≡ 0 → LeafPlaced s c numbers wanted (at + i * 6) r → Shows s c numbers wanted i (leaf_look r)
leaf-shows s c numbers wanted i at r e z h name other =
    shows_leaf s c numbers (sought wanted name other) i (subst (λ (at : ℕ). get_or numbers (at + i * 6 + 1) 0 ≡ 0) e z) r
    (subst (λ (at : ℕ). LeafPlacing s c numbers (sought wanted name other) (at + i * 6) r) e (h name other))

inner_shows : (s : Shape) (c : Counts) (numbers : List ℕ) (wanted : Wanted) (i at base : ℕ) (r : Result Block Damaged) → at ≡ nodes_at s → base ≡ links_at s
    → (get_or numbers (at + i * 6 + 1) 0 ≡ 0 → ⊥) → Placing numbers (at + i * 6) base c.nodes r → Shows s c numbers wanted i (inner_look r)
inner_shows s c numbers wanted i at base r e d n h name other =
    shows_inner s c numbers (sought wanted name other) i (subst (λ (at : ℕ). get_or numbers (at + i * 6 + 1) 0 ≡ 0 → ⊥) e n) r
    (subst₂ (λ (at base : ℕ). Placing numbers (at + i * 6) base c.nodes r) e d h)

pub returns-in_err-list : goal.returns-in_err-list
returns-in_err-list c =
    let a = c.args in
    rw (is_damage c.from_residual.result c.from_residual.ensures.0)
    (leaf-shows a.shape a.counts a.numbers.now a.wanted a.i _ (Err (record {})) c.nodes_at.ensures c.if-numbers-at-eq0.true c.in_err-list.ensures)

pub returns-then-numbers-at-eq0 : goal.returns-then-numbers-at-eq0
returns-then-numbers-at-eq0 c =
    let a = c.args in
    leaf-shows a.shape a.counts a.numbers.now a.wanted a.i _ (Ok c.in_ok-list.list) c.nodes_at.ensures c.if-numbers-at-eq0.true c.in_ok-list.ensures

pub returns-in_err-children : goal.returns-in_err-children
returns-in_err-children c =
    let a = c.args in
    rw (is_damage c.from_residual-in_err-children.result c.from_residual-in_err-children.ensures.0)
    (inner_shows a.shape a.counts a.numbers.now a.wanted a.i _ _ (Err (record {})) c.nodes_at.ensures c.links_at.ensures c.if-numbers-at-eq0.false c.in_err-children.ensures)

pub returns : goal.returns
returns c =
    let a = c.args in
    inner_shows a.shape a.counts a.numbers.now a.wanted a.i _ _ (Ok c.in_ok-children.children) c.nodes_at.ensures c.links_at.ensures c.if-numbers-at-eq0.false c.in_ok-children.ensures
