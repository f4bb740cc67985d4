-- The filter is cleared, the hashes of the node's entries inserted, and the filters of its children, which stand after it, added. The two blocks are
-- known before anything is written. Assumes nothing.
use Prim.Native.Nat.{ℕ, ◌+◌, ◌-◌, ◌*◌, ◌<◌, ◌≤◌}
use mathlib.Core.Path.{◌≡◌, refl}
use mathlib.Core.List.{List}
use native.Mathlib.Omega.{arith}
use lib.ListN.{length, get_or, drop, take}
use Rattle.lists.specs.Parts.{lent_is, part_element}
use Rattle.node_filters.specs.Filters.{entry_block, child_block}
use Rattle.node_filters.proofs.Filtering.{filter-made}
use Rattle.node_filters.proofs.make_filter.Goals.{After-block_ends-children}
use Rattle.node_filters.proofs.make_filter.Goals as goal

-- the place where both blocks are known
abbrev Blocks : Type 0
Blocks = After-block_ends-children

abbrev filterAt : Blocks → ℕ
filterAt b = b.args.places.filters + 4 * b.args.node

abbrev entries : Blocks → List ℕ
entries b = let r = b.block_ends-entries.result in take (r.end - r.start) (drop r.start b.args.numbers.now)

abbrev children : Blocks → List ℕ
children b = let r = b.block_ends-children.result in take (r.end - r.start) (drop r.start b.args.numbers.now)

entries-are : (b : Blocks) → entries b ≡ entry_block b.args.places b.args.numbers.now b.args.node
entries-are b = let r = b.block_ends-entries in lent_is b.args.numbers.now r.result.start r.result.end _ _ r.ensures.from_value r.ensures.to_value

children-are : (b : Blocks) → children b ≡ child_block b.args.places b.args.numbers.now b.args.node
children-are b = let r = b.block_ends-children in lent_is b.args.numbers.now r.result.start r.result.end _ _ r.ensures.from_value r.ensures.to_value

-- the hashes of the node's entries stand before the filters
entry : (b : Blocks) (k : ℕ) → k < length (entries b) → get_or (entries b) k 0 < filterAt b
entry b k h =
    let row = b.requires.row_fits in
    let x = part_element _ _ b.args.numbers.now k 0 (entries-are b) row.entries_end h in
    omega (arith, x.1, row.entry_below k x.0)

-- the node's children are later nodes
child : (b : Blocks) (k : ℕ) → k < length (children b) → (b.args.node < get_or (children b) k 0) × (get_or (children b) k 0 < b.args.nodes)
child b k h =
    let row = b.requires.row_fits in
    let x = part_element _ _ b.args.numbers.now k 0 (children-are b) row.children_end h in
    (omega (arith, x.1, row.child_above k x.0), omega (arith, x.1, row.child_below k x.0))

above : (b : Blocks) (k : ℕ) → k < length (children b) → filterAt b + 4 ≤ b.args.places.filters + 4 * get_or (children b) k 0
above b k h = omega (arith, (child b k h).0)

-- the filter is within the hashes
within : (b : Blocks) → filterAt b + 4 ≤ length b.args.hashes.now
within b = omega (arith, b.requires.nodes_bound, b.requires.node_lt_nodes)

below : (b : Blocks) (k : ℕ) → k < length (children b) → b.args.places.filters + 4 * get_or (children b) k 0 + 4 ≤ length b.args.hashes.now
below b k h = omega (arith, (child b k h).1, b.requires.nodes_bound)

pub returns : goal.returns
returns c =
    let b = (goal.at.returns c).After-block_ends-children in
    let a = b.args in
    filter-made a.places a.numbers.now a.hashes.now c.insert_hashes.new.hashes c.unite_children.new.hashes c.clear.new.filter
    (entries b) (children b) (filterAt b) a.node refl (within b) c.clear.ensures _ refl c.insert_hashes.ensures
    c.unite_children.ensures (entries-are b) (children-are b) (entry b) (above b) (below b)
