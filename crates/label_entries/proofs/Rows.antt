-- The table of six numbers per node: what stands in it once all nodes are made, and that the columns written make it that of the layout.
use Prim.Native.Nat.{ℕ, zero, suc, ◌+◌, ◌-◌, ◌*◌, ◌/◌, ◌%◌, ◌≤◌, ◌<◌}
use mathlib.Core.Path.{◌≡◌, refl, sym, ap, ap₂, ◌∙◌}
use mathlib.Core.Logic.{◌⊎◌, inl, inr}
use mathlib.Core.Bool.{true, false}
use mathlib.Core.List.{List, [], ◌∷◌, ◌++◌, map}
use native.Mathlib.Nat.{zero-add, add-zero, add_assoc, not-suc-le-zero, le_of_suc-le-suc}
use native.Mathlib.Omega.{arith}
use lib.Dec.{ltb, lit<}
use lib.ListN.{length, get_or, take, length-map, get_or-map}
use lib.Seq.{sets, length-sets, ext_get_or, take-append_seam}
use borrow.Author.Tests.{ltb-true, ltb-false}
use Rattle.lists.specs.Lists.{part}
use Rattle.lists.specs.Counting.{sum_of}
use Rattle.lists.specs.Tests.{which}
use Rattle.lists.specs.Partition.{count}
use Rattle.lists.specs.Parts.{get_d_part, part-append_right, get_d_sets_before, get_d_sets-after, get_d_sets_in}
use Rattle.tree.specs.Nodes.{Node, no_node}
use Rattle.tree.specs.Layout.{start_of, six_from}
use Rattle.tree.proofs.LayoutLaws.{block_at, six_of, six_get_d, length-six_from}
use Rattle.tree.specs.Made.{made_from}
use Rattle.node_table.specs.Table.{cell_at, cell, cells, column, sum_to, start_at, block_start}
use Rattle.entry_order.specs.EntryOrder.{class_start}
use Rattle.node_table.specs.TableLaws.{distinct_cells, length-written, get_d_written_other, get_d_written-same, length-cells, get_d_cells, sum_to_congr}
use Rattle.label_entries.proofs.Classes.{sum_to-block, start_at-is}

abbrev pub made_row : ℕ → Node → List ℕ
made_row v node = 0 ∷ length node.children ∷ start_of v node.ids ∷ length node.ids ∷ 0 ∷ 0 ∷ []

made-cons : (v : ℕ) (node : Node) (rest : List Node) → made_from v (node ∷ rest) ≡ made_row v node ++ made_from (v + length node.ids) rest
unfolding made_from
made-cons v node rest = refl

made-part : (v : ℕ) (nodes : List Node) (i : ℕ) (d : Node) → i < length nodes
    → part (i * 6) 6 (made_from v nodes) ≡ made_row (v + block_at (λ node. node.ids) nodes i) (get_or nodes i d)
unfolding sum_of
made-part v [] i d h = absurd (not-suc-le-zero h)
made-part v (node ∷ rest) zero d h =
    ap (λ (l : List ℕ). take 6 l) (made-cons v node rest)
    ∙ take-append_seam (made_row v node) (made_from (v + length node.ids) rest)
    ∙ ap (λ (k : ℕ). made_row k node) (sym (add-zero v))
made-part v (node ∷ rest) (suc i) d h =
    let n : suc i * 6 ≡ 6 + i * 6 = omega arith in
    ap₂ (λ (a : ℕ) (l : List ℕ). part a 6 l) n (made-cons v node rest)
    ∙ part-append_right (i * 6) 6 (made_row v node) (made_from (v + length node.ids) rest)
    ∙ made-part (v + length node.ids) rest i d (le_of_suc-le-suc h)
    ∙ ap (λ (k : ℕ). made_row k (get_or rest i d)) (add_assoc v (length node.ids) (block_at (λ node. node.ids) rest i))

module _ (at : ℕ) (numbers : List ℕ) (nodes : List Node) (d : Node) (six : part at (6 * length nodes) numbers ≡ made_from 0 nodes) where
  pub made-cell : (i field : ℕ) → i < length nodes → field < 6
      → get_or numbers (at + field + 6 * i) 0 ≡ get_or (made_row (block_at (λ node. node.ids) nodes i) (get_or nodes i d)) field 0
  made-cell i field h g =
      let e : at + field + 6 * i ≡ at + (i * 6 + field) = omega arith in
      ap (λ (k : ℕ). get_or numbers k 0) e
      ∙ sym (get_d_part at (6 * length nodes) numbers (i * 6 + field) 0 (omega arith))
      ∙ ap (λ (l : List ℕ). get_or l (i * 6 + field) 0) six
      ∙ sym (get_d_part (i * 6) 6 (made_from 0 nodes) field 0 g)
      ∙ ap (λ (l : List ℕ). get_or l field 0) (made-part 0 nodes i d h ∙ ap (λ (k : ℕ). made_row k (get_or nodes i d)) (zero-add (block_at (λ node. node.ids) nodes i)))

  pub child_count_lem : (i : ℕ) → i < length nodes → cell (at + 1) numbers i ≡ length (get_or nodes i d).children
  child_count_lem i h = made-cell i 1 h (omega arith)

  pub id_count : (i : ℕ) → i < length nodes → cell (at + 3) numbers i ≡ length (get_or nodes i d).ids
  id_count i h = made-cell i 3 h (omega arith)

  -- running sums of the counts
  pub child_sum : (i : ℕ) → i ≤ length nodes → sum_to (cell (at + 1) numbers) i ≡ block_at (λ node. node.children) nodes i
  child_sum i h =
      sum_to_congr (cell (at + 1) numbers) (λ j. length (get_or nodes j d).children) i (λ j b. child_count_lem j (let k : j < length nodes = omega arith in k))
      ∙ sum_to-block (λ node. node.children) nodes d i h

pub cells_are : (at : ℕ) (numbers : List ℕ) (nodes : List Node) → part at (6 * length nodes) numbers ≡ made_from 0 nodes
    → cells (at + 1) (length nodes) numbers ≡ map (λ node. length node.children) nodes
cells_are at numbers nodes six =
    let n = length-cells (at + 1) (length nodes) numbers in
    ext_get_or 0 (cells (at + 1) (length nodes) numbers) (map (λ node. length node.children) nodes)
    (n ∙ sym (length-map nodes (λ node. length node.children)))
    (λ i b.
    let h : i < length nodes = omega arith in
    get_d_cells (at + 1) (length nodes) numbers i h ∙ child_count_lem at numbers nodes no_node six i h
    ∙ sym (get_or-map (λ node. length node.children) nodes i no_node))

-- ---- the columns written

-- a place has one field
field_is : (f g i j : ℕ) → f < 6 → g < 6 → f + 6 * i ≡ g + 6 * j → f ≡ g
field_is f g i j a b e = omega arith

module _ (at : ℕ) (numbers : List ℕ) (nodes : List Node) (d : Node) (six : part at (6 * length nodes) numbers ≡ made_from 0 nodes)
    (fits : at + 6 * length nodes ≤ length numbers) (rows : List ℕ)
    (counts : (j : ℕ) → j < length nodes → count j rows ≡ length (get_or nodes j d).entries) where
  first : List ℕ
  first = column at (length nodes) (block_start at numbers) numbers

  second : List ℕ
  second = column (at + 4) (length nodes) (class_start rows) first

  third : List ℕ
  third = column (at + 5) (length nodes) (λ i. count i rows) second

  length-first : length first ≡ length numbers
  unfolding first
  length-first = length-written (cell_at at) (block_start at numbers) (length nodes) numbers

  length-second : length second ≡ length numbers
  unfolding second
  length-second = length-written (cell_at (at + 4)) (class_start rows) (length nodes) first ∙ length-first

  length-third : length third ≡ length numbers
  unfolding third
  length-third = length-written (cell_at (at + 5)) (λ i. count i rows) (length nodes) second ∙ length-second

  -- places that a column does not have
  past_first : (q : ℕ) → ((i : ℕ) → i < length nodes → q ≡ at + 6 * i → ⊥) → get_or first q 0 ≡ get_or numbers q 0
  unfolding first
  past_first q h = get_d_written_other (cell_at at) (block_start at numbers) (length nodes) numbers q h

  past-second : (q : ℕ) → ((i : ℕ) → i < length nodes → q ≡ at + 4 + 6 * i → ⊥) → get_or second q 0 ≡ get_or first q 0
  unfolding second
  past-second q h = get_d_written_other (cell_at (at + 4)) (class_start rows) (length nodes) first q h

  past-third : (q : ℕ) → ((i : ℕ) → i < length nodes → q ≡ at + 5 + 6 * i → ⊥) → get_or third q 0 ≡ get_or second q 0
  unfolding third
  past-third q h = get_d_written_other (cell_at (at + 5)) (λ i. count i rows) (length nodes) second q h

  untouched : (i field : ℕ) → i < length nodes → field < 6 → (field ≡ 0 → ⊥) → (field ≡ 4 → ⊥) → (field ≡ 5 → ⊥)
      → get_or third (at + field + 6 * i) 0 ≡ get_or numbers (at + field + 6 * i) 0
  untouched i field h g a b c =
      past-third (at + field + 6 * i) (λ j w e. c (field_is field 5 i j g (lit< tt) (omega arith)))
      ∙ past-second (at + field + 6 * i) (λ j w e. b (field_is field 4 i j g (lit< tt) (omega arith)))
      ∙ past_first (at + field + 6 * i) (λ j w e. a (field_is field 0 i j g (lit< tt) (omega arith)))

  value : (i field : ℕ) → i < length nodes → field < 6 → get_or third (at + field + 6 * i) 0 ≡ get_or (six_from 0 0 0 nodes) (i * 6 + field) 0
  unfolding six_of first second third block_start class_start
  value i field h g = go field g ∙ sym (six_get_d nodes i d field h g)
    where
      go : (field : ℕ) → field < 6
          → get_or third (at + field + 6 * i) 0
          ≡ get_or (six_of (block_at (λ node. node.children) nodes i) (block_at (λ node. node.ids) nodes i) (block_at (λ node. node.entries) nodes i) (get_or nodes i d)) field 0
      go zero g =
          let e : at + 0 + 6 * i ≡ at + 6 * i = omega arith in
          ap (λ (k : ℕ). get_or third k 0) e
          ∙ past-third (at + 6 * i) (λ j w x. omega arith)
          ∙ past-second (at + 6 * i) (λ j w x. omega arith)
          ∙ get_d_written-same (cell_at at) (block_start at numbers) (length nodes) numbers i (distinct_cells at (length nodes)) h (omega arith)
          ∙ ap₂ start_at (child_sum at numbers nodes d six i (omega arith)) (child_count_lem at numbers nodes d six i h)
          ∙ start_at-is (block_at (λ node. node.children) nodes i) (get_or nodes i d).children
      go (suc zero) g = untouched i 1 h g (λ e. omega arith) (λ e. omega arith) (λ e. omega arith) ∙ made-cell at numbers nodes d six i 1 h g
      go (suc (suc zero)) g = untouched i 2 h g (λ e. omega arith) (λ e. omega arith) (λ e. omega arith) ∙ made-cell at numbers nodes d six i 2 h g
      go (suc (suc (suc zero))) g = untouched i 3 h g (λ e. omega arith) (λ e. omega arith) (λ e. omega arith) ∙ made-cell at numbers nodes d six i 3 h g
      go (suc (suc (suc (suc zero)))) g =
          let n = length-first in
          past-third (at + 4 + 6 * i) (λ j w x. omega arith)
          ∙ get_d_written-same (cell_at (at + 4)) (class_start rows) (length nodes) first i (distinct_cells (at + 4) (length nodes)) h (omega arith)
          ∙ ap₂ start_at
          (sum_to_congr (λ j. count j rows) (λ j. length (get_or nodes j d).entries) i (λ j b. counts j (let k : j < length nodes = omega arith in k))
          ∙ sum_to-block (λ node. node.entries) nodes d i (omega arith))
          (counts i h)
          ∙ start_at-is (block_at (λ node. node.entries) nodes i) (get_or nodes i d).entries
      go (suc (suc (suc (suc (suc zero))))) g =
          let n = length-second in
          get_d_written-same (cell_at (at + 5)) (λ i. count i rows) (length nodes) second i (distinct_cells (at + 5) (length nodes)) h (omega arith)
          ∙ counts i h
      go (suc (suc (suc (suc (suc (suc field)))))) g = absurd (omega arith)

  pub table_is : column (at + 5) (length nodes) (λ i. count i rows) (column (at + 4) (length nodes) (class_start rows) (column at (length nodes) (block_start at numbers) numbers))
      ≡ sets numbers at (six_from 0 0 0 nodes)
  unfolding first second third
  table_is =
      ext_get_or 0 third (sets numbers at (six_from 0 0 0 nodes)) (length-third ∙ sym (length-sets numbers at (six_from 0 0 0 nodes)))
      (λ q c. go q (which (ltb q at)) (which (ltb q (at + 6 * length nodes))))
    where
      go : (q : ℕ) → (ltb q at ≡ true) ⊎ (ltb q at ≡ false) → (ltb q (at + 6 * length nodes) ≡ true) ⊎ (ltb q (at + 6 * length nodes) ≡ false)
          → get_or third q 0 ≡ get_or (sets numbers at (six_from 0 0 0 nodes)) q 0
      go q (inl e) w =
          let h = ltb-true q at e in
          past-third q (λ j w x. omega arith) ∙ past-second q (λ j w x. omega arith) ∙ past_first q (λ j w x. omega arith)
          ∙ sym (get_d_sets_before numbers at (six_from 0 0 0 nodes) q 0 h)
      go q (inr e) (inr e') =
          let h = ltb-false q (at + 6 * length nodes) e' in
          let n = length-six_from 0 0 0 nodes in
          past-third q (λ j w x. omega arith) ∙ past-second q (λ j w x. omega arith) ∙ past_first q (λ j w x. omega arith)
          ∙ sym (get_d_sets-after numbers at (six_from 0 0 0 nodes) q 0 (omega arith))
      go q (inr e) (inl e') =
          let h = ltb-false q at e in
          let h' = ltb-true q (at + 6 * length nodes) e' in
          let n = length-six_from 0 0 0 nodes in
          let i = (q - at) / 6 in
          let field = (q - at) % 6 in
          let small : (q - at) / 6 < length nodes = omega arith in
          let low : (q - at) % 6 < 6 = omega arith in
          let is : q ≡ at + (q - at) % 6 + 6 * ((q - at) / 6) = omega arith in
          let is' : q ≡ at + ((q - at) / 6 * 6 + (q - at) % 6) = omega arith in
          ap (λ (k : ℕ). get_or third k 0) is
          ∙ value ((q - at) / 6) ((q - at) % 6) small low
          ∙ sym (ap (λ (k : ℕ). get_or (sets numbers at (six_from 0 0 0 nodes)) k 0) is'
          ∙ get_d_sets_in numbers at (six_from 0 0 0 nodes) ((q - at) / 6 * 6 + (q - at) % 6) 0 (omega arith) (omega arith))
