-- Row by row: what each test asked is its row's case. `after-k` says that the first k rows pass, so that what is left decides.
use Rattle.std.proofs.Common.{◌≡◌, ℕ, ◌+◌, ◌≤◌, Bool, true, false, not, ◌&&◌, List, [], ◌∷◌, ◌++◌, length, drop, eqb, ltb, sym, ap, ◌∙◌, arith, subst}
use borrow.Author.Tests.{eq-eqb, ne_eqb}
use Rattle.lists.specs.Lists.{part}
use Rattle.lists.specs.Tests.{all_pass, and_false}
use Rattle.store.specs.declared.Shape.{Shape}
use Rattle.store.specs.declared.Lengths.{Lengths}
use Rattle.store.specs.Store.{Limits, owners_at}
use Rattle.store.specs.Lent.{lists_short}
use Rattle.store.specs.LentLaws.{lists-long}
use Rattle.curator.specs.declared.CuratorIndex.{CuratorIndex}
use Rattle.curator.specs.Limits.{state_sound, index_shape}
use Rattle.curator.proofs.RowLaws.{no_rows, row-stops, row-passes}
use Rattle.curator.specs.Rows.{Row, first_of}
use Rattle.curator.proofs.StateLaws.{sound_facts}
use Rattle.build.specs.Asked.{owners_bad}
use Rattle.build.specs.CheckLaws.{early_build_rows, full_row, checked_rows}
use Rattle.build.proofs.check.build_check.Goals as goal

-- what the second row asks, by the shape that was made
short : (shape : Shape) (index : CuratorIndex) (lent : Lengths) (work : ℕ) (is_short : Bool) → is_short ≡ lists_short shape lent work → shape ≡ index_shape index
    → lists_short (index_shape index) lent work ≡ is_short
short shape index lent work is_short e f = sym (e ∙ ap (λ (s : Shape). lists_short s lent work) f)

-- where the owners start
owners-start : (shape : Shape) (index : CuratorIndex) (at : ℕ) → at ≡ owners_at shape → shape ≡ index_shape index → at ≡ owners_at (index_shape index)
owners-start shape index at e f = e ∙ ap (λ (s : Shape). s.vectors) f

module _ (index : CuratorIndex) (lent : Lengths) (work : ℕ) (numbers : List ℕ) where
  abbrev rows : List Row
  rows = early_build_rows index lent work numbers ++ (full_row index false ∷ [])

  -- what the fourth row asks
  bad : (at : ℕ) (sound : Bool) → sound ≡ all_pass (λ owner. ltb owner index.counts.vectors) (part at index.counts.entries numbers)
      → at ≡ owners_at (index_shape index) → not sound ≡ owners_bad index numbers
  unfolding owners_bad
  bad at sound e f = ap not (e ∙ ap (λ (at : ℕ). all_pass (λ owner. ltb owner index.counts.vectors) (part at index.counts.entries numbers)) f)

  module _ (is_sound : state_sound index ≡ true) where
    after-1 : first_of rows ≡ first_of (drop 1 rows)
    after-1 = row-passes _ _ (ap not is_sound)

    module _ (long : lists_short (index_shape index) lent work ≡ false) where
      after-2 : first_of rows ≡ first_of (drop 2 rows)
      after-2 = after-1 ∙ row-passes _ _ long

      after-3 : index.built ≡ false → (index.counts.vectors ≡ 0 → ⊥) → first_of rows ≡ first_of (drop 3 rows)
      after-3 unbuilt some = after-2 ∙ row-passes _ _ (ap (λ (t : Bool). not t && eqb index.counts.vectors 0) unbuilt ∙ ne_eqb _ _ some)

  -- the fourth row's case, for an index that is not built
  fourth : index.built ≡ false → not index.built && owners_bad index numbers ≡ owners_bad index numbers
  fourth unbuilt = ap (λ (t : Bool). not t && owners_bad index numbers) unbuilt

pub returns-then-not-state_sound : goal.returns-then-not-state_sound
returns-then-not-state_sound c = sym (checked_rows _ _ _ _ ∙ row-stops _ _ (ap not (sym c.state_sound.ensures ∙ c.if-not-state_sound.true)))

pub lists_short-requires : goal.lists_short-requires
lists_short-requires c =
    subst (λ (s : Shape). Limits s) (sym c.shape_of-shape.ensures) (sound_facts _ (sym c.state_sound.ensures ∙ c.if-not-state_sound.false)).limits

pub returns-then-lists_short : goal.returns-then-lists_short
returns-then-lists_short c =
    let a = c.args in
    let is = short c.shape_of-shape.result a.index a.lent a.work c.lists_short.result c.lists_short.ensures c.shape_of-shape.ensures in
    sym
    (checked_rows _ _ _ _ ∙ after-1 a.index a.lent a.work a.numbers.now (sym c.state_sound.ensures ∙ c.if-not-state_sound.false)
    ∙ row-stops _ _ (is ∙ c.if-lists_short.true))

pub returns-then-index : goal.returns-then-index
returns-then-index c =
    let a = c.args in
    let is = short c.shape_of-shape.result a.index a.lent a.work c.lists_short.result c.lists_short.ensures c.shape_of-shape.ensures in
    let built : (rest : Bool) → not a.index.built && rest ≡ false = λ rest. ap (λ (t : Bool). not t && rest) c.if-index.true in
    sym
    (checked_rows _ _ _ _
    ∙ after-2 a.index a.lent a.work a.numbers.now (sym c.state_sound.ensures ∙ c.if-not-state_sound.false) (is ∙ c.if-lists_short.false)
    ∙ row-passes _ _ (built (eqb a.index.counts.vectors 0))
    ∙ row-passes _ _ (built (owners_bad a.index a.numbers.now))
    ∙ row-passes _ _ (built false)
    ∙ no_rows)

pub returns-then-index-eq0 : goal.returns-then-index-eq0
returns-then-index-eq0 c =
    let a = c.args in
    let is = short c.shape_of-shape.result a.index a.lent a.work c.lists_short.result c.lists_short.ensures c.shape_of-shape.ensures in
    sym
    (checked_rows _ _ _ _
    ∙ after-2 a.index a.lent a.work a.numbers.now (sym c.state_sound.ensures ∙ c.if-not-state_sound.false) (is ∙ c.if-lists_short.false)
    ∙ row-stops _ _ (ap (λ (t : Bool). not t && eqb a.index.counts.vectors 0) c.if-index.false ∙ eq-eqb _ _ c.if-index-eq0.true))

pub owners_at-requires : goal.owners_at-requires
owners_at-requires c =
    subst (λ (s : Shape). Limits s) (sym c.shape_of-shape.ensures) (sound_facts _ (sym c.state_sound.ensures ∙ c.if-not-state_sound.false)).limits

pub owners_sound-requires : goal.owners_sound-requires
owners_sound-requires c =
    let a = c.args in
    let at = owners-start c.shape_of-shape.result a.index c.owners_at.result c.owners_at.ensures c.shape_of-shape.ensures in
    let is = short c.shape_of-shape.result a.index a.lent a.work c.lists_short.result c.lists_short.ensures c.shape_of-shape.ensures in
    let long = (lists-long (index_shape a.index) a.lent a.work (is ∙ c.if-lists_short.false)).0.numbers in
    let few = (sound_facts a.index (sym c.state_sound.ensures ∙ c.if-not-state_sound.false)).entries in
    subst (λ (at : ℕ). at + a.index.counts.entries ≤ length a.numbers.now) (sym at) (omega (arith, long, few, c.requires))

pub returns-then-not-owners_sound : goal.returns-then-not-owners_sound
returns-then-not-owners_sound c =
    let a = c.args in
    let is = short c.shape_of-shape.result a.index a.lent a.work c.lists_short.result c.lists_short.ensures c.shape_of-shape.ensures in
    let at = owners-start c.shape_of-shape.result a.index c.owners_at.result c.owners_at.ensures c.shape_of-shape.ensures in
    let asked = fourth a.index a.lent a.work a.numbers.now c.if-index.false
    ∙ sym (bad a.index a.lent a.work a.numbers.now c.owners_at.result c.owners_sound.result c.owners_sound.ensures at) in
    sym
    (checked_rows _ _ _ _
    ∙ after-3 a.index a.lent a.work a.numbers.now (sym c.state_sound.ensures ∙ c.if-not-state_sound.false) (is ∙ c.if-lists_short.false) c.if-index.false
    c.if-index-eq0.false
    ∙ row-stops _ _ (asked ∙ ap not c.if-not-owners_sound.true))

pub returns : goal.returns
returns c =
    let a = c.args in
    let is = short c.shape_of-shape.result a.index a.lent a.work c.lists_short.result c.lists_short.ensures c.shape_of-shape.ensures in
    let at = owners-start c.shape_of-shape.result a.index c.owners_at.result c.owners_at.ensures c.shape_of-shape.ensures in
    let asked = fourth a.index a.lent a.work a.numbers.now c.if-index.false
    ∙ sym (bad a.index a.lent a.work a.numbers.now c.owners_at.result c.owners_sound.result c.owners_sound.ensures at) in
    sym
    (checked_rows _ _ _ _
    ∙ after-3 a.index a.lent a.work a.numbers.now (sym c.state_sound.ensures ∙ c.if-not-state_sound.false) (is ∙ c.if-lists_short.false) c.if-index.false
    c.if-index-eq0.false
    ∙ row-passes _ _ (asked ∙ ap not c.if-not-owners_sound.false)
    ∙ row-passes (full_row a.index false) [] (and_false (not a.index.built))
    ∙ no_rows)
