-- Row by row: what each test asked is its row's case. Where the first row passes, the second decides.
use Rattle.std.proofs.Common.{◌≡◌, true, not, [], ◌∷◌, sym, ap, ◌∙◌, subst}
use Rattle.store.specs.declared.Shape.{Shape}
use Rattle.store.specs.declared.Lengths.{Lengths}
use Rattle.store.specs.Store.{Limits}
use Rattle.store.specs.Lent.{store_short}
use Rattle.curator.specs.declared.CuratorIndex.{CuratorIndex}
use Rattle.curator.specs.Lent.{lent_rows}
use Rattle.curator.specs.Limits.{state_sound, index_shape}
use Rattle.curator.proofs.RowLaws.{no_rows, row-stops, row-passes}
use Rattle.curator.specs.Rows.{row, first_of}
use Rattle.settings.specs.declared.refusal.Refusal.TheVariants.{Store}
use Rattle.settings.specs.declared.refusal.StoreRefusal.TheVariants.{ListTooShort}
use Rattle.curator.proofs.StateLaws.{sound_facts}
use Rattle.curator.proofs.check.lent_check.Goals as goal

-- the first row passes
passes : (index : CuratorIndex) (lent : Lengths) → state_sound index ≡ true
    → first_of (lent_rows index lent) ≡ first_of (row (store_short (index_shape index) lent) (Store ListTooShort) ∷ [])
passes index lent e = row-passes _ _ (ap not e)

pub returns-then-not-state_sound : goal.returns-then-not-state_sound
returns-then-not-state_sound c = sym (row-stops _ _ (ap not (sym c.state_sound.ensures ∙ c.if-not-state_sound.true)))

pub store_short-requires : goal.store_short-requires
store_short-requires c =
    subst (λ (s : Shape). Limits s) (sym c.shape_of.ensures) (sound_facts _ (sym c.state_sound.ensures ∙ c.if-not-state_sound.false)).limits

pub returns-then-store_short : goal.returns-then-store_short
returns-then-store_short c =
    let short = c.store_short.ensures ∙ ap (λ (s : Shape). store_short s c.args.lent) c.shape_of.ensures in
    sym (passes c.args.index c.args.lent (sym c.state_sound.ensures ∙ c.if-not-state_sound.false) ∙ row-stops _ _ (sym short ∙ c.if-store_short.true))

pub returns : goal.returns
returns c =
    let short = c.store_short.ensures ∙ ap (λ (s : Shape). store_short s c.args.lent) c.shape_of.ensures in
    sym (passes c.args.index c.args.lent (sym c.state_sound.ensures ∙ c.if-not-state_sound.false) ∙ row-passes _ _ (sym short ∙ c.if-store_short.false) ∙ no_rows)
