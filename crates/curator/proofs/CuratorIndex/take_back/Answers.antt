-- By the case of the check: its refusal, or the state with one vector less and the entries that `last_entries` counted; that no row's case holds gives what the
-- counting relies on.
use Rattle.std.proofs.Common.{rules, ◌≡◌, ℕ, ◌+◌, ◌-◌, get_or, sym, ap, ap₂, ◌∙◌, arith, subst}
use Rattle.lists.specs.Lists.{part}
use Rattle.store.specs.declared.Shape.{Shape}
use Rattle.store.specs.Store.{Store, Limits, owners_at, starts_at}
use Rattle.store.specs.Lent.{lengths_of, stored}
use Rattle.std.specs.Prelude.{Ok, Err}
use Rattle.curator.specs.declared.CuratorIndex.{CuratorIndex}
use Rattle.lists.specs.Suffix.{count_at_end}
use Rattle.curator.specs.Calls.{last_entries, held_entries, lowered, bytes_left, with_counts, counts_less}
use Rattle.curator.specs.Changes.{take_back_check, TakesBackBy}
use Rattle.curator.specs.Lent.{take_back_checked}
use Rattle.curator.specs.Limits.{index_shape}
use Rattle.curator.specs.OutcomeLaws.{is_refused, is_carried}
use Rattle.curator.proofs.TakeBackLaws.{CanTakeBack, can_take_back, takes_back_by, last-few}
use Rattle.curator.proofs.CuratorIndex.take_back.Goals as goal

module _ (index : CuratorIndex) (store : Store) where
  -- no row's case holds
  fine : take_back_checked index (lengths_of store) ≡ (Ok tt) → take_back_check index store ≡ (Ok tt)
  unfolding take_back_check
  fine e = e

  can : take_back_checked index (lengths_of store) ≡ (Ok tt) → CanTakeBack index (lengths_of store)
  can e = can_take_back _ _ (fine e)

  -- what was counted, from where the owners start
  counted : (n at : ℕ) → n ≡ count_at_end (index.counts.vectors - 1) (part at index.counts.entries store.numbers) → at ≡ owners_at (index_shape index)
      → n ≡ last_entries index store
  unfolding last_entries held_entries
  counted n at e is = e ∙ ap (λ (at : ℕ). count_at_end (index.counts.vectors - 1) (part at index.counts.entries store.numbers)) is

  -- what is left, from where the starts begin
  left : (b n at : ℕ) → b ≡ lowered n (get_or store.numbers (at + (index.counts.entries - n)) 0) index.counts.bytes → at ≡ starts_at (index_shape index)
      → n ≡ last_entries index store → b ≡ bytes_left index store
  unfolding bytes_left
  left b n at e is taken =
      e ∙ ap₂ (λ (at taken : ℕ). lowered taken (get_or store.numbers (at + (index.counts.entries - taken)) 0) index.counts.bytes) is taken

pub owners_at-owners-requires : goal.owners_at-owners-requires
owners_at-owners-requires c =
    let store = stored c.args.lists in
    subst (λ (s : Shape). Limits s) (sym c.shape_of-shape.ensures) (can c.args.self store (ap (take_back_checked c.args.self) (sym c.lengths.ensures) ∙ sym c.take_back_check.ensures ∙ c.in_ok-take_back_check.was)).sound.limits

pub last_entries-entries-requires : goal.last_entries-entries-requires
last_entries-entries-requires c =
    let store = stored c.args.lists in
    let known = can c.args.self store (ap (take_back_checked c.args.self) (sym c.lengths.ensures) ∙ sym c.take_back_check.ensures ∙ c.in_ok-take_back_check.was) in
    let at = c.owners_at-owners.ensures ∙ ap (λ (s : Shape). owners_at s) c.shape_of-shape.ensures in
    (known.some, omega (arith, known.sound.vectors, known.sound.limits), omega (arith, at, known.sound.entries, known.long.numbers))

pub starts_at-requires : goal.starts_at-requires
starts_at-requires c =
    let store = stored c.args.lists in
    subst (λ (s : Shape). Limits s) (sym c.shape_of-shape.ensures) (can c.args.self store (ap (take_back_checked c.args.self) (sym c.lengths.ensures) ∙ sym c.take_back_check.ensures ∙ c.in_ok-take_back_check.was)).sound.limits

pub bytes_left-bytes-requires : goal.bytes_left-bytes-requires
bytes_left-bytes-requires c =
    let store = stored c.args.lists in
    let known = can c.args.self store (ap (take_back_checked c.args.self) (sym c.lengths.ensures) ∙ sym c.take_back_check.ensures ∙ c.in_ok-take_back_check.was) in
    let owners = c.owners_at-owners.ensures ∙ ap (λ (s : Shape). owners_at s) c.shape_of-shape.ensures in
    let taken = counted c.args.self store c.last_entries-entries.result c.owners_at-owners.result c.last_entries-entries.ensures owners in
    let few = last-few c.args.self store in
    let starts = c.starts_at.ensures ∙ ap (λ (s : Shape). starts_at s) c.shape_of-shape.ensures in
    (omega (arith, taken, few), omega (arith, starts, known.sound.entries, known.long.numbers))

pub shrunk-requires : goal.shrunk-requires
shrunk-requires c =
    let store = stored c.args.lists in
    let known = can c.args.self store (ap (take_back_checked c.args.self) (sym c.lengths.ensures) ∙ sym c.take_back_check.ensures ∙ c.in_ok-take_back_check.was) in
    let owners = c.owners_at-owners.ensures ∙ ap (λ (s : Shape). owners_at s) c.shape_of-shape.ensures in
    let taken = counted c.args.self store c.last_entries-entries.result c.owners_at-owners.result c.last_entries-entries.ensures owners in
    let few = last-few c.args.self store in
    (known.some, omega (arith, taken, few))

pub returns-in_err-take_back_check : goal.returns-in_err-take_back_check
unfolding TakesBackBy take_back_check
returns-in_err-take_back_check c =
    let e : c.from_residual.result ≡ Err c.in_err-take_back_check.field-0.0 = search rules in
    takes_back_by _ _ _ _ (ap (take_back_checked c.args.self) (sym c.lengths.ensures) ∙ sym c.take_back_check.ensures ∙ c.in_err-take_back_check.was) (is_refused _ _ e)

pub returns : goal.returns
unfolding TakesBackBy
returns c =
    let index = c.args.self in
    let store = stored c.args.lists in
    let owners = c.owners_at-owners.ensures ∙ ap (λ (s : Shape). owners_at s) c.shape_of-shape.ensures in
    let starts = c.starts_at.ensures ∙ ap (λ (s : Shape). starts_at s) c.shape_of-shape.ensures in
    let taken = counted index store c.last_entries-entries.result c.owners_at-owners.result c.last_entries-entries.ensures owners in
    let bytes = left index store c.bytes_left-bytes.result c.last_entries-entries.result c.starts_at.result c.bytes_left-bytes.ensures starts taken in
    takes_back_by _ _ _ _ (fine index store (ap (take_back_checked c.args.self) (sym c.lengths.ensures) ∙ sym c.take_back_check.ensures ∙ c.in_ok-take_back_check.was))
    (is_carried _ _
    (ap Ok (c.shrunk.ensures ∙ ap₂ (λ (entries c : ℕ). with_counts index (counts_less index.counts entries c) index.built) taken bytes)))
