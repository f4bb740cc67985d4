-- What a build asks before it makes the tree, and what the making relies on.
use Rattle.std.specs.Prelude.{ℕ, ◌+◌, ◌≤◌, ◌<◌, Bool, false, not, List, ◌∷◌, ◌≡◌, ltb, length, get_or}
use Rattle.lists.specs.Lists.{part}
use Rattle.store.specs.Store.{Store, owners_at, work_size}
use Rattle.store.specs.Lent.{Long, lengths_of}
use Rattle.lists.specs.Tests.{all_pass}
use Rattle.std.specs.Prelude.{Result, Ok, ⊤}
use Rattle.settings.specs.declared.refusal.Refusal.{Refusal}
use Rattle.curator.specs.declared.CuratorIndex.{CuratorIndex}
use Rattle.curator.specs.Limits.{state_sound, index_shape}
use Rattle.curator.specs.Rows.{first_of, state_row, build_rows}
use Rattle.store.specs.declared.Lengths.{Lengths}
use Rattle.curator.specs.Calls.{facts_of}
use Rattle.store.specs.Lent.{lengths_of}
use Rattle.curator.proofs.StateLaws.{Sound}

-- 'Build's 15: an owner not below n', by the numbers alone
unfoldable pub owners_bad : CuratorIndex → List ℕ → Bool
unfolding all_pass
owners_bad index numbers =
    not (all_pass (λ owner. ltb owner index.counts.vectors) (part (owners_at (index_shape index)) index.counts.entries numbers))

-- the rows of a build with row 13 left open: its case is that of the tree, which is not made yet
unfoldable pub build_checked : CuratorIndex → Lengths → ℕ → List ℕ → Result ⊤ Refusal
unfolding first_of state_sound build_rows owners_bad
build_checked index lent work numbers =
    first_of (state_row (state_sound index) ∷ build_rows (facts_of index) lent work (owners_bad index numbers) false)

-- What the making of the tree relies on, as plain facts: the index is not built, and no row's case but perhaps row 13's holds.
pub record BuildReady (index : CuratorIndex) (store : Store) (work : List ℕ) : Type 0 where
  pub passed : build_checked index (lengths_of store) (length work) store.numbers ≡ (Ok tt)
  pub unbuilt : index.built ≡ false
  pub sound : Sound index
  pub some : 1 ≤ index.counts.vectors
  pub long : Long (index_shape index) (lengths_of store)
  pub work_room : work_size (index_shape index) ≤ length work
  pub owned : (k : ℕ) → k < index.counts.entries → get_or store.numbers (owners_at (index_shape index) + k) 0 < index.counts.vectors
