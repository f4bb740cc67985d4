-- 02, K4 and K10: a build leaves start, length and bytes of each label and the live marks as they were, whatever it answers. Why: what it writes of the numbers
-- ends before the starts, and the label text is lent to be read.
use Rattle.std.specs.Prelude.{ℕ, ◌+◌, ◌*◌, Bool, true, false, ◌≡◌, refl, drop}
use mathlib.Core.List.{List}
use Rattle.std.proofs.Common.{sym, ◌∙◌, drop-drop}
use Rattle.std.proofs.Math.Path.{ap}
use native.Mathlib.Omega.{arith}
use Rattle.std.proofs.Math.ListN.{take}
use Rattle.lists.specs.Frame.{Before, freed_drop}
use Rattle.store.specs.declared.Shape.{Shape}
use Rattle.store.specs.Store.{Store, starts_at, lengths_at, live_at}
use Rattle.tree.proofs.LayoutLaws.{NodesFit, numbers-behind}
use Rattle.std.specs.Prelude.{Result, Ok, Err, ⊤}
use Rattle.settings.specs.declared.refusal.Refusal.{Refusal}
use Rattle.settings.specs.declared.refusal.Refusal.TheVariants as Refusal'
use Rattle.settings.specs.declared.refusal.StoreRefusal.{StoreRefusal}
use Rattle.settings.specs.declared.refusal.StoreRefusal.TheVariants.{ListTooShort, VectorsFull, EntriesFull, NodesFull, Damaged, TextFull}
use Rattle.curator.specs.declared.CuratorIndex.{CuratorIndex}
use Rattle.curator.specs.Limits.{index_shape}
use Rattle.curator.specs.Calls.{held_starts, held_lengths, held_text, held_marks}
use Rattle.curator.specs.Changes.{free_of, free_store, Left, build_check, held_nodes, LaidOut, BuildsFine, BuildsBy, Builds}
use Rattle.build.specs.FitLaws.{fine_ready, fine_few, nodes_fit}

-- all numbers from the starts on, live marks among them, and the text
pub record LabelsKept (s : Shape) (before after : Store) : Type 0 where
  pub numbers : drop (starts_at s) after.numbers ≡ drop (starts_at s) before.numbers
  pub text : after.text ≡ before.text

-- ---- a refused build

module _ (s : Shape) (store : Store) (work : List ℕ) (store' : Store) (work' : List ℕ) where
  left_by : (r : Refusal) → Before (starts_at s) (free_of s r).numbers → Left s r store work store' work' → LabelsKept s store store'
  left_by r h l = record { numbers = sym (freed_drop (starts_at s) (free_of s r).numbers store.numbers store'.numbers h l.numbers); text = l.text }

  left-store : (r : StoreRefusal) → Left s (Refusal'.Store r) store work store' work' → LabelsKept s store store'
  unfolding free_of free_store
  left-store ListTooShort l = left_by (Refusal'.Store ListTooShort) tt l
  left-store VectorsFull l = left_by (Refusal'.Store VectorsFull) tt l
  left-store EntriesFull l = left_by (Refusal'.Store EntriesFull) tt l
  left-store NodesFull l = left_by (Refusal'.Store NodesFull) (omega arith, (omega arith, (omega arith, (omega arith, tt)))) l
  left-store Damaged l = left_by (Refusal'.Store Damaged) tt l
  left-store TextFull l = left_by (Refusal'.Store TextFull) tt l

  pub left-labels : (r : Refusal) → Left s r store work store' work' → LabelsKept s store store'
  unfolding free_of
  left-labels (Refusal'.Settings r) l = left_by (Refusal'.Settings r) tt l
  left-labels (Refusal'.State r) l = left_by (Refusal'.State r) tt l
  left-labels (Refusal'.Input r) l = left_by (Refusal'.Input r) tt l
  left-labels (Refusal'.Store r) l = left-store r l

-- ---- every build

pub laid-labels : (index : CuratorIndex) (store : Store) (work : List ℕ) (store' : Store) (work' : List ℕ) → NodesFit (index_shape index) (held_nodes index store)
    → LaidOut index store work store' work' → LabelsKept (index_shape index) store store'
laid-labels index store work store' work' fit l =
    record {
      numbers =
          ap (drop (starts_at (index_shape index))) l.numbers ∙ numbers-behind (index_shape index) (held_nodes index store) store.numbers fit (starts_at (index_shape index)) (omega arith);
      text = l.text;
    }

pub builds-labels : (index : CuratorIndex) (store : Store) (work : List ℕ) (answer : Result CuratorIndex Refusal) (store' : Store) (work' : List ℕ)
    → Builds index store work answer store' work' → LabelsKept (index_shape index) store store'
unfolding Builds BuildsBy BuildsFine
builds-labels index store work answer store' work' h = by (build_check index store work) refl h
  where
    fine : (b : Bool) → index.built ≡ b → build_check index store work ≡ (Ok tt) → BuildsFine b index store work answer store' work'
        → LabelsKept (index_shape index) store store'
    fine true u f (e, same, lent) =
        record { numbers = ap (λ (s : Store). drop (starts_at (index_shape index)) s.numbers) same; text = ap (λ (s : Store). s.text) same }
    fine false u f (e, laid) =
        laid-labels index store work store' work' (nodes_fit index store work (fine_ready index store work f u) (fine_few index store work f u)) laid

    by : (check : Result ⊤ Refusal) → build_check index store work ≡ check → BuildsBy check index store work answer store' work' → LabelsKept (index_shape index) store store'
    by (Ok _) f g = fine index.built refl f g
    by (Err r) f (e, left) = left-labels (index_shape index) store work store' work' r left

-- ---- what is held of the labels, and the marks

module _ (index : CuratorIndex) (before after : Store) (kept : LabelsKept (index_shape index) before after) where
  pub starts-kept : held_starts index after ≡ held_starts index before
  unfolding held_starts
  starts-kept = ap (take index.counts.entries) kept.numbers

  -- what stands behind the starts
  behind : (at more : ℕ) → at ≡ starts_at (index_shape index) + more → drop at after.numbers ≡ drop at before.numbers
  behind at more e =
      let split : (l : List ℕ) → drop at l ≡ drop more (drop (starts_at (index_shape index)) l) =
      λ l. ap (λ (n : ℕ). drop n l) e ∙ sym (drop-drop more (starts_at (index_shape index)) l) in
      split after.numbers ∙ ap (drop more) kept.numbers ∙ sym (split before.numbers)

  pub lengths-kept : held_lengths index after ≡ held_lengths index before
  unfolding held_lengths
  lengths-kept = ap (take index.counts.entries) (behind (lengths_at (index_shape index)) index.capacities.entries (omega arith))

  pub marks-kept : held_marks index after ≡ held_marks index before
  unfolding held_marks
  marks-kept = ap (take index.counts.vectors) (behind (live_at (index_shape index)) (2 * index.capacities.entries) (omega arith))

  pub text-kept : held_text index after ≡ held_text index before
  unfolding held_text
  text-kept = ap (λ (l : List ℕ). take index.counts.bytes (drop 0 l)) kept.text
