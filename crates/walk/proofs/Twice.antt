-- Request K1 of document 02: 'The same label given twice is the one-label search', over any store: what each node shows is the same, so every walk is, hits,
-- opened nodes, damage and all. Assumes nothing.
use Rattle.std.specs.Prelude.{ℕ, ◌+◌, ◌≡◌, Bool, true, false, not, ◌&&◌, ◌||◌, Float}
use Rattle.std.proofs.Math.Path.{refl, ap₂}
use Rattle.std.proofs.Math.Bool.{cond}
use mathlib.Core.List.{List, map}
use Rattle.lists.specs.Lists.{is_in, part}
use Rattle.lists.specs.Tests.{all_pass_congr}
use Rattle.lists.specs.Counting.{keep_all, Memᴰ-is_in}
use Rattle.bloom.specs.Filter.{may_contain}
use Rattle.store.specs.declared.Shape.{Shape}
use Rattle.store.specs.declared.Counts.{Counts}
use Rattle.store.specs.Store.{Store, node_field, node_filter}
use Rattle.walk.specs.Walk.{hits, damage, walk}
use Rattle.walk.specs.Wanted.{with_label, with_both, EntryRead, entry_list, number_held, text_held, denies, passes, owners_of, given}
use Rattle.walk.specs.StoreView.{hit_at, end_in, entry_read, field_of, part_of, list_shown, leaf_shown, node_shown, store_view}
use Rattle.walk.proofs.SameWalkLaws.{denied_ignored}

and_twice : (a b : Bool) → (a && (b && b)) ≡ (a && b)
and_twice a true = refl
and_twice a false = refl

or_twice : (a : Bool) → (a || a) ≡ a
or_twice true = refl
or_twice false = refl

module _ (hash : ℕ) (name : List ℕ) where
  passes-twice : (c : Counts) (read : EntryRead) (end : ℕ → ℕ) (x : ℕ) → passes (with_both hash name hash name) c read end x ≡ passes (with_label hash name) c read end x
  unfolding passes
  passes-twice c read end x = and_twice (number_held c read x) (text_held c read end hash x)

  given-twice : (read : EntryRead) (l : List ℕ) → given (with_both hash name hash name) read l ≡ given (with_label hash name) read l
  unfolding given
  given-twice read l = keep_all (λ v. is_in v (owners_of read hash name l)) (owners_of read hash name l) (λ v m. Memᴰ-is_in m)

  denies-twice : (filter : List ℕ) → denies (with_both hash name hash name) filter ≡ denies (with_label hash name) filter
  unfolding denies
  denies-twice filter = or_twice (not (may_contain filter hash))

  module _ (s : Shape) (c : Counts) (store : Store) (query : List Float) where
    list-twice : (l : List ℕ) → list_shown s c store query (with_both hash name hash name) l ≡ list_shown s c store query (with_label hash name) l
    unfolding list_shown
    list-twice l =
        let read = entry_read s c store in
        let end = end_in s store.numbers in
        ap₂ (λ (b : Bool) (vs : List ℕ). cond b (hits (map (hit_at s store.floats store.numbers query) vs)) damage)
        (all_pass_congr (passes (with_both hash name hash name) c read end) (passes (with_label hash name) c read end) l (λ x m. passes-twice c read end x))
        (given-twice read l)

    node-twice : (i : ℕ) → node_shown s c store query (with_both hash name hash name) i ≡ node_shown s c store query (with_label hash name) i
    unfolding node_shown leaf_shown
    node-twice i =
        let start = node_field s store.numbers i (field_of entry_list) in
        let count = node_field s store.numbers i (field_of entry_list + 1) in
        rw (list-twice (part (part_of s entry_list + start) count store.numbers))

    -- every walk
    pub twice-walk : (ef : ℕ) → walk (store_view s c store query (with_both hash name hash name)) ef ≡ walk (store_view s c store query (with_label hash name)) ef
    unfolding store_view
    twice-walk ef =
        denied_ignored (store_view s c store query (with_both hash name hash name)) (store_view s c store query (with_label hash name)) refl (λ i. refl)
        (λ i. denies-twice (node_filter s store.hashes i)) (λ i passed. node-twice i) ef
